use Rattle.std.proofs.Common.{sym, subst, [], ℕ, Err, Result}
use Rattle.rate_types.specs.Places.{item}
use Rattle.rate_types.specs.declared.refused.At.{At}
use Rattle.descriptor_tree.specs.Trees.{Branches, node_view}
use Rattle.descriptor_tree.specs.Nodes.{forest_nodes}
use Rattle.rate_types.specs.Reading.{AnswersReading}
use Rattle.descriptor_tree.specs.Faults.{in_file}
use Rattle.descriptor_tree.specs.Numbering.{next_number}
use Rattle.descriptor_tree.proofs.Walks.{Step, is_answer, node_refused, node_passes, walk_stops, walk_goes_on}
use Rattle.descriptor_tree.proofs.check.+check.Goals as goal

pub check_forest-returns-in-Err-clause-first : goal.check_forest-returns-in-Err-clause-first
check_forest-returns-in-Err-clause-first t c =
    let step : Step c.nodes.names c.items-nodes.result.now c.nodes.index c.index-nodes-index.result c.name_of.result c.in_ok-is_new.is_new =
    record { within = c.nodes-test.true; at = c.index-nodes-index.is; key = c.name_of.ensures.key; value = c.name_of.ensures.value; new_is = c.in_ok-is_new.ensures.added } in
    subst (λ (f : Branches). AnswersReading {X = ℕ} {Y = ℕ} (λ n. n) (Err c.in-Err.fault)
    (next_number c.args.file c.args.number (forest_nodes c.args.place.now c.args.level 0 [] f))) (sym c.items-nodes.ensures)
    (walk_stops _ _ _ _ _ _ _ _ _ _ _ c.nodes.invariant step c.in-Err.fault c.in-Err.ensures.first)

pub check_forest-nodes-preserved : goal.check_forest-nodes-preserved
check_forest-nodes-preserved t c =
    let step : Step c.nodes.names c.items-nodes.result.now c.nodes.index c.index-nodes-index.result c.name_of.result c.in_ok-is_new.is_new =
    record { within = c.nodes-test.true; at = c.index-nodes-index.is; key = c.name_of.ensures.key; value = c.name_of.ensures.value; new_is = c.in_ok-is_new.ensures.added } in
    walk_goes_on _ _ _ _ _ _ _ _ _ _ _ _ c.nodes.invariant step c.in_ok-is_new.ensures.updates c.in-Ok.next c.in-Ok.ensures.first c.in-Ok.ensures.few

pub check_node-returns-in-Some-clause-first : goal.check_node-returns-in-Some-clause-first
check_node-returns-in-Some-clause-first t c = λ earlier twin.
    is_answer c.refused.result (in_file c.args.file (record { at = item c.args.place.now c.args.index; number = c.in-Some.refusal })) _ c.refused.ensures
    (node_refused c.args.file c.args.number (item c.args.place.now c.args.index) c.args.level earlier (node_view c.args.node.now) c.args.twin c.in-Some.refusal
    twin (sym c.in-Some.ensures))

pub check_node-returns-clause-first : goal.check_node-returns-clause-first
check_node-returns-clause-first t c = λ earlier twin.
    subst (λ (reading : Result ℕ At). AnswersReading {X = ℕ} {Y = ℕ} (λ n. n) c.check_below.result reading)
    (sym (node_passes c.args.file c.args.number (item c.args.place.now c.args.index) c.args.level earlier (node_view c.args.node.now) c.args.twin twin (sym c.in_default.ensures)))
    c.check_below.ensures.first
