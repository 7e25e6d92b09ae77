use Rattle.std.proofs.Common.{rules, sym, subst, Err, map}
use Rattle.descriptor_tree.specs.Trees.{tree_view}
use Rattle.rate_types.specs.Reading.{AnswersReading, first_or}
use Rattle.descriptor_tree.specs.Faults.{config_faults}
use Rattle.rate_types.specs.declared.refused.At.{At}
use Rattle.rate_types.specs.declared.fault.Fault.{Fault}
use Rattle.descriptor_tree.proofs.Trees.{Step, domain_stops, tree_stops, tree_goes_on}
use Rattle.descriptor_tree.proofs.check.check_trees.Goals as goal

pub trees-init : goal.trees-init
unfolding config_faults
trees-init c = search rules

pub returns-in-Some : goal.returns-in-Some
returns-in-Some c =
    let step : Step c.trees.domains c.args.trees.now c.trees.file c.index-trees-file.result c.as_str-domain.result c.in_ok-is_new.is_new =
    record { within = c.trees-test.true; at = c.index-trees-file.is; domain = c.as_str-domain.ensures.bytes; new_is = c.in_ok-is_new.ensures.added } in
    subst (λ (e : Fault At). AnswersReading {X = Unit {0}} {Y = Unit {0}} (λ u. u) (Err e) (first_or (config_faults (map tree_view c.args.trees.now)) tt))
    (sym c.refused_domain.ensures)
    (domain_stops _ _ _ _ _ _ _ c.trees.invariant step c.in-Some.refusal (sym c.in-Some.ensures))

pub returns-in-Err : goal.returns-in-Err
returns-in-Err c =
    let step : Step c.trees.domains c.args.trees.now c.trees.file c.index-trees-file.result c.as_str-domain.result c.in_ok-is_new.is_new =
    record { within = c.trees-test.true; at = c.index-trees-file.is; domain = c.as_str-domain.ensures.bytes; new_is = c.in_ok-is_new.ensures.added } in
    tree_stops _ _ _ _ _ _ _ c.trees.invariant step (sym c.in_default.ensures) c.in-Err.fault c.in-Err.ensures.first

pub trees-preserved : goal.trees-preserved
trees-preserved c =
    let step : Step c.trees.domains c.args.trees.now c.trees.file c.index-trees-file.result c.as_str-domain.result c.in_ok-is_new.is_new =
    record { within = c.trees-test.true; at = c.index-trees-file.is; domain = c.as_str-domain.ensures.bytes; new_is = c.in_ok-is_new.ensures.added } in
    tree_goes_on _ _ _ _ _ _ _ _ c.trees.invariant step (sym c.in_default.ensures) c.in_ok-is_new.ensures.updates c.in-Ok.next c.in-Ok.ensures.first c.in-Ok.ensures.few
