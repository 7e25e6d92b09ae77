use Rattle.std.proofs.Common.{rules, arith, ◌≡◌, ◌≤◌, ◌++◌, ◌∷◌, List, [], append_assoc, length-append, Ok, Some, map, sym, ap, ◌∙◌, subst}
use Rattle.std.proofs.lemmas.List.{map_push}
use Rattle.serde_json.specs.Data.{depth, items_depth}
use Rattle.serde_json.specs.View.{view, items_view}
use Rattle.serde_json.specs.declared.value.Value.{Value}
use Rattle.rate_types.specs.Places as places
use Rattle.proto_json.specs.Said.{reading_of}
use Rattle.descriptor_tree.specs.Trees.{Branch, Branches, node_view, branches_of}
use Rattle.descriptor_tree.specs.Config.{AreWellFormed}
use Rattle.config_json.specs.Trees as trees
use Rattle.config_json.proofs.Depths.{message_depth, take_depth, list_depth, item_depth}
use Rattle.config_json.proofs.Formed.{formed_push}
use Rattle.config_json.proofs.Lists.{nodes_none, nodes_more, nodes_refused}
use Rattle.config_json.proofs.Lists.{none_left}
use Rattle.config_json.proofs.read_node.+read.Goals as goal

pub node_of-take_below-requires : goal.node_of-take_below-requires
node_of-take_below-requires t c = (
  omega (
    arith,
    take_depth _ _ _ _ _ c.in_ok-key.ensures,
    take_depth _ _ _ _ _ c.in_ok-value.ensures,
    take_depth _ _ _ _ _ c.in_ok-rule.ensures,
    take_depth _ _ _ _ _ c.in_ok-shadow.ensures,
    take_depth _ _ _ _ _ c.in_ok-take_bool.ensures,
  ),
  tt,
)

pub read_node-node_of-requires : goal.read_node-node_of-requires
read_node-node_of-requires t c = (omega (arith, message_depth _ _ _ c.in_ok-fields.ensures), tt)

pub read_nodes-read_node-requires : goal.read_nodes-read_node-requires
read_nodes-read_node-requires t c =
    let all : c.items.yielded ++ c.in-Some.value ∷ c.next.new.self.rest.items ≡ c.args.list.items.items = search rules in
    let less : depth (view c.in-Some.value) ≤ items_depth (items_view c.args.list.items.items) =
    subst (λ (x : List Value). depth (view c.in-Some.value) ≤ items_depth (items_view x)) all (item_depth _ _ _) in
    (omega arith, tt)

pub take_below-read_nodes-requires : goal.take_below-read_nodes-requires
take_below-read_nodes-requires t c = (omega (arith, list_depth _ _ _ (rw c.in-Some.is at c.in_ok-list.ensures)), tt)

pub read_nodes-returns-in-Err-clause-said : goal.read_nodes-returns-in-Err-clause-said
read_nodes-returns-in-Err-clause-said t c =
    let rest : c.items.value-iterator.rest.items ≡ c.in-Some.value ∷ c.next.new.self.rest.items = search rules in
    let refused = nodes_refused c.args.list.place c.items.index (map node_view c.items.nodes.items) (view c.in-Some.value) (items_view c.next.new.self.rest.items) c.in-Err.fault
    (rw c.in_ok-at.ensures at c.in-Err.ensures.said) in
    let whole = rw rest at c.items.invariant.4 in
    rw whole at refused

pub read_nodes-items-preserved : goal.read_nodes-items-preserved
read_nodes-items-preserved t c =
    let rest : c.items.value-iterator.rest.items ≡ c.in-Some.value ∷ c.next.new.self.rest.items = search rules in
    let all : c.items.yielded ++ c.in-Some.value ∷ c.next.new.self.rest.items ≡ c.args.list.items.items = search rules in
    let read : reading_of (trees.node_at (places.item c.args.list.place c.items.index) (view c.in-Some.value)) ≡ Ok (Some (node_view c.in-Ok.node)) =
    rw c.in_ok-at.ensures at c.in-Ok.ensures.said in
    let more = nodes_more c.args.list.place c.items.index (map node_view c.items.nodes.items) (view c.in-Some.value) (items_view c.next.new.self.rest.items)
    (node_view c.in-Ok.node) read in
    let whole = rw rest at c.items.invariant.4 in
    let pushed : map node_view c.push.new.self.items ≡ map node_view c.items.nodes.items ++ node_view c.in-Ok.node ∷ [] =
    rw c.in_ok-push.ensures.items (map_push node_view c.items.nodes.items c.in-Ok.node) in (
      tt,
      tt,
      rw append_assoc all,
      omega (arith, length-append {A = Value}),
      rw pushed (sym more ∙ whole),
      subst (λ (bs : List Branch). AreWellFormed (branches_of bs)) (sym pushed)
          (formed_push (map node_view c.items.nodes.items) (node_view c.in-Ok.node) c.items.invariant.5 c.in-Ok.ensures.formed),
    )

pub read_nodes-returns-clause-said : goal.read_nodes-returns-clause-said
read_nodes-returns-clause-said t c =
    let rest : c.items.value-iterator.rest.items ≡ [] = none_left _ (sym c.items.value-iterator.rest.ok.0 ∙ c.in-None.ensures.steps.0) in
    let whole = rw rest at c.items.invariant.4 in
    sym whole ∙ nodes_none c.args.list.place c.items.index (map node_view c.items.nodes.items) ∙ ap (λ (bs : Branches). Ok (Some bs)) (sym c.of.ensures)
