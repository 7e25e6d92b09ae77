use Rattle.std.proofs.Common.{rules, arith, map, ap, subst, List, [], ◌≡◌, ◌+◌, ◌++◌, ◌∷◌, append_assoc, length-append, Ok, Some, sym, ◌∙◌}
use Rattle.serde_json.specs.View.{view}
use Rattle.serde_json.specs.declared.value.Value.{Value}
use Rattle.rate_types.specs.Places as places
use Rattle.proto_json.specs.Said.{reading_of}
use Rattle.proto_json.specs.Lists.{each_item}
use Rattle.std.specs.List.{All}
use Rattle.std.proofs.lemmas.List.Elements.{All-push}
use Rattle.descriptor_tree.specs.Trees.{DomainTree, tree_view}
use Rattle.descriptor_tree.specs.Config.{AreWellFormed}
use Rattle.config_json.specs.Trees.{file_at}
use Rattle.script_text.proofs.Reloads.{TreesSoFar, so_far_more, so_far_refused, so_far_all, none_left, map_push}
use Rattle.script_text.proofs.reload.read_trees.Goals as goal

pub returns-in-Err-clause-trees : goal.returns-in-Err-clause-trees
unfolding each_item
returns-in-Err-clause-trees c =
    let rest : c.files.value-iterator.rest.items ≡ c.in-Some.value ∷ c.next.new.self.rest.items = search rules in
    so_far_refused _ _ _ _ _ _ _ c.in-Err.fault c.files.invariant.4 rest (rw c.in_ok-at.ensures at c.in-Err.ensures.said)

pub returns-clause-trees : goal.returns-clause-trees
unfolding each_item
returns-clause-trees c = so_far_all _ _ _ _ _ c.files.invariant.4 (none_left _ (sym c.files.value-iterator.rest.ok.0 ∙ c.in-None.ensures.steps.0))

pub files-preserved : goal.files-preserved
files-preserved c =
    let rest : c.files.value-iterator.rest.items ≡ c.in-Some.value ∷ c.next.new.self.rest.items = search rules in
    let all : c.files.yielded ++ c.in-Some.value ∷ c.next.new.self.rest.items ≡ c.args.files.items = search rules in
    let read : reading_of (file_at (places.item c.args.place.now c.files.index) (view c.in-Some.value)) ≡ Ok (Some (tree_view c.in-Ok.tree)) =
    rw c.in_ok-at.ensures at c.in-Ok.ensures.said in
    let pushed : map tree_view c.push.new.self.items ≡ map tree_view c.files.trees.items ++ tree_view c.in-Ok.tree ∷ [] =
    ap (map tree_view) c.in_ok-push.ensures.items ∙ map_push tree_view c.files.trees.items c.in-Ok.tree in
    let more = so_far_more _ _ _ _ _ _ _ _ c.files.invariant.4 rest read in (
      tt,
      tt,
      rw append_assoc all,
      omega (
        arith,
        length-append {A =
            Value},
      ),
      subst (λ (ts : List DomainTree). TreesSoFar c.args.place.now c.args.files.items c.next.new.self.rest.items (c.files.index + 1) ts) (sym pushed) more,
      subst (λ (ts : List DomainTree). All (λ t. AreWellFormed t.forest) ts) (sym pushed)
          (All-push (λ t. AreWellFormed t.forest) (map tree_view c.files.trees.items) (tree_view c.in-Ok.tree) c.files.invariant.5 c.in-Ok.ensures.formed),
    )
