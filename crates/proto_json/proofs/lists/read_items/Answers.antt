use Rattle.std.proofs.Common.{rules, arith, length, ap, ◌≡◌, ◌++◌, ◌∷◌, append_assoc, length-append, Ok, Some, sym, ◌∙◌}
use Rattle.serde_json.specs.View.{view}
use Rattle.serde_json.specs.declared.value.Value.{Value}
use Rattle.rate_types.specs.Places as places
use Rattle.proto_json.specs.Said.{reading_of}
use Rattle.proto_json.specs.Lists.{each_item}
use Rattle.proto_json.proofs.Items.{items_so_far_more, items_so_far_refused, items_so_far_all, none_left, one_longer}
use Rattle.proto_json.proofs.lists.read_items.Goals as goal

pub returns-in-Err-clause-said : goal.returns-in-Err-clause-said
unfolding each_item
returns-in-Err-clause-said g c =
    let rest : c.items.value-iterator.rest.items ≡ c.in-Some.value ∷ c.next.new.self.rest.items = search rules in
    items_so_far_refused g.K.Kind.says _ _ _ _ _ _ _ c.in-Err.fault c.items.invariant.5 rest (rw c.in_ok-at.ensures at c.in-Err.ensures)

pub items-preserved : goal.items-preserved
items-preserved g c =
    let rest : c.items.value-iterator.rest.items ≡ c.in-Some.value ∷ c.next.new.self.rest.items = search rules in
    let all : c.items.yielded ++ c.in-Some.value ∷ c.next.new.self.rest.items ≡ c.args.list.items.items = search rules in
    let read : reading_of (g.K.Kind.says (places.item c.args.list.place c.items.index) (view c.in-Some.value)) ≡ Ok (Some c.in-Ok.item) =
    rw c.in_ok-at.ensures at c.in-Ok.ensures in
    let more = items_so_far_more g.K.Kind.says _ _ _ _ _ _ _ _ c.items.invariant.5 rest read in (
      tt,
      tt,
      rw append_assoc all,
      omega (
        arith,
        length-append {A =
            Value},
      ),
      rw c.in_ok-push.ensures.items (one_longer _ c.in-Ok.item _ c.items.invariant.4),
      rw c.in_ok-push.ensures.items more,
    )

pub returns-clause-said : goal.returns-clause-said
unfolding each_item
returns-clause-said g c = items_so_far_all g.K.Kind.says _ _ _ _ _ c.items.invariant.5 (none_left _ (sym c.items.value-iterator.rest.ok.0 ∙ c.in-None.ensures.steps.0))

pub returns-clause-count : goal.returns-clause-count
returns-clause-count g c =
    let none = none_left _ (sym c.items.value-iterator.rest.ok.0 ∙ c.in-None.ensures.steps.0) in
    omega (
      arith,
      c.items.invariant.4,
      c.items.invariant.3,
      ap length c.items.invariant.2,
      ap length none,
      length-append c.items.yielded c.items.value-iterator.rest.items,
    )
