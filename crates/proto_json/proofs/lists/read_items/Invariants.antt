use Rattle.std.proofs.Common.{◌≡◌, ◌++◌, length}
use Rattle.proto_json.proofs.Items.{ItemsSoFar}
use Rattle.proto_json.proofs.lists.read_items.Given as goal

abbrev pub invariant-items : goal.invariant-items
invariant-items g l =
    (goal.iterator-items g).can_next l.value-iterator ×
    (goal.iterator-items g).is_finite l.value-iterator ×
    (l.yielded ++ l.value-iterator.rest.items ≡ l.fn.list.items.items) ×
    (l.index ≡ length l.yielded) ×
    (length l.found.items ≡ l.index) ×
    ItemsSoFar g.K.Kind.says l.fn.list.place l.fn.list.items.items l.value-iterator.rest.items l.index l.found.items
