-- What the items of a list say, one after the other.
use Rattle.std.specs.Prelude.{ℕ, ◌+◌, List, [], ◌∷◌, Option, Some, None}
use Rattle.rate_types.specs.Places as places
use Rattle.serde_json.specs.Data.{Data, Items, no_items, item}
use Rattle.proto_json.specs.Fields.{Listed}
use Rattle.proto_json.specs.Said.{Said, says, ◌>>=◌}

-- a value before those behind it, where all are there
abbrev pub with_first : {X : Type 0} → Option X → Option (List X) → Option (List X)
with_first (Some x) (Some xs) = Some (x ∷ xs)
with_first (Some x) None = None
with_first None xs = None

-- the items of a list from this index on, each read at its place
unfoldable pub items_from : {X : Type 0} → (List ℕ → Data → Said (Option X)) → List ℕ → ℕ → Items → Said (Option (List X))
items_from read place index no_items = says (Some [])
items_from read place index (item d ds) = do
  x ← read (places.item place index) d
  xs ← items_from read place (index + 1) ds
  says (with_first x xs)

-- the items of a list
unfoldable pub each_item : {X : Type 0} → (List ℕ → Data → Said (Option X)) → Listed → Said (Option (List X))
each_item read list = items_from read list.place 0 list.items
