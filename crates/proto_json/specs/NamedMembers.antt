-- What an object says whose names are data and no fields.
use Rattle.std.specs.Prelude.{ℕ, List, [], Option, Some, option_map}
use Rattle.rate_types.specs.Places.{child}
use Rattle.rate_types.specs.declared.refusals.TheConstants.{TEXT_TOO_LONG}
use Rattle.serde_json.specs.Data.{Data, Members, no_members, member}
use Rattle.proto_json.specs.Said.{Said, says, ◌>>=◌}
use Rattle.proto_json.specs.Fields.{Object}
use Rattle.proto_json.specs.Kinds.{if_short}
use Rattle.proto_json.specs.Lists.{with_first}

-- each member, read by its name at the object's place
unfoldable pub members_in : {X : Type 0} → (List ℕ → List ℕ → Data → Said (Option X)) → List ℕ → Members → Said (Option (List X))
members_in read place no_members = says (Some [])
members_in read place (member name d ms) = read place name d >>= λ x. members_in read place ms >>= λ xs. says (with_first x xs)

-- a name; 18 TextTooLong at the object where it has more than 1,024 bytes
unfoldable pub short_name : List ℕ → List ℕ → Said (Option (List ℕ))
short_name place name = if_short TEXT_TOO_LONG place (Some name)

-- a member: its name, and then its value, of this kind, at its place
unfoldable pub named : {V X : Type 0} → (List ℕ → Data → Said (Option V)) → (List ℕ → V → X) → List ℕ → List ℕ → Data → Said (Option X)
named kind make place name d = do
  n ← short_name place name
  v ← kind (child place name) d
  says (option_map (make name) v)

-- Such an object: each of its members, in the order of the names' bytes, its name and then its value, of this kind.
unfoldable pub named_members : {V X : Type 0} → (List ℕ → Data → Said (Option V)) → (List ℕ → V → X) → Object → Said (Option (List X))
named_members kind make o = members_in (named kind make) o.place o.members
