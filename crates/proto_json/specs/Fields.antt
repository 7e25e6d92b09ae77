-- The fields of an object: each by its two spellings.
use Rattle.std.specs.Prelude.{ℕ, List, [], ◌∷◌, map, if◌then◌else◌, Option, Some, None}
use Rattle.std.specs.BTreeSet.{insert_key}
use Rattle.std.specs.Str.{bytes_eq}
use Rattle.rate_types.specs.Counters.{text_cmp}
use Rattle.rate_types.specs.declared.refusals.TheConstants.{UNKNOWN_FIELD, TWO_NAMES}
use Rattle.rate_types.specs.declared.refused.Refused.{Refused}
use Rattle.rate_types.specs.Places.{child}
use Rattle.serde_json.specs.Data.{Data, null, Items, Members, no_members, member}
use Rattle.serde_json.specs.Find.{get_member}
use Rattle.proto_json.specs.Said.{Said, said, says, refuses, ◌>>=◌}

-- an object: its place in the document, and its members
pub record Object : Type 0 where
  pub place : List ℕ
  pub members : Members

-- a list: its place in the document, and its items
pub record Listed : Type 0 where
  pub place : List ℕ
  pub items : Items

-- a value with its place in the document
pub record Placed : Type 0 where
  pub place : List ℕ
  pub value : Data

-- the two spellings of a field: lowerCamelCase, and the original one with underscores
pub record Name : Type 0 where
  pub camel : List ℕ
  pub plain : List ℕ

-- the name that a constant spells
abbrev pub spelled : (record { now : List ℕ }) × (record { now : List ℕ }) → Name
spelled field = record { camel = field.0.now; plain = field.1.now }

-- what stands in an object for a field
pub data Found : Type 0 where
  absent : Found
  once : List ℕ → Data → Found
  twice : Found

-- what stands there, of the values of the two spellings
abbrev pub found_by : Name → Option Data → Option Data → Found
found_by name None None = absent
found_by name (Some d) None = once name.camel d
found_by name None (Some d) = once name.plain d
found_by name (Some d) (Some e) = twice

-- the value in either spelling; for a name of one word the two are one
abbrev pub find : Name → Members → Found
find name ms = found_by name (get_member name.camel ms) (if bytes_eq name.camel name.plain then None else get_member name.plain ms)

-- the members without the one of this name
abbrev pub without : List ℕ → Members → Members
without name no_members = no_members
without name (member k d ms) = if bytes_eq name k then ms else member k d (without name ms)

-- the members without either spelling
abbrev pub without_both : Name → Members → Members
without_both name ms = if bytes_eq name.camel name.plain then without name.camel ms else without name.plain (without name.camel ms)

-- the object after a field was taken
unfoldable pub after : Name → Object → Object
after name o = record { place = o.place; members = without_both name o.members }

-- a value where it isn't null, with the spelling of its name
abbrev pub unless_null : List ℕ → Data → Option (List ℕ × Data)
unless_null spelling null = None
unless_null spelling d = Some (spelling, d)

-- what stands there at an object's place
abbrev pub standing_of : List ℕ → Name → Found → Said (Option (List ℕ × Data))
standing_of place name absent = says None
standing_of place name (once spelling d) = says (unless_null spelling d)
standing_of place name twice = refuses TWO_NAMES (child place name.camel)

-- What stands in an object for a field: nothing where it is absent or null, and 4 TwoNames where both spellings stand there.
unfoldable pub standing : Name → Object → Said (Option (List ℕ × Data))
standing name o = standing_of o.place name (find name o.members)

-- what stands there, read at its place
abbrev pub read_as : {X : Type 0} → (List ℕ → Data → Said (Option X)) → List ℕ → Option (List ℕ × Data) → Said (Option X)
read_as kind place None = says None
read_as kind place (Some it) = kind (child place it.0) it.1

-- What a field says: what stands there, read as a value of its kind at its place.
unfoldable pub field : {X : Type 0} → (List ℕ → Data → Said (Option X)) → Name → Object → Said (Option X)
field kind name o = standing name o >>= read_as kind o.place

-- a field, and the object without it
unfoldable pub take : {X : Type 0} → (List ℕ → Data → Said (Option X)) → Name → Object → Said (Option X × Object)
take kind name o = field kind name o >>= λ value. says (value, after name o)

-- the names of members
abbrev pub names_of : Members → List (List ℕ)
names_of no_members = []
names_of (member k d ms) = k ∷ names_of ms

-- names in the order of their bytes, each of them once
abbrev pub in_order : List (List ℕ) → List (List ℕ)
in_order [] = []
in_order (name ∷ names) = insert_key text_cmp (in_order names) name

-- each name that is left, 3 UnknownField at its place, in the order of the names' bytes
abbrev pub left_over : List ℕ → Members → List Refused
left_over place ms = map (λ name. record { at = child place name; number = UNKNOWN_FIELD }) (in_order (names_of ms))

-- the object's place, and each name that is left
unfoldable pub ends : Object → Said (List ℕ)
ends o = said (left_over o.place o.members) o.place
