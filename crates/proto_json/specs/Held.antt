-- What the values of this crate stand for, and what a take of a field answers.
use Rattle.std.specs.Prelude.{List, ℕ, Option, Result}
use Rattle.serde_json.specs.Data.{Data}
use Rattle.serde_json.specs.View.{view, items_view, members_view}
use Rattle.rate_types.specs.Reading.{AnswersReading}
use Rattle.proto_json.specs.Said.{Said, reading_of}
use Rattle.proto_json.specs.Fields.{Object, Listed, Placed, Name, Found, absent, once, twice, take}
use Rattle.rate_types.specs.declared.refused.Refused.{Refused}
use Rattle.rate_types.specs.declared.fault.Fault.{Fault}
use Rattle.proto_json.specs.declared.fields.Fields.{Fields}
use Rattle.proto_json.specs.declared.placed.List as listed
use Rattle.proto_json.specs.declared.placed.Placed as placed
use Rattle.proto_json.specs.declared.fields.Standing.{Standing}
use Rattle.proto_json.specs.declared.fields.Standing.TheVariants as standing

-- the object that a `Fields` holds: its place, and the members that weren't taken
unfoldable pub object_of : Fields → Object
object_of f = record { place = f.place; members = members_view f.members.entries }

-- the list that a `List` is
abbrev pub list_of : listed.List → Listed
list_of l = record { place = l.place; items = items_view l.items.items }

-- the value that a `Placed` is
abbrev pub placed_of : placed.Placed → Placed
placed_of p = record { place = p.place; value = view p.value }

-- a field by its two spellings
abbrev pub name_of : List ℕ → List ℕ → Name
name_of camel plain = record { camel = camel; plain = plain }

-- what stands there for a field, as `Standing` says it
abbrev pub found_of : Standing → Found
found_of standing.Absent = absent
found_of (standing.Once spelling value) = once spelling.now (view value)
found_of standing.Twice = twice

-- A take answers what the field says, as a value of this kind, and leaves the object without the field.
abbrev pub Takes : {R X : Type 0} → (Option R → Option X) → (List ℕ → Data → Said (Option X)) → Name → Object
    → Result (Option R) (Fault Refused)
    → Object → Type 0
Takes see kind name before result left = AnswersReading (λ o. (see o, left)) result (reading_of (take kind name before))
