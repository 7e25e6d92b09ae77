-- What a value of each kind says at its place.
use Rattle.std.specs.Prelude.{ℕ, List, length, Bool, nat_lt, if◌then◌else◌, Option, Some, None, option_map, Result, Ok, Err, codes}
use Rattle.std.specs.Str.{str_eq_ignore_ascii_case}
use Rattle.std.specs.Str.Parse.{digits_value}
use Rattle.rate_types.specs.declared.unit.Unit.{Unit}
use Rattle.rate_types.specs.declared.unit.Unit.TheVariants.{Second, Minute, Hour, Day}
use Rattle.rate_types.specs.UnitNames.{unit_name}
use Rattle.rate_types.specs.Durations as durations
use Rattle.rate_types.specs.declared.duration.DurationFault.{DurationFault}
use Rattle.rate_types.specs.declared.duration.DurationFault.TheVariants.{Bad, TooLong, TooFine}
use Rattle.serde_json.specs.Data.{Data, number, string, Num, unsigned, negative, float}
use Rattle.serde_json.specs.Find.{as_str, as_bool, as_array, as_object}
use Rattle.proto_json.specs.Said.{Said, says, refuses, ◌>>=◌}
use Rattle.proto_json.specs.Fields.{Object, Listed, Placed}
use Rattle.proto_json.specs.declared.kinds.TheConstants.{LONGEST_NUMERAL}
use Rattle.rate_types.specs.declared.limits.TheConstants.{LONGEST_TEXT}
use Rattle.rate_types.specs.declared.refusals.TheConstants.{NOT_OBJECT, WRONG_KIND, NUMBER_FORM, NUMBER_RANGE, UNKNOWN_NAME}
use Rattle.rate_types.specs.declared.refusals.TheConstants.{BAD_DURATION, TOO_FINE, DURATION_TOO_LONG}

-- a value of the wanted JSON kind, else this refusal
abbrev pub wanted : {X : Type 0} → ℕ → List ℕ → Option X → Said (Option X)
wanted refusal place None = refuses refusal place
wanted refusal place (Some x) = says (Some x)

-- a text, else 5 WrongKind
unfoldable pub text : List ℕ → Data → Said (Option (List ℕ))
text place d = wanted WRONG_KIND place (as_str d)

-- this text where it has at most 1,024 bytes, else this refusal
abbrev pub if_short : ℕ → List ℕ → Option (List ℕ) → Said (Option (List ℕ))
if_short refusal place None = says None
if_short refusal place (Some s) = if nat_lt LONGEST_TEXT (length s) then refuses refusal place else says (Some s)

-- a text of at most 1,024 bytes; a longer one is this refusal, another value 5 WrongKind
unfoldable pub short_text : ℕ → List ℕ → Data → Said (Option (List ℕ))
short_text refusal place d = wanted WRONG_KIND place (as_str d) >>= if_short refusal place

-- a truth value, else 5 WrongKind
unfoldable pub bool : List ℕ → Data → Said (Option Bool)
bool place d = wanted WRONG_KIND place (as_bool d)

-- a list at its place, else 5 WrongKind
unfoldable pub list : List ℕ → Data → Said (Option Listed)
list place d = wanted WRONG_KIND place (option_map (λ ds. record { place = place; items = ds }) (as_array d))

-- an object at its place, else 2 NotObject
unfoldable pub message : List ℕ → Data → Said (Option Object)
message place d = wanted NOT_OBJECT place (option_map (λ ms. record { place = place; members = ms }) (as_object d))

-- any value, with its place
unfoldable pub any : List ℕ → Data → Said (Option Placed)
any place d = says (Some (record { place = place; value = d }))

-- ---- whole numbers: the number, or the refusal

abbrev pub at_most : ℕ → ℕ → Result ℕ ℕ
at_most greatest n = if nat_lt greatest n then Err NUMBER_RANGE else Ok n

abbrev pub whole_number : ℕ → Num → Result ℕ ℕ
whole_number greatest (unsigned n) = at_most greatest n
whole_number greatest (negative z) = Err NUMBER_RANGE
whole_number greatest (float x) = Err NUMBER_FORM

-- a text of 1 to 20 digits, leading zeros allowed
abbrev pub whole_text : ℕ → List ℕ → Result ℕ ℕ
whole_text greatest s = if durations.is_numeral LONGEST_NUMERAL s then at_most greatest (digits_value 10 s) else Err NUMBER_FORM

abbrev pub whole_in : ℕ → Data → Result ℕ ℕ
whole_in greatest (number n) = whole_number greatest n
whole_in greatest (string s) = whole_text greatest s
whole_in greatest d = Err WRONG_KIND

abbrev pub placed_number : List ℕ → Result ℕ ℕ → Said (Option ℕ)
placed_number place (Ok n) = says (Some n)
placed_number place (Err refusal) = refuses refusal place

-- A whole number of at most the greatest, as a JSON number or a text: 6 NumberForm where it has no such form, 7
-- NumberRange out of its range, 5 WrongKind for a value that is neither.
unfoldable pub whole : ℕ → List ℕ → Data → Said (Option ℕ)
whole greatest place d = placed_number place (whole_in greatest d)

-- a uint32
abbrev pub uint32 : List ℕ → Data → Said (Option ℕ)
uint32 = whole 4294967295

-- a uint64
abbrev pub uint64 : List ℕ → Data → Said (Option ℕ)
uint64 = whole 18446744073709551615

-- ---- units

-- the unit of a name in either ASCII case, none for UNKNOWN, or 8 UnknownName
abbrev pub unit_named : List ℕ → Result (Option Unit) ℕ
unit_named name = if str_eq_ignore_ascii_case name (unit_name Second) then Ok (Some Second)
    else (if str_eq_ignore_ascii_case name (unit_name Minute) then Ok (Some Minute)
    else (if str_eq_ignore_ascii_case name (unit_name Hour) then Ok (Some Hour)
    else (if str_eq_ignore_ascii_case name (unit_name Day) then Ok (Some Day)
    else (if str_eq_ignore_ascii_case name (codes "UNKNOWN") then Ok None else Err UNKNOWN_NAME))))

abbrev pub placed_unit : List ℕ → Result (Option Unit) ℕ → Said (Option Unit)
placed_unit place (Ok unit) = says unit
placed_unit place (Err refusal) = refuses refusal place

abbrev pub unit_in : List ℕ → Option (List ℕ) → Said (Option Unit)
unit_in place None = says None
unit_in place (Some name) = placed_unit place (unit_named name)

-- a unit, by its name
unfoldable pub unit : List ℕ → Data → Said (Option Unit)
unit place d = wanted WRONG_KIND place (as_str d) >>= unit_in place

-- ---- durations

abbrev pub refusal_of : DurationFault → ℕ
refusal_of Bad = BAD_DURATION
refusal_of TooFine = TOO_FINE
refusal_of TooLong = DURATION_TOO_LONG

abbrev pub placed_duration : List ℕ → Result ℕ DurationFault → Said (Option ℕ)
placed_duration place (Ok millis) = says (Some millis)
placed_duration place (Err fault) = refuses (refusal_of fault) place

abbrev pub duration_in : List ℕ → Option (List ℕ) → Said (Option ℕ)
duration_in place None = says None
duration_in place (Some s) = placed_duration place (durations.duration s)

-- the milliseconds of a duration
unfoldable pub duration : List ℕ → Data → Said (Option ℕ)
duration place d = wanted WRONG_KIND place (as_str d) >>= duration_in place

-- ---- what a value says that is read further

abbrev pub read_some : {X Y : Type 0} → (X → Said (Option Y)) → Option X → Said (Option Y)
read_some next None = says None
read_some next (Some x) = next x

-- a value of this kind, and then what is read of it
unfoldable pub and_read : {X Y : Type 0} → (List ℕ → Data → Said (Option X)) → (X → Said (Option Y)) → List ℕ → Data → Said (Option Y)
and_read kind next place d = kind place d >>= read_some next
