-- The refusal of the least name that is left, and of a number at a place.
use Rattle.std.proofs.Common.{◌≡◌, ℕ, List, [], ◌∷◌, Some, Less, Result, Err, String, Global, string_bytes, refl, sym, ap, ◌∙◌, map}
use Rattle.std.specs.Prelude.{string_cmp}
use Rattle.std.specs.BTreeSet.{insert_key}
use Rattle.std.specs.List.{slice_get, AllByRecursion}
use Rattle.std.specs.List.Sorted.{IsStrictlySortedBy}
use Rattle.std.specs.Map.{keys_of}
use Rattle.rate_types.specs.Counters.{text_cmp}
use Rattle.rate_types.specs.declared.refusals.TheConstants.{UNKNOWN_FIELD}
use Rattle.serde_json.specs.View.{members_view}
use Rattle.serde_json.specs.declared.value.Value.{Value}
use Rattle.rate_types.specs.declared.refused.Refused.{Refused}
use Rattle.rate_types.specs.Places.{child}
use Rattle.rate_types.specs.Reading.{IsRefusal}
use Rattle.proto_json.specs.Said.{said, reading_of}
use Rattle.rate_types.specs.declared.fault.Fault.{Fault}
use Rattle.rate_types.specs.declared.fault.Fault.TheVariants as fault
use Rattle.proto_json.specs.Fields.{left_over, names_of, in_order}

first_inserted : (name : List ℕ) (names : List (List ℕ)) → AllByRecursion (λ n. text_cmp name n ≡ Less) names
    → insert_key text_cmp names name ≡ name ∷ names
first_inserted name [] least = refl
first_inserted name (n ∷ ns) least = rw least.0 refl

names_after : (key : String Global) (es : List (String Global × Value)) → AllByRecursion (λ k. string_cmp key k ≡ Less) (keys_of es)
    → AllByRecursion (λ n. text_cmp (string_bytes key) n ≡ Less) (names_of (members_view es))
names_after key [] after = tt
names_after key (e ∷ es) after = (after.0, names_after key es after.1)

-- the names of a map are in order
names_in_order : (es : List (String Global × Value)) → IsStrictlySortedBy string_cmp (keys_of es)
    → in_order (names_of (members_view es)) ≡ names_of (members_view es)
unfolding IsStrictlySortedBy
names_in_order [] rise = refl
names_in_order (e ∷ es) rise =
    ap (λ (ns : List (List ℕ)). insert_key text_cmp ns (string_bytes e.0)) (names_in_order es rise.1)
    ∙ first_inserted (string_bytes e.0) (names_of (members_view es)) (names_after e.0 es rise.0)

-- the refusal of a name that is left
abbrev pub refused_name : List ℕ → List ℕ → Refused
refused_name place name = record { at = child place name; number = UNKNOWN_FIELD }

-- the reading of the names that are left is the refusal of the first of them
pub least_left : (place : List ℕ) (es : List (String Global × Value)) (name : String Global) (value : Value)
    → IsStrictlySortedBy string_cmp (keys_of es) → slice_get es 0 ≡ Some (name, value)
    → reading_of (said (left_over place (members_view es)) place) ≡ Err (refused_name place (string_bytes name))
least_left place es name value rise is =
    ap (λ (ns : List (List ℕ)). reading_of (said (map (refused_name place) ns) place)) (names_in_order es rise) ∙ first es is
  where
    first : (es : List (String Global × Value)) → slice_get es 0 ≡ Some (name, value)
        → reading_of (said (map (refused_name place) (names_of (members_view es))) place) ≡ Err (refused_name place (string_bytes name))
    first [] is = absurd (cc)
    first (m ∷ es) is = let same : m.0 ≡ name = cc in ap (λ (k : String Global). Err (refused_name place (string_bytes k))) same

pub is_refusal : {X : Type 0} (e : Fault Refused) (r : Refused) (read : Result X Refused) → ((x : Refused) → e ≡ fault.Refused x → x ≡ r) → read ≡ Err r → IsRefusal e read
is_refusal (fault.Refused x) r read only is = is ∙ ap Err (sym (only x refl))
is_refusal fault.OutOfMemory r read only is = tt
