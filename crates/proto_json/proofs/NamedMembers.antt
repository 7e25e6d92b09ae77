-- The members of an object whose names are data, one after the other.
use Rattle.std.proofs.Common.{◌≡◌, ℕ, ◌<◌, length, nat_lt, true, arith, subst, List, [], ◌∷◌, ◌++◌, Option, Some, None, option_map, Result, Ok, Err, Less, refl, sym, ap, ◌∙◌}
use Rattle.std.proofs.Common.{map}
use Rattle.std.proofs.lemmas.List.{append-nil}
use Rattle.std.proofs.lemmas.Bool.Decides.{nat_tests}
use Rattle.std.specs.Prelude.{String, string_bytes, string_cmp}
use Rattle.std.specs.declared.alloc.Global.{Global}
use Rattle.std.specs.List.{AllByRecursion}
use Rattle.std.specs.List.Sorted.{IsStrictlySortedBy}
use Rattle.std.specs.Map.{keys_of}
use Rattle.rate_types.specs.Counters.{text_cmp}
use Rattle.rate_types.specs.Places.{child}
use Rattle.rate_types.specs.declared.limits.TheConstants.{LONGEST_TEXT}
use Rattle.rate_types.specs.declared.refusals.TheConstants.{TEXT_TOO_LONG}
use Rattle.rate_types.specs.declared.refused.Refused.{Refused}
use Rattle.serde_json.specs.Data.{Data, Members, no_members, member}
use Rattle.serde_json.specs.View.{view, members_view}
use Rattle.serde_json.specs.declared.value.Value.{Value}
use Rattle.rate_types.specs.declared.fault.Fault.{Fault}
use Rattle.rate_types.specs.declared.fault.Fault.TheVariants as fault
use Rattle.rate_types.specs.Reading.{IsRefusal}
use Rattle.proto_json.specs.Said.{Said, says, refuses, reading_of, ◌>>=◌}
use Rattle.proto_json.specs.Laws.{then_read, reading_then}
use Rattle.proto_json.proofs.Items.{behind, behind_more}
use Rattle.proto_json.specs.Lists.{with_first}
use Rattle.proto_json.specs.NamedMembers.{members_in, short_name, named}
use Rattle.proto_json.specs.Fields.{names_of}

-- a member of a map
abbrev pub Entry : Type 0
Entry = String Global × Value

-- ---- the loop over the members

pub members_none : {X : Type 0} (read : List ℕ → List ℕ → Data → Said (Option X)) (place : List ℕ) (front : List X)
    → behind front (reading_of (members_in read place no_members)) ≡ Ok (Some front)
unfolding members_in
members_none read place front = ap (λ xs. Ok (Some xs)) (append-nil front)

members_step : {X : Type 0} (read : List ℕ → List ℕ → Data → Said (Option X)) (place name : List ℕ) (d : Data) (ms : Members)
    → reading_of (members_in read place (member name d ms)) ≡ then_read (reading_of (read place name d))
    (λ x. then_read (reading_of (members_in read place ms)) (λ xs. Ok (with_first x xs)))
unfolding members_in
members_step {X = X} read place name d ms =
    reading_then (read place name d) rest
    ∙ ap (λ (f : Option X → Result (Option (List X)) Refused). then_read (reading_of (read place name d)) f)
    (λ i. λ x. reading_then (members_in read place ms) (λ xs. says (with_first x xs)) i)
  where
    rest : Option X → Said (Option (List X))
    rest x = members_in read place ms >>= λ xs. says (with_first x xs)

-- one more member was read
pub members_more : {X : Type 0} (read : List ℕ → List ℕ → Data → Said (Option X)) (place name : List ℕ) (front : List X) (d : Data) (ms : Members) (x : X)
    → reading_of (read place name d) ≡ Ok (Some x)
    → behind front (reading_of (members_in read place (member name d ms))) ≡ behind (front ++ x ∷ []) (reading_of (members_in read place ms))
members_more read place name front d ms x is =
    ap (behind front) (members_step read place name d ms ∙ ap (λ r. then_read r (λ y. then_read (reading_of (members_in read place ms)) (λ xs. Ok (with_first y xs)))) is)
    ∙ behind_more front x (reading_of (members_in read place ms))

-- a member is refused, and so is the object
pub members_refused : {X : Type 0} (read : List ℕ → List ℕ → Data → Said (Option X)) (place name : List ℕ) (front : List X) (d : Data) (ms : Members) (e : Fault Refused)
    → IsRefusal e (reading_of (read place name d))
    → IsRefusal e (behind front (reading_of (members_in read place (member name d ms))))
members_refused read place name front d ms (fault.Refused r) is =
    ap (behind front) (members_step read place name d ms ∙ ap (λ q. then_read q (λ y. then_read (reading_of (members_in read place ms)) (λ xs. Ok (with_first y xs)))) is)
members_refused read place name front d ms fault.OutOfMemory is = tt

-- a name that is too long
pub named_long : {V X : Type 0} (kind : List ℕ → Data → Said (Option V)) (make : List ℕ → V → X) (place name : List ℕ) (d : Data) → LONGEST_TEXT < length name
    → reading_of (named kind make place name d) ≡ Err (record { at = place; number = TEXT_TOO_LONG })
unfolding named short_name
named_long {V = V} {X = X} kind make place name d long =
    let longer : nat_lt LONGEST_TEXT (length name) ≡ true = grind (arith, nat_tests) in
    rw longer (reading_then {X = Option (List ℕ)} {Y = Option X} (refuses TEXT_TOO_LONG place) (λ n. kind (child place name) d >>= λ v. says (option_map (make name) v)))

-- so far these were read, and the rest is to be read
abbrev pub ReadSoFar : {X : Type 0} → (List ℕ → List ℕ → Data → Said (Option X)) → List ℕ → List Entry → List Entry → List X → Type 0
ReadSoFar read place all rest xs = behind xs (reading_of (members_in read place (members_view rest))) ≡ reading_of (members_in read place (members_view all))

pub so_far_more : {X : Type 0} (read : List ℕ → List ℕ → Data
    → Said (Option X)) (place : List ℕ) (all rest more : List Entry) (xs : List X) (name : String Global) (v : Value) (x : X)
    → ReadSoFar read place all rest xs → rest ≡ (name, v) ∷ more → reading_of (read place (string_bytes name) (view v)) ≡ Ok (Some x)
    → ReadSoFar read place all more (xs ++ x ∷ [])
so_far_more read place all rest more xs name v x so_far is one =
    sym (members_more read place (string_bytes name) xs (view v) (members_view more) x one) ∙ subst (λ (es : List Entry). ReadSoFar read place all es xs) is so_far

pub so_far_refused : {X : Type 0} (read : List ℕ → List ℕ → Data
    → Said (Option X)) (place : List ℕ) (all rest more : List Entry) (xs : List X) (name : String Global) (v : Value) (e : Fault Refused)
    → ReadSoFar read place all rest xs → rest ≡ (name, v) ∷ more → IsRefusal e (reading_of (read place (string_bytes name) (view v)))
    → IsRefusal e (reading_of (members_in read place (members_view all)))
so_far_refused {X = X} read place all rest more xs name v e so_far is refused =
    subst (λ (r : Result (Option (List X)) Refused). IsRefusal e r) (subst
    (λ (es : List Entry). ReadSoFar read place all es xs) is so_far) (members_refused read place (string_bytes name) xs (view v) (members_view more) e refused)

pub so_far_all : {X : Type 0} (read : List ℕ → List ℕ → Data → Said (Option X)) (place : List ℕ) (all rest : List Entry) (xs : List X) → ReadSoFar read place all rest xs
    → rest ≡ [] → reading_of (members_in read place (members_view all)) ≡ Ok (Some xs)
so_far_all read place all rest xs so_far is = sym (subst (λ (es : List Entry). ReadSoFar read place all es xs) is so_far) ∙ members_none read place xs

-- ---- the names of what was read

-- what a member reads as has the member's name
pub named_label : {V X : Type 0} (kind : List ℕ → Data → Said (Option V)) (make : List ℕ → V → X) (label : X → List ℕ) → ((n : List ℕ) (v : V) → label (make n v) ≡ n)
    → (place name : List ℕ) (d : Data) (x : X) → reading_of (named kind make place name d) ≡ Ok (Some x) → label x ≡ name
unfolding named
named_label {V = V} {X = X} kind make label labels place name d x is =
    first (reading_of (short_name place name)) (sym (reading_then (short_name place name) (λ n. kind (child place name) d >>= λ v. says (option_map (make name) v))) ∙ is)
  where
    second : (read : Result (Option V) Refused) → then_read {Y = Option X} read (λ v. Ok (option_map (make name) v)) ≡ Ok (Some x) → label x ≡ name
    second (Ok (Some v)) same = let made : make name v ≡ x = cc in sym (ap label made) ∙ labels name v
    second (Ok None) same = absurd (cc)
    second (Err e) same = absurd (cc)

    first : (read : Result (Option (List ℕ)) Refused) → then_read {Y = Option X} read
        (λ n. reading_of (kind (child place name) d >>= λ v. says (option_map (make name) v))) ≡ Ok (Some x) → label x ≡ name
    first (Ok n) same = second (reading_of (kind (child place name) d)) (sym (reading_then (kind (child place name) d) (λ v. says (option_map (make name) v))) ∙ same)
    first (Err e) same = absurd (cc)

pub members_names : {X : Type 0} (read : List ℕ → List ℕ → Data → Said (Option X)) (label : X → List ℕ) (place : List ℕ)
    → ((name : List ℕ) (d : Data) (x : X) → reading_of (read place name d) ≡ Ok (Some x) → label x ≡ name)
    → (ms : Members) (xs : List X) → reading_of (members_in read place ms) ≡ Ok (Some xs) → map label xs ≡ names_of ms
unfolding members_in
members_names read label place labels no_members [] is = refl
members_names read label place labels no_members (x ∷ xs) is = absurd (cc)
members_names {X = X} read label place labels (member name d ms) xs is =
    first (λ ys more. members_names read label place labels ms ys more) (reading_of (read place name d)) refl (sym (members_step read place name d ms) ∙ is)
  where
    Rest : Type 0
    Rest = (ys : List X) → reading_of (members_in read place ms) ≡ Ok (Some ys) → map label ys ≡ names_of ms

    third : Rest → (x : X) → reading_of (read place name d) ≡ Ok (Some x) → (rest : Result (Option (List X)) Refused) → reading_of (members_in read place ms) ≡ rest
        → then_read {Y = Option (List X)} rest (λ ys. Ok (with_first (Some x) ys)) ≡ Ok (Some xs) → map label xs ≡ name ∷ names_of ms
    third names x one (Ok (Some ys)) more same =
        let made : x ∷ ys ≡ xs = cc in
        sym (ap (map label) made) ∙ ap (λ n. n ∷ map label ys) (labels name d x one) ∙ ap (λ ns. name ∷ ns) (names ys more)
    third names x one (Ok None) more same = absurd (cc)
    third names x one (Err e) more same = absurd (cc)

    none : (rest : Result (Option (List X)) Refused) → then_read {Y = Option (List X)} rest (λ ys. Ok (with_first None ys)) ≡ Ok (Some xs) → ⊥
    none (Ok ys) same = cc
    none (Err e) same = cc

    first : Rest → (one : Result (Option X) Refused) → reading_of (read place name d) ≡ one
        → then_read {Y = Option (List X)} one (λ x. then_read (reading_of (members_in read place ms)) (λ ys. Ok (with_first x ys))) ≡ Ok (Some xs)
        → map label xs ≡ name ∷ names_of ms
    first names (Ok (Some x)) one same = third names x one (reading_of (members_in read place ms)) refl same
    first names (Ok None) one same = absurd (none (reading_of (members_in read place ms)) same)
    first names (Err e) one same = absurd (cc)

-- ---- the names of a map's members rise

rest_after : (key : String Global) (es : List Entry) → AllByRecursion (λ y. string_cmp key y ≡ Less) (keys_of es)
    → AllByRecursion (λ n. text_cmp (string_bytes key) n ≡ Less) (names_of (members_view es))
rest_after key [] after = tt
rest_after key (e ∷ es) after = (after.0, rest_after key es after.1)

pub names_rise : (es : List Entry) → IsStrictlySortedBy string_cmp (keys_of es) → IsStrictlySortedBy text_cmp (names_of (members_view es))
unfolding IsStrictlySortedBy
names_rise [] rise = tt
names_rise (e ∷ es) rise = (rest_after e.0 es rise.0, names_rise es rise.1)

-- what is read of a map's members has names that rise
pub members_rise : {V X : Type 0} (kind : List ℕ → Data → Said (Option V)) (make : List ℕ → V → X) (label : X → List ℕ)
    → ((n : List ℕ) (v : V) → label (make n v) ≡ n) → (place : List ℕ) (es : List Entry) (xs : List X) → IsStrictlySortedBy string_cmp (keys_of es)
    → reading_of (members_in (named kind make) place (members_view es)) ≡ Ok (Some xs) → IsStrictlySortedBy text_cmp (map label xs)
members_rise kind make label labels place es xs rise is =
    subst (λ (ns : List (List ℕ)). IsStrictlySortedBy text_cmp ns)
    (sym (members_names (named kind make) label place (named_label kind make label labels place) (members_view es) xs is))
    (names_rise es rise)
