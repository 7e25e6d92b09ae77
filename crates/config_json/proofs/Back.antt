-- What the printed objects of a configuration read as.
use Rattle.std.proofs.Common.{◌≡◌, ◌≢◌, ℕ, zero, suc, ◌+◌, ◌≤◌, List, [], ◌∷◌, length, filter, Bool, true, false, cond, nat_lt, Option, Some, None, option_map, unwrap_or, codes}
use Rattle.std.proofs.Common.{Result, Ok, refl, ap, ◌∙◌, arith}
use Rattle.std.specs.List.{All}
use Rattle.std.proofs.lemmas.Bool.Decides.{nat_tests}
use Rattle.std.proofs.lemmas.List.Elements.{All-head, All-tail}
use Rattle.rate_types.specs.Places as places
use Rattle.rate_types.specs.declared.refused.Refused.{Refused}
use Rattle.rate_types.specs.declared.unit.Unit.{Unit}
use Rattle.rate_types.specs.declared.unit.Unit.TheVariants as unit
use Rattle.serde_json.specs.Data.{Data, string, array, object, no_members}
use Rattle.serde_json.specs.Events.{items_len}
use Rattle.proto_json.specs.Said.{Said, says, refuses, reading_of, ◌>>=◌}
use Rattle.proto_json.specs.Fields.{Object, take, ends}
use Rattle.proto_json.specs.Kinds as kinds
use Rattle.proto_json.specs.Lists.{items_from, each_item, with_first}
use Rattle.proto_json.specs.Laws.{then_read, reading_then}
use Rattle.config_json.specs.FieldNames as names
use Rattle.config_json.specs.Rules.{is_there, named, object_named, replaced, those_there, names_in, all_replaced, replaced_kind}
use Rattle.config_json.specs.Printed.{members_there, text_there, number_there, true_there, list_there, unit_json, names_json}
use Rattle.config_json.specs.Bounds.{IsShort}
use Rattle.config_json.proofs.Chains.{ReadsAs, take_there}

-- ---- single values

-- a text that isn't empty, where it is there
abbrev pub text_back : List ℕ → Option (List ℕ)
text_back [] = None
text_back (b ∷ bs) = Some (b ∷ bs)

abbrev pub number_back : ℕ → Option ℕ
number_back zero = None
number_back (suc n) = Some (suc n)

abbrev pub true_back : Bool → Option Bool
true_back true = Some true
true_back false = None

abbrev pub names_back : List (List ℕ) → Option (List (List ℕ))
names_back [] = None
names_back (n ∷ ns) = Some (n ∷ ns)

is_short : (s : List ℕ) → length s ≤ 1024 → nat_lt 1024 (length s) ≡ false
is_short s short = grind (arith, nat_tests)

short_reads : (place s : List ℕ) → length s ≤ 1024 → reading_of (kinds.short_text 18 place (string s)) ≡ Ok (Some s)
unfolding kinds.short_text
short_reads place s short = rw (is_short s short) refl

pub text_reads : (place s : List ℕ) → length s ≤ 1024 → ReadsAs (kinds.short_text 18) place (text_there s) (text_back s)
unfolding ReadsAs
text_reads place [] short = refl
text_reads place (b ∷ bs) short = (refl, short_reads place (b ∷ bs) short)

pub string_reads : (place : List ℕ) (o : Option (List ℕ)) → IsShort o → ReadsAs (kinds.short_text 18) place (option_map string o) o
unfolding ReadsAs
string_reads place None short = refl
string_reads place (Some s) short = (refl, short_reads place s short)

pub true_reads : (place : List ℕ) (b : Bool) → ReadsAs kinds.bool place (true_there b) (true_back b)
unfolding ReadsAs kinds.bool
true_reads place true = (refl, refl)
true_reads place false = refl

is_small : (n : ℕ) → n ≤ 4294967295 → nat_lt 4294967295 n ≡ false
is_small n small = grind (arith, nat_tests)

pub number_reads : (place : List ℕ) (n : ℕ) → n ≤ 4294967295 → ReadsAs (kinds.whole 4294967295) place (number_there n) (number_back n)
unfolding ReadsAs kinds.whole
number_reads place zero small = refl
number_reads place (suc n) small = (refl, rw (is_small (suc n) small) refl)

pub unit_reads : (place : List ℕ) (u : Unit) → ReadsAs kinds.unit place (Some (unit_json u)) (Some u)
unfolding ReadsAs kinds.unit
unit_reads place unit.Second = (refl, refl)
unit_reads place unit.Minute = (refl, refl)
unit_reads place unit.Hour = (refl, refl)
unit_reads place unit.Day = (refl, refl)

-- ---- replaced names

then_ok : {X Y : Type 0} (r : Result X Refused) (v : X) (next : X → Result Y Refused) → r ≡ Ok v → then_read r next ≡ next v
then_ok r v next is = ap (λ q. then_read q next) is

named_back : (place n : List ℕ) → length n ≤ 1024 → reading_of (named (record { place = place; members = members_there ((codes "name", Some (string n)) ∷ []) })) ≡ Ok (Some n)
unfolding named ends ReadsAs
named_back place n short =
    reading_then (take (kinds.short_text 18) names.name o) next
    ∙ then_ok (reading_of (take (kinds.short_text 18) names.name o)) (Some n, left) (λ x. reading_of (next x))
    (take_there (kinds.short_text 18) place (codes "name") (codes "name") ((codes "name", Some (string n)) ∷ []) (Some n) refl refl
    (refl, short_reads (places.child place (codes "name")) n short))
  where
    o : Object
    o = record { place = place; members = members_there ((codes "name", Some (string n)) ∷ []) }

    left : Object
    left = record { place = place; members = no_members }

    next : Option (List ℕ) × Object → Said (Option (List ℕ))
    next m = ends m.1 >>= λ at. says (Some (unwrap_or m.0 []))

replaced_back : (place n : List ℕ) → length n ≤ 1024 → reading_of (replaced place (object (members_there ((codes "name", Some (string n)) ∷ [])))) ≡ Ok (Some n)
unfolding replaced object_named kinds.and_read kinds.message
replaced_back place n short = reading_then (kinds.message place (object (members_there ((codes "name", Some (string n)) ∷ [])))) (kinds.read_some named)
    ∙ named_back place n short

names_items : (place : List ℕ) (index : ℕ) (ns : List (List ℕ)) → All (λ n. length n ≤ 1024) ns → reading_of (items_from replaced place index (names_json ns)) ≡ Ok (Some ns)
unfolding items_from
names_items place index [] short = refl
names_items place index (n ∷ ns) short =
    reading_then (replaced (places.item place index) d) rest
    ∙ then_ok _ (Some n) (λ x. reading_of (rest x)) (replaced_back (places.item place index) n (All-head (λ m. length m ≤ 1024) n ns short))
    ∙ reading_then (items_from replaced place (index + 1) (names_json ns)) (λ xs. says (with_first (Some n) xs))
    ∙ then_ok _ (Some ns) (λ xs. Ok (with_first (Some n) xs)) (names_items place (index + 1) ns (All-tail (λ m. length m ≤ 1024) n ns short))
  where
    d : Data
    d = object (members_there ((codes "name", Some (string n)) ∷ []))

    rest : Option (List ℕ) → Said (Option (List (List ℕ)))
    rest x = items_from replaced place (index + 1) (names_json ns) >>= λ xs. says (with_first x xs)

names_len : (ns : List (List ℕ)) → items_len (names_json ns) ≡ length ns
names_len [] = refl
names_len (n ∷ ns) = ap suc (names_len ns)

filter_all : (ns : List (List ℕ)) → All (λ n. n ≢ []) ns → filter is_there ns ≡ ns
filter_all [] all = refl
filter_all ([] ∷ ns) all = absurd (All-head (λ n. n ≢ []) [] ns all refl)
filter_all ((b ∷ bs) ∷ ns) all = ap (λ more. (b ∷ bs) ∷ more) (filter_all ns (All-tail (λ n. n ≢ []) (b ∷ bs) ns all))

-- what a rule replaces, as its types and its lawfulness bound it
pub record AreReplaced (ns : List (List ℕ)) : Type 0 where
  pub short : All (λ n. length n ≤ 1024) ns
  pub there : All (λ n. n ≢ []) ns
  pub few : length ns ≤ 32

are_few : (n : ℕ) → n ≤ 32 → nat_lt 32 n ≡ false
are_few n few = grind (arith, nat_tests)

names_all : (place : List ℕ) (ns : List (List ℕ)) → AreReplaced ns → reading_of (all_replaced (record { place = place; items = names_json ns })) ≡ Ok (Some ns)
unfolding all_replaced names_in each_item
names_all place ns r =
    ap (λ b. reading_of (cond b (refuses 30 place) (names_in (record { place = place; items = names_json ns })))) (ap (nat_lt 32) (names_len ns) ∙ are_few (length ns) r.few)
    ∙ reading_then (each_item replaced (record { place = place; items = names_json ns })) (λ xs. says (those_there xs))
    ∙ then_ok _ (Some ns) (λ xs. Ok (those_there xs)) (names_items place 0 ns r.short)
    ∙ ap (λ xs. Ok (Some xs)) (filter_all ns r.there)

pub names_reads : (place : List ℕ) (ns : List (List ℕ)) → AreReplaced ns → ReadsAs replaced_kind place (list_there (names_json ns)) (names_back ns)
unfolding ReadsAs kinds.and_read kinds.list
names_reads place [] r = refl
names_reads place (n ∷ ns) r = (refl, reading_then (kinds.list place (array (names_json (n ∷ ns)))) (kinds.read_some all_replaced) ∙ names_all place (n ∷ ns) r)
