-- The fields of an object whose members are given one by one, each there or not.
use Rattle.std.proofs.Common.{◌≡◌, ℕ, ◌||◌, List, [], ◌∷◌, Bool, true, false, not, cond, Option, Some, None, Result, Ok, Ordering, Less, Equal, Greater, bytes_eq, is_eq}
use Rattle.std.proofs.Common.{nat_cmp, true≢false, refl, sym, ap, ◌∙◌}
use Rattle.std.specs.Cmp.Lexicographic.{slice_cmp}
use Rattle.std.specs.Ordering.{match_ordering}
use Rattle.std.proofs.lemmas.Map.Text.{is_eq-slice_cmp}
use Rattle.serde_json.specs.Data.{Data, null, boolean, number, string, array, object, Members, member}
use Rattle.serde_json.specs.Find.{get_member}
use Rattle.rate_types.specs.declared.refused.Refused.{Refused}
use Rattle.rate_types.specs.Places.{child}
use Rattle.proto_json.specs.Said.{Said, reading_of}
use Rattle.proto_json.specs.Fields.{Object, found_by, without, without_both, unless_null, standing_of, standing, take, after, read_as}
use Rattle.proto_json.specs.Laws.{then_read, take_reads}
use Rattle.config_json.specs.Printed.{and_member, members_there}

abbrev pub Chain : Type 0
Chain = List (List ℕ × Option Data)

-- ---- looking for a name, and clearing it

abbrev pub look : List ℕ → Chain → Option Data
look name [] = None
look name (m ∷ more) = cond (bytes_eq name m.0) m.1 (look name more)

abbrev pub clear : List ℕ → Chain → Chain
clear name [] = []
clear name (m ∷ more) = (m.0, cond (bytes_eq name m.0) None m.1) ∷ clear name more

abbrev pub has : List ℕ → Chain → Bool
has name [] = false
has name (m ∷ more) = bytes_eq name m.0 || has name more

-- no two members of this name
abbrev pub is_once : List ℕ → Chain → Bool
is_once name [] = true
is_once name (m ∷ more) = cond (bytes_eq name m.0) (not (has name more)) (is_once name more)

match_is : {X : Type 0} (o : Ordering) (x y : X) → match_ordering o x y x ≡ cond (is_eq o) y x
match_is Less x y = refl
match_is Equal x y = refl
match_is Greater x y = refl

get_and : (name k : List ℕ) (d : Data) (more : Members) → get_member name (member k d more) ≡ cond (bytes_eq name k) (Some d) (get_member name more)
get_and name k d more = match_is (slice_cmp nat_cmp name k) (get_member name more) (Some d) ∙ ap (λ b. cond b (Some d) (get_member name more)) (is_eq-slice_cmp name k)

or_false : (a b : Bool) → (a || b) ≡ false → (a ≡ false) × (b ≡ false)
or_false true b is = absurd (true≢false is)
or_false false b is = (refl, is)

not_true : (b : Bool) → not b ≡ true → b ≡ false
not_true true is = absurd (true≢false (sym is))
not_true false is = refl

get_other : (name k : List ℕ) (o : Option Data) (more : Members) → bytes_eq name k ≡ false → get_member name (and_member k o more) ≡ get_member name more
get_other name k None more other = refl
get_other name k (Some d) more other = get_and name k d more ∙ ap (λ b. cond b (Some d) (get_member name more)) other

get_none : (name : List ℕ) (ms : Chain) → has name ms ≡ false → get_member name (members_there ms) ≡ None
get_none name [] is = refl
get_none name (m ∷ more) is = get_other name m.0 m.1 (members_there more) (or_false (bytes_eq name m.0) (has name more) is).0
    ∙ get_none name more (or_false (bytes_eq name m.0) (has name more) is).1

get_here : (name k : List ℕ) (o : Option Data) (more : Members) → bytes_eq name k ≡ true → get_member name more ≡ None → get_member name (and_member k o more) ≡ o
get_here name k None more same none = none
get_here name k (Some d) more same none = get_and name k d more ∙ ap (λ b. cond b (Some d) (get_member name more)) same

get_look : (name : List ℕ) (ms : Chain) → is_once name ms ≡ true → get_member name (members_there ms) ≡ look name ms
get_look name [] once = refl
get_look name (m ∷ more) once = by (bytes_eq name m.0) refl once (get_look name more)
  where
    by : (b : Bool) → bytes_eq name m.0 ≡ b → cond b (not (has name more)) (is_once name more) ≡ true
        → (is_once name more ≡ true → get_member name (members_there more) ≡ look name more)
        → get_member name (and_member m.0 m.1 (members_there more)) ≡ cond (bytes_eq name m.0) m.1 (look name more)
    by true is once rest = get_here name m.0 m.1 (members_there more) is (get_none name more (not_true (has name more) once)) ∙ sym (ap (λ b. cond b m.1 (look name more)) is)
    by false is once rest = get_other name m.0 m.1 (members_there more) is ∙ rest once ∙ sym (ap (λ b. cond b m.1 (look name more)) is)

without_other : (name k : List ℕ) (o : Option Data) (more : Members) → bytes_eq name k ≡ false → without name (and_member k o more) ≡ and_member k o (without name more)
without_other name k None more other = refl
without_other name k (Some d) more other = ap (λ b. cond b more (member k d (without name more))) other

without_here : (name k : List ℕ) (o : Option Data) (more : Members) → bytes_eq name k ≡ true → without name more ≡ more → without name (and_member k o more) ≡ more
without_here name k None more same rest = rest
without_here name k (Some d) more same rest = ap (λ b. cond b more (member k d (without name more))) same

without_none : (name : List ℕ) (ms : Chain) → has name ms ≡ false → without name (members_there ms) ≡ members_there ms
without_none name [] is = refl
without_none name (m ∷ more) is = without_other name m.0 m.1 (members_there more) (or_false (bytes_eq name m.0) (has name more) is).0
    ∙ ap (and_member m.0 m.1) (without_none name more (or_false (bytes_eq name m.0) (has name more) is).1)

clear_none : (name : List ℕ) (ms : Chain) → has name ms ≡ false → members_there (clear name ms) ≡ members_there ms
clear_none name [] is = refl
clear_none name (m ∷ more) is = ap (λ b. and_member m.0 (cond b None m.1) (members_there (clear name more))) (or_false (bytes_eq name m.0) (has name more) is).0
    ∙ ap (and_member m.0 m.1) (clear_none name more (or_false (bytes_eq name m.0) (has name more) is).1)

without_clear : (name : List ℕ) (ms : Chain) → is_once name ms ≡ true → without name (members_there ms) ≡ members_there (clear name ms)
without_clear name [] once = refl
without_clear name (m ∷ more) once = by (bytes_eq name m.0) refl once (without_clear name more)
  where
    by : (b : Bool) → bytes_eq name m.0 ≡ b → cond b (not (has name more)) (is_once name more) ≡ true
        → (is_once name more ≡ true → without name (members_there more) ≡ members_there (clear name more))
        → without name (and_member m.0 m.1 (members_there more)) ≡ and_member m.0 (cond (bytes_eq name m.0) None m.1) (members_there (clear name more))
    by true is once rest = without_here name m.0 m.1 (members_there more) is (without_none name more (not_true (has name more) once))
        ∙ sym (clear_none name more (not_true (has name more) once))
        ∙ sym (ap (λ b. and_member m.0 (cond b None m.1) (members_there (clear name more))) is)
    by false is once rest = without_other name m.0 m.1 (members_there more) is ∙ ap (and_member m.0 m.1) (rest once)
        ∙ sym (ap (λ b. and_member m.0 (cond b None m.1) (members_there (clear name more))) is)

has_clear : (name other : List ℕ) (ms : Chain) → has name (clear other ms) ≡ has name ms
has_clear name other [] = refl
has_clear name other (m ∷ more) = ap (λ b. bytes_eq name m.0 || b) (has_clear name other more)

-- ---- a field

-- what a member says as a value of a kind: nothing where it isn't there
unfoldable pub ReadsAs : {X : Type 0} → (List ℕ → Data → Said (Option X)) → List ℕ → Option Data → Option X → Type 0
ReadsAs kind place None x = None ≡ x
ReadsAs kind place (Some d) x = (unless_null [] d ≡ Some ([], d)) × (reading_of (kind place d) ≡ Ok x)

-- the name's other spelling is the same, or stands nowhere
abbrev pub is_alone : List ℕ → List ℕ → Chain → Bool
is_alone camel plain ms = bytes_eq camel plain || not (has plain ms)

there_is : (spelling : List ℕ) (d : Data) → unless_null [] d ≡ Some ([], d) → unless_null spelling d ≡ Some (spelling, d)
there_is spelling null is = cc
there_is spelling (boolean b) is = refl
there_is spelling (number n) is = refl
there_is spelling (string s) is = refl
there_is spelling (array ds) is = refl
there_is spelling (object ms) is = refl

second_none : (camel plain : List ℕ) (ms : Chain) → is_alone camel plain ms ≡ true → cond (bytes_eq camel plain) None (get_member plain (members_there ms)) ≡ None
second_none camel plain ms alone = by (bytes_eq camel plain) alone
  where
    by : (b : Bool) → (b || not (has plain ms)) ≡ true → cond b None (get_member plain (members_there ms)) ≡ None
    by true is = refl
    by false is = get_none plain ms (not_true (has plain ms) is)

left_is : (camel plain : List ℕ) (ms : Chain) → is_once camel ms ≡ true → is_alone camel plain ms ≡ true
    → without_both (record { camel = camel; plain = plain }) (members_there ms) ≡ members_there (clear camel ms)
left_is camel plain ms once alone = by (bytes_eq camel plain) alone
  where
    by : (b : Bool) → (b || not (has plain ms)) ≡ true
        → cond b (without camel (members_there ms)) (without plain (without camel (members_there ms))) ≡ members_there (clear camel ms)
    by true is = without_clear camel ms once
    by false is = ap (without plain) (without_clear camel ms once) ∙ without_none plain (clear camel ms) (has_clear plain camel ms ∙ not_true (has plain ms) is)

standing_reads : {X : Type 0} (kind : List ℕ → Data → Said (Option X)) (place camel plain : List ℕ) (o : Option Data) (x : Option X) (left : Object)
    → ReadsAs kind (child place camel) o x
    → then_read {Y = Option X × Object} (reading_of (standing_of place (record { camel = camel; plain = plain }) (found_by (record { camel = camel; plain = plain }) o None)))
    (λ it. then_read {Y = Option X × Object} (reading_of (read_as kind place it)) (λ value. Ok (value, left))) ≡ Ok (x, left)
unfolding ReadsAs
standing_reads {X = X} kind place camel plain None x left is = ap (λ (v : Option X). Ok (v, left)) is
standing_reads {X = X} kind place camel plain (Some d) x left is =
    ap (λ (it : Option (List ℕ × Data)). then_read {Y = Option X × Object} (reading_of (read_as kind place it)) (λ value. Ok (value, left))) (there_is camel d is.0)
    ∙ ap (λ (r : Result (Option X) Refused). then_read {Y = Option X × Object} r (λ value. Ok (value, left))) is.1

-- taking a field of such an object
pub take_there : {X : Type 0} (kind : List ℕ → Data → Said (Option X)) (place camel plain : List ℕ) (ms : Chain) (x : Option X) → is_once camel ms ≡ true
    → is_alone camel plain ms ≡ true → ReadsAs kind (child place camel) (look camel ms) x
    → reading_of (take kind (record { camel = camel; plain = plain }) (record { place = place; members = members_there ms })) ≡ Ok (
      x,
      record {
        place = place;
        members =
            members_there (clear camel ms);
      },
    )
unfolding standing after
take_there {X = X} kind place camel plain ms x once alone is =
    take_reads kind (record { camel = camel; plain = plain }) (record { place = place; members = members_there ms })
    ∙ ap (λ (found : Option Data). reading found (cond (bytes_eq camel plain) None (get_member plain (members_there ms))) left) (get_look camel ms once)
    ∙ ap (λ (found : Option Data). reading (look camel ms) found left) (second_none camel plain ms alone)
    ∙ standing_reads kind place camel plain (look camel ms) x left is
    ∙ ap (λ (ns : Members). Ok (x, record { place = place; members = ns })) (left_is camel plain ms once alone)
  where
    left : Object
    left = record { place = place; members = without_both (record { camel = camel; plain = plain }) (members_there ms) }

    reading : Option Data → Option Data → Object → Result (Option X × Object) Refused
    reading one two o = then_read {Y = Option X × Object} (reading_of (standing_of place (record {
      camel = camel;
      plain =
          plain;
    }) (found_by (record { camel = camel; plain = plain }) one two)))
        (λ it. then_read {Y = Option X × Object} (reading_of (read_as kind place it)) (λ value. Ok (value, o)))
