-- Inside: laws of readings that the proofs of readers cite, here and in other crates. The reading of one part after the
-- other stops at the first fault; a field is what stands there and then its kind; taking one field leaves the others.
use Rattle.std.specs.Prelude.{◌≡◌, ℕ, List, [], ◌∷◌, Option, Some, None, Result, Ok, Err}
use Rattle.std.proofs.Common.{Bool, true, false, cond, Ordering, Less, Equal, Greater, is_eq, bytes_eq, nat_cmp, true≢false, refl, sym}
use Rattle.std.proofs.Common.{ap, subst, ◌∙◌}
use Rattle.std.proofs.lemmas.Slice.Eq.{bytes_eq-Decides}
use Rattle.std.specs.Cmp.Lexicographic.{slice_cmp}
use Rattle.std.specs.Ordering.{match_ordering}
use Rattle.std.proofs.lemmas.Map.Text.{is_eq-slice_cmp}
use Rattle.rate_types.specs.declared.refused.Refused.{Refused}
use Rattle.rate_types.specs.Places.{child}
use Rattle.serde_json.specs.Data.{Data, null, boolean, number, string, array, object, Members, no_members, member}
use Rattle.proto_json.specs.Said.{Said, said, says, preceded, reading_of, ◌>>=◌}
use Rattle.proto_json.specs.Fields.{Name, Object, Found, absent, once, twice, found_by, find, without, without_both, standing_of}
use Rattle.proto_json.specs.Fields.{standing, field, take, after, read_as}
use Rattle.proto_json.specs.Kinds.{and_read, read_some}
use Rattle.serde_json.specs.Find.{get_member}
use Rattle.proto_json.specs.Document.{json_of, json_said, document}

-- one reading, and where it is a value the next
abbrev pub then_read : {X Y : Type 0} → Result X Refused → (X → Result Y Refused) → Result Y Refused
then_read (Ok x) next = next x
then_read (Err refused) next = Err refused

preceded_reads : {X : Type 0} (part : Said X) → reading_of (preceded [] part) ≡ reading_of part
preceded_reads (said [] x) = refl
preceded_reads (said (f ∷ fs) x) = refl

preceded_fails : {X : Type 0} (f : Refused) (fs : List Refused) (part : Said X) → reading_of (preceded (f ∷ fs) part) ≡ Err f
preceded_fails f fs (said more x) = refl

-- one part and then the next
pub reading_then : {X Y : Type 0} (part : Said X) (next : X → Said Y)
    → reading_of (part >>= next) ≡ then_read (reading_of part) (λ x. reading_of (next x))
reading_then (said [] x) next = preceded_reads (next x)
reading_then (said (f ∷ fs) x) next = preceded_fails f fs (next x)

-- three readings, grouped either way
pub then_read_assoc : {X Y Z : Type 0} (read : Result X Refused) (f : X → Result Y Refused) (g : Y → Result Z Refused)
    → then_read (then_read read f) g ≡ then_read read (λ x. then_read (f x) g)
then_read_assoc (Ok x) f g = refl
then_read_assoc (Err r) f g = refl

-- a field: what stands there, and then its kind
pub take_reads : {X : Type 0} (kind : List ℕ → Data → Said (Option X)) (name : Name) (o : Object)
    → reading_of (take kind name o) ≡ then_read (reading_of (standing name o))
    (λ it. then_read (reading_of (read_as kind o.place it)) (λ value. Ok (value, after name o)))
unfolding take field
take_reads {X = X} kind name o =
    reading_then (field kind name o) (λ value. says (value, after name o))
    ∙ ap (λ r. then_read {Y = Option X × Object} r (λ value. Ok (value, after name o)))
    (reading_then (standing name o) (read_as kind o.place))
    ∙ then_read_assoc (reading_of (standing name o)) (λ it. reading_of (read_as kind o.place it)) (λ value. Ok (value, after name o))

-- a field by what it says alone
pub take_field : {X : Type 0} (kind : List ℕ → Data → Said (Option X)) (name : Name) (o : Object)
    → reading_of (take kind name o) ≡ then_read (reading_of (field kind name o)) (λ value. Ok (value, after name o))
unfolding take
take_field kind name o = reading_then (field kind name o) (λ value. says (value, after name o))

read_further : {X Y : Type 0} (left : Object) (read : Result (Option X) Refused) (next : X → Said (Option Y))
    → then_read {Y = Option Y × Object} (then_read read (λ x. reading_of (read_some next x))) (λ value. Ok (value, left))
    ≡ then_read {Y = Option Y × Object} (then_read {Y = Option X × Object} read (λ x. Ok (x, left)))
    (λ it. then_read {Y = Option Y × Object} (reading_of (read_some next it.0)) (λ value. Ok (value, it.1)))
read_further left (Ok x) next = refl
read_further left (Err r) next = refl

-- a field whose value is read further: first the field, then its value
pub take_and_read : {X Y : Type 0} (kind : List ℕ → Data → Said (Option X)) (next : X → Said (Option Y)) (name : Name) (o : Object)
    → reading_of (take (and_read kind next) name o)
    ≡ then_read (reading_of (take kind name o))
    (λ it. then_read {Y = Option Y × Object} (reading_of (read_some next it.0)) (λ value. Ok (value, it.1)))
unfolding and_read standing
take_and_read {X = X} {Y = Y} kind next name o =
    take_reads (and_read kind next) name o ∙ by (find name o.members)
    ∙ sym (ap (λ r. then_read {Y = Option Y × Object} r
    (λ it. then_read {Y = Option Y × Object} (reading_of (read_some next it.0)) (λ value. Ok (value, it.1)))) (take_reads kind name o))
  where
    at : (place : List ℕ) (d : Data)
        → then_read {Y = Option Y × Object} (reading_of (and_read kind next place d)) (λ value. Ok (value, after name o))
        ≡ then_read {Y = Option Y × Object} (then_read {Y = Option X × Object} (reading_of (kind place d)) (λ x. Ok (x, after name o)))
        (λ it. then_read {Y = Option Y × Object} (reading_of (read_some next it.0)) (λ value. Ok (value, it.1)))
    at place d = ap (λ r. then_read {Y = Option Y × Object} r (λ value. Ok (value, after name o)))
        (reading_then (kind place d) (read_some next))
        ∙ read_further (after name o) (reading_of (kind place d)) next

    by : (found : Found)
        → then_read {Y = Option Y × Object} (reading_of (standing_of o.place name found))
        (λ it. then_read {Y = Option Y × Object} (reading_of (read_as (and_read kind next) o.place it))
        (λ value. Ok (value, after name o)))
        ≡ then_read {Y = Option Y × Object} (then_read {Y = Option X × Object} (reading_of (standing_of o.place name found))
        (λ it. then_read {Y = Option X × Object} (reading_of (read_as kind o.place it)) (λ value. Ok (value, after name o))))
        (λ it. then_read {Y = Option Y × Object} (reading_of (read_some next it.0)) (λ value. Ok (value, it.1)))
    by absent = refl
    by twice = refl
    by (once spelling null) = refl
    by (once spelling (boolean b)) = at (child o.place spelling) (boolean b)
    by (once spelling (number n)) = at (child o.place spelling) (number n)
    by (once spelling (string s)) = at (child o.place spelling) (string s)
    by (once spelling (array ds)) = at (child o.place spelling) (array ds)
    by (once spelling (object ms)) = at (child o.place spelling) (object ms)

-- ---- bytes as JSON

-- the value of a reading, none where it is refused
abbrev value_or_none : {X : Type 0} → Result (Option X) Refused → Option X
value_or_none (Ok x) = x
value_or_none (Err refused) = None

-- bytes that read as a value are that value
pub document_value : (bytes : List ℕ) (d : Data) → reading_of (document bytes) ≡ Ok (Some d) → json_of bytes ≡ Some d
unfolding document
document_value bytes d = by (json_of bytes)
  where
    by : (o : Option Data) → reading_of (json_said o) ≡ Ok (Some d) → o ≡ Some d
    by None is = ap value_or_none is
    by (Some x) is = ap value_or_none is

-- bytes that are refused are no JSON
pub document_refused : (bytes : List ℕ) (refused : Refused) → reading_of (document bytes) ≡ Err refused → json_of bytes ≡ None
unfolding document
document_refused bytes refused = by (json_of bytes)
  where
    by : (o : Option Data) → reading_of (json_said o) ≡ Err refused → o ≡ None
    by None is = refl
    by (Some x) is = ap value_or_none is

-- ---- a field after another was taken

either : (o : Ordering) (a b : Option Data) → is_eq o ≡ false → match_ordering o a b a ≡ a
either Less a b e = refl
either Equal a b e = absurd (true≢false e)
either Greater a b e = refl

differ : (m n k : List ℕ) (b : Bool) → bytes_eq m k ≡ true → bytes_eq m n ≡ false → bytes_eq n k ≡ b → b ≡ false
differ m n k true same other is =
    let mk : m ≡ k = (bytes_eq-Decides m k).0 same in
    let nk : n ≡ k = (bytes_eq-Decides n k).0 is in
    absurd (true≢false (sym (subst (λ (x : List ℕ). bytes_eq m x ≡ true) (sym nk) same) ∙ other))
differ m n k false same other is = refl

same_or : (b : Bool) (n k : List ℕ) (d : Data) (ms rest : Members) (m : List ℕ) → bytes_eq m k ≡ b → bytes_eq m n ≡ false
    → get_member n rest ≡ get_member n ms
    → get_member n (cond b ms (member k d rest)) ≡ get_member n (member k d ms)
same_or true n k d ms rest m same other is = sym (either (slice_cmp nat_cmp n k) (get_member n ms) (Some d) (is_eq-slice_cmp n k
    ∙ differ m n k (bytes_eq n k) same other refl))
same_or false n k d ms rest m same other is = ap (λ r. match_ordering (slice_cmp nat_cmp n k) r (Some d) r) is

-- taking one member leaves the others
pub get_member_without : (n m : List ℕ) (ms : Members) → bytes_eq m n ≡ false → get_member n (without m ms) ≡ get_member n ms
get_member_without n m no_members other = refl
get_member_without n m (member k d ms) other = same_or (bytes_eq m k) n k d ms _ m refl other (get_member_without n m ms other)

pub get_member_without_both : (n : List ℕ) (name : Name) (ms : Members) → bytes_eq name.camel n ≡ false → bytes_eq name.plain n ≡ false
    → get_member n (without_both name ms) ≡ get_member n ms
get_member_without_both n name ms camel plain = by (bytes_eq name.camel name.plain)
  where
    by : (b : Bool) → get_member n (cond b (without name.camel ms) (without name.plain (without name.camel ms))) ≡ get_member n ms
    by true = get_member_without n name.camel ms camel
    by false = get_member_without n name.plain (without name.camel ms) plain ∙ get_member_without n name.camel ms camel

-- the two names share no spelling
pub record Apart (one other : Name) : Type 0 where
  pub camels : bytes_eq other.camel one.camel ≡ false
  pub plain_camel : bytes_eq other.plain one.camel ≡ false
  pub camel_plain : bytes_eq other.camel one.plain ≡ false
  pub plains : bytes_eq other.plain one.plain ≡ false

-- taking one field leaves what another says
pub field_after : {X : Type 0} (kind : List ℕ → Data → Said (Option X)) (name other : Name) (o : Object) → Apart name other
    → field kind name (after other o) ≡ field kind name o
unfolding field standing after
field_after kind name other o apart = ap (λ found. standing_of o.place name found >>= read_as kind o.place) same
  where
    same : find name (without_both other o.members) ≡ find name o.members
    same = ap (λ one. found_by name one (cond (bytes_eq name.camel name.plain) None
        (get_member name.plain (without_both other o.members))))
        (get_member_without_both name.camel other o.members apart.camels apart.plain_camel)
        ∙ ap (λ two. found_by name (get_member name.camel o.members) (cond (bytes_eq name.camel name.plain) None two))
        (get_member_without_both name.plain other o.members apart.camel_plain apart.plains)
