-- Records that are put at the places of their lines are each at their own place.
use Rattle.std.proofs.Common.{◌≡◌, ◌≢◌, ◌⊎◌, inl, inr, ℕ, zero, suc, ◌+◌, ◌-◌, ◌≤◌, ◌<◌, ◌==◌, List, [], ◌∷◌, ◌++◌, length, map, set, replicate, Bool, true, false}
use Rattle.std.proofs.Common.{refl, sym, ap, ◌∙◌, subst, arith}
use Rattle.std.proofs.Common.{append_assoc, eq-eqb, Some, None}
use Rattle.std.proofs.lemmas.Bool.Decides.{nat_tests}
use Rattle.std.proofs.Math.ListN.{length-set}
use Rattle.std.specs.Prelude.{IsSome}
use Rattle.std.specs.List.{AllByRecursion}
use Rattle.std.specs.declared.option.Option.{Option}
use mathlib.Core.Option.{some, some-injective, some-ne-none}
use native.Mathlib.Decide.{dec_le}
use lib.ListN.{get_elem?}
use Rattle.atomic_table.proofs.Lists.{at_set, at_longer, at_last, at_map}
use Rattle.rate_types.specs.Sums.{total, one_if}
use Rattle.rate_types.proofs.Sums.{total_set, total_append, total_push, total_one}
use Rattle.reply_text.specs.declared.record.Record.{Record}
use Rattle.script_run.specs.Merged.{joined, on_line, EachLineOnce, IsFrom, Merges}
use Rattle.script_run.specs.Places.{all_placed}

-- a sum at one place
abbrev placed_sum : (Record → ℕ) → Option Record → ℕ
placed_sum f None = 0
placed_sum f (Some r) = f r

-- where a record is among the joined ones
pub record IsIn (xs : List Record) (r : Record) : Type 0 where
  pub place : ℕ
  pub here : get_elem? xs place ≡ some r

-- these records lie at their places
pub record Holds (lines : ℕ) (done : List Record) (places : List (Option Record)) : Type 0 where
  pub len : length places ≡ lines
  pub at : (i : ℕ) (r : Record) → get_elem? places i ≡ some (Some r) → r.line ≡ i + 1
  pub from : (i : ℕ) (r : Record) → get_elem? places i ≡ some (Some r) → IsIn done r
  pub sums : (f : Record → ℕ) → total (placed_sum f) places ≡ total f done

there : {A : Type 0} (xs : List A) (i : ℕ) → i < length xs → (x : A) × (get_elem? xs i ≡ some x)
there [] i h = absurd (omega arith)
there (x ∷ xs) zero h = (x, refl)
there (x ∷ xs) (suc i) h = there xs i (omega arith)

one_same : (a b : ℕ) → a ≡ b → one_if (a == b) ≡ 1
one_same a b e = ap one_if (eq-eqb a b e)

same_one : (a b : ℕ) → 1 ≤ one_if (a == b) → a ≡ b
same_one a b h = pick (a == b) refl h
  where
    pick : (t : Bool) → (a == b) ≡ t → 1 ≤ one_if t → a ≡ b
    pick true e h = grind (arith, nat_tests)
    pick false e h = absurd (omega arith)

-- the place of a record of which there is none yet is empty
empty : (lines : ℕ) (done : List Record) (places : List (Option Record)) (r : Record) (i : ℕ) → Holds lines done places → r.line ≡ i + 1 → total (on_line r.line) done ≡ 0
    → (o : Option Record) → get_elem? places i ≡ some o → o ≡ None
empty lines done places r i h is none None at = refl
empty lines done places r i h is none (Some s) at =
    let l = h.at i s at in
    let one : one_if (s.line == r.line) ≡ 1 = one_same s.line r.line (l ∙ sym is) in
    let t = total_one (placed_sum (on_line r.line)) places i (Some s) at in
    let u = h.sums (on_line r.line) in
    absurd (omega arith)

-- one record more
put_one : (lines : ℕ) (done : List Record) (places : List (Option Record)) (r : Record) (i : ℕ) → Holds lines done places → r.line ≡ i + 1 → i < lines → total (on_line r.line) done
    ≡ 0
    → Holds lines (done ++ r ∷ []) (set places i (Some r))
put_one lines done places r i h is lt none =
    let o = there places i (let e = h.len in omega arith) in
    let free : o.0 ≡ None = empty lines done places r i h is none o.0 o.1 in
    let at : get_elem? places i ≡ some None = o.1 ∙ ap some free in
    record {
      len = length-set places i (Some r) ∙ h.len;
      at = λ j s e. spot j s (at_set places i j (Some r) (Some s) e);
      from = λ j s e. origin j s (at_set places i j (Some r) (Some s) e);
      sums = λ f. let a = total_set (placed_sum f) places i None (Some r) at in let b = h.sums f in let c = total_push f done r in omega arith;
    }
  where
    item : (s : Record) → ◌≡◌ {A = Option Record} (Some r) (Some s) → r ≡ s
    item s e = cc

    spot : (j : ℕ) (s : Record) → ((j ≡ i) × (◌≡◌ {A = Option Record} (Some r) (Some s))) ⊎ ((j ≢ i) × (get_elem? places j ≡ some (Some s))) → s.line ≡ j + 1
    spot j s (inl e) = ap (λ (x : Record). x.line) (sym (item s e.1)) ∙ is ∙ ap (λ (n : ℕ). n + 1) (sym e.0)
    spot j s (inr e) = h.at j s e.1

    origin : (j : ℕ) (s : Record) → ((j ≡ i) × (◌≡◌ {A = Option Record} (Some r) (Some s))) ⊎ ((j ≢ i) × (get_elem? places j ≡ some (Some s))) → IsIn (done ++ r ∷ []) s
    origin j s (inl e) = record { place = length done; here = at_last done r (length done) refl ∙ ap some (item s e.1) }
    origin j s (inr e) = let w = h.from j s e.1 in record { place = w.place; here = at_longer done (r ∷ []) w.place s w.here }

-- each record has its own place
put_all : (lines : ℕ) (done rest : List Record) (places : List (Option Record)) → Holds lines done places → ((n : ℕ) → total (on_line n) done + total (on_line n) rest ≤ 1)
    → AllByRecursion (λ r. (1 ≤ r.line) × (r.line ≤ lines)) rest → Holds lines (done ++ rest) (all_placed places rest)
put_all lines done [] places h once within = subst (λ (l : List Record). Holds lines l places) (sym (append_nil done)) h
  where
    append_nil : (xs : List Record) → xs ++ [] ≡ xs
    append_nil [] = refl
    append_nil (x ∷ xs) = ap (λ (l : List Record). x ∷ l) (append_nil xs)
put_all lines done (r ∷ rest) places h once within =
    let i : ℕ = r.line - 1 in
    let low = within.0.0 in
    let high = within.0.1 in
    let is : r.line ≡ i + 1 = omega arith in
    let one : one_if (r.line == r.line) ≡ 1 = one_same r.line r.line refl in
    let o = once r.line in
    let none : total (on_line r.line) done ≡ 0 = omega arith in
    let next = put_one lines done places r i h is (omega arith) none in
    subst (λ (l : List Record). Holds lines l (all_placed (set places i (Some r)) rest)) (append_assoc done (r ∷ []) rest)
    (put_all lines (done ++ r ∷ []) rest (set places i (Some r)) next (λ n. let a = once n in let b = total_push (on_line n) done r in omega arith) within.1)

no_places : (f : Record → ℕ) (n : ℕ) → total (placed_sum f) (replicate n None) ≡ 0
no_places f zero = refl
no_places f (suc n) = let r = no_places f n in omega arith

no_record : (n i : ℕ) (r : Record) → get_elem? (replicate n None) i ≡ some (Some r) → ⊥
no_record zero i r e = some-ne-none (Some r) (sym e)
no_record (suc n) zero r e = none_some (some-injective None (Some r) e)
  where
    none_some : ◌≡◌ {A = Option Record} None (Some r) → ⊥
    none_some h = cc
no_record (suc n) (suc i) r e = no_record n i r e

length_replicate : (n : ℕ) → length (replicate {A = Option Record} n None) ≡ n
length_replicate zero = refl
length_replicate (suc n) = ap suc (length_replicate n)

-- the records of each line once, put at their places
pub put_each : (lines : ℕ) (all : List Record) → EachLineOnce lines all → Holds lines all (all_placed (replicate lines None) all)
put_each lines all e = put_all lines [] all (replicate lines None) (record {
  len = length_replicate lines;
  at = λ i r h. absurd (no_record lines i r h);
  from = λ i r h. absurd (no_record lines i r h);
  sums = λ f. no_places f lines;
}) (λ n. few n (dec_le 1 n) (dec_le n lines)) e.within
  where
    none_beyond : (n : ℕ) → (1 ≤ n → n ≤ lines → ⊥) → (xs : List Record) → AllByRecursion (λ r. (1 ≤ r.line) × (r.line ≤ lines)) xs → total (on_line n) xs ≡ 0
    none_beyond n off [] w = refl
    none_beyond n off (x ∷ xs) w =
        let r = none_beyond n off xs w.1 in
        let z : one_if (x.line == n) ≡ 0 = pick (x.line == n) refl in
        omega arith
      where
        pick : (t : Bool) → (x.line == n) ≡ t → one_if t ≡ 0
        pick false q = refl
        pick true q = let s : x.line ≡ n = grind (arith, nat_tests) in absurd (off (let a = w.0.0 in omega arith) (let a = w.0.1 in omega arith))

    few : (n : ℕ) → Dec (1 ≤ n) → Dec (n ≤ lines) → 0 + total (on_line n) all ≤ 1
    few n (yes a) (yes b) = let o = e.once n a b in omega arith
    few n (yes a) (no b) = let z = none_beyond n (λ x y. b y) all e.within in omega arith
    few n (no a) d = let z = none_beyond n (λ x y. a x) all e.within in omega arith

some_at : (f : Option Record → ℕ) (xs : List (Option Record)) → 1 ≤ total f xs → (i : ℕ) × (o : Option Record) × (get_elem? xs i ≡ some o) × (1 ≤ f o)
some_at f [] h = absurd (omega arith)
some_at f (x ∷ xs) h = pick (f x) refl (λ z. some_at f xs (omega (arith, z)))
  where
    pick : (n : ℕ) → f x ≡ n → (f x ≡ 0 → (i : ℕ) × (o : Option Record) × (get_elem? xs i ≡ some o) × (1 ≤ f o)) → (i : ℕ) × (o : Option Record) × (get_elem? (x ∷ xs) i ≡ some o)
        × (1 ≤ f o)
    pick zero is rest = let r = rest is in (suc r.0, r.1, r.2, r.3)
    pick (suc n) is rest = (zero, x, refl, omega arith)

all_of_each : {A : Type 0} (P : A → Type 0) (xs : List A) → ((i : ℕ) (x : A) → get_elem? xs i ≡ some x → P x) → AllByRecursion P xs
all_of_each P [] h = tt
all_of_each P (x ∷ xs) h = (h 0 x refl, all_of_each P xs (λ i y e. h (suc i) y e))

-- then no place is empty
pub all_filled : (lines : ℕ) (all : List Record) (places : List (Option Record)) → EachLineOnce lines all → Holds lines all places → AllByRecursion (λ p. IsSome p) places
all_filled lines all places e h = all_of_each (λ p. IsSome p) places (λ i p at. pick i p at)
  where
    found : (i : ℕ) (o : Option Record) (j : ℕ) → get_elem? places j ≡ some o → 1 ≤ placed_sum (on_line (i + 1)) o → (s : Record) × (get_elem? places i ≡ some (Some s))
    found i None j at le = absurd (omega arith)
    found i (Some s) j at le =
        let a : s.line ≡ i + 1 = same_one s.line (i + 1) le in
        let b = h.at j s at in
        let c : j ≡ i = omega arith in
        (s, subst (λ (k : ℕ). get_elem? places k ≡ some (Some s)) c at)

    below : (i : ℕ) (xs : List (Option Record)) (p : Option Record) → get_elem? xs i ≡ some p → i < length xs
    below i [] p at = absurd (some-ne-none p (sym at))
    below zero (x ∷ xs) p at = omega arith
    below (suc i) (x ∷ xs) p at = let r = below i xs p at in omega arith

    pick : (i : ℕ) (p : Option Record) → get_elem? places i ≡ some p → IsSome p
    pick i (Some s) at = refl
    pick i None at =
        let b = below i places None at in
        let l = h.len in
        let o = e.once (i + 1) (omega arith) (omega arith) in
        let t = h.sums (on_line (i + 1)) in
        let s = some_at (placed_sum (on_line (i + 1))) places (omega arith) in
        let f = found i s.1 s.0 s.2 s.3 in
        absurd (clash f.0 (some-injective None (Some f.0) (sym at ∙ f.1)))
      where
        clash : (s : Record) → ◌≡◌ {A = Option Record} None (Some s) → ⊥
        clash s q = cc

in_append : (xs ys : List Record) (k : ℕ) (r : Record) → get_elem? (xs ++ ys) k ≡ some r → (get_elem? xs k ≡ some r) ⊎ ((m : ℕ) × (get_elem? ys m ≡ some r))
in_append [] ys k r e = inr (k, e)
in_append (x ∷ xs) ys zero r e = inl e
in_append (x ∷ xs) ys (suc k) r e = in_append xs ys k r e

from_joined : (journals : List (List Record)) (k : ℕ) (r : Record) → get_elem? (joined journals) k ≡ some r → IsFrom journals r
from_joined [] k r e = absurd (some-ne-none r (sym e))
from_joined (j ∷ js) k r e = pick (λ m h. from_joined js m r h) (in_append j (joined js) k r e)
  where
    pick : ((m : ℕ) → get_elem? (joined js) m ≡ some r → IsFrom js r) → (get_elem? j k ≡ some r) ⊎ ((m : ℕ) × (get_elem? (joined js) m ≡ some r)) → IsFrom (j ∷ js) r
    pick later (inl h) = record { worker = 0; journal = j; place = k; there = refl; here = h }
    pick later (inr h) = let f = later h.0 h.1 in record { worker = suc f.worker; journal = f.journal; place = f.place; there = f.there; here = f.here }

sum_joined : (f : Record → ℕ) (journals : List (List Record)) → total f (joined journals) ≡ total (total f) journals
sum_joined f [] = refl
sum_joined f (j ∷ js) = let r = sum_joined f js in let a = total_append f j (joined js) in omega arith

sum_filled : (f : Record → ℕ) (rs : List Record) → total (placed_sum f) (map Some rs) ≡ total f rs
sum_filled f [] = refl
sum_filled f (r ∷ rs) = let a = sum_filled f rs in omega arith

length_filled : (rs : List Record) → length (map {B = Option Record} Some rs) ≡ length rs
length_filled [] = refl
length_filled (r ∷ rs) = ap suc (length_filled rs)

-- the records that fill the places are the journals' in the order of their lines
pub merges : (lines : ℕ) (journals : List (List Record)) (records : List Record) → EachLineOnce lines (joined journals)
    → map Some records ≡ all_placed (replicate lines None) (joined journals) → Merges lines journals records
merges lines journals records e same =
    let h = put_each lines (joined journals) e in record {
      as_many = sym (length_filled records) ∙ ap length same ∙ h.len;
      numbered = λ i r at. h.at i r (ap (λ (l : List (Option Record)). get_elem? l i) (sym same) ∙ at_map Some records i r at);
      from = λ i r at. let w = h.from i r (ap (λ (l : List (Option Record)). get_elem? l i) (sym same) ∙ at_map Some records i r at) in from_joined journals w.place r w.here;
      sums = λ f. sym (sum_filled f records) ∙ ap (total (placed_sum f)) same ∙ h.sums f ∙ sum_joined f journals;
    }

-- records are put one journal after the other
pub placed_append : (places : List (Option Record)) (xs ys : List Record) → all_placed places (xs ++ ys) ≡ all_placed (all_placed places xs) ys
placed_append places [] ys = refl
placed_append places (x ∷ xs) ys = placed_append (set places (x.line - 1) (Some x)) xs ys

pub placed_length : (places : List (Option Record)) (xs : List Record) → length (all_placed places xs) ≡ length places
placed_length places [] = refl
placed_length places (x ∷ xs) = placed_length (set places (x.line - 1) (Some x)) xs ∙ length-set places (x.line - 1) (Some x)

pub all_left : (P : Record → Type 0) (xs ys : List Record) → AllByRecursion P (xs ++ ys) → AllByRecursion P xs
all_left P [] ys h = tt
all_left P (x ∷ xs) ys h = (h.0, all_left P xs ys h.1)

pub all_right : (P : Record → Type 0) (xs ys : List Record) → AllByRecursion P (xs ++ ys) → AllByRecursion P ys
all_right P [] ys h = h
all_right P (x ∷ xs) ys h = all_right P xs ys h.1
