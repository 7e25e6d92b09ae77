-- Links that are put at the places of their numbers are each at their own place.
use Rattle.std.proofs.Common.{◌≡◌, ◌≢◌, ◌⊎◌, inl, inr, ℕ, zero, suc, ◌+◌, ◌≤◌, ◌<◌, ◌==◌, List, [], ◌∷◌, ◌++◌, length, map, set, replicate, Bool, true, false, refl}
use Rattle.std.proofs.Common.{sym, ap, ◌∙◌, subst, arith}
use Rattle.std.proofs.Common.{append_assoc, eq-eqb, Some, None}
use Rattle.std.proofs.lemmas.Bool.Decides.{nat_tests}
use Rattle.std.proofs.Math.ListN.{length-set}
use Rattle.std.specs.Prelude.{IsSome}
use Rattle.std.specs.List.{AllByRecursion}
use Rattle.std.specs.declared.option.Option.{Option}
use mathlib.Core.Option.{some, some-injective, some-ne-none}
use native.Mathlib.Decide.{dec_lt}
use lib.ListN.{get_elem?}
use Rattle.atomic_table.proofs.Lists.{at_set, at_longer, at_last, at_map}
use Rattle.rate_types.specs.Sums.{total, one_if}
use Rattle.rate_types.proofs.Sums.{total_set, total_append, total_push, total_one}
use Rattle.http_serve.specs.Service.{Service}
use Rattle.http_serve.specs.Merged.{joined, on_number, all_placed, EachNumberOnce, Merges}

-- a sum at one place
abbrev placed_sum : (Service → ℕ) → Option Service → ℕ
placed_sum f None = 0
placed_sum f (Some r) = f r

-- where a link is among the joined ones
pub record IsIn (xs : List Service) (r : Service) : Type 0 where
  pub place : ℕ
  pub here : get_elem? xs place ≡ some r

-- these links lie at their places
pub record Holds (count : ℕ) (done : List Service) (places : List (Option Service)) : Type 0 where
  pub len : length places ≡ count
  pub at : (i : ℕ) (r : Service) → get_elem? places i ≡ some (Some r) → r.number ≡ i
  pub from : (i : ℕ) (r : Service) → get_elem? places i ≡ some (Some r) → IsIn done r
  pub sums : (f : Service → ℕ) → total (placed_sum f) places ≡ total f done

there : {A : Type 0} (xs : List A) (i : ℕ) → i < length xs → (x : A) × (get_elem? xs i ≡ some x)
there [] i h = absurd (omega arith)
there (x ∷ xs) zero h = (x, refl)
there (x ∷ xs) (suc i) h = there xs i (omega arith)

one_same : (a b : ℕ) → a ≡ b → one_if (a == b) ≡ 1
one_same a b e = ap one_if (eq-eqb a b e)

same_one : (a b : ℕ) → 1 ≤ one_if (a == b) → a ≡ b
same_one a b h = pick (a == b) refl h
  where
    pick : (t : Bool) → (a == b) ≡ t → 1 ≤ one_if t → a ≡ b
    pick true e h = grind (arith, nat_tests)
    pick false e h = absurd (omega arith)

-- the place of a link of which there is none yet is empty
empty : (count : ℕ) (done : List Service) (places : List (Option Service)) (r : Service) (i : ℕ) → Holds count done places → r.number ≡ i → total (on_number r.number) done ≡ 0
    → (o : Option Service) → get_elem? places i ≡ some o → o ≡ None
empty count done places r i h is none None at = refl
empty count done places r i h is none (Some s) at =
    let l = h.at i s at in
    let one : one_if (s.number == r.number) ≡ 1 = one_same s.number r.number (l ∙ sym is) in
    let t = total_one (placed_sum (on_number r.number)) places i (Some s) at in
    let u = h.sums (on_number r.number) in
    absurd (omega arith)

-- one link more
put_one : (count : ℕ) (done : List Service) (places : List (Option Service)) (r : Service) (i : ℕ) → Holds count done places → r.number ≡ i → i < count
    → total (on_number r.number) done ≡ 0
    → Holds count (done ++ r ∷ []) (set places i (Some r))
put_one count done places r i h is lt none =
    let o = there places i (let e = h.len in omega arith) in
    let free : o.0 ≡ None = empty count done places r i h is none o.0 o.1 in
    let at : get_elem? places i ≡ some None = o.1 ∙ ap some free in
    record {
      len = length-set places i (Some r) ∙ h.len;
      at = λ j s e. spot j s (at_set places i j (Some r) (Some s) e);
      from = λ j s e. origin j s (at_set places i j (Some r) (Some s) e);
      sums = λ f. let a = total_set (placed_sum f) places i None (Some r) at in let b = h.sums f in let c = total_push f done r in omega arith;
    }
  where
    item : (s : Service) → ◌≡◌ {A = Option Service} (Some r) (Some s) → r ≡ s
    item s e = cc

    spot : (j : ℕ) (s : Service) → ((j ≡ i) × (◌≡◌ {A = Option Service} (Some r) (Some s))) ⊎ ((j ≢ i) × (get_elem? places j ≡ some (Some s))) → s.number ≡ j
    spot j s (inl e) = ap (λ (x : Service). x.number) (sym (item s e.1)) ∙ is ∙ sym e.0
    spot j s (inr e) = h.at j s e.1

    origin : (j : ℕ) (s : Service) → ((j ≡ i) × (◌≡◌ {A = Option Service} (Some r) (Some s))) ⊎ ((j ≢ i) × (get_elem? places j ≡ some (Some s))) → IsIn (done ++ r ∷ []) s
    origin j s (inl e) = record { place = length done; here = at_last done r (length done) refl ∙ ap some (item s e.1) }
    origin j s (inr e) = let w = h.from j s e.1 in record { place = w.place; here = at_longer done (r ∷ []) w.place s w.here }

-- each link has its own place
put_all : (count : ℕ) (done rest : List Service) (places : List (Option Service)) → Holds count done places → ((n : ℕ) → total (on_number n) done + total (on_number n) rest ≤ 1)
    → AllByRecursion (λ r. r.number < count) rest → Holds count (done ++ rest) (all_placed places rest)
put_all count done [] places h once within = subst (λ (l : List Service). Holds count l places) (sym (append_nil done)) h
  where
    append_nil : (xs : List Service) → xs ++ [] ≡ xs
    append_nil [] = refl
    append_nil (x ∷ xs) = ap (λ (l : List Service). x ∷ l) (append_nil xs)
put_all count done (r ∷ rest) places h once within =
    let i : ℕ = r.number in
    let low = within.0 in
    let is : r.number ≡ i = refl in
    let one : one_if (r.number == r.number) ≡ 1 = one_same r.number r.number refl in
    let o = once r.number in
    let none : total (on_number r.number) done ≡ 0 = omega arith in
    let next = put_one count done places r i h is (omega arith) none in
    subst (λ (l : List Service). Holds count l (all_placed (set places i (Some r)) rest)) (append_assoc done (r ∷ []) rest)
    (put_all count (done ++ r ∷ []) rest (set places i (Some r)) next (λ n. let a = once n in let b = total_push (on_number n) done r in omega arith) within.1)

no_places : (f : Service → ℕ) (n : ℕ) → total (placed_sum f) (replicate n None) ≡ 0
no_places f zero = refl
no_places f (suc n) = let r = no_places f n in omega arith

no_record : (n i : ℕ) (r : Service) → get_elem? (replicate n None) i ≡ some (Some r) → ⊥
no_record zero i r e = some-ne-none (Some r) (sym e)
no_record (suc n) zero r e = none_some (some-injective None (Some r) e)
  where
    none_some : ◌≡◌ {A = Option Service} None (Some r) → ⊥
    none_some h = cc
no_record (suc n) (suc i) r e = no_record n i r e

length_replicate : (n : ℕ) → length (replicate {A = Option Service} n None) ≡ n
length_replicate zero = refl
length_replicate (suc n) = ap suc (length_replicate n)

-- the links of each number once, put at their places
pub put_each : (count : ℕ) (all : List Service) → EachNumberOnce count all → Holds count all (all_placed (replicate count None) all)
put_each count all e = put_all count [] all (replicate count None) (record {
  len = length_replicate count;
  at = λ i r h. absurd (no_record count i r h);
  from = λ i r h. absurd (no_record count i r h);
  sums = λ f. no_places f count;
}) (λ n. few n (dec_lt n count)) e.within
  where
    none_beyond : (n : ℕ) → (n < count → ⊥) → (xs : List Service) → AllByRecursion (λ r. r.number < count) xs → total (on_number n) xs ≡ 0
    none_beyond n off [] w = refl
    none_beyond n off (x ∷ xs) w =
        let r = none_beyond n off xs w.1 in
        let z : one_if (x.number == n) ≡ 0 = pick (x.number == n) refl in
        omega arith
      where
        pick : (t : Bool) → (x.number == n) ≡ t → one_if t ≡ 0
        pick false q = refl
        pick true q = let s : x.number ≡ n = grind (arith, nat_tests) in absurd (off (let a = w.0 in omega arith))

    few : (n : ℕ) → Dec (n < count) → 0 + total (on_number n) all ≤ 1
    few n (yes a) = let o = e.once n a in omega arith
    few n (no a) = let z = none_beyond n a all e.within in omega arith

some_at : (f : Option Service → ℕ) (xs : List (Option Service)) → 1 ≤ total f xs → (i : ℕ) × (o : Option Service) × (get_elem? xs i ≡ some o) × (1 ≤ f o)
some_at f [] h = absurd (omega arith)
some_at f (x ∷ xs) h = pick (f x) refl (λ z. some_at f xs (omega (arith, z)))
  where
    pick : (n : ℕ) → f x ≡ n → (f x ≡ 0 → (i : ℕ) × (o : Option Service) × (get_elem? xs i ≡ some o) × (1 ≤ f o)) → (i : ℕ) × (o : Option Service) × (get_elem? (x ∷ xs) i ≡ some o)
        × (1 ≤ f o)
    pick zero is rest = let r = rest is in (suc r.0, r.1, r.2, r.3)
    pick (suc n) is rest = (zero, x, refl, omega arith)

all_of_each : {A : Type 0} (P : A → Type 0) (xs : List A) → ((i : ℕ) (x : A) → get_elem? xs i ≡ some x → P x) → AllByRecursion P xs
all_of_each P [] h = tt
all_of_each P (x ∷ xs) h = (h 0 x refl, all_of_each P xs (λ i y e. h (suc i) y e))

-- then no place is empty
pub all_filled : (count : ℕ) (all : List Service) (places : List (Option Service)) → EachNumberOnce count all → Holds count all places → AllByRecursion (λ p. IsSome p) places
all_filled count all places e h = all_of_each (λ p. IsSome p) places (λ i p at. pick i p at)
  where
    found : (i : ℕ) (o : Option Service) (j : ℕ) → get_elem? places j ≡ some o → 1 ≤ placed_sum (on_number i) o → (s : Service) × (get_elem? places i ≡ some (Some s))
    found i None j at le = absurd (omega arith)
    found i (Some s) j at le =
        let a : s.number ≡ i = same_one s.number i le in
        let b = h.at j s at in
        let c : j ≡ i = omega arith in
        (s, subst (λ (k : ℕ). get_elem? places k ≡ some (Some s)) c at)

    below : (i : ℕ) (xs : List (Option Service)) (p : Option Service) → get_elem? xs i ≡ some p → i < length xs
    below i [] p at = absurd (some-ne-none p (sym at))
    below zero (x ∷ xs) p at = omega arith
    below (suc i) (x ∷ xs) p at = let r = below i xs p at in omega arith

    pick : (i : ℕ) (p : Option Service) → get_elem? places i ≡ some p → IsSome p
    pick i (Some s) at = refl
    pick i None at =
        let b = below i places None at in
        let l = h.len in
        let o = e.once i (omega arith) in
        let t = h.sums (on_number i) in
        let s = some_at (placed_sum (on_number i)) places (omega arith) in
        let f = found i s.1 s.0 s.2 s.3 in
        absurd (clash f.0 (some-injective None (Some f.0) (sym at ∙ f.1)))
      where
        clash : (s : Service) → ◌≡◌ {A = Option Service} None (Some s) → ⊥
        clash s q = cc

sum_joined : (f : Service → ℕ) (lists : List (List Service)) → total f (joined lists) ≡ total (total f) lists
sum_joined f [] = refl
sum_joined f (j ∷ js) = let r = sum_joined f js in let a = total_append f j (joined js) in omega arith

sum_filled : (f : Service → ℕ) (rs : List Service) → total (placed_sum f) (map Some rs) ≡ total f rs
sum_filled f [] = refl
sum_filled f (r ∷ rs) = let a = sum_filled f rs in omega arith

length_filled : (rs : List Service) → length (map {B = Option Service} Some rs) ≡ length rs
length_filled [] = refl
length_filled (r ∷ rs) = ap suc (length_filled rs)

-- the links that fill the places are the lists' in the order of their numbers
pub merges : (count : ℕ) (lists : List (List Service)) (services : List Service) → EachNumberOnce count (joined lists)
    → map Some services ≡ all_placed (replicate count None) (joined lists) → Merges count lists services
merges count lists services e same =
    let h = put_each count (joined lists) e in record {
      as_many = sym (length_filled services) ∙ ap length same ∙ h.len;
      numbered = λ i r at. h.at i r (ap (λ (l : List (Option Service)). get_elem? l i) (sym same) ∙ at_map Some services i r at);
      sums = λ f. sym (sum_filled f services) ∙ ap (total (placed_sum f)) same ∙ h.sums f ∙ sum_joined f lists;
    }

-- links are put one list after the other
pub placed_append : (places : List (Option Service)) (xs ys : List Service) → all_placed places (xs ++ ys) ≡ all_placed (all_placed places xs) ys
placed_append places [] ys = refl
placed_append places (x ∷ xs) ys = placed_append (set places (x.number) (Some x)) xs ys

pub placed_length : (places : List (Option Service)) (xs : List Service) → length (all_placed places xs) ≡ length places
placed_length places [] = refl
placed_length places (x ∷ xs) = placed_length (set places (x.number) (Some x)) xs ∙ length-set places (x.number) (Some x)

pub all_left : (P : Service → Type 0) (xs ys : List Service) → AllByRecursion P (xs ++ ys) → AllByRecursion P xs
all_left P [] ys h = tt
all_left P (x ∷ xs) ys h = (h.0, all_left P xs ys h.1)

pub all_right : (P : Service → Type 0) (xs ys : List Service) → AllByRecursion P (xs ++ ys) → AllByRecursion P ys
all_right P [] ys h = h
all_right P (x ∷ xs) ys h = all_right P xs ys h.1
