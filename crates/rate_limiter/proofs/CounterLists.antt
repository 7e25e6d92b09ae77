-- How often a counter is in a list, and lists in which none is twice.
use Rattle.std.proofs.Common.{◌≡◌, ℕ, zero, suc, ◌+◌, ◌≤◌, ◌||◌, List, [], ◌∷◌, length, take, filter, Bool, true, false, cond, refl, sym, ap, ◌∙◌, arith, true≢false}
use Rattle.std.proofs.lemmas.Bool.{lt-ltb}
use Rattle.std.proofs.lemmas.List.Sums.{sum_by-cons}
use Rattle.std.specs.Prelude.{nat_lt, count_by}
use Rattle.std.specs.List.{AllByRecursion, list_any}
use Rattle.rate_types.specs.Counters.{same_counter}
use Rattle.rate_types.specs.Sums.{total, one_if}
use Rattle.rate_types.specs.declared.counter_key.CounterKey.{CounterKey}
use Rattle.window_keys.proofs.Counters.{same_is, same_itself, same_either}

-- how often a counter is in a list
abbrev pub count : CounterKey → List CounterKey → ℕ
count c xs = total (λ (k : CounterKey). one_if (same_counter k c)) xs

-- no counter is in the list twice
abbrev pub Differ : List CounterKey → Type 0
Differ xs = (c : CounterKey) → count c xs ≤ 1

-- ---- the tests that clauses use

abbrev pub among : List CounterKey → CounterKey → Bool
among xs c = list_any (λ k. same_counter c k) xs

pub among_count : (xs : List CounterKey) (c : CounterKey) → among xs c ≡ nat_lt 0 (count c xs)
among_count [] c = refl
among_count (x ∷ xs) c = ap (λ b. b || among xs c) (same_either c x) ∙ ap (λ b. same_counter x c || b) (among_count xs c) ∙ by (same_counter x c) (count c xs)
  where
    by : (b : Bool) (n : ℕ) → (b || nat_lt 0 n) ≡ nat_lt 0 (one_if b + n)
    by true n = sym (lt-ltb 0 (1 + n) (omega arith))
    by false n = let e : n ≡ 0 + n = omega arith in ap (nat_lt 0) e

pub among_from_count : (xs : List CounterKey) (c : CounterKey) → 1 ≤ count c xs → among xs c ≡ true
among_from_count xs c h = among_count xs c ∙ lt-ltb 0 (count c xs) (omega arith)

pub count_from_among : (xs : List CounterKey) (c : CounterKey) → among xs c ≡ true → 1 ≤ count c xs
count_from_among xs c h = pick (count c xs) refl
  where
    pick : (n : ℕ) → count c xs ≡ n → 1 ≤ n
    pick zero e = absurd (true≢false (sym h ∙ among_count xs c ∙ ap (nat_lt 0) e))
    pick (suc n) e = omega arith

pub counted : (xs : List CounterKey) (c : CounterKey) → count_by (λ k. same_counter c k) xs ≡ count c xs
counted [] c = refl
counted (x ∷ xs) c =
    let s = sum_by-cons (λ (k : CounterKey). cond (same_counter c k) 1 0) x xs in
    let r = counted xs c in
    let e = ap one_if (same_either c x) in
    omega arith

-- what each counter of a list passes, each item passes
pub all_of : (P : CounterKey → Type 0) (xs : List CounterKey) → ((k : CounterKey) → 1 ≤ count k xs → P k) → AllByRecursion P xs
all_of P [] h = tt
all_of P (x ∷ xs) h =
    let me = ap one_if (same_itself x) in
    (h x (omega arith), all_of P xs (λ k more. h k (omega arith)))

-- ---- a list inside another one

without : CounterKey → List CounterKey → List CounterKey
without c [] = []
without c (x ∷ xs) = cond (same_counter x c) xs (x ∷ without c xs)

without_count : (c q : CounterKey) (xs : List CounterKey) → 1 ≤ count c xs → count q (without c xs) + one_if (same_counter c q) ≡ count q xs
unfolding without
without_count c q [] h = absurd (omega arith)
without_count c q (x ∷ xs) h = by (same_counter x c) refl (λ m. without_count c q xs m)
  where
    by : (b : Bool) → same_counter x c ≡ b → (1 ≤ count c xs → count q (without c xs) + one_if (same_counter c q) ≡ count q xs)
        → count q (cond b xs (x ∷ without c xs)) + one_if (same_counter c q) ≡ one_if (same_counter x q) + count q xs
    by true e more = let s = ap (λ (k : CounterKey). one_if (same_counter k q)) (same_is x c e) in omega arith
    by false e more = let o = ap one_if e in let r = more (omega arith) in omega arith

without_length : (c : CounterKey) (xs : List CounterKey) → 1 ≤ count c xs → suc (length (without c xs)) ≡ length xs
unfolding without
without_length c [] h = absurd (omega arith)
without_length c (x ∷ xs) h = by (same_counter x c) refl (λ m. without_length c xs m)
  where
    by : (b : Bool) → same_counter x c ≡ b → (1 ≤ count c xs → suc (length (without c xs)) ≡ length xs) → suc (length (cond b xs (x ∷ without c xs))) ≡ suc (length xs)
    by true e more = refl
    by false e more = let o = ap one_if e in ap suc (more (omega arith))

-- a list that has no counter more often than another one is no longer
pub no_longer : (xs ys : List CounterKey) → ((c : CounterKey) → count c xs ≤ count c ys) → length xs ≤ length ys
no_longer [] ys h = omega arith
no_longer (x ∷ xs) ys h =
    let me = ap one_if (same_itself x) in
    let first = h x in
    let there : 1 ≤ count x ys = omega arith in
    let n = without_length x ys there in
    let r = no_longer xs (without x ys) (λ c. let w = without_count x c ys there in let i = h c in omega arith) in
    omega arith

pub inside : (xs ys : List CounterKey) → Differ xs → ((c : CounterKey) → 1 ≤ count c xs → 1 ≤ count c ys) → (c : CounterKey) → count c xs ≤ count c ys
inside xs ys differ h c = pick (count c xs) refl
  where
    pick : (n : ℕ) → count c xs ≡ n → n ≤ count c ys
    pick zero e = omega arith
    pick (suc n) e = let d = differ c in let t = h c (omega arith) in omega arith

-- ---- parts of a list

pub front_count : (n : ℕ) (xs : List CounterKey) (c : CounterKey) → count c (take n xs) ≤ count c xs
front_count zero xs c = omega arith
front_count (suc n) [] c = omega arith
front_count (suc n) (x ∷ xs) c = let r = front_count n xs c in omega arith

pub filter_count : (t : CounterKey → Bool) (xs : List CounterKey) (c : CounterKey) → count c (filter t xs) ≡ cond (t c) (count c xs) 0
filter_count t [] c = by (t c)
  where
    by : (b : Bool) → count c [] ≡ cond b (count c []) 0
    by true = refl
    by false = refl
filter_count t (x ∷ xs) c = by (t x) (t c) (same_counter x c) refl refl refl (filter_count t xs c)
  where
    by : (a b s : Bool) → t x ≡ a → t c ≡ b → same_counter x c ≡ s → count c (filter t xs) ≡ cond (t c) (count c xs) 0
        → count c (cond a (x ∷ filter t xs) (filter t xs)) ≡ cond b (one_if (same_counter x c) + count c xs) 0
    by true true s ta tb e more = let r = more ∙ ap (λ d. cond d (count c xs) 0) tb in omega arith
    by true false true ta tb e more = absurd (true≢false (sym ta ∙ ap t (same_is x c e) ∙ tb))
    by true false false ta tb e more = let r = more ∙ ap (λ d. cond d (count c xs) 0) tb in let o = ap one_if e in omega arith
    by false true true ta tb e more = absurd (true≢false (sym tb ∙ ap t (sym (same_is x c e)) ∙ ta))
    by false true false ta tb e more = let r = more ∙ ap (λ d. cond d (count c xs) 0) tb in let o = ap one_if e in omega arith
    by false false s ta tb e more = let r = more ∙ ap (λ d. cond d (count c xs) 0) tb in omega arith
