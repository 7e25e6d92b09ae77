-- A ledger under numbers of claims, read as one of counters.
use Rattle.std.proofs.Common.{◌≡◌, ◌⊎◌, ℕ, zero, suc, ◌+◌, ◌≤◌, ◌<◌, ◌==◌, ◌&&◌, List, [], ◌∷◌, ◌++◌, take, Bool, true, false, cond, true≢false, refl, sym, ap, ◌∙◌, subst}
use Rattle.std.proofs.Common.{arith, eq-eqb, inl, inr}
use Rattle.std.specs.Prelude.{nat_lt, sum_by}
use Rattle.std.specs.List.{AllByRecursion}
use Rattle.std.proofs.lemmas.List.Sums.{sum_by-cons}
use native.Mathlib.Decide.{ℕ_discrete, dec_le}
use Rattle.std.proofs.lemmas.Bool.{ne_eqb}
use Rattle.std.proofs.lemmas.Bool.Decides.{nat_tests}
use mathlib.Core.Option.{some, some-injective, some-ne-none}
use lib.ListN.{get_elem?}
use Rattle.rate_types.specs.declared.counter_key.CounterKey.{CounterKey}
use Rattle.rate_types.specs.Counters.{same_counter}
use Rattle.rate_types.specs.Ledger.{Charge, Sight, charged_total, charged_below, charges_at, IsLawfulLedger, IsLawfulSight}
use Rattle.rate_types.specs.Sums.{one_if}
use Rattle.counter_directory.specs.declared.claim.Claim.{Claim}
use Rattle.counter_directory.specs.Claims.{claims_of, IsLawfulClaims}
use Rattle.rate_limiter.specs.Named.{claimed_as, AreNamed}
use Rattle.window_keys.proofs.Counters.{same_is, is_same, not_same}
use Rattle.rate_limiter.proofs.Keys.{key_discrete}
use Rattle.rate_limiter.proofs.Lists.{total_at, total_more, total_some, parts}

module _ {A : Type 0} where
  at_front : (xs : List A) (i n : ℕ) (x : A) → get_elem? xs i ≡ some x → i < n → get_elem? (take n xs) i ≡ some x
  at_front [] i n x e h = absurd (some-ne-none x (sym e))
  at_front (y ∷ ys) i zero x e h = absurd (omega arith)
  at_front (y ∷ ys) zero (suc n) x e h = e
  at_front (y ∷ ys) (suc i) (suc n) x e h = at_front ys i n x e (omega arith)

same_number : (a b : ℕ) → (a == b) ≡ true → a ≡ b
same_number a b t = grind (arith, nat_tests)

-- the claim that binds the counter under the number
found : (q : CounterKey) (n : ℕ) (claims : List Claim) → 1 ≤ claimed_as q n claims → (i : ℕ) × (x : Claim) × (get_elem? claims i ≡ some x) × (x.key ≡ q) × (x.claim ≡ n)
found q n claims h =
    let s = total_some (λ (x : Claim). one_if (same_counter x.key q && (x.claim == n))) claims h in
    let e = parts (same_counter s.1.key q) (s.1.claim == n) s.3 in
    (s.0, s.1, s.2, same_is s.1.key q e.0, same_number s.1.claim n e.1)

pub claimed_more : (q : CounterKey) (n : ℕ) (xs ys : List Claim) → claimed_as q n xs ≤ claimed_as q n (xs ++ ys)
claimed_more q n xs ys = let r = total_more (λ (x : Claim). one_if (same_counter x.key q && (x.claim == n))) xs ys in omega arith

one_of : (a b : Bool) → one_if (a && b) ≤ one_if a
one_of true true = omega arith
one_of true false = omega arith
one_of false b = omega arith

claimed_some : (q : CounterKey) (n : ℕ) (xs : List Claim) → claimed_as q n xs ≤ claims_of q xs
claimed_some q n [] = omega arith
claimed_some q n (x ∷ xs) = let r = claimed_some q n xs in let o = one_of (same_counter x.key q) (x.claim == n) in omega arith

off : (a b : Bool) → a ≡ false → cond {A = ℕ} (a && b) 1 0 ≡ 0
off true b e = absurd (true≢false e)
off false b e = refl

module _ (cells most : ℕ) (claims : List Claim) (law : IsLawfulClaims cells most claims) where
  -- an earlier claim has another counter and another number
  apart : (i j : ℕ) (x y : Claim) → get_elem? claims i ≡ some x → get_elem? claims j ≡ some y → i < j → (x.key ≡ y.key → ⊥) × (x.claim ≡ y.claim → ⊥)
  apart i j x y at there lt =
      let f = law j y there in
      let front = at_front claims i j x at lt in
      let a = total_at (λ (z : Claim). one_if (same_counter z.key y.key)) (take j claims) i x front in
      let b = total_at (λ (z : Claim). one_if (z.claim == y.claim)) (take j claims) i x front in
      let none = f.counter in
      let never = f.number in (
        λ e. let o : one_if (same_counter x.key y.key) ≡ 1 = ap one_if (is_same x.key y.key e) in absurd (omega arith),
        λ e. let o : one_if (x.claim == y.claim) ≡ 1 = ap one_if (eq-eqb x.claim y.claim e) in absurd (omega arith),
      )

  -- two bound counters are the same exactly where their numbers are
  pub one_claim : (p q : CounterKey) (m n : ℕ) → 1 ≤ claimed_as p m claims → 1 ≤ claimed_as q n claims → (p ≡ q → m ≡ n) × (m ≡ n → p ≡ q)
  one_claim p q m n hp hq =
      let s = found p m claims hp in
      let t = found q n claims hq in
      pick s.0 t.0 s.1 t.1 s.2 t.2 s.3 s.4 t.3 t.4 (ℕ_discrete s.0 t.0) (dec_le t.0 s.0)
    where
      pick : (i j : ℕ) (x y : Claim) → get_elem? claims i ≡ some x → get_elem? claims j ≡ some y → x.key ≡ p → x.claim ≡ m → y.key ≡ q → y.claim ≡ n
          → Dec (i ≡ j) → Dec (j ≤ i) → (p ≡ q → m ≡ n) × (m ≡ n → p ≡ q)
      pick i j x y at there a b d e (yes same) le =
          let xy : x ≡ y = some-injective x y (sym at ∙ ap (get_elem? claims) same ∙ there) in
          (λ g. sym b ∙ ap (λ (z : Claim). z.claim) xy ∙ e, λ g. sym a ∙ ap (λ (z : Claim). z.key) xy ∙ d)
      pick i j x y at there a b d e (no ne) (yes le) =
          let r = apart j i y x there at (less i j ne le) in
          (λ g. absurd (r.0 (d ∙ sym g ∙ sym a)), λ g. absurd (r.1 (e ∙ sym g ∙ sym b)))
        where
          less : (i j : ℕ) → (i ≡ j → ⊥) → j ≤ i → j < i
          less i j ne le = pick2 (ℕ_discrete i j)
            where
              pick2 : Dec (i ≡ j) → j < i
              pick2 (yes e) = absurd (ne e)
              pick2 (no n) = omega arith
      pick i j x y at there a b d e (no ne) (no gt) =
          let r = apart i j x y at there (more i j gt) in
          (λ g. absurd (r.0 (a ∙ g ∙ sym d)), λ g. absurd (r.1 (b ∙ g ∙ sym e)))
        where
          more : (i j : ℕ) → (j ≤ i → ⊥) → i < j
          more i j gt = pick3 (dec_le j i)
            where
              pick3 : Dec (j ≤ i) → i < j
              pick3 (yes e) = absurd (gt e)
              pick3 (no n) = omega arith

  same_test : (p q : CounterKey) (m n : ℕ) → 1 ≤ claimed_as p m claims → 1 ≤ claimed_as q n claims → same_counter p q ≡ (m == n)
  same_test p q m n hp hq = let o = one_claim p q m n hp hq in pick o (key_discrete p q)
    where
      pick : (p ≡ q → m ≡ n) × (m ≡ n → p ≡ q) → Dec (p ≡ q) → same_counter p q ≡ (m == n)
      pick o (yes e) = is_same p q e ∙ sym (eq-eqb m n (o.0 e))
      pick o (no ne) = not_same p q ne ∙ sym (ne_eqb m n (λ e. ne (o.1 e)))

  -- what is summed over the charges under a number is what is summed over those on its counter
  same_sum : (f : ℕ → ℕ → ℕ) (p : CounterKey) (m : ℕ) → 1 ≤ claimed_as p m claims → (xs : List (Charge ℕ)) (ys : List (Charge CounterKey)) → AreNamed claims xs ys
      → sum_by (λ (y : Charge CounterKey). cond (same_counter y.counter p) (f y.before y.hits) 0) ys ≡ sum_by (λ (x : Charge ℕ). cond (x.counter == m) (f x.before x.hits) 0) xs
  same_sum f p m h [] [] a = refl
  same_sum f p m h [] (y ∷ ys) a = absurd a
  same_sum f p m h (x ∷ xs) [] a = absurd a
  same_sum f p m h (x ∷ xs) (y ∷ ys) a =
      let r = same_sum f p m h xs ys a.1 in
      let t : cond (same_counter y.counter p) (f y.before y.hits) 0 ≡ cond (x.counter == m) (f x.before x.hits) 0
      = λ i. cond (same_test y.counter p x.counter m a.0.bound h i) (f (sym a.0.before i) (sym a.0.hits i)) 0 in
      let s = sum_by-cons (λ (y : Charge CounterKey). cond (same_counter y.counter p) (f y.before y.hits) 0) y ys in
      let u = sum_by-cons (λ (x : Charge ℕ). cond (x.counter == m) (f x.before x.hits) 0) x xs in
      omega arith

  split_if : (a b : Bool) (n : ℕ) → cond (a && b) n 0 ≡ cond a (cond b n 0) 0
  split_if true b n = refl
  split_if false b n = refl

  module _ (xs : List (Charge ℕ)) (ys : List (Charge CounterKey)) (all : AreNamed claims xs ys) where
    pub same_total : (p : CounterKey) (m : ℕ) → 1 ≤ claimed_as p m claims → charged_total same_counter p ys ≡ charged_total ◌==◌ m xs
    same_total p m h = same_sum (λ b n. n) p m h xs ys all

    pub same_below : (p : CounterKey) (m bound : ℕ) → 1 ≤ claimed_as p m claims → charged_below same_counter p bound ys ≡ charged_below ◌==◌ m bound xs
    same_below p m bound h =
        (λ i. sum_by (λ (y : Charge CounterKey). split_if (same_counter y.counter p) (nat_lt y.before bound) y.hits i) ys)
        ∙ same_sum (λ b n. cond (nat_lt b bound) n 0) p m h xs ys all
        ∙ (λ i. sum_by (λ (x : Charge ℕ). sym (split_if (x.counter == m) (nat_lt x.before bound) x.hits) i) xs)

    same_at : (p : CounterKey) (m before : ℕ) → 1 ≤ claimed_as p m claims → charges_at same_counter p before ys ≡ charges_at ◌==◌ m before xs
    same_at p m before h =
        (λ i. sum_by (λ (y : Charge CounterKey). split_if (same_counter y.counter p) (y.before == before) 1 i) ys)
        ∙ same_sum (λ b n. cond (b == before) 1 0) p m h xs ys all
        ∙ (λ i. sum_by (λ (x : Charge ℕ). sym (split_if (x.counter == m) (x.before == before) 1) i) xs)

    each_hits : (us : List (Charge ℕ)) (vs : List (Charge CounterKey)) → AreNamed claims us vs → AllByRecursion (λ (x : Charge ℕ). 1 ≤ x.hits) us
        → AllByRecursion (λ (y : Charge CounterKey). 1 ≤ y.hits) vs
    each_hits [] [] a h = tt
    each_hits [] (v ∷ vs) a h = absurd a
    each_hits (u ∷ us) [] a h = absurd a
    each_hits (u ∷ us) (v ∷ vs) a h = let e = a.0.hits in let o = h.0 in (omega arith, each_hits us vs a.1 h.1)

    each_sum : (us : List (Charge ℕ)) (vs : List (Charge CounterKey)) → AreNamed claims us vs
        → AllByRecursion (λ (x : Charge ℕ). x.before ≡ charged_below ◌==◌ x.counter x.before xs) us
        → AllByRecursion (λ (y : Charge CounterKey). y.before ≡ charged_below same_counter y.counter y.before ys) vs
    each_sum [] [] a h = tt
    each_sum [] (v ∷ vs) a h = absurd a
    each_sum (u ∷ us) [] a h = absurd a
    each_sum (u ∷ us) (v ∷ vs) a h =
        (sym a.0.before ∙ h.0 ∙ sym (same_below v.counter u.counter u.before a.0.bound) ∙ ap (λ b. charged_below same_counter v.counter b ys) a.0.before, each_sum us vs a.1 h.1)

    -- either the counter is one that was charged, or nothing was charged on it
    charged_or_not : (q : CounterKey) (before : ℕ) (us : List (Charge ℕ)) (vs : List (Charge CounterKey)) → AreNamed claims us vs
        → ((m : ℕ) × (1 ≤ claimed_as q m claims)) ⊎ (charges_at same_counter q before vs ≡ 0)
    charged_or_not q before [] [] a = inr refl
    charged_or_not q before [] (v ∷ vs) a = absurd a
    charged_or_not q before (u ∷ us) [] a = absurd a
    charged_or_not q before (u ∷ us) (v ∷ vs) a = pick (key_discrete v.counter q) (charged_or_not q before us vs a.1)
      where
        pick : Dec (v.counter ≡ q) → ((m : ℕ) × (1 ≤ claimed_as q m claims)) ⊎ (charges_at same_counter q before vs ≡ 0)
            → ((m : ℕ) × (1 ≤ claimed_as q m claims)) ⊎ (charges_at same_counter q before (v ∷ vs) ≡ 0)
        pick (yes e) r = inl (u.counter, subst (λ k. 1 ≤ claimed_as k u.counter claims) e a.0.bound)
        pick (no ne) (inl r) = inl r
        pick (no ne) (inr z) =
            let s = sum_by-cons (λ (y : Charge CounterKey). cond (same_counter y.counter q && (y.before == before)) 1 0) v vs in
            let o : cond (same_counter v.counter q && (v.before == before)) 1 0 ≡ 0 = off (same_counter v.counter q) (v.before == before) (not_same v.counter q ne) in
            let p : 0 + charges_at same_counter q before vs ≡ 0 = omega arith in
            inr (s ∙ ap (λ n. n + charges_at same_counter q before vs) o ∙ p)

    -- the ledger of counters is lawful where that under numbers is
    pub ledger_named : IsLawfulLedger ◌==◌ xs → IsLawfulLedger same_counter ys
    ledger_named l = record {
      hits = each_hits xs ys all l.hits;
      sums = each_sum xs ys all l.sums;
      apart = λ q before. once q before (charged_or_not q before xs ys all);
    }
      where
        once : (q : CounterKey) (before : ℕ) → ((m : ℕ) × (1 ≤ claimed_as q m claims)) ⊎ (charges_at same_counter q before ys ≡ 0) → charges_at same_counter q before ys ≤ 1
        once q before (inl r) = let e = same_at q r.0 before r.1 in let o = l.apart r.0 before in omega arith
        once q before (inr z) = omega arith

    -- a sight of a counter is lawful where that under its number is
    pub sight_named : (number : ℕ) (y : Sight CounterKey) → 1 ≤ claimed_as y.counter number claims → y.seen ≡ charged_below ◌==◌ number y.seen xs
        → IsLawfulSight same_counter ys y
    sight_named number y h law = law ∙ sym (same_below y.counter number y.seen h)

    -- a counter that was charged has a claim
    some_claim : (q : CounterKey) (us : List (Charge ℕ)) (vs : List (Charge CounterKey)) → AreNamed claims us vs → 0 < charged_total same_counter q vs
        → 1 ≤ claims_of q claims
    some_claim q [] [] a more = absurd (omega arith)
    some_claim q [] (v ∷ vs) a more = absurd a
    some_claim q (u ∷ us) [] a more = absurd a
    some_claim q (u ∷ us) (v ∷ vs) a more = pick (key_discrete v.counter q) (some_claim q us vs a.1)
      where
        pick : Dec (v.counter ≡ q) → (0 < charged_total same_counter q vs → 1 ≤ claims_of q claims) → 1 ≤ claims_of q claims
        pick (yes e) rest =
            let c = claimed_some q u.counter claims in
            let h : 1 ≤ claimed_as q u.counter claims = subst (λ k. 1 ≤ claimed_as k u.counter claims) e a.0.bound in
            omega arith
        pick (no ne) rest =
            let s = sum_by-cons (λ (y : Charge CounterKey). cond (same_counter y.counter q) y.hits 0) v vs in
            let o : cond (same_counter v.counter q) v.hits 0 ≡ 0 = ap (λ b. cond b v.hits 0) (not_same v.counter q ne) in
            rest (omega arith)

    pub charged_claimed : (q : CounterKey) → 0 < charged_total same_counter q ys → 1 ≤ claims_of q claims
    charged_claimed q more = some_claim q xs ys all more
