-- Lawful ledgers of single hits: a limit admits the smaller of itself and all hits of a counter.
use Rattle.std.proofs.Common.{◌≡◌, ℕ, zero, suc, ◌+◌, ◌-◌, ◌≤◌, ◌==◌, ◌&&◌, Bool, true, false, cond, List, [], ◌∷◌, nat_lt, min}
use Rattle.std.proofs.Common.{◌⊎◌, inl, inr, ⊎_elim, refl, ap, arith}
use Rattle.std.specs.Prelude.{nat_le}
use Rattle.std.proofs.lemmas.Bool.Decides.{nat_tests}
use Rattle.std.proofs.lemmas.List.Sums.{sum_by-cons}
use Rattle.std.specs.List.{AllByRecursion}
use Rattle.rate_types.specs.Counters.{same_counter}
use Rattle.rate_types.specs.declared.counter_key.CounterKey.{CounterKey}
use Rattle.rate_types.specs.Ledger.{Charge, Sight, charged_below, charged_total, charges_at, admitted_in, IsLawfulLedger, IsLawfulSight}
use Rattle.window_keys.proofs.Counters.{same_is}

-- each charge is of one hit
abbrev pub AreSingle : List (Charge CounterKey) → Type 0
AreSingle ledger = AllByRecursion (λ x. x.hits ≡ 1) ledger

module _ (c : CounterKey) where
  -- with one more before them come those with just so much before them
  below_more : (k : ℕ) (ledger : List (Charge CounterKey)) → AreSingle ledger
      → charged_below same_counter c (suc k) ledger ≡ charged_below same_counter c k ledger + charges_at same_counter c k ledger
  below_more k [] single = refl
  below_more k (y ∷ ys) single =
      let more = below_more k ys single.1 in
      let a = sum_by-cons (λ x. cond (same_counter x.counter c && nat_lt x.before (suc k)) x.hits 0) y ys in
      let b = sum_by-cons (λ x. cond (same_counter x.counter c && nat_lt x.before k) x.hits 0) y ys in
      let d = sum_by-cons (λ x. cond (same_counter x.counter c && (x.before == k)) 1 0) y ys in
      let one = by (same_counter y.counter c) (nat_lt y.before k) (y.before == k) refl refl in
      omega (arith, more, a, b, d, one)
    where
      hit : y.hits ≡ 1
      hit = single.0

      by : (f less same : Bool) → nat_lt y.before k ≡ less → (y.before == k) ≡ same
          → cond (f && nat_lt y.before (suc k)) y.hits 0 ≡ cond (f && nat_lt y.before k) y.hits 0 + cond (f && (y.before == k)) 1 0
      by false less same p q = omega arith
      by true true same p q =
          let next : nat_lt y.before (suc k) ≡ true = grind (arith, nat_tests) in
          let no : (y.before == k) ≡ false = grind (arith, nat_tests) in
          rw (p, next, no) (omega arith)
      by true false true p q =
          let next : nat_lt y.before (suc k) ≡ true = grind (arith, nat_tests) in rw (p, next, q) (omega (arith, hit))
      by true false false p q = let next : nat_lt y.before (suc k) ≡ false = grind (arith, nat_tests) in rw (p, next, q) (omega arith)

  -- each step up to a bound adds at most one hit
  below_far : (k d : ℕ) (ledger : List (Charge CounterKey)) → AreSingle ledger → ((b : ℕ) → charges_at same_counter c b ledger ≤ 1)
      → charged_below same_counter c (d + k) ledger ≤ charged_below same_counter c k ledger + d
  below_far k zero ledger single apart = let e : zero + k ≡ k = omega arith in rw e (omega arith)
  below_far k (suc d) ledger single apart =
      let so_far = below_far k d ledger single apart in
      let e : suc d + k ≡ suc (d + k) = omega arith in
      let more = below_more (d + k) ledger single in
      let few = apart (d + k) in
      rw e (omega (arith, so_far, more, few))

  -- no charge has less than 0 before it, and no more than all hits are below a bound
  below_all : (k : ℕ) (ledger : List (Charge CounterKey)) → charged_below same_counter c k ledger ≤ charged_total same_counter c ledger
  below_all k [] = omega arith
  below_all k (y ∷ ys) =
      let more = below_all k ys in
      let a = sum_by-cons (λ x. cond (same_counter x.counter c && nat_lt x.before k) x.hits 0) y ys in
      let b = sum_by-cons (λ x. cond (same_counter x.counter c) x.hits 0) y ys in
      let one = by (same_counter y.counter c) (nat_lt y.before k) in
      omega (arith, more, a, b, one)
    where
      by : (f less : Bool) → cond (f && less) y.hits 0 ≤ cond f y.hits 0
      by true true = omega arith
      by true false = omega arith
      by false less = omega arith

  module _ (limit : ℕ) where
    -- single hits that end within a limit have less than the limit before them
    admitted_below : (ledger : List (Charge CounterKey)) → AreSingle ledger
        → admitted_in same_counter c limit ledger ≡ charged_below same_counter c limit ledger
    admitted_below [] single = refl
    admitted_below (y ∷ ys) single =
        let more = admitted_below ys single.1 in
        let a = sum_by-cons (λ x. cond (same_counter x.counter c && nat_le (x.before + x.hits) limit) x.hits 0) y ys in
        let b = sum_by-cons (λ x. cond (same_counter x.counter c && nat_lt x.before limit) x.hits 0) y ys in
        let one = by (same_counter y.counter c) (nat_lt y.before limit) refl in
        omega (arith, more, a, b, one)
      where
        hit : y.hits ≡ 1
        hit = single.0

        by : (f less : Bool) → nat_lt y.before limit ≡ less
            → cond (f && nat_le (y.before + y.hits) limit) y.hits 0 ≡ cond (f && nat_lt y.before limit) y.hits 0
        by false less p = refl
        by true true p = let e : nat_le (y.before + y.hits) limit ≡ true = grind (arith, nat_tests) in rw (p, e) refl
        by true false p = let e : nat_le (y.before + y.hits) limit ≡ false = grind (arith, nat_tests) in rw (p, e) refl

    -- hits that end within a limit are some of all
    pub admits_some : (ledger : List (Charge CounterKey)) → admitted_in same_counter c limit ledger ≤ charged_total same_counter c ledger
    admits_some [] = omega arith
    admits_some (y ∷ ys) =
        let more = admits_some ys in
        let a = sum_by-cons (λ x. cond (same_counter x.counter c && nat_le (x.before + x.hits) limit) x.hits 0) y ys in
        let b = sum_by-cons (λ x. cond (same_counter x.counter c) x.hits 0) y ys in
        let one = by (same_counter y.counter c) (nat_le (y.before + y.hits) limit) in
        omega (arith, more, a, b, one)
      where
        by : (f ends : Bool) → cond (f && ends) y.hits 0 ≤ cond f y.hits 0
        by true true = omega arith
        by true false = omega arith
        by false ends = omega arith

    -- a charge of the counter with the limit or more before it
    record Late (P : Charge CounterKey → Type 0) : Type 0 where
      charge : Charge CounterKey
      known : P charge
      same : same_counter charge.counter c ≡ true
      late : limit ≤ charge.before

    -- there is one, or all hits have less before them
    all_or_late : (P : Charge CounterKey → Type 0) (ledger : List (Charge CounterKey)) → AllByRecursion P ledger
        → (charged_total same_counter c ledger ≡ charged_below same_counter c limit ledger) ⊎ Late P
    all_or_late P [] all = inl refl
    all_or_late P (y ∷ ys) all =
        by (all_or_late P ys all.1) (same_counter y.counter c) (nat_lt y.before limit) refl refl
      where
        a : charged_total same_counter c (y ∷ ys) ≡ cond (same_counter y.counter c) y.hits 0 + charged_total same_counter c ys
        a = sum_by-cons (λ x. cond (same_counter x.counter c) x.hits 0) y ys

        b : charged_below same_counter c limit (y ∷ ys)
            ≡ cond (same_counter y.counter c && nat_lt y.before limit) y.hits 0 + charged_below same_counter c limit ys
        b = sum_by-cons (λ x. cond (same_counter x.counter c && nat_lt x.before limit) x.hits 0) y ys

        kept : (charged_total same_counter c ys ≡ charged_below same_counter c limit ys) ⊎ Late P
            → cond (same_counter y.counter c) y.hits 0 ≡ cond (same_counter y.counter c && nat_lt y.before limit) y.hits 0
            → (charged_total same_counter c (y ∷ ys) ≡ charged_below same_counter c limit (y ∷ ys)) ⊎ Late P
        kept (inl e) one = inl (omega (arith, e, one, a, b))
        kept (inr l) one = inr l

        by : (charged_total same_counter c ys ≡ charged_below same_counter c limit ys) ⊎ Late P → (f less : Bool)
            → same_counter y.counter c ≡ f → nat_lt y.before limit ≡ less
            → (charged_total same_counter c (y ∷ ys) ≡ charged_below same_counter c limit (y ∷ ys)) ⊎ Late P
        by rest false less p q = kept rest (rw p refl)
        by rest true true p q = kept rest (rw (p, q) refl)
        by rest true false p q = inr (record { charge = y; known = all.0; same = p; late = grind (arith, nat_tests) })

    -- where there is a late charge, so many hits as the limit have less before them
    reached : (ledger : List (Charge CounterKey)) → AreSingle ledger → ((b : ℕ) → charges_at same_counter c b ledger ≤ 1)
        → Late (λ x. x.before ≡ charged_below same_counter x.counter x.before ledger) → limit ≤ charged_below same_counter c limit ledger
    reached ledger single apart l = by l.late
      where
        known : l.charge.before ≡ charged_below same_counter l.charge.counter l.charge.before ledger
        known = l.known

        mine : charged_below same_counter l.charge.counter l.charge.before ledger ≡ charged_below same_counter c l.charge.before ledger
        mine = ap (λ q. charged_below same_counter q l.charge.before ledger) (same_is l.charge.counter c l.same)

        by : limit ≤ l.charge.before → limit ≤ charged_below same_counter c limit ledger
        by late =
            let far = below_far limit (l.charge.before - limit) ledger single apart in
            let e : (l.charge.before - limit) + limit ≡ l.charge.before = omega arith in
            let at : charged_below same_counter c ((l.charge.before - limit) + limit) ledger ≡ charged_below same_counter c l.charge.before ledger =
            ap (λ n. charged_below same_counter c n ledger) e in
            omega (arith, far, at, known, mine)

    -- a limit admits all hits, or as many as itself
    pub admits : (ledger : List (Charge CounterKey)) → AreSingle ledger → IsLawfulLedger same_counter ledger
        → min (charged_total same_counter c ledger) limit ≤ admitted_in same_counter c limit ledger
    admits ledger single lawful =
        let is = admitted_below ledger single in
        ⊎_elim (λ e. omega (arith, is, e)) (λ l. let r = reached ledger single (lawful.apart c) l in omega (arith, is, r))
        (all_or_late (λ x. x.before ≡ charged_below same_counter x.counter x.before ledger) ledger lawful.sums)

-- what is seen of a counter is no more than all its hits
pub sees : (ledger : List (Charge CounterKey)) (s : Sight CounterKey) → IsLawfulSight same_counter ledger s
    → s.seen ≤ charged_total same_counter s.counter ledger
sees ledger s lawful = let all = below_all s.counter s.seen ledger in omega (arith, lawful, all)
