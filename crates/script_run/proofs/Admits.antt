-- In a lawful ledger, the hits of a counter that end within a limit add up to at most the limit.
use Rattle.std.proofs.Common.{◌≡◌, ℕ, zero, suc, ◌+◌, ◌≤◌, ◌==◌, ◌&&◌, Bool, true, false, cond, List, [], ◌∷◌, nat_lt, sum_by}
use Rattle.std.proofs.Common.{◌⊎◌, inl, inr, ⊎_elim, refl, ap, arith}
use Rattle.std.specs.Prelude.{nat_le}
use Rattle.std.proofs.lemmas.Bool.Decides.{nat_tests}
use Rattle.std.proofs.lemmas.List.Sums.{sum_by-cons}
use Rattle.std.specs.List.{AllByRecursion}
use Rattle.rate_types.specs.Counters.{same_counter}
use Rattle.rate_types.specs.declared.counter_key.CounterKey.{CounterKey}
use Rattle.rate_types.specs.Ledger.{Charge, charged_below, charges_at, admitted_in, IsLawfulLedger}
use Rattle.window_keys.proofs.Counters.{same_is}

module _ (c : CounterKey) (limit : ℕ) where
  -- a charge of the counter that ends within the limit
  abbrev fits : Charge CounterKey → Bool
  fits x = same_counter x.counter c && nat_le (x.before + x.hits) limit

  -- the hits of those with less than so much before them
  abbrev up_to : ℕ → List (Charge CounterKey) → ℕ
  up_to k ledger = sum_by (λ x. cond (fits x && nat_lt x.before k) x.hits 0) ledger

  -- the hits of those with just so much before them
  abbrev just : ℕ → List (Charge CounterKey) → ℕ
  just k ledger = sum_by (λ x. cond (fits x && (x.before == k)) x.hits 0) ledger

  -- the hits that end within the limit are among all hits of the counter
  within : (k : ℕ) (ledger : List (Charge CounterKey)) → up_to k ledger ≤ charged_below same_counter c k ledger
  within k [] = omega arith
  within k (y ∷ ys) =
      let more = within k ys in
      let left = sum_by-cons (λ x. cond (fits x && nat_lt x.before k) x.hits 0) y ys in
      let right = sum_by-cons (λ x. cond (same_counter x.counter c && nat_lt x.before k) x.hits 0) y ys in
      let one = by (same_counter y.counter c) (nat_le (y.before + y.hits) limit) (nat_lt y.before k) in
      omega (arith, more, left, right, one)
    where
      by : (a b d : Bool) → cond ((a && b) && d) y.hits 0 ≤ cond (a && d) y.hits 0
      by true true d = omega arith
      by true false d = omega arith
      by false b d = omega arith

  -- with one more before them come those with just so much before them
  step : (k : ℕ) (ledger : List (Charge CounterKey)) → up_to (suc k) ledger ≡ up_to k ledger + just k ledger
  step k [] = refl
  step k (y ∷ ys) =
      let more = step k ys in
      let a = sum_by-cons (λ x. cond (fits x && nat_lt x.before (suc k)) x.hits 0) y ys in
      let b = sum_by-cons (λ x. cond (fits x && nat_lt x.before k) x.hits 0) y ys in
      let d = sum_by-cons (λ x. cond (fits x && (x.before == k)) x.hits 0) y ys in
      let one = by (fits y) (nat_lt y.before k) (y.before == k) refl refl in
      omega (arith, more, a, b, d, one)
    where
      by : (f less same : Bool) → nat_lt y.before k ≡ less → (y.before == k) ≡ same
          → cond (f && nat_lt y.before (suc k)) y.hits 0 ≡ cond (f && nat_lt y.before k) y.hits 0 + cond (f && (y.before == k)) y.hits 0
      by false less same p q = omega arith
      by true true same p q =
          let next : nat_lt y.before (suc k) ≡ true = grind (arith, nat_tests) in
          let no : (y.before == k) ≡ false = grind (arith, nat_tests) in
          rw (p, next, no) (omega arith)
      by true false true p q = let next : nat_lt y.before (suc k) ≡ true = grind (arith, nat_tests) in rw (p, next, q) (omega arith)
      by true false false p q = let next : nat_lt y.before (suc k) ≡ false = grind (arith, nat_tests) in rw (p, next, q) (omega arith)

  -- where no charge has just so much before it, their hits are none
  none_at : (k : ℕ) (ledger : List (Charge CounterKey)) → ◌≡◌ {A = ℕ} (charges_at same_counter c k ledger) 0 → ◌≡◌ {A = ℕ} (just k ledger) 0
  none_at k [] h = refl
  none_at k (y ∷ ys) h =
      let count = sum_by-cons (λ x. cond (same_counter x.counter c && (x.before == k)) 1 0) y ys in
      let d = sum_by-cons (λ x. cond (fits x && (x.before == k)) x.hits 0) y ys in
      let more = none_at k ys (omega (arith, count, h)) in
      let one = by (same_counter y.counter c) (nat_le (y.before + y.hits) limit) (y.before == k) (omega (arith, count, h)) in
      omega (arith, more, d, one)
    where
      by : (a b e : Bool) → ◌≡◌ {A = ℕ} (cond (a && e) 1 0) 0 → ◌≡◌ {A = ℕ} (cond ((a && b) && e) y.hits 0) 0
      by false b e h = refl
      by true false e h = refl
      by true true false h = refl
      by true true true h = absurd (cc)

  -- the one charge that has just so much before it, where it is within the limit
  pub record Last (P : Charge CounterKey → Type 0) (k sum : ℕ) : Type 0 where
    pub charge : Charge CounterKey
    pub known : P charge
    pub same : same_counter charge.counter c ≡ true
    pub before : charge.before ≡ k
    pub ends : charge.before + charge.hits ≤ limit
    pub hits : sum ≡ charge.hits

  -- where at most one charge has just so much before it, their hits are none or those of that one
  at_one : (P : Charge CounterKey → Type 0) (k : ℕ) (ledger : List (Charge CounterKey)) → AllByRecursion P ledger → charges_at same_counter c k ledger ≤ 1
      → ◌≡◌ {A = ℕ} (just k ledger) 0 ⊎ Last P k (just k ledger)
  at_one P k [] all h = inl refl
  at_one P k (y ∷ ys) all h =
      by (at_one P k ys all.1) (same_counter y.counter c) (nat_le (y.before + y.hits) limit) (y.before == k) refl refl refl
    where
      count : charges_at same_counter c k (y ∷ ys) ≡ cond (same_counter y.counter c && (y.before == k)) 1 0 + charges_at same_counter c k ys
      count = sum_by-cons (λ x. cond (same_counter x.counter c && (x.before == k)) 1 0) y ys

      sum : just k (y ∷ ys) ≡ cond (fits y && (y.before == k)) y.hits 0 + just k ys
      sum = sum_by-cons (λ x. cond (fits x && (x.before == k)) x.hits 0) y ys

      Rest : Type 0
      Rest = charges_at same_counter c k ys ≤ 1 → ◌≡◌ {A = ℕ} (just k ys) 0 ⊎ Last P k (just k ys)

      later : Rest → ◌≡◌ {A = ℕ} (cond (fits y && (y.before == k)) y.hits 0) 0 → charges_at same_counter c k ys ≤ 1
          → ◌≡◌ {A = ℕ} (just k (y ∷ ys)) 0 ⊎ Last P k (just k (y ∷ ys))
      later rest gone few = ⊎_elim (λ z. inl (omega (arith, z, gone, sum)))
          (λ l. inr (record {
            charge = l.charge;
            known = l.known;
            same = l.same;
            before = l.before;
            ends = l.ends;
            hits = omega (arith, l.hits, gone, sum);
          }))
          (rest few)

      by : Rest → (a b e : Bool) → same_counter y.counter c ≡ a → nat_le (y.before + y.hits) limit ≡ b → (y.before == k) ≡ e
          → ◌≡◌ {A = ℕ} (just k (y ∷ ys)) 0 ⊎ Last P k (just k (y ∷ ys))
      by rest false b e p q r = later rest (rw p refl) (omega (arith, count, h))
      by rest true b false p q r = later rest (rw (p, r) (zero_of b)) (omega (arith, count, h))
        where
          zero_of : (b : Bool) → ◌≡◌ {A = ℕ} (cond ((true && nat_le (y.before + y.hits) limit) && false) y.hits 0) 0
          zero_of b = grind (arith, nat_tests)
      by rest true true true p q r =
          let one : ◌≡◌ {A = ℕ} (cond (same_counter y.counter c && (y.before == k)) 1 0) 1 = rw (p, r) refl in
          let none = none_at k ys (omega (arith, count, one, h)) in
          let mine : cond (fits y && (y.before == k)) y.hits 0 ≡ y.hits = rw (p, q, r) refl in
          inr (record {
            charge = y;
            known = all.0;
            same = p;
            before = grind (arith, nat_tests);
            ends = grind (arith, nat_tests);
            hits = omega (arith, sum, none, mine);
          })
      by rest true false true p q r = later rest (rw (p, q) refl) (omega (arith, count, h))

  module _ (ledger : List (Charge CounterKey)) (lawful : IsLawfulLedger same_counter ledger) where
    -- no charge has less than 0 before it
    nothing : (xs : List (Charge CounterKey)) → up_to 0 xs ≤ 0
    nothing [] = omega arith
    nothing (y ∷ ys) =
        let more = nothing ys in
        let a = sum_by-cons (λ x. cond (fits x && nat_lt x.before 0) x.hits 0) y ys in
        let no : nat_lt y.before 0 ≡ false = grind (arith, nat_tests) in
        let one : cond (fits y && nat_lt y.before 0) y.hits 0 ≤ 0 = by (fits y) (nat_lt y.before 0) no in
        omega (arith, more, a, one)
      where
        by : (f less : Bool) → less ≡ false → cond (f && less) y.hits 0 ≤ 0
        by false less h = omega arith
        by true false h = omega arith
        by true true h = absurd (cc)

    -- one counter has one sum below a bound
    same_below : (k : CounterKey) (b : ℕ) → same_counter k c ≡ true → charged_below same_counter k b ledger ≡ charged_below same_counter c b ledger
    same_below k b same = ap (λ q. charged_below same_counter q b ledger) (same_is k c same)

    -- the hits that end within the limit, up to any bound, are at most the limit
    bound : (k : ℕ) → up_to k ledger ≤ limit
    bound zero = let no = nothing ledger in omega (arith, no)
    bound (suc k) =
        let so_far = bound k in
        let more = step k ledger in
        let low = within k ledger in
        ⊎_elim (λ z. omega (arith, so_far, more, z))
        (λ l.
        let known : l.charge.before ≡ charged_below same_counter l.charge.counter l.charge.before ledger = l.known in
        let same : charged_below same_counter l.charge.counter l.charge.before ledger ≡ charged_below same_counter c l.charge.before ledger =
        same_below l.charge.counter l.charge.before l.same in
        let at : charged_below same_counter c l.charge.before ledger ≡ charged_below same_counter c k ledger =
        ap (λ n. charged_below same_counter c n ledger) l.before in
        omega (arith, more, low, known, same, at, l.before, l.ends, l.hits))
        (at_one (λ x. x.before ≡ charged_below same_counter x.counter x.before ledger) k ledger lawful.sums (lawful.apart c k))

    -- a charge that ends within the limit has less than one more than the limit before it
    whole : (xs : List (Charge CounterKey)) → admitted_in same_counter c limit xs ≡ up_to (suc limit) xs
    whole [] = refl
    whole (y ∷ ys) =
        let more = whole ys in
        let a = sum_by-cons (λ x. cond (fits x) x.hits 0) y ys in
        let b = sum_by-cons (λ x. cond (fits x && nat_lt x.before (suc limit)) x.hits 0) y ys in
        let one : cond (fits y) y.hits 0 ≡ cond (fits y && nat_lt y.before (suc limit)) y.hits 0 =
        by (same_counter y.counter c) (nat_le (y.before + y.hits) limit) refl in
        omega (arith, more, a, b, one)
      where
        by : (s e : Bool) → nat_le (y.before + y.hits) limit ≡ e → cond (s && e) y.hits 0 ≡ cond ((s && e) && nat_lt y.before (suc limit)) y.hits 0
        by false e h = refl
        by true false h = refl
        by true true h = let less : nat_lt y.before (suc limit) ≡ true = grind (arith, nat_tests) in rw less refl

    -- a limit admits no more than itself
    pub limit_holds : admitted_in same_counter c limit ledger ≤ limit
    limit_holds = let all = whole ledger in let most = bound (suc limit) in omega (arith, all, most)
