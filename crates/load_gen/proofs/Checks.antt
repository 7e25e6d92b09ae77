-- What the answered checks of a load add up to.
use Rattle.std.proofs.Common.{◌≡◌, ℕ, ◌+◌, ◌≤◌, ◌<◌, ◌==◌, ◌&&◌, ◌⊎◌, not, List, [], ◌∷◌, ◌++◌, length}
use Rattle.std.proofs.Common.{Bool, true, false, cond, min, inl, inr, ⊎_elim, refl, sym, ap, ◌∙◌, subst, arith}
use Rattle.std.specs.Prelude.{nat_le, count_by}
use Rattle.std.specs.List.{AllByRecursion}
use Rattle.std.proofs.lemmas.Bool.Decides.{nat_tests}
use Rattle.std.proofs.lemmas.List.Sums.{sum_by-cons}
use Rattle.rate_types.specs.Counters.{same_counter}
use Rattle.rate_types.specs.Ledger.{Charge, Sight, charged_total, admitted_in, IsLawfulSight}
use Rattle.rate_types.specs.Sums.{one_if, times}
use Rattle.rate_types.specs.declared.counter_key.CounterKey.{CounterKey}
use Rattle.reply_text.specs.declared.record.Record.{Record}
use Rattle.script_run.specs.Charges.{ledger_of, sights_of, ChargesFormLedger, LimitsHold, SightsLawful}
use Rattle.load_gen.specs.Load.{checks_for}
use Rattle.load_gen.specs.Sums.{sum_below}
use Rattle.script_run.specs.Answers.{is_admitted, is_denied}
use Rattle.load_gen.specs.declared.constants.TheConstants.{VALUES, LIMIT}
use Rattle.load_gen.proofs.Counters.{counter_for, same_for}
use Rattle.load_gen.proofs.Answering.{charge_on, sight_on, IsAnswered}
use Rattle.load_gen.proofs.Sums.{sum_same, sum_plus, sum_none, sum_alone}
use Rattle.load_gen.proofs.Ledgers.{AreSingle, admits, admits_some, sees}

-- each of these values is below the number of values, and its check was answered
abbrev pub AreAnswered : List ℕ → List Record → Type 0
AreAnswered [] [] = Unit {0}
AreAnswered (v ∷ vs) (r ∷ rs) = (v < VALUES) × IsAnswered v r.moment r.outcome × AreAnswered vs rs
AreAnswered vs rs = ⊥

-- ---- charges of one hit

pub single : (vs : List ℕ) (rs : List Record) → AreAnswered vs rs → AreSingle (ledger_of (checks_for vs) rs)
single [] [] h = tt
single [] (r ∷ rs) h = absurd h
single (v ∷ vs) [] h = absurd h
single (v ∷ vs) (r ∷ rs) (low, inl one, more) =
    subst (λ (cs : List (Charge CounterKey)). AreSingle (cs ++ ledger_of (checks_for vs) rs)) (sym one.charge) (refl, single vs rs more)
single (v ∷ vs) (r ∷ rs) (low, inr one, more) =
    subst (λ (cs : List (Charge CounterKey)). AreSingle (cs ++ ledger_of (checks_for vs) rs)) (sym one.charge) (single vs rs more)

-- ---- how many were admitted

-- what a charge is admitted of a counter
abbrev share : ℕ → ℕ → ℕ → ℕ
share v before a = cond (same_counter (counter_for v) (counter_for a) && nat_le (before + 1) LIMIT) 1 0

-- one more charge
one_charge : (v before : ℕ) (ledger : List (Charge CounterKey)) → v < VALUES
    → sum_below VALUES (λ a. admitted_in same_counter (counter_for a) LIMIT (charge_on v before ∷ ledger))
    ≡ cond (nat_le (before + 1) LIMIT) 1 0 + sum_below VALUES (λ a. admitted_in same_counter (counter_for a) LIMIT ledger)
one_charge v before ledger low =
    let parts = sum_same VALUES (λ a. admitted_in same_counter (counter_for a) LIMIT (charge_on v before ∷ ledger))
    (λ a. share v before a + admitted_in same_counter (counter_for a) LIMIT ledger)
    (λ a small. sum_by-cons (λ x. cond (same_counter x.counter (counter_for a) && nat_le (x.before + x.hits) LIMIT) x.hits 0) (charge_on v before) ledger) in
    let both = sum_plus VALUES (share v before) (λ a. admitted_in same_counter (counter_for a) LIMIT ledger) in
    let alone = sum_alone VALUES v (share v before) low (λ a small other. none a small other) in
    let mine : share v before v ≡ cond (nat_le (before + 1) LIMIT) 1 0 = by (v == v) (nat_le (before + 1) LIMIT) refl in
    omega (arith, parts, both, alone, mine)
  where
    none : (a : ℕ) → a < VALUES → (a == v) ≡ false → share v before a ≡ 0
    none a small other =
        let differ : (v == a) ≡ false = grind (arith, nat_tests) in
        rw (same_for v a low small, differ) refl

    by : (same ends : Bool) → (v == v) ≡ same → share v before v ≡ cond (nat_le (before + 1) LIMIT) 1 0
    by true ends e = rw (same_for v v low low, e) refl
    by false ends e = absurd (grind (arith, nat_tests))

pub admitted_sum : (vs : List ℕ) (rs : List Record) → AreAnswered vs rs
    → count_by (λ r. is_admitted r.outcome) rs ≡ sum_below VALUES (λ a. admitted_in same_counter (counter_for a) LIMIT (ledger_of (checks_for vs) rs))
admitted_sum [] [] h = sym (sum_none VALUES (λ a. admitted_in same_counter (counter_for a) LIMIT []) (λ a small. refl))
admitted_sum [] (r ∷ rs) h = absurd h
admitted_sum (v ∷ vs) [] h = absurd h
admitted_sum (v ∷ vs) (r ∷ rs) (low, inl one, more) =
    let rest = admitted_sum vs rs more in
    let count = sum_by-cons (λ (x : Record). cond (is_admitted x.outcome) 1 0) r rs in
    let mine : ◌≡◌ {A = ℕ} (cond (is_admitted r.outcome) 1 0) (cond (nat_le (one.before + 1) LIMIT) 1 0) = ap (λ b. cond b 1 0) one.admitted in
    let all = one_charge v one.before (ledger_of (checks_for vs) rs) low in
    let shown : sum_below VALUES (λ a. admitted_in same_counter (counter_for a) LIMIT (ledger_of (checks_for (v ∷ vs)) (r ∷ rs)))
    ≡ sum_below VALUES (λ a. admitted_in same_counter (counter_for a) LIMIT (charge_on v one.before ∷ ledger_of (checks_for vs) rs)) =
    ap (λ (cs : List (Charge CounterKey)). sum_below VALUES (λ a. admitted_in same_counter (counter_for a) LIMIT (cs ++ ledger_of (checks_for vs) rs))) one.charge in
    omega (arith, rest, count, mine, all, shown)
admitted_sum (v ∷ vs) (r ∷ rs) (low, inr one, more) =
    let rest = admitted_sum vs rs more in
    let count = sum_by-cons (λ (x : Record). cond (is_admitted x.outcome) 1 0) r rs in
    let mine : ◌≡◌ {A = ℕ} (cond (is_admitted r.outcome) 1 0) 0 = ap (λ b. cond b 1 0) one.admitted in
    let shown : sum_below VALUES (λ a. admitted_in same_counter (counter_for a) LIMIT (ledger_of (checks_for (v ∷ vs)) (r ∷ rs)))
    ≡ sum_below VALUES (λ a. admitted_in same_counter (counter_for a) LIMIT (ledger_of (checks_for vs) rs)) =
    ap (λ (cs : List (Charge CounterKey)). sum_below VALUES (λ a. admitted_in same_counter (counter_for a) LIMIT (cs ++ ledger_of (checks_for vs) rs))) one.charge in
    omega (arith, rest, count, mine, shown)

-- each answered check is admitted or denied
pub either_code : (vs : List ℕ) (rs : List Record) → AreAnswered vs rs
    → count_by (λ r. is_admitted r.outcome) rs + count_by (λ r. is_denied r.outcome) rs ≡ length vs
either_code [] [] h = refl
either_code [] (r ∷ rs) h = absurd h
either_code (v ∷ vs) [] h = absurd h
either_code (v ∷ vs) (r ∷ rs) (low, one, more) =
    let rest = either_code vs rs more in
    let a = sum_by-cons (λ (x : Record). cond (is_admitted x.outcome) 1 0) r rs in
    let d = sum_by-cons (λ (x : Record). cond (is_denied x.outcome) 1 0) r rs in
    let mine : cond (is_admitted r.outcome) 1 0 + cond (is_denied r.outcome) 1 0 ≡ 1 = by one in
    omega (arith, rest, a, d, mine)
  where
    of_bool : (b : Bool) → cond b 1 0 + cond (not b) 1 0 ≡ 1
    of_bool true = refl
    of_bool false = refl

    by : IsAnswered v r.moment r.outcome → cond (is_admitted r.outcome) 1 0 + cond (is_denied r.outcome) 1 0 ≡ 1
    by (inl c) = rw (c.admitted, c.denied) (of_bool (nat_le (c.before + 1) LIMIT))
    by (inr s) = rw (s.admitted, s.denied) refl

-- ---- how much was charged on the counter of a value

module _ (a : ℕ) (small : a < VALUES) where
  -- all that was charged on its counter
  abbrev charged : List ℕ → List Record → ℕ
  charged vs rs = charged_total same_counter (counter_for a) (ledger_of (checks_for vs) rs)

  -- one more charge
  one_more : (v before : ℕ) (ledger : List (Charge CounterKey)) → v < VALUES
      → charged_total same_counter (counter_for a) (charge_on v before ∷ ledger) ≡ one_if (v == a) + charged_total same_counter (counter_for a) ledger
  one_more v before ledger low =
      sum_by-cons (λ x. cond (same_counter x.counter (counter_for a)) x.hits 0) (charge_on v before) ledger
      ∙ ap (λ b. cond b 1 0 + charged_total same_counter (counter_for a) ledger) (same_for v a low small)

  -- no more than its checks
  charged_few : (vs : List ℕ) (rs : List Record) → AreAnswered vs rs → charged vs rs ≤ times a vs
  charged_few [] [] h = omega arith
  charged_few [] (r ∷ rs) h = absurd h
  charged_few (v ∷ vs) [] h = absurd h
  charged_few (v ∷ vs) (r ∷ rs) (low, inl one, more) =
      let rest = charged_few vs rs more in
      let all = one_more v one.before (ledger_of (checks_for vs) rs) low in
      let shown : charged (v ∷ vs) (r ∷ rs) ≡ charged_total same_counter (counter_for a) (charge_on v one.before ∷ ledger_of (checks_for vs) rs) =
      ap (λ (cs : List (Charge CounterKey)). charged_total same_counter (counter_for a) (cs ++ ledger_of (checks_for vs) rs)) one.charge in
      omega (arith, rest, all, shown)
  charged_few (v ∷ vs) (r ∷ rs) (low, inr one, more) =
      let rest = charged_few vs rs more in
      let shown : charged (v ∷ vs) (r ∷ rs) ≡ charged vs rs =
      ap (λ (cs : List (Charge CounterKey)). charged_total same_counter (counter_for a) (cs ++ ledger_of (checks_for vs) rs)) one.charge in
      omega (arith, rest, shown)

  -- its counter was seen above the limit
  record Above (P : Sight CounterKey → Type 0) : Type 0 where
    seen : ℕ
    known : P (sight_on a seen)
    above : LIMIT < seen

  -- each of its checks was charged, or its counter was seen above the limit
  charged_or_above : (P : Sight CounterKey → Type 0) (vs : List ℕ) (rs : List Record) → AreAnswered vs rs → AllByRecursion P (sights_of (checks_for vs) rs)
      → (charged vs rs ≡ times a vs) ⊎ Above P
  charged_or_above P [] [] h all = inl refl
  charged_or_above P [] (r ∷ rs) h all = absurd h
  charged_or_above P (v ∷ vs) [] h all = absurd h
  charged_or_above P (v ∷ vs) (r ∷ rs) (low, inl one, more) all =
      let others : AllByRecursion P (sights_of (checks_for vs) rs) =
      subst (λ (ss : List (Sight CounterKey)). AllByRecursion P (ss ++ sights_of (checks_for vs) rs)) one.sight all in
      let shown : charged (v ∷ vs) (r ∷ rs) ≡ charged_total same_counter (counter_for a) (charge_on v one.before ∷ ledger_of (checks_for vs) rs) =
      ap (λ (cs : List (Charge CounterKey)). charged_total same_counter (counter_for a) (cs ++ ledger_of (checks_for vs) rs)) one.charge in
      let sum = one_more v one.before (ledger_of (checks_for vs) rs) low in
      ⊎_elim (λ e. inl (omega (arith, e, shown, sum))) (λ above. inr above) (charged_or_above P vs rs more others)
  charged_or_above P (v ∷ vs) (r ∷ rs) (low, inr one, more) all =
      let each : AllByRecursion P (sight_on v one.seen ∷ sights_of (checks_for vs) rs) =
      subst (λ (ss : List (Sight CounterKey)). AllByRecursion P (ss ++ sights_of (checks_for vs) rs)) one.sight all in
      let shown : charged (v ∷ vs) (r ∷ rs) ≡ charged vs rs =
      ap (λ (cs : List (Charge CounterKey)). charged_total same_counter (counter_for a) (cs ++ ledger_of (checks_for vs) rs)) one.charge in
      by (v == a) refl each.0 one.above shown (charged_or_above P vs rs more each.1)
    where
      by : (same : Bool) → (v == a) ≡ same → P (sight_on v one.seen) → LIMIT < one.seen → charged (v ∷ vs) (r ∷ rs) ≡ charged vs rs
          → (charged vs rs ≡ times a vs) ⊎ Above P → (charged (v ∷ vs) (r ∷ rs) ≡ times a (v ∷ vs)) ⊎ Above P
      by true e p above shown rest =
          let is : v ≡ a = grind (arith, nat_tests) in
          inr (record { seen = one.seen; known = subst (λ (x : ℕ). P (sight_on x one.seen)) is p; above = above })
      by false e p above shown (inr s) = inr s
      by false e p above shown (inl rest) =
          let none : one_if (v == a) ≡ 0 = rw e refl in
          inl (omega (arith, rest, shown, none))

  -- The limit admits the smaller of its checks and itself.
  pub admits_of : (vs : List ℕ) (rs : List Record) → AreAnswered vs rs → ChargesFormLedger (checks_for vs) rs → LimitsHold (checks_for vs) rs
      → SightsLawful (checks_for vs) rs → admitted_in same_counter (counter_for a) LIMIT (ledger_of (checks_for vs) rs) ≡ min (times a vs) LIMIT
  admits_of vs rs h ledger limits sights =
      let few = charged_few vs rs h in
      let most : admitted_in same_counter (counter_for a) LIMIT (ledger_of (checks_for vs) rs) ≤ LIMIT = limits (counter_for a) LIMIT in
      let some = admits_some (counter_for a) LIMIT (ledger_of (checks_for vs) rs) in
      let least = admits (counter_for a) LIMIT (ledger_of (checks_for vs) rs) (single vs rs h) ledger in
      ⊎_elim (λ e. omega (arith, few, most, some, least, e))
      (λ s. let all = sees (ledger_of (checks_for vs) rs) (sight_on a s.seen) s.known in let above = s.above in omega (arith, few, most, some, least, all, above))
      (charged_or_above (IsLawfulSight same_counter (ledger_of (checks_for vs) rs)) vs rs h sights)
