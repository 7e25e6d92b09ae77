-- Inside: charges in order, each with what is due after the one before it.
use Rattle.std.specs.Prelude.{◌≡◌, ℕ, ◌+◌, ◌≤◌, ◌==◌, ◌&&◌, List, [], ◌∷◌, Bool, true, nat_lt, count_by, if◌then◌else◌}
use Rattle.std.specs.declared.cmp.Ordering.{Ordering}
use Rattle.std.specs.List.{AllByRecursion}
use Rattle.std.specs.Ordering.{nat_cmp, on, then_cmp}
use Rattle.rate_types.specs.Counters.{key_cmp}
use Rattle.rate_types.specs.Ledger.{Charge, charged_below}
use Rattle.rate_types.specs.declared.counter_key.CounterKey.{CounterKey}

-- charges by their counters, then by the counts before them, then by their hits
abbrev pub charge_cmp : Charge CounterKey → Charge CounterKey → Ordering
charge_cmp = then_cmp (on (λ c. c.counter) key_cmp) (then_cmp (on (λ c. c.before) nat_cmp) (on (λ c. c.hits) nat_cmp))

-- how many charges on a counter have hits and exactly this before them
abbrev pub charged_at : {C : Type 0} → (C → C → Bool) → C → ℕ → List (Charge C) → ℕ
charged_at same c before ledger = count_by (λ x. same x.counter c && ((x.before == before) && nat_lt 0 x.hits)) ledger

-- before each charge stand exactly the hits of the charges with less before them, and no two that have hits have the same before them
pub record IsChain {C : Type 0} (same : C → C → Bool) (charges : List (Charge C)) : Type 0 where
  pub sums : AllByRecursion (λ x. x.before ≡ charged_below same x.counter x.before charges) charges
  pub apart : (c : C) (before : ℕ) → charged_at same c before charges ≤ 1

-- what is to be charged before the next charge: where it is on the same counter, all up to the last one
abbrev pub due_after : {C : Type 0} → (C → C → Bool) → Charge C → Charge C → ℕ
due_after same last next = if same last.counter next.counter then last.before + last.hits else 0

-- whether each has what is due after the one before it
abbrev pub follow : {C : Type 0} → (C → C → Bool) → List (Charge C) → Bool
follow same [] = true
follow same (x ∷ []) = true
follow same (x ∷ y ∷ rest) = (y.before == due_after same x y) && follow same (y ∷ rest)

-- whether the first has nothing before it, and each other what is due after the one before it
abbrev pub is_chain : {C : Type 0} → (C → C → Bool) → List (Charge C) → Bool
is_chain same [] = true
is_chain same (x ∷ rest) = (x.before == 0) && follow same (x ∷ rest)
