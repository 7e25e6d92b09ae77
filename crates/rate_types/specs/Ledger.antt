-- The ledger: which hits were charged on which counter, and what was seen of a counter.
-- Any type can name counters; `same` says which two names are one counter.
use Rattle.std.specs.Prelude.{◌≡◌, ℕ, ◌+◌, ◌≤◌, ◌&&◌, ◌==◌, List, Bool, nat_lt, nat_le, sum_by, count_by, if◌then◌else◌}
use Rattle.std.specs.List.{AllByRecursion}

-- hits added to a counter on which `before` had been charged
pub record Charge (C : Type 0) : Type 0 where
  pub counter : C
  pub before : ℕ
  pub hits : ℕ

-- all hits charged on a counter
abbrev pub charged_total : {C : Type 0} → (C → C → Bool) → C → List (Charge C) → ℕ
charged_total same c ledger = sum_by (λ x. if same x.counter c then x.hits else 0) ledger

-- the hits of those charges on it before which less than `bound` had been charged
abbrev pub charged_below : {C : Type 0} → (C → C → Bool) → C → ℕ → List (Charge C) → ℕ
charged_below same c bound ledger = sum_by (λ x. if same x.counter c && nat_lt x.before bound then x.hits else 0) ledger

-- how many charges on it had exactly this before them
abbrev pub charges_at : {C : Type 0} → (C → C → Bool) → C → ℕ → List (Charge C) → ℕ
charges_at same c before ledger = count_by (λ x. same x.counter c && (x.before == before)) ledger

-- The hits of those charges on it that end within a limit. A charge that a rule admits ends within the rule's limit, so
-- these are at least the hits that rules with a limit of at most this admit.
abbrev pub admitted_in : {C : Type 0} → (C → C → Bool) → C → ℕ → List (Charge C) → ℕ
admitted_in same c limit ledger = sum_by (λ x. if same x.counter c && nat_le (x.before + x.hits) limit then x.hits else 0) ledger

-- Each charge has hits, and before it stand exactly the hits of the charges with less before them; no two charges
-- of one counter have the same before them. The order of the list doesn't matter.
pub record IsLawfulLedger {C : Type 0} (same : C → C → Bool) (ledger : List (Charge C)) : Type 0 where
  pub hits : AllByRecursion (λ x. 1 ≤ x.hits) ledger
  pub sums : AllByRecursion (λ x. x.before ≡ charged_below same x.counter x.before ledger) ledger
  pub apart : (c : C) (before : ℕ) → charges_at same c before ledger ≤ 1

-- what was seen of a counter
pub record Sight (C : Type 0) : Type 0 where
  pub counter : C
  pub seen : ℕ

-- what was seen is the sum of the hits of the charges with less before them
abbrev pub IsLawfulSight : {C : Type 0} → (C → C → Bool) → List (Charge C) → Sight C → Type 0
IsLawfulSight same ledger sight = sight.seen ≡ charged_below same sight.counter sight.seen ledger
