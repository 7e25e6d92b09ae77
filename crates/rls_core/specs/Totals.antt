-- The totals of open windows.
use Rattle.std.specs.Prelude.{◌≡◌, ℕ, ◌≤◌, ◌<◌, List, map, true}
use Rattle.std.specs.List.{AllByRecursion, list_any}
use Rattle.std.specs.List.Sorted.{IsStrictlySortedBy}
use Rattle.rate_types.specs.Counters.{key_cmp, same_counter}
use Rattle.rate_types.specs.Sums.{total, one_if}
use Rattle.rate_types.specs.declared.counter_key.CounterKey.{CounterKey}
use Rattle.window_keys.specs.Counter.{window_end_of}
use Rattle.rls_core.specs.declared.totals.Total.{Total}

-- how many of these totals are of the counter
abbrev pub totals_on : CounterKey → List Total → ℕ
totals_on c totals = total (λ (t : Total). one_if (same_counter t.key c)) totals

-- The counters that were charged and whose window ends after a moment, in any order, each once with what was charged on it.
pub record HaveTotals (charged : CounterKey → ℕ) (moment : ℕ) (totals : List Total) : Type 0 where
  pub once : (c : CounterKey) → totals_on c totals ≤ 1
  pub sums : AllByRecursion (λ t. (t.charged ≡ charged t.key) × (0 < t.charged) × (moment < window_end_of t.key)) totals
  pub complete : (c : CounterKey) → 0 < charged c → moment < window_end_of c → list_any (λ t. same_counter c t.key) totals ≡ true

-- The counters that were charged and whose window ends after a moment, in key order, each with what was charged on it.
pub record AreTotals (charged : CounterKey → ℕ) (moment : ℕ) (totals : List Total) : Type 0 where
  pub in_order : IsStrictlySortedBy key_cmp (map (λ t. t.key) totals)
  pub sums : AllByRecursion (λ t. (t.charged ≡ charged t.key) × (0 < t.charged) × (moment < window_end_of t.key)) totals
  pub complete : (c : CounterKey) → 0 < charged c → moment < window_end_of c → list_any (λ t. same_counter c t.key) totals ≡ true
