-- Inside: how many ticks of a worker offered a moment, kept in a map.
use Rattle.std.specs.Prelude.{ℕ, List, unwrap_or}
use Rattle.std.specs.declared.cmp.Ordering.{Ordering}
use Rattle.std.specs.BTreeMap.{is_at}
use Rattle.std.specs.Map.{lookup}
use Rattle.std.specs.Ordering.{nat_cmp, on, then_cmp}
use Rattle.run_audit.specs.declared.ticks.Ticker.{Ticker}

-- by the moment, then by the worker
abbrev pub ticker_cmp : Ticker → Ticker → Ordering
ticker_cmp = then_cmp (on (λ t. t.moment) nat_cmp) (on (λ t. t.worker) nat_cmp)

-- how many ticks of a worker offered a moment, by a map
abbrev pub ticks_in : List (Ticker × ℕ) → ℕ → ℕ → ℕ
ticks_in ticks moment worker = unwrap_or (lookup (is_at (ticker_cmp (record { moment = moment; worker = worker }))) ticks) 0

-- how many ticks offered a moment, by a map
abbrev pub all_in : List (ℕ × ℕ) → ℕ → ℕ
all_in ticks moment = unwrap_or (lookup (is_at (nat_cmp moment)) ticks) 0
