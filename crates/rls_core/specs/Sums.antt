-- What was charged on each of some counters.
use Rattle.std.specs.Prelude.{ℕ, ◌<◌, List, Bool, is_some}
use Rattle.std.specs.BTreeMap.{is_at}
use Rattle.std.specs.List.{AllByRecursion}
use Rattle.std.specs.Map.{lookup}
use Rattle.rate_types.specs.Counters.{key_cmp}
use Rattle.rate_types.specs.declared.counter_key.CounterKey.{CounterKey}
use Rattle.window_keys.specs.Counter.{window_end_of}

-- counters in key order, each with its sum
abbrev pub Sums : Type 0
Sums = List (CounterKey × ℕ)

-- whether a counter has a sum
abbrev pub has_sum : Sums → CounterKey → Bool
has_sum sums c = is_some (lookup (is_at (key_cmp c)) sums)

-- the windows of all these counters end after the moment
abbrev pub AreOpen : ℕ → Sums → Type 0
AreOpen moment sums = AllByRecursion (λ e. moment < window_end_of e.0) sums
