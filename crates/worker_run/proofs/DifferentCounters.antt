-- Different counters as the causes of a run's refusals tell them.
use Rattle.std.proofs.Common.{◌≡◌, ℕ, ◌≤◌, List, length, Bool, true, arith}
use Rattle.rate_types.specs.declared.counter_key.CounterKey.{CounterKey}
use Rattle.rate_limiter.proofs.CounterLists.{count, Differ, counted, all_of}
use Rattle.script_run.specs.Named.{AreThere}

-- a list without a counter twice, whose counters pass a test
pub there_are : (test : CounterKey → Bool) (xs : List CounterKey) (n : ℕ) → length xs ≡ n → Differ xs → ((c : CounterKey) → 1 ≤ count c xs → test c ≡ true) → AreThere test n
there_are test xs n long differ pass = record {
  counters = xs;
  differ = λ c. let a = counted xs c in let d = differ c in omega arith;
  pass = all_of (λ k. test k ≡ true) xs pass;
  count = long;
}
