-- Which counters the checks of a run name, and which of them were given cells.
use Rattle.std.specs.Prelude.{◌≡◌, ℕ, ◌≤◌, List, [], ◌∷◌, ◌++◌, length, Bool, true, nat_lt, count_by, if◌then◌else◌}
use Rattle.std.specs.List.{AllByRecursion, list_any}
use Rattle.rate_types.specs.Counters.{same_counter}
use Rattle.rate_types.specs.declared.counter_key.CounterKey.{CounterKey}
use Rattle.window_keys.specs.Counter.{window_end_of}
use Rattle.descriptor_tree.specs.Trees.{DomainTree}
use Rattle.rls_core.specs.Reply.{counters_named}
use Rattle.reply_text.specs.declared.record.Record.{Record}
use Rattle.reply_text.specs.declared.record.Outcome.{Outcome}
use Rattle.reply_text.specs.declared.record.Outcome.TheVariants as outcome
use Rattle.script_run.specs.ScriptLine.{ScriptLine, check}

-- the counters that a check names, answered or refused
abbrev pub counters_tried : List DomainTree → ScriptLine → ℕ → List CounterKey
counters_tried config (check request) moment = counters_named config request moment
counters_tried config line moment = []

-- the counters to which an answered check gave cells
abbrev pub counters_bound : List DomainTree → ScriptLine → ℕ → Outcome → List CounterKey
counters_bound config line moment (outcome.Checked answer) = counters_tried config line moment
counters_bound config line moment other = []

-- the counters that checks name, each by its version and at its moment, line after line
abbrev pub all_tried : (ℕ → List DomainTree) → List ScriptLine → List Record → List CounterKey
all_tried configs (l ∷ ls) (r ∷ rs) = counters_tried (configs r.version) l r.moment ++ all_tried configs ls rs
all_tried configs lines records = []

-- the counters that were given cells by answered checks of workers that pass a test, line after line
abbrev pub bound_by : (ℕ → Bool) → (ℕ → List DomainTree) → List ScriptLine → List Record → List CounterKey
bound_by by configs (l ∷ ls) (r ∷ rs) =
    (if by r.worker then counters_bound (configs r.version) l r.moment r.outcome else []) ++ bound_by by configs ls rs
bound_by by configs lines records = []

-- whether a counter is in a list
abbrev pub is_among : List CounterKey → CounterKey → Bool
is_among counters c = list_any (λ k. same_counter c k) counters

-- whether a counter's window ends after a moment
abbrev pub is_open_at : ℕ → CounterKey → Bool
is_open_at moment c = nat_lt moment (window_end_of c)

-- there are at least so many different counters that pass a test
pub record AreThere (test : CounterKey → Bool) (number : ℕ) : Type 0 where
  pub counters : List CounterKey
  pub differ : (c : CounterKey) → count_by (λ k. same_counter c k) counters ≤ 1
  pub pass : AllByRecursion (λ k. test k ≡ true) counters
  pub count : length counters ≡ number
