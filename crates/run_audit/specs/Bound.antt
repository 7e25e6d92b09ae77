-- Inside: the counters that have cells while a run of one worker is gone through.
use Rattle.std.specs.Prelude.{◌≡◌, ℕ, ◌≤◌, ◌&&◌, List, length, take, Bool, false, true}
use Rattle.rate_types.specs.declared.counter_key.CounterKey.{CounterKey}
use Rattle.descriptor_tree.specs.Trees.{DomainTree}
use Rattle.reply_text.specs.declared.record.Record.{Record}
use Rattle.reply_text.specs.declared.record.Outcome.{Outcome}
use Rattle.reply_text.specs.declared.record.Outcome.TheVariants.{Full}
use Rattle.script_run.specs.ScriptLine.{ScriptLine}
use Rattle.script_run.specs.Named.{is_among, is_open_at}
use Rattle.script_run.specs.Sequential.{is_bound}
use Rattle.run_audit.specs.declared.bound.BoundCounters.{BoundCounters}

-- a check found no room
abbrev pub lacks_cells : Outcome → Bool
lacks_cells (Full live held wanted) = true
lacks_cells other = false

-- the counters are those that have cells at a moment
abbrev pub AreBound : (ℕ → List DomainTree) → List ScriptLine → List Record → ℕ → List CounterKey → Type 0
AreBound configs before earlier m counters = (c : CounterKey) → is_among counters c ≡ is_bound configs before earlier m c

-- those among the counters whose windows aren't over are those that have cells
abbrev pub KeepBound : (ℕ → List DomainTree) → List ScriptLine → List Record → ℕ → List CounterKey → Type 0
KeepBound configs before earlier m counters =
    (c : CounterKey) → (is_open_at m c && is_among counters c) ≡ is_bound configs before earlier m c

-- The first of these lines were gone through, and at no later moment a counter is wanting.
pub record IsUpTo (configs : ℕ → List DomainTree) (before : List ScriptLine) (earlier : List Record) (bound : BoundCounters)
    : Type 0 where
  pub within : bound.lines ≤ length before
  pub keep : (m : ℕ) → bound.moment ≤ m → KeepBound configs (take bound.lines before) (take bound.lines earlier) m bound.counters.keys
