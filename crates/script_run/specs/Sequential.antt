-- What a run by one worker is: line after line, all is determined.
use Rattle.std.specs.Prelude.{◌≡◌, ℕ, ◌+◌, ◌<◌, ◌&&◌, List, [], ◌∷◌, ◌++◌, Bool, true, ⊤}
use Rattle.rate_types.specs.declared.counter_key.CounterKey.{CounterKey}
use Rattle.rate_types.specs.declared.limits.TheConstants.{MOST_VERSIONS}
use Rattle.descriptor_tree.specs.Trees.{DomainTree}
use Rattle.rls_core.specs.Sequential.{AreSequential, HasRoom, LacksRoom}
use Rattle.reply_text.specs.declared.record.Record.{Record}
use Rattle.reply_text.specs.declared.record.Outcome.{Outcome}
use Rattle.reply_text.specs.declared.record.Outcome.TheVariants as outcome
use Rattle.script_run.specs.ScriptLine.{ScriptLine, check, reload}
use Rattle.script_run.specs.Lines.{EachLine}
use Rattle.script_run.specs.Versions.{installs}
use Rattle.script_run.specs.Moments.{moment_after}
use Rattle.script_run.specs.Charges.{ledger_of, charged_in}
use Rattle.script_run.specs.Named.{bound_by, is_among, is_open_at}

-- whether a counter has a cell at a moment: an earlier answered check gave it one, and its window isn't over
abbrev pub is_bound : (ℕ → List DomainTree) → List ScriptLine → List Record → ℕ → CounterKey → Bool
is_bound configs before earlier moment c = is_open_at moment c && is_among (bound_by (λ w. true) configs before earlier) c

-- An answered check counts what the earlier lines charged, and there was room for its counters; a check is refused where there is none,
-- with these numbers, and nobody holds a cell. A reload is installed while there are fewer versions than the most.
abbrev pub IsInTurn : (ℕ → List DomainTree) → ℕ → List ScriptLine → List Record → ScriptLine → Record → Outcome → Type 0
IsInTurn configs cells before earlier (check request) r (outcome.Checked answer) =
    AreSequential (configs r.version) request r.moment (charged_in (ledger_of before earlier)) request.descriptors answer.statuses
    × HasRoom (configs r.version) cells request r.moment (is_bound configs before earlier r.moment)
IsInTurn configs cells before earlier (check request) r (outcome.Full live held wanted) =
    (held ≡ 0) × LacksRoom (configs r.version) cells request r.moment (is_bound configs before earlier r.moment) live wanted
IsInTurn configs cells before earlier (reload config) r outcome.Installed = installs earlier + 1 < MOST_VERSIONS
IsInTurn configs cells before earlier (reload config) r (outcome.VersionsFull versions) = installs earlier + 1 ≡ MOST_VERSIONS
IsInTurn configs cells before earlier line r other = ⊤

-- A line is run by the version that was installed last, at the greatest of the start and the ticks up to it, and in its turn.
pub record IsNext (configs : ℕ → List DomainTree) (cells start : ℕ) (before : List ScriptLine) (earlier : List Record)
    (l : ScriptLine) (r : Record) : Type 0 where
  pub by_version : r.version ≡ installs (earlier ++ r ∷ [])
  pub at : r.moment ≡ moment_after start (before ++ l ∷ [])
  pub turn : IsInTurn configs cells before earlier l r r.outcome

-- With one worker each line is the next one.
abbrev pub SequentialWithOneWorker : (ℕ → List DomainTree) → ℕ → ℕ → ℕ → List ScriptLine → List Record → Type 0
SequentialWithOneWorker configs workers cells start lines records = workers ≡ 1
    → EachLine lines records (λ before earlier l r. IsNext configs cells start before earlier l r)
