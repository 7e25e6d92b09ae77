-- What running one line does to a pass, and what the line's record shows of it.
use Rattle.std.specs.Prelude.{◌≡◌, ℕ, ◌-◌, ◌≤◌, List, ◌++◌, length, map, slice_get, Some, Err, ⊤}
use Rattle.rate_types.specs.Ledger.{Charge}
use Rattle.rate_types.specs.declared.limits.TheConstants.{MOST_DESCRIPTORS}
use Rattle.rls_core.specs.Reply.{charges_of}
use Rattle.rls_core.specs.declared.reply.Reply.{Reply}
use Rattle.rls_core.specs.declared.fault.CheckFault.TheVariants as check_fault
use Rattle.rls_core.specs.declared.fault.ReloadFault.TheVariants as reload_fault
use Rattle.counter_cells.specs.Ledgers.{charge_of}
use Rattle.counter_cells.specs.declared.view.Charge as cell_charge
use Rattle.counter_directory.specs.Acquired.{Bounds}
use Rattle.config_versions.specs.PassState.{HasInstalled}
use Rattle.rate_limiter.specs.Passes.{LimiterView, PassView, KeepsAllButVersion, KeepsAllButTicks}
use Rattle.rate_limiter.specs.Named.{AreNamed}
use Rattle.rate_limiter.specs.PassStep.{IsPassStep, HasOffered}
use Rattle.rate_limiter.specs.Refusals.{HasRefused, HasCause}
use Rattle.rate_limiter.specs.Versions.{Reloads}
use Rattle.reply_text.specs.declared.record.Record.{Record}
use Rattle.reply_text.specs.declared.record.Outcome.{Outcome}
use Rattle.reply_text.specs.declared.record.Outcome.TheVariants as outcome
use Rattle.script_run.specs.ScriptLine.{ScriptLine, check, reload, tick, bad}

-- A check, of no more descriptors than a request may have, is a step of the pass that offers the start, or is refused with its cause. A
-- reload installs its configuration as the pass's version, or there are as many versions as there may be. A tick offers its number. A bad
-- line does nothing.
abbrev pub LineStep : Bounds → LimiterView → ℕ → ScriptLine → PassView → Outcome → PassView → Type 0
LineStep b limiter start (check request) p (outcome.Checked answer) q =
    (reply : Reply) × IsPassStep limiter request start p reply q × (answer ≡ record { over = reply.over; statuses = reply.statuses.items })
    × (length request.descriptors ≤ MOST_DESCRIPTORS)
LineStep b limiter start (check request) p (outcome.Full live held wanted) q =
    HasRefused start p q × ((moment : ℕ) × HasCause b request p (check_fault.CountersFull moment live held wanted) q)
    × (length request.descriptors ≤ MOST_DESCRIPTORS)
LineStep b limiter start (check request) p (outcome.Spent claims wanted) q =
    HasRefused start p q × HasCause b request p (check_fault.ClaimsSpent claims wanted) q × (length request.descriptors ≤ MOST_DESCRIPTORS)
LineStep b limiter start (reload config) p outcome.Installed q =
    KeepsAllButVersion p q × ((number : ℕ) × HasInstalled config number p.version q.version)
LineStep b limiter start (reload config) p (outcome.VersionsFull versions) q =
    KeepsAllButVersion p q × Reloads config (Err (reload_fault.VersionsFull versions)) p.version q.version
LineStep b limiter start (tick now) p (outcome.Ticked shown) q =
    (shown ≡ now) × HasOffered now p.cells q.cells × KeepsAllButTicks p q
LineStep b limiter start (bad refused) p (outcome.Bad shown) q = (shown ≡ refused) × (q ≡ p)
LineStep b limiter start line p other q = ⊥

-- A record is that of the line with its number, and shows its worker, and the version and the moment that the pass has after the
-- line's step.
pub record IsRecordStep (b : Bounds) (limiter : LimiterView) (start worker : ℕ) (lines : List ScriptLine) (p : PassView) (r : Record)
    (q : PassView) : Type 0 where
  pub line : ScriptLine
  pub numbered : 1 ≤ r.line
  pub there : slice_get lines (r.line - 1) ≡ Some line
  pub by_worker : r.worker ≡ worker
  pub by_version : r.version ≡ q.version.version
  pub at : r.moment ≡ q.cells.moment
  pub step : LineStep b limiter start line p r.outcome q

-- the last charges that the pass made are those that the outcome shows, each under a claim that binds its counter
pub record AreLastCharges (charges : List (Charge Rattle.rate_types.specs.declared.counter_key.CounterKey.CounterKey)) (q : PassView)
    : Type 0 where
  pub earlier : List cell_charge.Charge
  pub last : List cell_charge.Charge
  pub made : q.cells.charges ≡ earlier ++ last
  pub named : AreNamed q.claims.known (map charge_of last) charges

-- the charges of an answered check are the last ones of the pass
abbrev pub HasCharged : ScriptLine → Outcome → PassView → Type 0
HasCharged (check request) (outcome.Checked answer) q =
    AreLastCharges (charges_of request q.cells.moment request.descriptors answer.statuses) q
HasCharged line (outcome.Checked answer) q = ⊥
HasCharged line other q = ⊤

-- A record shows the version and the moment of the pass, and where it is that of an answered check, its line is a check, and the
-- last charges of the pass are those that it shows.
pub record IsShown (line : ScriptLine) (r : Record) (q : PassView) : Type 0 where
  pub version : r.version ≡ q.version.version
  pub moment : r.moment ≡ q.cells.moment
  pub charged : HasCharged line r.outcome q
