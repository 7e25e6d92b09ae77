-- The totals of the windows that are open at the end of a script.
use Rattle.std.specs.Prelude.{ℕ, List}
use Rattle.rls_core.specs.declared.totals.Total.{Total}
use Rattle.rls_core.specs.Totals.{AreTotals}
use Rattle.reply_text.specs.declared.record.Record.{Record}
use Rattle.script_run.specs.ScriptLine.{ScriptLine}
use Rattle.script_run.specs.Moments.{moment_after}
use Rattle.script_run.specs.Charges.{ledger_of, charged_in}

-- The totals: each counter that was charged and whose window ends after the greatest of the start and the ticks.
abbrev pub AreTotalsOf : ℕ → List ScriptLine → List Record → List Total → Type 0
AreTotalsOf start lines records totals = AreTotals (charged_in (ledger_of lines records)) (moment_after start lines) totals
