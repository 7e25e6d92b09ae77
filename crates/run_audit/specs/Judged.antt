-- Inside: what the trying of all clauses answers.
use Rattle.std.specs.Prelude.{◌≡◌, length, Option, None, Some}
use Rattle.run_audit.specs.Verdict.{PrintedRun, IsFirstBroken, IsLawful}
use Rattle.run_audit.specs.declared.verdict.Clause.{Clause}
use Rattle.run_audit.specs.declared.verdict.Verdict.{Verdict}
use Rattle.run_audit.specs.declared.verdict.Verdict.TheVariants.{Lawful, Form, Breaks}

-- the first clause that is broken, none where all hold
abbrev pub AnswersFirst : PrintedRun → Option Clause → Type 0
AnswersFirst run None = IsLawful run
AnswersFirst run (Some clause) = IsFirstBroken clause run

-- the verdict of a run whose lines are records and totals
abbrev pub IsJudged : PrintedRun → Verdict → Type 0
IsJudged run (Form line) = ⊥
IsJudged run (Breaks clause) = IsFirstBroken clause run
IsJudged run (Lawful records) = IsLawful run × (records ≡ length run.records)
