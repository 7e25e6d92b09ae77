-- What is said of a printed run: its first line that is none, the first clause that it breaks, or that it is lawful.
use Rattle.std.specs.Prelude.{◌≡◌, ℕ, ◌<◌, List, length}
use Rattle.descriptor_tree.specs.Trees.{DomainTree}
use Rattle.rls_core.specs.declared.totals.Total.{Total}
use Rattle.reply_text.specs.declared.record.Record.{Record}
use Rattle.run_text.specs.Run.{IsRunText, IsWrongAt, IsNoRun}
use Rattle.script_run.specs.ScriptLine.{ScriptLine}
use Rattle.script_run.specs.Kinds as kinds
use Rattle.script_run.specs.Versions as versions
use Rattle.script_run.specs.Moments as moments
use Rattle.script_run.specs.Charges as charges
use Rattle.script_run.specs.Values.{ValuesNeverFall}
use Rattle.script_run.specs.Totals.{AreTotalsOf}
use Rattle.run_audit.specs.Causes.{RefusalsCaused}
use Rattle.run_audit.specs.Ruled.{RuledByRule}
use Rattle.run_audit.specs.declared.setup.Setup.{Setup}
use Rattle.run_audit.specs.declared.verdict.Clause.{Clause}
use Rattle.run_audit.specs.declared.verdict.Clause.TheVariants.{
  OneRecordPerLine,
  VersionsNumbered,
  RepliesByRule,
  VersionsNeverFall,
  MomentsNeverFall,
  ChargesFormLedger,
  SightsLawful,
  RefusalsHaveCauses,
  TotalsOfCharges,
}
use Rattle.run_audit.specs.declared.verdict.Verdict.{Verdict}
use Rattle.run_audit.specs.declared.verdict.Verdict.TheVariants.{Lawful, Form, Breaks}

-- A printed run: the configuration of version 0, how the script was run, the script's lines, and the records and totals that were printed.
pub record PrintedRun : Type 0 where
  pub first : List DomainTree
  pub setup : Setup
  pub lines : List ScriptLine
  pub records : List Record
  pub totals : List Total

-- the configuration of each version
abbrev pub configs : PrintedRun → ℕ → List DomainTree
configs run = versions.version_in run.first run.lines run.records

-- the number of a clause
abbrev pub number_of : Clause → ℕ
number_of OneRecordPerLine = 1
number_of VersionsNumbered = 2
number_of RepliesByRule = 3
number_of VersionsNeverFall = 4
number_of MomentsNeverFall = 5
number_of ChargesFormLedger = 6
number_of SightsLawful = 7
number_of RefusalsHaveCauses = 8
number_of TotalsOfCharges = 14

-- what a clause says
abbrev pub Holds : Clause → PrintedRun → Type 0
Holds OneRecordPerLine run = kinds.OneRecordPerLine run.setup.workers run.lines run.records
Holds VersionsNumbered run = versions.VersionsNumbered run.lines run.records
Holds RepliesByRule run = RuledByRule (configs run) run.setup.global_shadow run.lines run.records
Holds VersionsNeverFall run = versions.VersionsNeverFall run.lines run.records
Holds MomentsNeverFall run = moments.MomentsNeverFall run.setup.start run.lines run.records
Holds ChargesFormLedger run = charges.ChargesFormLedger run.lines run.records
Holds SightsLawful run = charges.SightsLawful run.lines run.records × ValuesNeverFall run.lines run.records
Holds RefusalsHaveCauses run = RefusalsCaused (configs run) run.setup.workers run.setup.cells run.lines run.records
Holds TotalsOfCharges run = AreTotalsOf run.setup.start run.lines run.records run.totals

-- A clause is the first that a run breaks: those of lesser numbers hold.
pub record IsFirstBroken (clause : Clause) (run : PrintedRun) : Type 0 where
  pub broken : ¬ (Holds clause run)
  pub before : (c : Clause) → number_of c < number_of clause → Holds c run

-- All clauses hold.
abbrev pub IsLawful : PrintedRun → Type 0
IsLawful run = (c : Clause) → Holds c run

-- These bytes are the text of a run of these lines, of which this is true.
pub record IsTextOfRun (first : List DomainTree) (setup : Setup) (lines : List ScriptLine) (bytes : List ℕ)
    (Fact : PrintedRun → Type 0) : Type 0 where
  pub records : List Record
  pub totals : List Total
  pub text : IsRunText bytes records totals
  pub fact : Fact (record { first = first; setup = setup; lines = lines; records = records; totals = totals })

-- The verdict: the first line that keeps the bytes from being the text of any run, the first clause that the run breaks, or that all
-- clauses hold, with the number of records.
abbrev pub IsVerdict : List DomainTree → Setup → List ScriptLine → List ℕ → Verdict → Type 0
IsVerdict first setup lines bytes (Form line) = IsWrongAt bytes line × IsNoRun bytes
IsVerdict first setup lines bytes (Breaks clause) = IsTextOfRun first setup lines bytes (λ run. IsFirstBroken clause run)
IsVerdict first setup lines bytes (Lawful records) =
    IsTextOfRun first setup lines bytes (λ run. IsLawful run × (records ≡ length run.records))
