-- A lawful run of a script by any number of workers, as a relation between its lines and its records.
use Rattle.std.specs.Prelude.{ℕ, List, Bool}
use Rattle.descriptor_tree.specs.Trees.{DomainTree}
use Rattle.reply_text.specs.declared.record.Record.{Record}
use Rattle.script_run.specs.ScriptLine.{ScriptLine}
use Rattle.script_run.specs.Kinds.{OneRecordPerLine}
use Rattle.script_run.specs.Versions.{version_in, VersionsNumbered, VersionsNeverFall}
use Rattle.script_run.specs.Replies.{RepliesByRule}
use Rattle.script_run.specs.Moments.{MomentsNeverFall}
use Rattle.script_run.specs.Charges.{ChargesFormLedger, LimitsHold, SightsLawful}
use Rattle.script_run.specs.Values.{ValuesNeverFall}
use Rattle.script_run.specs.Refusals.{RefusalsHaveCauses}
use Rattle.script_run.specs.Sequential.{SequentialWithOneWorker}

-- The run of these lines by so many workers, where these are the configurations of its versions, from a start, with so many cells.
pub record IsRunBy (configs : ℕ → List DomainTree) (workers cells start : ℕ) (global_shadow : Bool) (lines : List ScriptLine)
    (records : List Record) : Type 0 where
  pub one_record_per_line : OneRecordPerLine workers lines records
  pub versions_numbered : VersionsNumbered lines records
  pub replies_by_rule : RepliesByRule configs global_shadow lines records
  pub versions_never_fall : VersionsNeverFall lines records
  pub moments_never_fall : MomentsNeverFall start lines records
  pub charges_form_ledger : ChargesFormLedger lines records
  pub limits_hold : LimitsHold lines records
  pub sights_lawful : SightsLawful lines records
  pub values_never_fall : ValuesNeverFall lines records
  pub refusals_have_causes : RefusalsHaveCauses configs workers cells lines records
  pub sequential_with_one_worker : SequentialWithOneWorker configs workers cells start lines records

-- The run of these lines, whose version 0 is this configuration and whose other versions are those that its lines install.
abbrev pub IsRun : List DomainTree → ℕ → ℕ → ℕ → Bool → List ScriptLine → List Record → Type 0
IsRun first workers cells start global_shadow lines records =
    IsRunBy (version_in first lines records) workers cells start global_shadow lines records
