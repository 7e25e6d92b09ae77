-- What `audit` writes: the verdict on a printed run.
use Rattle.std.specs.Prelude.{◌≡◌, ℕ, List, [], ◌∷◌, ◌++◌, length, Some, slice_get, codes, decimal}
use Rattle.rate_io.specs.Events.{given}
use Rattle.descriptor_tree.specs.Trees.{DomainTree}
use Rattle.script_text.specs.Script.{script_of}
use Rattle.run_audit.specs.declared.setup.Setup.{Setup}
use Rattle.run_audit.specs.declared.verdict.Verdict.{Verdict}
use Rattle.run_audit.specs.declared.verdict.Verdict.TheVariants.{Lawful, Form, Breaks}
use Rattle.run_audit.specs.Verdict.{IsVerdict, number_of}
use Rattle.cli_exits.specs.Output.{with_line_feed}
use Rattle.cli_exits.specs.Configured.{HasRead}
use Rattle.cli_exits.specs.World.{World}
use Rattle.command_words.specs.declared.command.Command.TheVariants.{Audit}
use Rattle.command_words.specs.declared.command.AuditJob.{AuditJob}

-- the text of a verdict: all clauses hold of so many records, this line is no record or total, or the clause of this number is broken
unfoldable pub verdict_text : Verdict → List ℕ
verdict_text (Lawful records) = codes "{\"lawful\":true,\"records\":" ++ decimal records ++ codes "}"
verdict_text (Form line) = codes "{\"lawful\":false,\"line\":" ++ decimal line ++ codes "}"
verdict_text (Breaks clause) = codes "{\"clause\":" ++ decimal (number_of clause) ++ codes ",\"lawful\":false}"

-- how the run was made that `audit` judges
abbrev pub setup_of : AuditJob → Setup
setup_of job = record { workers = job.workers; cells = job.cells; start = job.start; global_shadow = job.global_shadow }

-- these pieces are the line of the verdict on a run of these bytes, as a script, by this configuration
pub record IsOfVerdict (config : List DomainTree) (setup : Setup) (bytes run : List ℕ) (pieces : List (List ℕ)) : Type 0 where
  pub verdict : Verdict
  pub judged : IsVerdict config setup (script_of bytes) run verdict
  pub line : pieces ≡ with_line_feed (verdict_text verdict) ∷ []

-- `audit` read its configuration files, the run behind them and the script on its input, and this is the line of the verdict on that run
pub record IsAudited (w : World) (job : AuditJob) (pieces : List (List ℕ)) : Type 0 where
  pub config : List DomainTree
  pub read : HasRead w (Audit job) config
  pub run : List ℕ
  pub last : slice_get read.say.files (length job.configs) ≡ Some run
  pub verdict : Verdict
  pub judged : IsVerdict config (setup_of job) (script_of (given w.reads)) run verdict
  pub line : pieces ≡ with_line_feed (verdict_text verdict) ∷ []
