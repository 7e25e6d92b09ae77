use Rattle.std.proofs.Common.{◌∷◌, [], ◌++◌, Ok, refl, sym, ◌∙◌}
use Rattle.descriptor_tree.specs.Views.{config_view}
use Rattle.cli_exits.specs.Jobs.{files_of}
use Rattle.cli_exits.specs.World.{exit_of}
use Rattle.command_words.specs.declared.command.Command.TheVariants.{Audit}
use Rattle.ratelimit_cli.proofs.Steps.{unread}
use Rattle.ratelimit_cli.proofs.Audits.{no_configs, no_script, put_verdict}
use Rattle.ratelimit_cli.proofs.auditing.audit_files.Goals as goal

-- a configuration file or the run wasn't read
pub returns-in-Err-clause-exit : goal.returns-in-Err-clause-exit
returns-in-Err-clause-exit g c = λ words is.
    unread g.F.Files g.S.Source g.K.Sink g.L.Listen g.P.PollListen c.args.outside.now words (Audit c.args.job.now) is c.read_run_files.new.files
    (files_of (Audit c.args.job.now)) c.in-Err.exit refl c.in-Err.ensures.fault

-- the configuration files are refused
pub returns-in-Err-configuration-clause-exit : goal.returns-in-Err-configuration-clause-exit
returns-in-Err-configuration-clause-exit g c = λ words is.
    no_configs g.F.Files g.S.Source g.K.Sink g.L.Listen g.P.PollListen c.args.outside.now words c.args.job.now is c.read_run_files.new.files
    c.in-Ok.read.configs c.in-Ok.read.run c.in-Ok.ensures.contents c.in-Err-configuration.exit c.in-Err-configuration.ensures.fault

-- the script wasn't read
pub returns-in-Err-read_input-clause-exit : goal.returns-in-Err-read_input-clause-exit
returns-in-Err-read_input-clause-exit g c = λ words is.
    no_script g.F.Files g.S.Source g.K.Sink g.L.Listen g.P.PollListen c.args.outside.now words c.args.job.now is c.read_run_files.new.files
    c.in-Ok.read.configs c.in-Ok.read.run c.in-Ok.ensures.contents (config_view c.in-Ok-configuration.config)
    c.in-Ok-configuration.ensures.spells c.read_input.new.source c.in-Err-read_input.exit c.in-Err-read_input.ensures.fault

-- the verdict was written, or not
pub returns-clause-exit : goal.returns-clause-exit
returns-clause-exit g c = λ words is.
    put_verdict g.F.Files g.S.Source g.K.Sink g.L.Listen g.P.PollListen c.args.outside.now words c.args.job.now is c.read_run_files.new.files
    c.in-Ok.read.configs c.in-Ok.read.run c.in-Ok.ensures.contents (config_view c.in-Ok-configuration.config)
    c.in-Ok-configuration.ensures.spells c.read_input.new.source c.deref.result.now
    (rw c.deref.ensures.value c.in-Ok-read_input.ensures.input) c.in-Ok-read_input.ensures.end c.judge_and_write.new.sink
    (exit_of c.judge_and_write.result) (rw (← c.bytes.ensures) c.judge_and_write.ensures)
