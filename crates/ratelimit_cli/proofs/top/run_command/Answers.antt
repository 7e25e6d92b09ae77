use Rattle.std.proofs.Common.{◌≡◌, Some, ap, ◌∙◌}
use Rattle.command_words.specs.Words.{command_of}
use Rattle.command_words.specs.declared.command.Command.{Command}
use Rattle.command_words.specs.declared.command.Command.TheVariants.{Threads, Help}
use Rattle.command_words.specs.declared.command.ThreadJob.{ThreadJob}
use Rattle.command_words.specs.declared.command.ThreadJob.TheVariants.{Gen}
use Rattle.command_words.specs.declared.help.TheConstants.{HELP}
use Rattle.cli_exits.specs.World.{exit_of}
use Rattle.cli_drive.specs.Generated.{load_text}
use Rattle.ratelimit_cli.proofs.Steps.{put_fixed}
use Rattle.ratelimit_cli.proofs.top.run_command.Goals as goal

-- the help was written
pub returns-in-Ok-Help-clause-exit : goal.returns-in-Ok-Help-clause-exit
returns-in-Ok-Help-clause-exit g c =
    put_fixed g.F.Files g.S.Source g.K.Sink g.L.Listen g.P.PollListen c.args.outside.now c.args.words.now Help
    (c.in-Ok-Help.ensures.command ∙ ap Some c.in-Ok-Help.field-0-is) HELP.now c.write_text.new.sink (λ pieces fixed. fixed)
    (exit_of c.write_text.result) c.write_text.ensures

-- the summary was written
pub returns-in-Ok-Threads-Gen-clause-exit : goal.returns-in-Ok-Threads-Gen-clause-exit
returns-in-Ok-Threads-Gen-clause-exit g c =
    let number = c.in-Ok-Threads-Gen.number in
    let checks = c.in-Ok-Threads-Gen.checks in
    let command : Command = Threads (Gen number checks) in
    let named : command_of c.args.words.now ≡ Some command =
    c.in-Ok-Threads-Gen.ensures.command ∙ ap Some c.in-Ok-Threads-Gen.field-0-is ∙ ap (λ (j : ThreadJob). Some (Threads j)) c.in-Ok-Threads-Gen.field-0-0-is in
    put_fixed g.F.Files g.S.Source g.K.Sink g.L.Listen g.P.PollListen c.args.outside.now c.args.words.now command named (load_text number checks)
    c.run_gen.new.sink (λ pieces fixed. fixed) (exit_of c.run_gen.result) c.run_gen.ensures
