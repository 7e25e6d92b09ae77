use Rattle.std.proofs.Common.{map, string_bytes, ap, ◌∙◌}
use Rattle.rate_types.specs.declared.limits.TheConstants.{MOST_BYTES}
use Rattle.cli_exits.specs.Jobs.{asked}
use Rattle.cli_exits.specs.World.{exit_of}
use Rattle.command_words.specs.declared.command.Command.TheVariants.{Pool}
use Rattle.ratelimit_cli.proofs.Steps.{unread}
use Rattle.ratelimit_cli.proofs.Pooling.{no_answers, put_answers}
use Rattle.ratelimit_cli.proofs.pool.run_pool.Goals as goal

-- the pools or the events weren't read
pub returns-in-Err-clause-exit : goal.returns-in-Err-clause-exit
returns-in-Err-clause-exit g c = λ words is.
    unread g.F.Files g.S.Source g.K.Sink g.L.Listen g.P.PollListen c.args.outside.now words (Pool c.args.job) is c.read_files.new.files
    (map (asked MOST_BYTES) c.items.result.now) c.in-Err.exit (ap (map (asked MOST_BYTES)) (c.items.ensures ∙ c.in-Ok.ensures))
    c.in-Err.ensures.fault

-- the pools are refused, or the events are too long
pub returns-in-Err-answered-clause-exit : goal.returns-in-Err-answered-clause-exit
returns-in-Err-answered-clause-exit g c = λ words is.
    no_answers g.F.Files g.S.Source g.K.Sink g.L.Listen g.P.PollListen c.args.outside.now words c.args.job is c.read_files.new.files
    (map (asked MOST_BYTES) c.items.result.now) c.both_of-file.result.0 c.both_of-file.result.1
    (ap (map (asked MOST_BYTES)) (c.items.ensures ∙ c.in-Ok.ensures)) (rw (← c.both_of-file.ensures) c.in-Ok-read_files.ensures.contents)
    c.in-Err-answered.exit (rw (← c.bytes.ensures) (rw (← c.bytes-2.ensures) c.in-Err-answered.ensures.fault))

-- the answers were written, or the first of their lines
pub returns-clause-exit : goal.returns-clause-exit
returns-clause-exit g c = λ words is.
    put_answers g.F.Files g.S.Source g.K.Sink g.L.Listen g.P.PollListen c.args.outside.now words c.args.job is c.read_files.new.files
    (map (asked MOST_BYTES) c.items.result.now) c.both_of-file.result.0 c.both_of-file.result.1
    (ap (map (asked MOST_BYTES)) (c.items.ensures ∙ c.in-Ok.ensures)) (rw (← c.both_of-file.ensures) c.in-Ok-read_files.ensures.contents)
    (map (λ t. string_bytes t) c.deref.result.now)
    (rw c.deref.ensures.value (rw (← c.bytes.ensures) (rw (← c.bytes-2.ensures) c.in-Ok-answered.ensures.lines)))
    c.write_answers.new.sink (exit_of c.write_answers.result) c.write_answers.ensures
