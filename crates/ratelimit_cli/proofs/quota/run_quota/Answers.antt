use Rattle.std.proofs.Common.{◌∷◌, map, ap, ◌∙◌}
use Rattle.std.specs.List.{flat_map}
use Rattle.rate_types.specs.declared.limits.TheConstants.{MOST_BYTES}
use Rattle.cli_exits.specs.Jobs.{asked}
use Rattle.cli_exits.specs.World.{exit_of}
use Rattle.quota_stream.specs.Output.{with_feeds}
use Rattle.command_words.specs.declared.command.Command.TheVariants.{Quota}
use Rattle.ratelimit_cli.proofs.Steps.{unread}
use Rattle.ratelimit_cli.proofs.Replaying.{no_replay, put_replay}
use Rattle.ratelimit_cli.proofs.quota.run_quota.Goals as goal

-- the settings file or a stream wasn't read
pub returns-in-Err-clause-exit : goal.returns-in-Err-clause-exit
returns-in-Err-clause-exit g c = λ words is.
    unread g.F.Files g.S.Source g.K.Sink g.L.Listen g.P.PollListen c.args.outside.now words (Quota c.args.job) is c.read_files.new.files
    (map (asked MOST_BYTES) c.items.result.now) c.in-Err.exit (ap (map (asked MOST_BYTES)) (c.items.ensures ∙ c.in-Ok.ensures))
    c.in-Err.ensures.fault

-- the settings are refused, or a stream is too long
pub returns-in-Err-replayed-clause-exit : goal.returns-in-Err-replayed-clause-exit
returns-in-Err-replayed-clause-exit g c = λ words is.
    no_replay g.F.Files g.S.Source g.K.Sink g.L.Listen g.P.PollListen c.args.outside.now words c.args.job is c.read_files.new.files
    (map (asked MOST_BYTES) c.items.result.now) c.first_of-file.result.0 c.first_of-file.result.1
    (ap (map (asked MOST_BYTES)) (c.items.ensures ∙ c.in-Ok.ensures)) (rw (← c.first_of-file.ensures) c.in-Ok-read_files.ensures.contents)
    c.in-Err-replayed.exit (rw (← c.bytes.ensures) c.in-Err-replayed.ensures.fault)

-- the outputs were written, or the first of their lines
pub returns-clause-exit : goal.returns-clause-exit
returns-clause-exit g c = λ words is.
    put_replay g.F.Files g.S.Source g.K.Sink g.L.Listen g.P.PollListen c.args.outside.now words c.args.job is c.read_files.new.files
    (map (asked MOST_BYTES) c.items.result.now) c.first_of-file.result.0 c.first_of-file.result.1
    (ap (map (asked MOST_BYTES)) (c.items.ensures ∙ c.in-Ok.ensures)) (rw (← c.first_of-file.ensures) c.in-Ok-read_files.ensures.contents)
    (flat_map with_feeds c.in-Ok-replayed.texts) (rw (← c.bytes.ensures) c.in-Ok-replayed.ensures.texts) c.write_texts.new.sink
    (exit_of c.write_texts.result) c.write_texts.ensures
