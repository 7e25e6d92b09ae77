use Rattle.std.proofs.Common.{◌≡◌, map, refl, ap, ◌∙◌, rules}
use Rattle.rate_types.specs.declared.limits.TheConstants.{MOST_BYTES}
use Rattle.descriptor_tree.specs.Views.{config_view}
use Rattle.cli_exits.specs.Jobs.{asked, files_of}
use Rattle.command_words.specs.declared.command.Command.TheVariants.{Threads}
use Rattle.command_words.specs.declared.command.ThreadJob.TheVariants.{Serve}
use Rattle.command_words.specs.declared.command.ServeBy.TheVariants.{Workers, Tasks}
use Rattle.cli_exits.proofs.Histories.{none_since}
use Rattle.ratelimit_cli.proofs.Steps.{found, unread, unspelled, said}
use Rattle.ratelimit_cli.proofs.Explaining.{found_of, serve_call}
use Rattle.ratelimit_cli.proofs.serve.run_serve.Goals as goal

-- a configuration file wasn't read
pub returns-in-Err-clause-exit : goal.returns-in-Err-clause-exit
returns-in-Err-clause-exit g c = λ words is.
    let same : c.items.result.now ≡ c.args.job.configs = search rules in
    unread g.F.Files g.S.Source g.K.Sink g.L.Listen g.P.PollListen c.args.outside.now words (Threads (Serve c.args.job)) is c.read_files.new.files
    (map (asked MOST_BYTES) c.items.result.now) c.in-Err.exit (ap (map (asked MOST_BYTES)) same) c.in-Err.ensures.fault

-- the files are refused
pub returns-in-Err-configuration-clause-exit : goal.returns-in-Err-configuration-clause-exit
returns-in-Err-configuration-clause-exit g c = λ words is.
    let same : c.items.result.now ≡ c.args.job.configs = search rules in
    unspelled g.F.Files g.S.Source g.K.Sink g.L.Listen g.P.PollListen c.args.outside.now words (Threads (Serve c.args.job)) is c.read_files.new.files
    (map (asked MOST_BYTES) c.items.result.now) c.in-Ok.blobs c.in-Ok.blobs (ap (map (asked MOST_BYTES)) same) c.in-Ok.ensures.contents tt refl
    c.in-Err-configuration.exit c.in-Err-configuration.ensures.fault

-- the links were served by threads, or not
pub returns-in-Workers-clause-exit : goal.returns-in-Workers-clause-exit
returns-in-Workers-clause-exit g c = λ words is.
    let o = c.args.outside.now in
    let same : c.items.result.now ≡ c.args.job.configs = search rules in
    let say = said g.F.Files g.S.Source g.K.Sink g.L.Listen g.P.PollListen o words (Threads (Serve c.args.job)) is c.read_files.new.files
    (map (asked MOST_BYTES) c.items.result.now) c.in-Ok.blobs c.in-Ok.blobs (ap (map (asked MOST_BYTES)) same) c.in-Ok.ensures.contents tt refl
    (config_view c.in-Ok-configuration.config) c.in-Ok-configuration.ensures.spells o.source c.listen_and_serve.new.sink in
    let w = found g.F.Files g.S.Source g.K.Sink g.L.Listen g.P.PollListen o words (Threads (Serve c.args.job)) is c.read_files.new.files o.source
    c.listen_and_serve.new.sink in
    serve_call (Workers c.in-Workers.workers) c.args.job c.in-Workers.is _ w _ is
    (c.listen_and_serve.ensures.exit (found_of w) (record { say = say; unread = none_since (g.S.Source.history o.source) }))
    (none_since (g.P.PollListen.history o.polls), refl)

-- the links were served by tasks, or not
pub returns-clause-exit : goal.returns-clause-exit
returns-clause-exit g c = λ words is.
    let o = c.args.outside.now in
    let same : c.items.result.now ≡ c.args.job.configs = search rules in
    let say = said g.F.Files g.S.Source g.K.Sink g.L.Listen g.P.PollListen o words (Threads (Serve c.args.job)) is c.read_files.new.files
    (map (asked MOST_BYTES) c.items.result.now) c.in-Ok.blobs c.in-Ok.blobs (ap (map (asked MOST_BYTES)) same) c.in-Ok.ensures.contents tt refl
    (config_view c.in-Ok-configuration.config) c.in-Ok-configuration.ensures.spells o.source c.poll_and_serve.new.sink in
    let w = found g.F.Files g.S.Source g.K.Sink g.L.Listen g.P.PollListen o words (Threads (Serve c.args.job)) is c.read_files.new.files o.source
    c.poll_and_serve.new.sink in
    serve_call (Tasks c.in-Tasks.tasks) c.args.job c.in-Tasks.is _ w _ is
    (c.poll_and_serve.ensures.exit (found_of w) (record { say = say; unread = none_since (g.S.Source.history o.source) }))
    (none_since (g.L.Listen.history o.listen), refl)
