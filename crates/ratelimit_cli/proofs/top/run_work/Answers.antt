use Rattle.std.proofs.Common.{◌≡◌, map, sym, ap, ◌∙◌}
use Rattle.rate_types.specs.declared.limits.TheConstants.{MOST_BYTES}
use Rattle.descriptor_tree.specs.Views.{config_view}
use Rattle.cli_exits.specs.Jobs.{asked, files_of}
use Rattle.cli_exits.specs.World.{exit_of}
use Rattle.ratelimit_cli.specs.Parts.{command_with, IsOfWork}
use Rattle.ratelimit_cli.proofs.Explaining.{made_output, reads_configs, configs_same, configs_all}
use Rattle.ratelimit_cli.proofs.Steps.{found, unread, unspelled, no_input, has_read, input_since, put}
use Rattle.ratelimit_cli.proofs.top.run_work.Goals as goal

pub returns-in-Err-clause-exit : goal.returns-in-Err-clause-exit
returns-in-Err-clause-exit g c = λ words is.
    unread g.F.Files g.S.Source g.K.Sink g.L.Listen g.P.PollListen c.args.outside.now words (command_with c.args.configs.now c.args.work) is
    c.read_files.new.files (map (asked MOST_BYTES) c.items.result.now) c.in-Err.exit
    (ap (map (asked MOST_BYTES)) c.items.ensures ∙ configs_same c.args.configs.now c.args.work) c.in-Err.ensures.fault

pub returns-in-Err-configuration-clause-exit : goal.returns-in-Err-configuration-clause-exit
returns-in-Err-configuration-clause-exit g c = λ words is.
    let configs = c.args.configs.now in
    let work = c.args.work in
    let blobs = c.in-Ok.blobs in
    unspelled g.F.Files g.S.Source g.K.Sink g.L.Listen g.P.PollListen c.args.outside.now words (command_with configs work) is c.read_files.new.files
    (map (asked MOST_BYTES) c.items.result.now) blobs blobs (ap (map (asked MOST_BYTES)) c.items.ensures ∙ configs_same configs work)
    c.in-Ok.ensures.contents (reads_configs configs work) (configs_all configs work blobs) c.in-Err-configuration.exit
    c.in-Err-configuration.ensures.fault

pub returns-in-Err-read_input-clause-exit : goal.returns-in-Err-read_input-clause-exit
returns-in-Err-read_input-clause-exit g c = λ words is.
    let configs = c.args.configs.now in
    let work = c.args.work in
    let blobs = c.in-Ok.blobs in
    no_input g.F.Files g.S.Source g.K.Sink g.L.Listen g.P.PollListen c.args.outside.now words (command_with configs work) is c.read_files.new.files
    (map (asked MOST_BYTES) c.items.result.now) blobs blobs (ap (map (asked MOST_BYTES)) c.items.ensures ∙ configs_same configs work)
    c.in-Ok.ensures.contents (reads_configs configs work) (configs_all configs work blobs) (config_view c.in-Ok-configuration.config)
    c.in-Ok-configuration.ensures.spells c.read_input.new.source c.in-Err-read_input.exit c.in-Err-read_input.ensures.fault

pub returns-clause-exit : goal.returns-clause-exit
returns-clause-exit g c = λ words is.
    let o = c.args.outside.now in
    let configs = c.args.configs.now in
    let work = c.args.work in
    let command = command_with configs work in
    let config = config_view c.in-Ok-configuration.config in
    let files = c.read_files.new.files in
    let source = c.read_input.new.source in
    let sink = c.make_and_write.new.sink in
    let blobs = c.in-Ok.blobs in
    let input = c.in-Ok-read_input.ensures.input in
    let items = c.in-Ok-read_input.bytes.items in
    let bytes = c.deref.result.now in
    let read = has_read g.F.Files g.S.Source g.K.Sink g.L.Listen g.P.PollListen o words command is files (map (asked MOST_BYTES) c.items.result.now)
    blobs blobs (ap (map (asked MOST_BYTES)) c.items.ensures ∙ configs_same configs work) c.in-Ok.ensures.contents
    (reads_configs configs work) (configs_all configs work blobs) config c.in-Ok-configuration.ensures.spells source items input
    c.in-Ok-read_input.ensures.end sink in
    let same = (input_since g.F.Files g.S.Source g.K.Sink g.L.Listen g.P.PollListen o words command is source items input).1
    ∙ sym c.deref.ensures.value in
    put g.F.Files g.S.Source g.K.Sink g.L.Listen g.P.PollListen o words command is files source sink (IsOfWork work config bytes)
    (made_output (found g.F.Files g.S.Source g.K.Sink g.L.Listen g.P.PollListen o words command is files source sink) configs work config bytes read same)
    (exit_of c.make_and_write.result) c.make_and_write.ensures
