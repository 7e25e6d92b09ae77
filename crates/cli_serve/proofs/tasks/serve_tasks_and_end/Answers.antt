use Rattle.std.proofs.Common.{◌≡◌, List, true, ◌∙◌, subst}
use Rattle.descriptor_tree.specs.Views.{config_view}
use Rattle.http_endpoint.specs.declared.link_end.LinkEnd.{LinkEnd}
use Rattle.cli_exits.specs.World.{exit_of}
use Rattle.cli_exits.specs.Parts.{Sinks, IsOfOutput}
use Rattle.command_words.specs.Words.{IsByInRange}
use Rattle.command_words.specs.declared.command.ServeBy.TheVariants.{Tasks}
use Rattle.cli_serve.specs.Served.{end_lines}
use Rattle.cli_serve.proofs.Serving.{tasks_from, served_so, ended_so}
use Rattle.cli_serve.proofs.tasks.serve_tasks_and_end.Goals as goal

pub serve_limited_tasks-requires-clause-some : goal.serve_limited_tasks-requires-clause-some
serve_limited_tasks-requires-clause-some g c = (subst IsByInRange c.requires.by c.requires.range.0).0

pub returns-in-Ok : goal.returns-in-Ok
returns-in-Ok g c =
    let K = g.K.Sink in
    let L = g.Q.PollListen in
    let config = config_view c.args.config in
    let job = c.args.job.now in
    let served = c.in-Ok.ensures in
    let from = tasks_from c.args.tasks config job (L.history c.args.polls.now) (L.history c.serve_limited_tasks.new.polls) served.0 true served.2 in
    let output = c.write_ends.ensures in
    let s : Sinks = record {
      written = K.written c.args.sink.now;
      after = K.written c.write_ends.new.sink;
      faults = (K.faults c.args.sink.now, K.faults c.write_ends.new.sink);
    } in
    record {
      more = from.more;
      listened = from.grew;
      writes = output.events;
      wrote = output.grew;
      ends = ended_so config job (L.faults c.args.polls.now, L.faults c.serve_limited_tasks.new.polls) s from.more output.events served.0
          (exit_of c.write_ends.result) served.1 (served_so (Tasks c.args.tasks) config job from.more served.0 true c.requires.by from.served)
          (subst (λ (es : List LinkEnd). IsOfOutput (λ pieces. pieces ≡ end_lines 0 es) s (exit_of c.write_ends.result) output.events)
          (c.deref.ensures.value ∙ served.3) output.are);
    }
