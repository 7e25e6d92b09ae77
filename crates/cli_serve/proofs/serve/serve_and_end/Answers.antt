use Rattle.std.proofs.Common.{◌≡◌, ℕ, List, [], true, false, Err, inl, refl, sym, ◌∙◌, subst}
use Rattle.std.proofs.lemmas.List.{append-nil}
use Rattle.descriptor_tree.specs.Views.{config_view}
use Rattle.http_endpoint.specs.declared.link_end.LinkEnd.{LinkEnd}
use Rattle.http_limiter.specs.Limited.{ServesLimited}
use Rattle.http_limiter.specs.declared.limited.Setup.{Setup}
use Rattle.http_serve.specs.declared.links.LinksFault.{LinksFault}
use Rattle.http_serve.specs.declared.links.LinksFault.TheVariants.{Listen}
use Rattle.cli_exits.specs.World.{exit_of}
use Rattle.cli_exits.specs.Parts.{Sinks, IsOfOutput}
use Rattle.command_words.specs.Words.{IsByInRange}
use Rattle.command_words.specs.declared.command.ServeBy.TheVariants.{Workers}
use Rattle.cli_serve.specs.Served.{end_lines}
use Rattle.cli_serve.proofs.Serving.{served_from, served_so, ended_so}
use Rattle.cli_serve.proofs.serve.serve_and_end.Goals as goal

pub serve_limited-requires-clause-range : goal.serve_limited-requires-clause-range
serve_limited-requires-clause-range g c κs within =
    let range = c.requires.range in
    record { workers = subst IsByInRange c.requires.by range.0; cells = (range.1, range.2); few = range.3 }

pub returns-in-Ok : goal.returns-in-Ok
returns-in-Ok g c =
    let K = g.K.Sink in
    let L = g.L.Listen in
    let config = config_view c.args.config in
    let job = c.args.job.now in
    let served = c.in-Ok.ensures in
    let from = served_from c.args.workers config job (L.history c.args.listen.now) (L.history c.serve_limited.new.listen) served.0 true served.2 in
    let output = c.write_ends.ensures in
    let s : Sinks = record {
      written = K.written c.args.sink.now;
      after = K.written c.write_ends.new.sink;
      faults = (K.faults c.args.sink.now, K.faults c.write_ends.new.sink);
    } in
    record {
      more = from.more;
      listened = from.grew;
      writes = output.events;
      wrote = output.grew;
      ends = ended_so config job (L.faults c.args.listen.now, L.faults c.serve_limited.new.listen) s from.more output.events served.0
          (exit_of c.write_ends.result) served.1 (served_so (Workers c.args.workers) config job from.more served.0 true c.requires.by from.served)
          (subst (λ (es : List LinkEnd). IsOfOutput (λ pieces. pieces ≡ end_lines 0 es) s (exit_of c.write_ends.result) output.events)
          (c.deref.ensures.value ∙ served.3) output.are);
    }

pub returns-in-Err-Listen : goal.returns-in-Err-Listen
returns-in-Err-Listen g c =
    let L = g.L.Listen in
    let config = config_view c.args.config in
    let job = c.args.job.now in
    let old = L.history c.args.listen.now in
    let new = L.history c.serve_limited.new.listen in
    let faults : ℕ × ℕ = (L.faults c.args.listen.now, L.faults c.serve_limited.new.listen) in
    let setup : Setup = record { workers = c.args.workers; cells = job.cells; global_shadow = job.global_shadow; stats = job.stats } in
    let served : ServesLimited config setup job.connections old new faults (Err Listen) =
    subst (λ (e : LinksFault). ServesLimited config setup job.connections old new faults (Err e)) c.in-Err-Listen.field-0-is c.in-Err-Listen.ensures in
    let from = served_from c.args.workers config job old new served.0 false served.2 in
    record {
      more = from.more;
      listened = from.grew;
      writes = [];
      wrote = sym (append-nil (g.K.Sink.history c.args.sink.now));
      ends = (
        served.3,
        refl,
        refl,
        inl (served.0, served.1, served_so (Workers c.args.workers) config job from.more served.0 false c.requires.by from.served),
      );
    }
