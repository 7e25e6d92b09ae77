use Rattle.std.proofs.Common.{length, Ok, sym, ap, ◌∙◌, arith}
use Rattle.std.proofs.lemmas.List.{length-map}
use Rattle.line_numbers.specs.Batches.{batches_id}
use Rattle.rate_limiter.specs.Passes.{bounds_of}
use Rattle.worker_run.specs.Parts.{IsReady}
use Rattle.worker_run.proofs.Gathering.{all_index, all_done}
use Rattle.worker_run.proofs.running.work_all.Goals as goal

pub work_each-requires-clause-ready : goal.work_each-requires-clause-ready
work_each-requires-clause-ready g c κs within =
    all_index (λ w. IsReady c.args.run.now.limiter.now.id (batches_id c.args.run.now.numbers.now) w) c.args.workers.items c.requires.ready

pub returns : goal.returns
returns g c =
    let run = c.args.run.now in
    let ws = c.args.workers.items in
    let vs = c.in_ok-workers.workers.items in
    let rs = c.in_ok-done.done.items in
    let many = sym (length-map vs Ok) ∙ ap length c.in_ok-workers.ensures.same ∙ sym c.in_ok-done.done.ok.0 ∙ c.in_ok-done.ensures.len ∙ c.args.workers.ok.0 in
    record {
      done = all_done run.stats (bounds_of g.N.CellNaming.setup.cells run.limiter.now) run.limiter.now run.start (g.L.ScriptLines.lines run.lines.now) (batches_id run.numbers.now) ws vs rs
          c.in_ok-workers.ensures.same many (λ i d e lt. c.in_ok-done.ensures.each i d e (omega (arith, lt, c.args.workers.ok.0)));
    }
