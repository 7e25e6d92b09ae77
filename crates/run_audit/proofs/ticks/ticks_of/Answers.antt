use Rattle.std.proofs.Common.{ℕ, ◌+◌, ◌==◌, cond, sym, ap₂, ◌∙◌, arith}
use Rattle.script_run.specs.Moments.{offer_of}
use Rattle.script_run.specs.Views.{line_view}
use Rattle.run_audit.proofs.TickCounts.{offers_more, ticks_few}
use Rattle.run_audit.proofs.ticks.ticks_of.Goals as goal

pub add_tick-requires : goal.add_tick-requires
add_tick-requires c = λ m.
    omega (
      arith,
      c.lines.invariant m c.worker_of-worker.result,
      ticks_few (λ v. v == c.worker_of-worker.result) m c.lines.i c.args.lines.now c.args.records.now c.lines-test.true,
    )

pub lines-preserved : goal.lines-preserved
lines-preserved c = λ m w.
    let x = c.index-lines-i.result in
    c.in_ok-add_tick.ensures m w
    ∙ ap₂ (λ (n v : ℕ). n + cond (v == w) (offer_of m (line_view x)) 0) (c.lines.invariant m w) c.worker_of-worker.ensures
    ∙ sym (offers_more (λ v. v == w) m c.lines.i c.args.lines.now c.args.records.now x c.index-records-i.result c.requires c.lines-test.true
    c.index-lines-i.is c.index-records-i.is)
