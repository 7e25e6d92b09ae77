use Rattle.std.proofs.Common.{ℕ, ◌+◌, true, sym, ap, ◌∙◌, arith}
use Rattle.script_run.specs.Moments.{offer_of}
use Rattle.script_run.specs.Views.{line_view}
use Rattle.run_audit.proofs.TickCounts.{offers_more, ticks_few}
use Rattle.run_audit.proofs.ticks.all_ticks_of.Goals as goal

pub add_to_all-requires : goal.add_to_all-requires
add_to_all-requires c = λ m.
    omega (arith, c.lines.invariant m, ticks_few (λ v. true) m c.lines.i c.args.lines.now c.args.records.now c.lines-test.true)

pub lines-preserved : goal.lines-preserved
lines-preserved c = λ m.
    let x = c.index-lines-i.result in
    c.in_ok-add_to_all.ensures m ∙ ap (λ (n : ℕ). n + offer_of m (line_view x)) (c.lines.invariant m)
    ∙ sym (offers_more (λ v. true) m c.lines.i c.args.lines.now c.args.records.now x c.index-records-i.result c.requires c.lines-test.true
    c.index-lines-i.is c.index-records-i.is)
