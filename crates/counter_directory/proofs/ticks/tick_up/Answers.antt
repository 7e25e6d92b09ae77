use Rattle.std.proofs.Common.{refl}
use Rattle.counter_directory.proofs.Acquiring.{no_ticks, ticks_more, heard_again}
use Rattle.counter_directory.proofs.ticks.tick_up.Goals as goal

pub loop-round-init : goal.loop-round-init
loop-round-init g c = record { ticks = no_ticks c.args.cell_pass.now; claimer = refl }

pub loop-round-preserved : goal.loop-round-preserved
loop-round-preserved g c =
    let i = c.loop-round.invariant in
    record {
      ticks = (ticks_more _ _ _ _ _ i.ticks c.moment-now.ensures c.tick-moment.ensures.greatest.1 c.tick-moment.ensures.ticked).0;
      claimer = heard_again c.args.claimer.now c.loop-round.claimer c.hear-heard.new.claimer c.hear-heard.result i.claimer c.hear-heard.ensures.heard;
    }

pub returns-then-le-clause-ticked : goal.returns-then-le-clause-ticked
returns-then-le-clause-ticked g c = ticks_more _ _ _ _ _ c.loop-round.invariant.ticks c.moment-now.ensures c.tick-moment.ensures.greatest.1 c.tick-moment.ensures.ticked
