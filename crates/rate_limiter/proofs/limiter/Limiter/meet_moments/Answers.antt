use Rattle.std.proofs.Common.{refl}
use Rattle.rate_limiter.proofs.Meeting.{never_ticked, ticked_then, ticks_then}
use Rattle.rate_limiter.proofs.limiter.Limiter.meet_moments.Goals as goal

pub loop-round-init : goal.loop-round-init
loop-round-init g c = record { one = never_ticked c.args.one.now.cells; other = never_ticked c.args.other.now.cells; one_rest = refl; other_rest = refl }

pub loop-round-preserved : goal.loop-round-preserved
loop-round-preserved g c =
    let i = c.loop-round.invariant in
    record {
      one = ticked_then c.args.one.now.cells c.loop-round.one.cells c.tick_alone.new.pass.cells i.one c.tick_alone.ensures.ticked;
      other = ticked_then c.args.other.now.cells c.loop-round.other.cells c.tick_alone-in-loop-round.new.pass.cells i.other c.tick_alone-in-loop-round.ensures.ticked;
      one_rest = ticks_then c.args.one.now c.loop-round.one c.tick_alone.new.pass i.one_rest c.tick_alone.ensures.rest;
      other_rest = ticks_then c.args.other.now c.loop-round.other c.tick_alone-in-loop-round.new.pass i.other_rest c.tick_alone-in-loop-round.ensures.rest;
    }

pub returns-then-eq-clause-one : goal.returns-then-eq-clause-one
returns-then-eq-clause-one g c =
    let i = c.loop-round.invariant in (
      ticked_then c.args.one.now.cells c.loop-round.one.cells c.tick_alone.new.pass.cells i.one c.tick_alone.ensures.ticked,
      ticks_then c.args.one.now c.loop-round.one c.tick_alone.new.pass i.one_rest c.tick_alone.ensures.rest,
    )

pub returns-then-eq-clause-other : goal.returns-then-eq-clause-other
returns-then-eq-clause-other g c =
    let i = c.loop-round.invariant in (
      ticked_then c.args.other.now.cells c.loop-round.other.cells c.tick_alone-in-loop-round.new.pass.cells i.other c.tick_alone-in-loop-round.ensures.ticked,
      ticks_then c.args.other.now c.loop-round.other c.tick_alone-in-loop-round.new.pass i.other_rest c.tick_alone-in-loop-round.ensures.rest,
    )
