use Rattle.std.proofs.Common.{arith}
use Rattle.counter_directory.specs.Index.{Turns}
use Rattle.counter_directory.proofs.Lists.{at_index}
use Rattle.counter_directory.proofs.Indexing.{along_start, along_more, along_all}
use Rattle.counter_directory.proofs.unit_index.turn_all.Goals as goal

pub loop-place-init : goal.loop-place-init
loop-place-init c = record { four = c.requires.four; along = along_start (Turns c.args.moment) c.args.units.now.items }

pub loop-place-preserved : goal.loop-place-preserved
loop-place-preserved c =
    let i = c.loop-place.invariant in
    let units = c.loop-place.units in
    let x = c.index_mut.result.now in
    record {
      four = i.four;
      along = along_more (Turns c.args.moment) c.loop-place.place c.args.units.now.items units.items x c.turn.new.self
          (at_index units.items c.loop-place.place x (omega (arith, units.ok.0, i.four)) c.index_mut.ensures.value) c.turn.ensures i.along;
    }

pub returns-clause-turned : goal.returns-clause-turned
returns-clause-turned c =
    let i = c.loop-place.invariant in
    along_all (Turns c.args.moment) c.loop-place.place c.args.units.now.items c.loop-place.units.items (omega (arith, c.loop-place.units.ok.0, i.four)) i.along
