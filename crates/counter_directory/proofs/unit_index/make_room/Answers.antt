use Rattle.std.proofs.Common.{refl, arith}
use Rattle.counter_directory.specs.Index.{FindsTheSame}
use Rattle.counter_directory.proofs.Lists.{at_index}
use Rattle.counter_directory.proofs.Indexing.{along_start, along_more, along_any, room_more, room_all, finds_itself}
use Rattle.counter_directory.proofs.unit_index.make_room.Goals as goal

pub loop-place-init : goal.loop-place-init
loop-place-init c = record { four = c.requires.four; along = along_start FindsTheSame c.args.units.now.items; room = λ v y lt at. absurd (omega arith) }

pub returns-in_err-reserve-clause-same : goal.returns-in_err-reserve-clause-same
returns-in_err-reserve-clause-same c =
    let i = c.loop-place.invariant in
    let units = c.loop-place.units in
    let x = c.index_mut.result.now in
    along_any FindsTheSame _ c.args.units.now.items _ finds_itself
    (along_more FindsTheSame c.loop-place.place c.args.units.now.items units.items x (record { unit = x.unit; end = x.end; spots = c.reserve.new.self })
    (at_index units.items c.loop-place.place x (omega (arith, units.ok.0, i.four)) c.index_mut.ensures.value)
    (record { unit = refl; end = refl; found = c.reserve.ensures.entries.2 }) i.along)

pub loop-place-preserved : goal.loop-place-preserved
loop-place-preserved c =
    let i = c.loop-place.invariant in
    let units = c.loop-place.units in
    let x = c.index_mut.result.now in
    record {
      four = i.four;
      along = along_more FindsTheSame c.loop-place.place c.args.units.now.items units.items x (record { unit = x.unit; end = x.end; spots = c.reserve.new.self })
          (at_index units.items c.loop-place.place x (omega (arith, units.ok.0, i.four)) c.index_mut.ensures.value)
          (record { unit = refl; end = refl; found = c.reserve.ensures.entries.2 }) i.along;
      room = room_more c.loop-place.place c.args.wanted units.items (record { unit = x.unit; end = x.end; spots = c.reserve.new.self }) c.in_ok-reserve.ensures.ok i.room;
    }

pub returns-clause-same : goal.returns-clause-same
returns-clause-same c = along_any FindsTheSame c.loop-place.place c.args.units.now.items c.loop-place.units.items finds_itself c.loop-place.invariant.along

pub returns-clause-room : goal.returns-clause-room
returns-clause-room c =
    let i = c.loop-place.invariant in
    room_all c.loop-place.place c.args.wanted c.loop-place.units.items (omega (arith, c.loop-place.units.ok.0, i.four)) i.room
