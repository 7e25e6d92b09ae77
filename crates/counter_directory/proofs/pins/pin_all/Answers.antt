use Rattle.std.proofs.Common.{◌+◌, take, length, ap, arith}
use Rattle.std.proofs.lemmas.List.{take_more, length-take}
use Rattle.counter_directory.proofs.Pinning.{pins_good, pins_more}
use Rattle.counter_directory.proofs.pins.pin_all.Goals as goal

pub pin_one-requires-clause-room : goal.pin_one-requires-clause-room
pin_one-requires-clause-room g c =
    let i = c.loop-wanted.wanted-index in
    let n = pins_good (take i c.args.spots.now) c.args.cell_pass.now c.loop-wanted.cell_pass c.loop-wanted.invariant in
    let bare = ap (λ l. length l) c.requires.room.0 in
    omega (arith, n, bare, length-take i c.args.spots.now, c.requires.room.1)

pub loop-wanted-preserved : goal.loop-wanted-preserved
loop-wanted-preserved g c =
    let i = c.loop-wanted.wanted-index in
    let spots = c.args.spots.now in
    pins_more (take i spots) (take (i + 1) spots) _ c.args.cell_pass.now c.loop-wanted.cell_pass c.pin_one.new.cell_pass (take_more spots i _ (omega arith)) c.loop-wanted.invariant
    c.pin_one.ensures
