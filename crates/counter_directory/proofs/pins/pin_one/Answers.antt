use Rattle.std.proofs.Common.{[], arith}
use Rattle.counter_directory.proofs.Pinning.{no_misses, pins_good}
use Rattle.counter_directory.proofs.pins.pin_one.Goals as goal

pub loop-round-init : goal.loop-round-init
loop-round-init g c = no_misses c.args.cell_pass.now

pub pin-requires-clause-room : goal.pin-requires-clause-room
pin-requires-clause-room g c = omega (arith, pins_good [] c.args.cell_pass.now c.loop-round.cell_pass c.loop-round.invariant, c.requires.room)
