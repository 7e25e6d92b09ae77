use Rattle.std.proofs.Common.{[]}
use Rattle.counter_directory.specs.Acquired.{PinsAfterMisses}
use Rattle.counter_directory.proofs.pins.pin_one.Given as goal

abbrev pub invariant-loop-round : goal.invariant-loop-round
invariant-loop-round g l = PinsAfterMisses [] l.initial.cell_pass l.cell_pass
