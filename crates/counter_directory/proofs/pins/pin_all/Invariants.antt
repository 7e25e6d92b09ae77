use Rattle.std.proofs.Common.{take}
use Rattle.counter_directory.specs.Acquired.{PinsAfterMisses}
use Rattle.counter_directory.proofs.pins.pin_all.Given as goal

abbrev pub invariant-loop-wanted : goal.invariant-loop-wanted
invariant-loop-wanted g l = PinsAfterMisses (take l.wanted-index l.spots) l.initial.cell_pass l.cell_pass
