-- The answer of a call that writes what it has pinned.
use Rattle.std.specs.Prelude.{Result, Ok, Err}
use Rattle.counter_directory.specs.declared.acquired.Acquired.{Acquired}
use Rattle.counter_directory.specs.declared.acquired.AcquireFault.{AcquireFault}

-- what was written where there is no fault, and else the fault
abbrev pub answered : Result (Unit {0}) AcquireFault → Acquired → Result Acquired AcquireFault
answered (Ok _) a = Ok a
answered (Err fault) a = Err fault
