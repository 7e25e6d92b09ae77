use Rattle.std.proofs.Common.{take}
use Rattle.quota_stream.specs.Runs.{StandEach}
use Rattle.quota_stream.proofs.workers.tasks_of.Given as goal

abbrev pub invariant-streams : goal.invariant-streams
invariant-streams l = StandEach l.settings (take l.index l.streams) l.tasks.items
