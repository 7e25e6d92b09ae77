use Rattle.std.proofs.Common.{take}
use Rattle.std.specs.List.{AllByRecursion}
use Rattle.script_run.specs.Journals.{AreShort}
use Rattle.script_run.proofs.run_records.all_short.Given as goal

abbrev pub invariant-journals : goal.invariant-journals
invariant-journals l = AllByRecursion AreShort (take l.index l.journals)
