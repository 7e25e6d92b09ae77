use Rattle.std.proofs.Common.{map}
use Rattle.script_run.specs.Views.{line_view}
use Rattle.run_audit.proofs.Each.{EachBelow}
use Rattle.run_audit.proofs.fact.each_line.Given as goal

abbrev pub invariant-lines : goal.invariant-lines
invariant-lines g l = EachBelow l.i (map line_view l.lines) l.records (g.F.Fact.stands l.fact)
