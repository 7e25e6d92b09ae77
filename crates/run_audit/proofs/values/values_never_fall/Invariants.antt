use Rattle.run_audit.proofs.RunValues.{Followed}
use Rattle.run_audit.proofs.values.values_never_fall.Given as goal

abbrev pub invariant-lines : goal.invariant-lines
invariant-lines l = Followed l.values.entries l.i l.lines l.records
