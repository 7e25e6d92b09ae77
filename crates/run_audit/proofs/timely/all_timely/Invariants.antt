use Rattle.run_audit.proofs.TimelyRuns.{Followed}
use Rattle.run_audit.proofs.timely.all_timely.Given as goal

abbrev pub invariant-lines : goal.invariant-lines
invariant-lines l = Followed l.start l.sooner.entries l.i l.lines l.records
