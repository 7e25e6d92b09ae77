use Rattle.run_audit.proofs.Earliest.{Followed}
use Rattle.run_audit.proofs.earlier.each_by_earlier.Given as goal

abbrev pub invariant-lines : goal.invariant-lines
invariant-lines g l =
    Followed (g.F.ByEarlier.number l.fact) (g.F.ByEarlier.stands l.fact) l.numbers.entries l.i l.lines l.records
