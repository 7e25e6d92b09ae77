use Rattle.std.proofs.Common.{◌≡◌, drop}
use Rattle.run_audit.specs.Closing.{give_totals}
use Rattle.run_audit.proofs.totals.give_totals.Given as goal

abbrev pub invariant-charges : goal.invariant-charges
invariant-charges l = give_totals l.moment (drop l.i l.charges) l.rest ≡ give_totals l.moment l.charges l.totals
