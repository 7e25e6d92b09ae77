use Rattle.std.proofs.Common.{◌≡◌, ◌+◌, count_by, drop}
use Rattle.run_audit.specs.ByEnd.{is_asked_at}
use Rattle.run_audit.proofs.by_end.are_asked.Given as goal

abbrev pub invariant-ends : goal.invariant-ends
invariant-ends l = l.found + count_by (is_asked_at l.asked l.moment) (drop l.k l.ends) ≡ count_by (is_asked_at l.asked l.moment) l.ends
