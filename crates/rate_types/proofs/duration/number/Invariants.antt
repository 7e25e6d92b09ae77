use Rattle.std.proofs.Common.{length}
use Rattle.rate_types.proofs.Numbers.{Reads}
use Rattle.rate_types.proofs.duration.number.Given as goal

abbrev pub invariant-digits : goal.invariant-digits
invariant-digits l = Reads l.digits l.rest l.number

abbrev pub decreases-digits : goal.decreases-digits
decreases-digits l = length l.rest
