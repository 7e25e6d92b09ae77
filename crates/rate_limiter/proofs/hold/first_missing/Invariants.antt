use Rattle.rate_limiter.specs.Asked.{NoneMissing}
use Rattle.rate_limiter.proofs.hold.first_missing.Given as goal

abbrev pub invariant-asked : goal.invariant-asked
invariant-asked l = NoneMissing l.place l.asked
