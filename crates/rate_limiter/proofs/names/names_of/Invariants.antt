use Rattle.std.proofs.Common.{◌≡◌, take}
use Rattle.rate_limiter.specs.Names.{names_under}
use Rattle.rate_limiter.proofs.names.names_of.Given as goal

abbrev pub invariant-descriptors : goal.invariant-descriptors
invariant-descriptors l = l.names.items ≡ names_under l.request (take l.place l.descriptors) (take l.place l.rules)
