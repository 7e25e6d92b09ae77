-- Inside: why a check isn't answered, by what was missed.
use Rattle.rate_limiter.specs.declared.missed.Missed.{Missed}
use Rattle.rate_limiter.specs.declared.missed.Missed.TheVariants as missed
use Rattle.rate_limiter.specs.declared.not_open.NotOpen.{NotOpen}
use Rattle.rate_limiter.specs.declared.not_open.NotOpen.TheVariants.{Unknown, Reclaimed}

-- the refusal of a check whose counters aren't pinned
abbrev pub refusal_for : Missed → NotOpen
refusal_for (missed.Unknown place) = Unknown place
refusal_for (missed.Reclaimed place claim) = Reclaimed place claim
