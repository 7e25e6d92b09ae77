-- Inside: which statuses and which answers are equal.
use Rattle.std.specs.Prelude.{◌==◌, ◌&&◌, not, if◌then◌else◌, Bool, true, false, Option, None, Some}
use Rattle.rate_types.specs.Units.{unit_rank}
use Rattle.rate_types.specs.declared.request.OwnLimit.{OwnLimit}
use Rattle.rls_core.specs.declared.status.Code.{Code}
use Rattle.rls_core.specs.declared.status.Code.TheVariants.{OverLimit}
use Rattle.rls_core.specs.declared.status.Code.TheVariants as code
use Rattle.rls_core.specs.declared.status.Count.{Count}
use Rattle.rls_core.specs.declared.status.Count.TheVariants.{NoCount, Before, Seen}
use Rattle.rls_core.specs.declared.status.Status.{Status}

abbrev pub same_code : Code → Code → Bool
same_code code.Ok code.Ok = true
same_code OverLimit OverLimit = true
same_code a b = false

abbrev pub same_limit : Option OwnLimit → Option OwnLimit → Bool
same_limit None None = true
same_limit (Some a) (Some b) = (a.limit == b.limit) && (unit_rank a.unit == unit_rank b.unit)
same_limit a b = false

abbrev pub same_count : Count → Count → Bool
same_count NoCount NoCount = true
same_count (Before a) (Before b) = a == b
same_count (Seen a) (Seen b) = a == b
same_count a b = false

-- two statuses are equal but for their rules
abbrev pub same_shown : Status → Status → Bool
same_shown a b = same_code a.code b.code
    && (same_limit a.limit b.limit && ((a.remaining == b.remaining) && ((a.reset == b.reset) && same_count a.count b.count)))

abbrev pub same_answer : Bool → Bool → Bool
same_answer a b = if a then b else not b
