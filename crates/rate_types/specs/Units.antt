-- How long a window of each unit is, and the order of units.
use Rattle.std.specs.Prelude.{ℕ}
use Rattle.rate_types.specs.declared.unit.Unit.{Unit}
use Rattle.rate_types.specs.declared.unit.Unit.TheVariants.{Second, Minute, Hour, Day}

-- the length in seconds
abbrev pub seconds_of : Unit → ℕ
seconds_of Second = 1
seconds_of Minute = 60
seconds_of Hour = 3600
seconds_of Day = 86400

-- the place in the order of units
abbrev pub unit_rank : Unit → ℕ
unit_rank Second = 0
unit_rank Minute = 1
unit_rank Hour = 2
unit_rank Day = 3
