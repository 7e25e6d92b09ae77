-- The names of units.
use Rattle.std.specs.Prelude.{ℕ, List, codes}
use Rattle.rate_types.specs.declared.unit.Unit.{Unit}
use Rattle.rate_types.specs.declared.unit.Unit.TheVariants.{Second, Minute, Hour, Day}

-- the name that Envoy's API gives a unit
abbrev pub unit_name : Unit → List ℕ
unit_name Second = codes "SECOND"
unit_name Minute = codes "MINUTE"
unit_name Hour = codes "HOUR"
unit_name Day = codes "DAY"
