-- Fixed windows: the window of a moment starts at a multiple of the unit's length.
use Rattle.std.specs.Prelude.{ℕ, ◌+◌, ◌-◌, ◌%◌}
use Rattle.rate_types.specs.declared.unit.Unit.{Unit}
use Rattle.rate_types.specs.Units.{seconds_of}

-- the latest multiple of the unit's length that isn't after the moment
abbrev pub window_start : Unit → ℕ → ℕ
window_start unit moment = moment - moment % seconds_of unit

-- the start of the next window
abbrev pub window_end : Unit → ℕ → ℕ
window_end unit moment = window_start unit moment + seconds_of unit

-- the seconds until the next window
abbrev pub time_to_reset : Unit → ℕ → ℕ
time_to_reset unit moment = window_end unit moment - moment
