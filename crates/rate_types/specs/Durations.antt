-- Durations as texts: digits of seconds, perhaps a point and decimals, then `s`.
use Rattle.std.specs.Prelude.{ℕ, ◌+◌, ◌*◌, ◌-◌, ◌/◌, ◌%◌, ◌++◌, codes, decimal, ◌&&◌, ◌||◌, ◌==◌, not, List, [], ◌∷◌}
use Rattle.std.specs.Prelude.{length, take, drop, slice_index, position, Bool, true, nat_lt, nat_le, if◌then◌else◌, Option, Some, None}
use Rattle.std.specs.Prelude.{option_map, Result, Ok, Err}
use Rattle.std.specs.Char.{is_ascii_digit}
use Rattle.std.specs.List.{list_all, list_any}
use Rattle.std.specs.Str.Parse.{digits_value}
use Rattle.rate_types.specs.declared.limits.TheConstants.{LONGEST_DURATION}
use Rattle.rate_types.specs.declared.duration.DurationFault.{DurationFault}
use Rattle.rate_types.specs.declared.duration.DurationFault.TheVariants.{Bad, TooLong, TooFine}

-- from one to so many digits
abbrev pub is_numeral : ℕ → List ℕ → Bool
is_numeral most s = nat_lt 0 (length s) && nat_le (length s) most && list_all is_ascii_digit s

-- the bytes before the first point, and those after it
abbrev pub front_of : Option ℕ → List ℕ → List ℕ
front_of None text = text
front_of (Some point) text = take point text

abbrev pub before_point : List ℕ → List ℕ
before_point text = front_of (position (λ b. b == 46) text) text

abbrev pub after_point : List ℕ → Option (List ℕ)
after_point text = option_map (λ point. drop (point + 1) text) (position (λ b. b == 46) text)

abbrev pub is_fraction : Option (List ℕ) → Bool
is_fraction None = true
is_fraction (Some decimals) = is_numeral 9 decimals

abbrev pub decimals_of : Option (List ℕ) → List ℕ
decimals_of None = []
decimals_of (Some decimals) = decimals

abbrev pub is_not_zero : ℕ → Bool
is_not_zero b = not (b == 48)

-- the milliseconds of the first three decimals
abbrev pub millis_of : List ℕ → ℕ
millis_of [] = 0
millis_of (a ∷ []) = (a - 48) * 100
millis_of (a ∷ b ∷ []) = (a - 48) * 100 + (b - 48) * 10
millis_of (a ∷ b ∷ c ∷ more) = (a - 48) * 100 + (b - 48) * 10 + (c - 48)

-- more than 1,000,000,000 seconds
abbrev pub is_too_long : ℕ → List ℕ → Bool
is_too_long seconds decimals = nat_lt LONGEST_DURATION seconds || (seconds == LONGEST_DURATION && list_any is_not_zero decimals)

-- a digit other than 0 past the third decimal
abbrev pub is_too_fine : List ℕ → Bool
is_too_fine decimals = list_any is_not_zero (drop 3 decimals)

unfoldable pub span : ℕ → List ℕ → Result ℕ DurationFault
span seconds decimals = if is_too_long seconds decimals then Err TooLong
    else (if is_too_fine decimals then Err TooFine else Ok (seconds * 1000 + millis_of decimals))

-- the text before a last `s`
abbrev pub without_unit : List ℕ → Option (List ℕ)
without_unit text = if slice_index text (length text - 1) == 115 then Some (take (length text - 1) text) else None

abbrev pub span_of : Option (List ℕ) → Result ℕ DurationFault
span_of None = Err Bad
span_of (Some text) = if is_numeral 12 (before_point text) && is_fraction (after_point text)
    then span (digits_value 10 (before_point text)) (decimals_of (after_point text)) else Err Bad

-- the milliseconds of a duration, or why it is none
unfoldable pub duration : List ℕ → Result ℕ DurationFault
duration text = span_of (without_unit text)

-- the text of so many milliseconds
unfoldable pub duration_text : ℕ → List ℕ
duration_text n = if n % 1000 == 0 then decimal (n / 1000) ++ codes "s"
    else decimal (n / 1000) ++ codes "." ++ decimal (n % 1000 / 100) ++ decimal (n % 1000 / 10 % 10) ++ decimal (n % 1000 % 10) ++ codes "s"
