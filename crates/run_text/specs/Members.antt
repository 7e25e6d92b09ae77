-- Inside: what the members of a value show, where they may be missing or of another kind.
use Rattle.std.specs.Prelude.{ℕ, ◌+◌, ◌-◌, ◌*◌, ◌^◌, min, List, [], ◌∷◌, length, take, fold, nat_lt, if◌then◌else◌, Option}
use Rattle.std.specs.Prelude.{Some, None, option_and_then, unwrap_or}
use Rattle.serde_json.specs.Data.{Data, Items, no_items, item}
use Rattle.serde_json.specs.Find.{get, as_number, as_u64, as_str, as_array}
use Rattle.rate_types.specs.declared.limits.TheConstants.{LATEST_MOMENT}

-- the member of a value
abbrev pub at : List ℕ → Option Data → Option Data
at name o = option_and_then (get name) o

-- this number where it is below a bound, else 0
abbrev pub below : ℕ → ℕ → ℕ
below bound n = if nat_lt n bound then n else 0

-- a whole number, else 0
abbrev pub whole_of : Option Data → ℕ
whole_of o = below (2 ^ 64) (unwrap_or (option_and_then as_u64 (option_and_then as_number o)) 0)

-- a whole number below 2^32, else 0
abbrev pub u32_of : Option Data → ℕ
u32_of o = below (2 ^ 32) (whole_of o)

-- a moment, at most the latest one
abbrev pub moment_of : Option Data → ℕ
moment_of o = min (whole_of o) LATEST_MOMENT

-- a text, else the empty one
abbrev pub text_of : Option Data → List ℕ
text_of o = unwrap_or (option_and_then as_str o) []

-- a number after one more digit, at most 2^64 - 1
abbrev pub one_more : ℕ → ℕ → ℕ
one_more n b = min (n * 10 + (b - 48)) 18446744073709551615

-- the number of all digits but for the last byte
abbrev pub number_before_last : List ℕ → ℕ
number_before_last s = fold one_more 0 (take (length s - 1) s)

-- the items
abbrev pub listed : Items → List Data
listed no_items = []
listed (item d ds) = d ∷ listed ds

-- the items of a list
abbrev pub listed_in : Option Items → List Data
listed_in None = []
listed_in (Some ds) = listed ds

-- the items of a list, none where the value is no list
abbrev pub items_in : Option Data → List Data
items_in o = listed_in (option_and_then as_array o)
