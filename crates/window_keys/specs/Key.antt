-- The bytes that stand for a counter. Numbers have a fixed width and texts stand behind their lengths, so different
-- counters have different bytes.
use Rattle.std.specs.Prelude.{ℕ, ◌/◌, ◌%◌, ◌^◌, List, [], ◌∷◌, ◌++◌, length}
use Rattle.std.specs.Int.{bytes_high_first}
use Rattle.std.specs.List.{flat_map}
use Rattle.rate_types.specs.declared.unit.Unit.{Unit}
use Rattle.rate_types.specs.declared.entries.Entry.{Entry}
use Rattle.rate_types.specs.Units.{unit_rank}

-- a number below 65,536 in two bytes, the higher first
abbrev pub two_bytes : ℕ → List ℕ
two_bytes n = n / 256 ∷ n % 256 ∷ []

-- a number below 2 ^ 64 in eight bytes, the highest first
abbrev pub eight_bytes : ℕ → List ℕ
eight_bytes n = n / 256 ^ 7 ∷ bytes_high_first 7 n

-- a text behind its length
unfoldable pub sized : List ℕ → List ℕ
sized text = two_bytes (length text) ++ text

-- an entry: its key, then its value
abbrev pub entry_bytes : Entry → List ℕ
entry_bytes entry = sized entry.key ++ sized entry.value

-- a counter: its domain, its unit, the start of its window, the number of its entries, and the entries
unfoldable pub key_bytes : List ℕ → List Entry → Unit → ℕ → List ℕ
key_bytes domain entries unit start =
    sized domain ++ (unit_rank unit ∷ (eight_bytes start ++ (length entries ∷ flat_map entry_bytes entries)))
