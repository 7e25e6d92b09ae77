-- What is known of counters: keys, each with what is known of it, the key used last first.
use Rattle.std.specs.Prelude.{ℕ, ◌==◌, ◌≤◌, ◌-◌, max, Bool, List, ◌∷◌, take, length, Option, Some, None, if◌then◌else◌}
use Rattle.std.specs.Cmp.Lexicographic.{pointwise}
use Rattle.std.specs.List.{IsDistinct}
use Rattle.std.specs.Option.{option_map_or}
use Rattle.std.specs.Map.{keys_of, lookup, lookup_entry, remove_entry}
use Rattle.counter_cells.specs.declared.answers.Spot.{Spot}
use Rattle.over_cache.specs.declared.known.Known.{Known}
use Rattle.over_cache.specs.declared.over_cache.TheConstants.{MOST_KNOWN}

-- keys with what is known of them
abbrev pub Entries : Type 0
Entries = List (List ℕ × Known)

-- the same key, byte by byte
abbrev pub is_key : List ℕ → List ℕ → Bool
is_key = pointwise ◌==◌

-- what is known of a key, where it is known
abbrev pub known_of : List ℕ → Entries → Option Known
known_of key entries = lookup (is_key key) entries

-- the entries of the other keys, in their order
abbrev pub without : List ℕ → Entries → Entries
without key entries = remove_entry (is_key key) entries

-- after a question: the entry of the key goes first, where there is one
abbrev pub asked : List ℕ → Entries → Entries
asked key entries = option_map_or (λ e. e ∷ without key entries) (lookup_entry (is_key key) entries) entries

-- over what is known the greater value is noted for an equal claim, else the new pair
abbrev pub noted_over : Known → Spot → ℕ → Known
noted_over old spot seen = record { spot = spot; seen = if old.spot.claim == spot.claim then max old.seen seen else seen }

-- what is then known of a key
abbrev pub known_then : Option Known → Spot → ℕ → Known
known_then None spot seen = record { spot = spot; seen = seen }
known_then (Some old) spot seen = noted_over old spot seen

-- after a note: the entry of its key goes first, and of the others so many stay as there is room for
abbrev pub noted : List ℕ → Spot → ℕ → Entries → Entries
noted key spot seen entries = (key, known_then (known_of key entries) spot seen) ∷ take (MOST_KNOWN - 1) (without key entries)

-- the keys differ, and they are at most 1,024
pub record AreEntries (entries : Entries) : Type 0 where
  pub differ : IsDistinct is_key (keys_of entries)
  pub few : length entries ≤ MOST_KNOWN
