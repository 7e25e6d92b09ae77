-- What uses leave known: the keys that were used last, and of each the greatest value that was noted.
use Rattle.std.specs.Prelude.{◌≡◌, ℕ, ◌≤◌, ◌==◌, Bool, List, [], ◌∷◌, take, Some, if◌then◌else◌}
use Rattle.std.specs.List.{AllByRecursion, list_any}
use Rattle.std.specs.Set.{remove_key}
use Rattle.std.specs.Map.{keys_of}
use Rattle.rate_types.specs.Sums.{total, one_if}
use Rattle.counter_cells.specs.declared.answers.Spot.{Spot}
use Rattle.over_cache.specs.declared.known.Known.{Known}
use Rattle.over_cache.specs.declared.over_cache.TheConstants.{MOST_KNOWN}
use Rattle.over_cache.specs.Entries.{Entries, is_key, known_of}

-- A use: a key was asked for, or a spot and a value were noted of it. Lists of uses begin with the last one
pub data Use : Type 0 where
  Asked : List ℕ → Use
  Noted : List ℕ → Spot → ℕ → Use

-- the key is one of these
abbrev pub is_among : List ℕ → List (List ℕ) → Bool
is_among key keys = list_any (is_key key) keys

-- the keys that were used, each once, the one used last first; a question after a key that isn't known is no use of it
abbrev pub keys_used : List Use → List (List ℕ)
keys_used [] = []
keys_used (Noted key spot seen ∷ uses) = key ∷ remove_key (is_key key) (keys_used uses)
keys_used (Asked key ∷ uses) =
    if is_among key (take MOST_KNOWN (keys_used uses)) then key ∷ remove_key (is_key key) (keys_used uses) else keys_used uses

-- what was noted of a key since it wasn't known, the last note first
abbrev pub notes_of : List ℕ → List Use → List Known
notes_of key [] = []
notes_of key (Asked other ∷ uses) = notes_of key uses
notes_of key (Noted other spot seen ∷ uses) =
    if is_key key other
    then record { spot = spot; seen = seen } ∷ (if is_among key (take MOST_KNOWN (keys_used uses)) then notes_of key uses else [])
    else notes_of key uses

-- those of the notes that came since another claim than this one was noted
abbrev pub under_claim : ℕ → List Known → List Known
under_claim claim [] = []
under_claim claim (n ∷ ns) = if n.spot.claim == claim then n ∷ under_claim claim ns else []

-- the last note has the spot
abbrev pub EndsAt : Spot → List Known → Type 0
EndsAt spot [] = ⊥
EndsAt spot (n ∷ ns) = n.spot ≡ spot

-- the last note has its spot, and its value is the greatest of those that were noted under its claim
pub record IsGreatest (known : Known) (notes : List Known) : Type 0 where
  pub spot : EndsAt known.spot notes
  pub noted : 1 ≤ total (λ (n : Known). one_if (n.seen == known.seen)) (under_claim known.spot.claim notes)
  pub greatest : AllByRecursion (λ (n : Known). n.seen ≤ known.seen) (under_claim known.spot.claim notes)

-- the keys known are the 1,024 that were used last, and of each the greatest value is known that was noted
pub record Remembers (uses : List Use) (entries : Entries) : Type 0 where
  pub keys : keys_of entries ≡ take MOST_KNOWN (keys_used uses)
  pub values : (key : List ℕ) (known : Known) → known_of key entries ≡ Some known → IsGreatest known (notes_of key uses)
