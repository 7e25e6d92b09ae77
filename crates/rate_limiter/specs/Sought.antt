-- Inside: what a pass knows of the counters of a request, before they are pinned.
use Rattle.std.specs.Prelude.{◌≡◌, ℕ, ◌≤◌, ◌<◌, List, length, Some, None, IsSome}
use mathlib.Core.Option.{some}
use lib.ListN.{get_elem?}
use Rattle.rate_types.specs.Requests.{RequestParts}
use Rattle.rate_types.specs.declared.counter_key.CounterKey.{CounterKey}
use Rattle.rate_types.specs.declared.counter_name.CounterName.{CounterName}
use Rattle.rate_types.specs.declared.request.Descriptor.{Descriptor}
use Rattle.rule_lookup.specs.declared.found.Found.{Found}
use Rattle.counter_cells.specs.declared.view.CellView.{CellView}
use Rattle.counter_cells.specs.declared.answers.Spot.{Spot}
use Rattle.counter_directory.specs.declared.claim.Claim.{Claim}
use Rattle.counter_directory.specs.Claims.{bindings_of}
use Rattle.counter_directory.specs.Keys.{key_at}
use Rattle.over_cache.specs.Entries.{Entries, known_of}
use Rattle.over_cache.specs.declared.known.Known.{Known}
use Rattle.rate_limiter.specs.Known.{key_of, pins_under, spot_of, seen_in, KnowsCounter, HasCounter, HasMissed}
use Rattle.rate_limiter.specs.Turns.{IsKnownOver}
use Rattle.rate_limiter.specs.declared.missed.Missed.{Missed}
use Rattle.rate_limiter.specs.declared.missed.Missed.TheVariants.{Unknown, Reclaimed}

-- under each key the same is known as before
abbrev pub SameKnown : Entries → Entries → Type 0
SameKnown entries entries' = (key : List ℕ) → known_of key entries' ≡ known_of key entries

-- the value is the one that is known of the counter, and the claims bind the counter to the cell under which it is known
pub record IsSeenOf (claims : List Claim) (entries : Entries) (q : CounterKey) (seen : ℕ) : Type 0 where
  pub value : seen_in (known_of (key_of q) entries) ≡ seen
  pub bound : (known : Known) → known_of (key_of q) entries ≡ Some known → 1 ≤ bindings_of q known.spot.cell known.spot.claim claims

-- the spot is the counter's by one of the claims, and a pin was good there
pub record IsOwnSpot (cells : ℕ) (claims : List Claim) (pins : List (ℕ × ℕ)) (q : CounterKey) (s : Spot) : Type 0 where
  pub there : s.cell < cells
  pub bound : 1 ≤ bindings_of q s.cell s.claim claims
  pub had : 1 ≤ pins_under s.cell s.claim pins

-- the counters of the first n descriptors are known
abbrev pub KnowsUnder : ℕ → RequestParts → ℕ → Entries → List Descriptor → List Found → Type 0
KnowsUnder n request moment entries ds fs = (i : ℕ) (d : Descriptor) (f : Found) → i < n → get_elem? ds i ≡ some d → get_elem? fs i ≡ some f
    → KnowsCounter request moment entries d f

-- nothing is to be counted for any of these descriptors, by what is known
abbrev pub AreKnownOver : RequestParts → ℕ → Entries → List Descriptor → List Found → Type 0
AreKnownOver request moment entries ds fs = (i : ℕ) (d : Descriptor) (f : Found) → get_elem? ds i ≡ some d → get_elem? fs i ≡ some f
    → IsKnownOver request moment entries d f

-- the counters of the names are known, at the moment
abbrev pub AreNoted : List CounterName → ℕ → Entries → Type 0
AreNoted names moment entries = (i : ℕ) (name : CounterName) → get_elem? names i ≡ some name → IsSome (spot_of (key_at moment name) entries)

-- the counter of the descriptor isn't known
pub record IsUnknownAt (request : RequestParts) (moment : ℕ) (entries : Entries) (d : Descriptor) (found : Found) : Type 0 where
  pub q : CounterKey
  pub counter : HasCounter request moment d found q
  pub unknown : spot_of q entries ≡ None

-- the descriptor and what it finds at a place
pub record IsAt (ds : List Descriptor) (fs : List Found) (place : ℕ) (d : Descriptor) (f : Found) : Type 0 where
  pub descriptor : get_elem? ds place ≡ some d
  pub found : get_elem? fs place ≡ some f

-- the counter of the descriptor at this place isn't known, and those of the descriptors before it are
pub record IsFirstUnknown (request : RequestParts) (moment : ℕ) (entries : Entries) (ds : List Descriptor) (fs : List Found)
    (place : ℕ) : Type 0 where
  pub d : Descriptor
  pub f : Found
  pub at : IsAt ds fs place d f
  pub unknown : IsUnknownAt request moment entries d f
  pub before : KnowsUnder place request moment entries ds fs

-- a pin of the spot that is known of the counter of the descriptor at this place missed
pub record HasMissedKnown (request : RequestParts) (moment : ℕ) (entries : Entries) (ds : List Descriptor) (fs : List Found)
    (place claim : ℕ) (v w : CellView) : Type 0 where
  pub d : Descriptor
  pub f : Found
  pub at : IsAt ds fs place d f
  pub q : CounterKey
  pub counter : HasCounter request moment d f q
  pub s : Spot
  pub known : spot_of q entries ≡ Some s
  pub missed : HasMissed s claim v w

-- why the counters of the descriptors aren't pinned
abbrev pub HasMissCause : RequestParts → ℕ → Entries → List Descriptor → List Found → Missed → CellView → CellView → Type 0
HasMissCause request moment entries ds fs (Unknown place) v w =
    IsFirstUnknown request moment entries ds fs place × (w ≡ v)
HasMissCause request moment entries ds fs (Reclaimed place claim) v w =
    HasMissedKnown request moment entries ds fs place claim v w × KnowsUnder (length ds) request moment entries ds fs
