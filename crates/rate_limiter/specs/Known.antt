-- What a pass knows of its counters: by their keys, the cells to which claims bind them, where it has had pins, and the greatest value
-- that it has seen there.
use Rattle.std.specs.Prelude.{◌≡◌, ◌≢◌, ℕ, ◌≤◌, ◌<◌, ◌==◌, ◌&&◌, Bool, List, [], ◌∷◌, ◌++◌, Option, Some, None, IsSome}
use Rattle.std.specs.List.{AllByRecursion}
use Rattle.rate_types.specs.Sums.{total, one_if}
use Rattle.rate_types.specs.Requests.{RequestParts}
use Rattle.rate_types.specs.declared.counter_key.CounterKey.{CounterKey}
use Rattle.rate_types.specs.declared.entries.Entry.{Entry}
use Rattle.rate_types.specs.declared.unit.Unit.{Unit}
use Rattle.rate_types.specs.declared.request.Descriptor.{Descriptor}
use Rattle.window_keys.specs.Key.{key_bytes}
use Rattle.window_keys.specs.Window.{window_start}
use Rattle.counter_directory.specs.declared.claim.Claim.{Claim}
use Rattle.counter_directory.specs.Claims.{claims_of, claims_with}
use Rattle.rule_lookup.specs.declared.found.Found.{Found}
use Rattle.rls_core.specs.Reply.{counter_under}
use Rattle.counter_cells.specs.declared.view.CellView.{CellView}
use Rattle.counter_cells.specs.declared.answers.Spot.{Spot}
use Rattle.over_cache.specs.Entries.{Entries, is_key, known_of}
use Rattle.over_cache.specs.declared.known.Known.{Known}
use Rattle.rate_limiter.specs.Values.{HasSeen}

-- the bytes of a counter's key
abbrev pub key_of : CounterKey → List ℕ
key_of q = key_bytes q.name.domain q.name.entries q.name.unit q.start

-- the counter of a domain, of entries and of a unit, in the window of a moment
abbrev pub counter_named : List ℕ → List Entry → Unit → ℕ → CounterKey
counter_named domain entries unit moment = record {
  name = record { domain = domain; entries = entries; unit = unit };
  start = window_start unit moment;
}

-- how many claims bind the counter with this key to the cell under the number
abbrev pub key_bindings : List ℕ → ℕ → ℕ → List Claim → ℕ
key_bindings key cell number claims =
    total (λ (x : Claim). one_if (is_key key (key_of x.key) && ((x.cell == cell) && (x.claim == number)))) claims

-- how many of these pins are on the cell under the number
abbrev pub pins_under : ℕ → ℕ → List (ℕ × ℕ) → ℕ
pins_under cell number pins = total (λ (p : ℕ × ℕ). one_if ((p.0 == cell) && (p.1 == number))) pins

-- the counter with the key is bound to the known cell, which is one of the cells, and a pin was good there
pub record IsBoundEntry (cells : ℕ) (claims : List Claim) (pins : List (ℕ × ℕ)) (e : List ℕ × Known) : Type 0 where
  pub there : e.1.spot.cell < cells
  pub bound : 1 ≤ key_bindings e.0 e.1.spot.cell e.1.spot.claim claims
  pub had : 1 ≤ pins_under e.1.spot.cell e.1.spot.claim pins

-- the same for each that is known
abbrev pub AreBoundEntries : ℕ → List Claim → List (ℕ × ℕ) → Entries → Type 0
AreBoundEntries cells claims pins entries = AllByRecursion (IsBoundEntry cells claims pins) entries

-- the value that is known of each counter is none, or the greatest that the pass has under its claim
abbrev pub AreSeenEntries : CellView → Entries → Type 0
AreSeenEntries v entries =
    (key : List ℕ) (known : Known) → known_of key entries ≡ Some known → HasSeen known.spot.claim known.seen v

-- no counter is claimed twice, and no number is of two claims
pub record AreClaimedOnce (claims : List Claim) : Type 0 where
  pub counters : (q : CounterKey) → claims_of q claims ≤ 1
  pub numbers : (n : ℕ) → claims_with n claims ≤ 1

-- the spot of what is known
abbrev pub spot_in : Option Known → Option Spot
spot_in None = None
spot_in (Some known) = Some known.spot

-- the value of what is known, or 0
abbrev pub seen_in : Option Known → ℕ
seen_in None = 0
seen_in (Some known) = known.seen

-- the spot that is known of a counter, where it is known
abbrev pub spot_of : CounterKey → Entries → Option Spot
spot_of q entries = spot_in (known_of (key_of q) entries)

-- under each key the same spot is known as before
abbrev pub SameSpots : Entries → Entries → Type 0
SameSpots entries entries' = (key : List ℕ) → spot_in (known_of key entries') ≡ spot_in (known_of key entries)

-- of each pin that was good before there are as many now, or more
abbrev pub PinsGrow : List (ℕ × ℕ) → List (ℕ × ℕ) → Type 0
PinsGrow pins pins' = (cell number : ℕ) → pins_under cell number pins ≤ pins_under cell number pins'

-- the counter of a descriptor is known, where it has a limit
abbrev pub KnowsCounter : RequestParts → ℕ → Entries → Descriptor → Found → Type 0
KnowsCounter request moment entries d found = AllByRecursion (λ q. IsSome (spot_of q entries)) (counter_under request moment d found)

-- the descriptor has a limit, and this is its counter
abbrev pub HasCounter : RequestParts → ℕ → Descriptor → Found → CounterKey → Type 0
HasCounter request moment d found q = counter_under request moment d found ≡ q ∷ []

-- a pin of the spot missed: it found the cell under another claim
pub record HasMissed (s : Spot) (claim : ℕ) (v w : CellView) : Type 0 where
  pub other : claim ≢ s.claim
  pub is_open : Bool
  pub noted : w.others ≡ v.others ++ (record { cell = s.cell; claim = claim; is_open = is_open }) ∷ []
