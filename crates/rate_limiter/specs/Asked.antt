-- Inside: what a check asks for each descriptor, and what it has of the counters when it answers.
use Rattle.std.specs.Prelude.{◌≡◌, ◌≤◌, ◌<◌, ◌&&◌, nat_lt, not, ℕ, Bool, true, false, List, length, map, Option, Some, None, IfSome}
use mathlib.Core.Option.{some}
use lib.ListN.{get_elem?}
use Rattle.rate_types.specs.Requests.{RequestParts}
use Rattle.rate_types.specs.declared.counter_key.CounterKey.{CounterKey}
use Rattle.rate_types.specs.declared.request.Descriptor.{Descriptor}
use Rattle.window_keys.specs.Counter.{counter_of}
use Rattle.rule_lookup.specs.declared.found.Found.{Found}
use Rattle.rule_lookup.specs.declared.found.Found.TheVariants.{Limited}
use Rattle.counter_cells.specs.declared.view.CellView.{CellView}
use Rattle.counter_cells.specs.declared.answers.Spot.{Spot}
use Rattle.counter_directory.specs.declared.claim.Claim.{Claim}
use Rattle.counter_directory.specs.Claims.{bindings_of}
use Rattle.over_cache.specs.Entries.{Entries, known_of}
use Rattle.over_cache.specs.declared.known.Known.{Known}
use Rattle.rls_core.specs.Reply.{hits_of}
use Rattle.rate_limiter.specs.Known.{key_of, pins_under, seen_in, HasMissed}
use Rattle.rate_limiter.specs.Counters.{CountersView, IsPinned, Holds}
use Rattle.rate_limiter.specs.Sought.{IsOwnSpot}
use Rattle.rate_limiter.specs.declared.asked.Asked.{Asked}
use Rattle.rate_limiter.specs.declared.missed.Missed.{Missed}
use Rattle.rate_limiter.specs.declared.missed.Missed.TheVariants.{Unknown, Reclaimed}

-- ---- what is asked

-- what is known of a descriptor's counter, where it has a limit
abbrev pub known_for : RequestParts → ℕ → Entries → Descriptor → Found → Option Known
known_for request moment entries d (Limited limit unit shadow rule) = known_of (key_of (counter_of request.domain d unit moment)) entries
known_for request moment entries d found = None

-- the spot that is known is the counter's by one of the claims, and a pin was good there
abbrev pub IsOwn : ℕ → List Claim → List (ℕ × ℕ) → RequestParts → ℕ → Descriptor → Found → Option Known → Type 0
IsOwn cells claims pins request moment d (Limited limit unit shadow rule) known =
    IfSome known (λ k. IsOwnSpot cells claims pins (counter_of request.domain d unit moment) k.spot)
IsOwn cells claims pins request moment d found known = Unit {0}

-- what is asked for a descriptor: its hits, and what the pass knows of its counter
pub record IsAsked (cells : ℕ) (request : RequestParts) (v : CountersView) (d : Descriptor) (a : Asked) : Type 0 where
  pub hits : a.hits ≡ hits_of request d
  pub known : a.known ≡ known_for request v.cells.moment v.known d a.found
  pub own : IsOwn cells v.claims.claims.known v.cells.pairs request v.cells.moment d a.found a.known

-- the same for each descriptor of the request
pub record AreAsked (cells : ℕ) (request : RequestParts) (v : CountersView) (asked : List Asked) : Type 0 where
  pub count : length asked ≡ length request.descriptors
  pub each : (i : ℕ) (d : Descriptor) (a : Asked) → get_elem? request.descriptors i ≡ some d → get_elem? asked i ≡ some a
      → IsAsked cells request v d a

-- what they find
abbrev pub founds : List Asked → List Found
founds asked = map (λ (a : Asked). a.found) asked

-- ---- what is missing, and what is to be counted

-- a counter isn't known
abbrev pub is_missing : Found → Option Known → Bool
is_missing (Limited limit unit shadow rule) None = true
is_missing found known = false

-- there are hits, and the counter was seen above the limit
abbrev pub is_over : ℕ → ℕ → ℕ → Bool
is_over limit hits seen = nat_lt 0 hits && nat_lt limit seen

-- there is a limit, and the counter wasn't seen above it, or there are no hits
abbrev pub is_to_count : Found → ℕ → Option Known → Bool
is_to_count (Limited limit unit shadow rule) hits known = not (is_over limit hits (seen_in known))
is_to_count found hits known = false

-- none of the first n is missing
abbrev pub NoneMissing : ℕ → List Asked → Type 0
NoneMissing n asked = (i : ℕ) (a : Asked) → i < n → get_elem? asked i ≡ some a → is_missing a.found a.known ≡ false

-- the one at the place is missing
pub record IsMissing (asked : List Asked) (place : ℕ) : Type 0 where
  pub a : Asked
  pub at : get_elem? asked place ≡ some a
  pub missing : is_missing a.found a.known ≡ true

-- the first that is missing
abbrev pub IsFirstMissing : List Asked → Option ℕ → Type 0
IsFirstMissing asked (Some place) = IsMissing asked place × NoneMissing place asked
IsFirstMissing asked None = NoneMissing (length asked) asked

-- ---- what is held

-- each spot that is known is one of the cells, and a pin was good there
pub record IsThere (cells : ℕ) (pins : List (ℕ × ℕ)) (s : Spot) : Type 0 where
  pub there : s.cell < cells
  pub had : 1 ≤ pins_under s.cell s.claim pins

abbrev pub AreThere : ℕ → List (ℕ × ℕ) → List Asked → Type 0
AreThere cells pins asked = (i : ℕ) (a : Asked) → get_elem? asked i ≡ some a → IfSome a.known (λ k. IsThere cells pins k.spot)

-- each of the first n is pinned, where its counter is known
abbrev pub ArePinned : ℕ → List Asked → CellView → Type 0
ArePinned n asked v = (i : ℕ) (a : Asked) → i < n → get_elem? asked i ≡ some a → IfSome a.known (λ k. IsPinned v k.spot)

-- all counters are known, and each for which something is to be counted is pinned
pub record AreHeld (cells : ℕ) (asked : List Asked) (spots : List Spot) (v : CellView) : Type 0 where
  pub known : NoneMissing (length asked) asked
  pub holds : Holds cells spots v
  pub pinned : (i : ℕ) (a : Asked) → get_elem? asked i ≡ some a → is_to_count a.found a.hits a.known ≡ true
      → IfSome a.known (λ k. IsPinned v k.spot)

-- a pin of the known spot missed
pub record HasMissedAt (asked : List Asked) (place claim : ℕ) (v w : CellView) : Type 0 where
  pub a : Asked
  pub at : get_elem? asked place ≡ some a
  pub k : Known
  pub is : a.known ≡ Some k
  pub missed : HasMissed k.spot claim v w

-- why they aren't held
abbrev pub IsNotHeld : List Asked → Missed → CellView → CellView → Type 0
IsNotHeld asked (Unknown place) v w = IsMissing asked place × NoneMissing place asked × (w ≡ v)
IsNotHeld asked (Reclaimed place claim) v w = NoneMissing (length asked) asked × HasMissedAt asked place claim v w

-- ---- what is ready to be counted

-- the counter is known, on a spot that is its own; it is pinned there, unless nothing is to be counted
pub record IsReadySpot (cells : ℕ) (claims : List Claim) (v : CellView) (q : CounterKey) (limit hits : ℕ) (k : Known) : Type 0 where
  pub there : k.spot.cell < cells
  pub bound : 1 ≤ bindings_of q k.spot.cell k.spot.claim claims
  pub pinned : is_over limit hits k.seen ≡ false → IsPinned v k.spot

abbrev pub ReadyAt : ℕ → List Claim → RequestParts → CellView → Descriptor → Found → ℕ → Option Known → Type 0
ReadyAt cells claims request v d (Limited limit unit shadow rule) hits known =
    (k : Known) × (known ≡ Some k) × IsReadySpot cells claims v (counter_of request.domain d unit v.moment) limit hits k
ReadyAt cells claims request v d found hits known = known ≡ None

-- what is asked for a descriptor can be counted
pub record IsReady (cells : ℕ) (claims : List Claim) (request : RequestParts) (v : CellView) (d : Descriptor) (a : Asked) : Type 0 where
  pub hits : a.hits ≡ hits_of request d
  pub spot : ReadyAt cells claims request v d a.found a.hits a.known

-- the same for each descriptor
abbrev pub AreReady : ℕ → List Claim → RequestParts → CellView → List Asked → Type 0
AreReady cells claims request v asked = (i : ℕ) (d : Descriptor) (a : Asked) → get_elem? request.descriptors i ≡ some d
    → get_elem? asked i ≡ some a → IsReady cells claims request v d a

-- what is asked for each descriptor is what the pass knows of its counter
abbrev pub AreKnown : RequestParts → CountersView → List Asked → Type 0
AreKnown request v asked = (i : ℕ) (d : Descriptor) (a : Asked) → get_elem? request.descriptors i ≡ some d
    → get_elem? asked i ≡ some a → a.known ≡ known_for request v.cells.moment v.known d a.found
