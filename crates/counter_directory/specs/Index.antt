-- Inside: where the counters of the present windows are found, unit by unit.
use Rattle.std.specs.Prelude.{◌≡◌, ℕ, ◌≤◌, ◌<◌, List, [], length, Some, None}
use Rattle.std.specs.HashMap.{get, spare}
use mathlib.Core.Option.{some}
use lib.ListN.{get_elem?}
use Rattle.rate_types.specs.declared.counter_key.CounterKey.{CounterKey}
use Rattle.rate_types.specs.declared.counter_name.CounterName.{CounterName}
use Rattle.rate_types.specs.Counters.{same_name}
use Rattle.rate_types.specs.Units.{unit_rank, seconds_of}
use Rattle.window_keys.specs.Window.{window_start, window_end}
use Rattle.counter_cells.specs.declared.answers.Spot.{Spot}
use Rattle.counter_directory.specs.declared.claim.Claim.{Claim}
use Rattle.counter_directory.specs.declared.unit_index.UnitIndex.{UnitIndex}
use Rattle.counter_directory.specs.Claims.{claims_of, bindings_of}
use Rattle.counter_directory.specs.Keys.{key_at}

-- no counter is found, in the unit's first window
abbrev pub IsNew : UnitIndex → Type 0
IsNew x = (x.end ≡ seconds_of x.unit) × (x.spots.entries ≡ [])

-- so is each unit's, in the order of the units
abbrev pub AreNew : List UnitIndex → Type 0
AreNew units = (u : ℕ) (x : UnitIndex) → get_elem? units u ≡ some x → (unit_rank x.unit ≡ u) × IsNew x

-- what is found stays while the window hasn't ended at the moment, and else nothing is found, in the window of the moment
pub record Turns (moment : ℕ) (x y : UnitIndex) : Type 0 where
  pub unit : y.unit ≡ x.unit
  pub stays : moment < x.end → (y.end ≡ x.end) × (y.spots ≡ x.spots)
  pub ends : x.end ≤ moment → (y.end ≡ window_end x.unit moment) × (y.spots.entries ≡ [])

-- so each unit's
abbrev pub TurnEach : ℕ → List UnitIndex → List UnitIndex → Type 0
TurnEach moment units new = (u : ℕ) (y : UnitIndex) → get_elem? new u ≡ some y → (x : UnitIndex) × (get_elem? units u ≡ some x)
    × Turns moment x y

-- the same is found, in the same window
pub record FindsTheSame (x y : UnitIndex) : Type 0 where
  pub unit : y.unit ≡ x.unit
  pub end : y.end ≡ x.end
  pub found : (n : CounterName) → get same_name y.spots n ≡ get same_name x.spots n

-- so each unit's
abbrev pub FindTheSame : List UnitIndex → List UnitIndex → Type 0
FindTheSame units new = (u : ℕ) (y : UnitIndex) → get_elem? new u ≡ some y → (x : UnitIndex) × (get_elem? units u ≡ some x)
    × FindsTheSame x y

-- there is room for as many new counters in each
abbrev pub HaveRoom : ℕ → List UnitIndex → Type 0
HaveRoom n units = (u : ℕ) (x : UnitIndex) → get_elem? units u ≡ some x → n ≤ spare x.spots

-- a counter of the unit is found in the window of the moment exactly where a claim is of it, and then where that binds it
pub record UnitFits (u last : ℕ) (claims : List Claim) (x : UnitIndex) : Type 0 where
  pub rank : unit_rank x.unit ≡ u
  pub window : x.end ≡ window_end x.unit last
  pub there : (n : CounterName) (s : Spot) → get same_name x.spots n ≡ Some s
      → (n.unit ≡ x.unit) × (1 ≤ bindings_of (key_at last n) s.cell s.claim claims)
  pub none : (n : CounterName) → n.unit ≡ x.unit → get same_name x.spots n ≡ None → claims_of (key_at last n) claims ≡ 0

-- no claim is of a window that begins after the moment
abbrev pub NoneLater : ℕ → List Claim → Type 0
NoneLater last claims = (q : CounterKey) → last < q.start → claims_of q claims ≡ 0

-- each claim's counter is one of a window
abbrev pub AreWhole : List Claim → Type 0
AreWhole claims = (q : CounterKey) → 1 ≤ claims_of q claims → q.start ≡ window_start q.name.unit q.start

-- so each unit's index, in the order of the units
pub record IndexFits (last : ℕ) (claims : List Claim) (units : List UnitIndex) : Type 0 where
  pub four : length units ≡ 4
  pub each : (u : ℕ) (x : UnitIndex) → get_elem? units u ≡ some x → UnitFits u last claims x
  pub later : NoneLater last claims
  pub whole : AreWhole claims
