-- Inside: the slots of a table, with an index of their names and an agenda of their next moments.
use Rattle.std.specs.Prelude.{◌≡◌, ℕ, ◌<◌, ◌≤◌, List, Option, Some, None, true, false, is_some, length, slice_index_or, if◌then◌else◌}
use Rattle.quota_settings.specs.declared.pair.Pair.{Pair}
use Rattle.quota_settings.specs.Pairs.{same_pairs}
use Rattle.quota_bucket.specs.History.{is_gone}
use Rattle.quota_buckets.specs.Tables.{Stored, slot_at, slot_id, slot_named, slot_due}

-- each bucket is in the index at its place, each place of the index has a bucket of that name, and each bucket is there
pub record IsIndex (index : List Pair → Option ℕ) (slots : List (Option Stored)) : Type 0 where
  pub placed : (place : ℕ) (stored : Stored) → slot_at slots place ≡ Some stored → index stored.id ≡ Some place
  pub named : (id : List Pair) (place : ℕ) → index id ≡ Some place → slot_id (slot_at slots place) ≡ Some id
  pub there : (place : ℕ) (stored : Stored) → slot_at slots place ≡ Some stored → is_gone stored.state.phase ≡ false

-- an agenda has the next moment of each slot, and none for places without one
pub record IsAgenda (time : ℕ) (moments : List (Option ℕ)) (slots : List (Option Stored)) : Type 0 where
  pub room : length slots ≤ length moments
  pub each : (place : ℕ) → slice_index_or moments place None ≡ slot_due time (slot_at slots place)

-- a table's index and agenda are those of its slots
pub record IsTable (time : ℕ) (moments : List (Option ℕ)) (index : List Pair → Option ℕ) (slots : List (Option Stored)) : Type 0 where
  pub indexed : IsIndex index slots
  pub planned : IsAgenda time moments slots

-- the place of a name: the first slot whose bucket has it
pub record IsPlaceOf (id : List Pair) (place : ℕ) (slots : List (Option Stored)) : Type 0 where
  pub within : place < length slots
  pub here : slot_named id (slot_at slots place) ≡ true
  pub first : (before : ℕ) → before < place → slot_named id (slot_at slots before) ≡ false

-- no slot has a bucket of this name
abbrev pub HasNoPlace : List Pair → List (Option Stored) → Type 0
HasNoPlace id slots = (place : ℕ) → slot_named id (slot_at slots place) ≡ false

-- each bucket is there
abbrev pub AllThere : List (Option Stored) → Type 0
AllThere slots = (place : ℕ) (stored : Stored) → slot_at slots place ≡ Some stored → is_gone stored.state.phase ≡ false

-- no two buckets have one name
abbrev pub AreDistinct : List (Option Stored) → Type 0
AreDistinct slots = (j k : ℕ) (a b : Stored) → slot_at slots j ≡ Some a → slot_at slots k ≡ Some b → a.id ≡ b.id → j ≡ k

-- each bucket's name is in the index, and each name of the index is that of a bucket
pub record IsNamed (index : List Pair → Option ℕ) (slots : List (Option Stored)) : Type 0 where
  pub has : (place : ℕ) (stored : Stored) → slot_at slots place ≡ Some stored → is_some (index stored.id) ≡ true
  pub named : (id : List Pair) (place : ℕ) → index id ≡ Some place → (k : ℕ) × (slot_id (slot_at slots k) ≡ Some id)

-- the buckets of the first places are in the index at these
abbrev pub ArePlaced : ℕ → (List Pair → Option ℕ) → List (Option Stored) → Type 0
ArePlaced count index slots = (place : ℕ) (stored : Stored) → place < count → slot_at slots place ≡ Some stored
    → index stored.id ≡ Some place

-- the index after the place of one name was set
abbrev pub IsSet : (List Pair → Option ℕ) → (List Pair → Option ℕ) → List Pair → ℕ → Type 0
IsSet index later id place = (q : List Pair) → later q ≡ (if same_pairs id q then Some place else index q)
