-- Inside: what is stored of a stream's buckets: the state of each, in order of making.
use Rattle.std.specs.Prelude.{ℕ, List, [], ◌∷◌, ◌++◌, Option, Some, None, Bool, false, not, option_map, is_some, slice_index_or, slice_set}
use Rattle.std.specs.Prelude.{◌<◌, All, map, filter, if◌then◌else◌}
use Rattle.std.specs.List.{flat_map}
use Rattle.quota_settings.specs.Pairs.{same_pairs}
use Rattle.quota_settings.specs.declared.pair.Pair.{Pair}
use Rattle.quota_bucket.specs.History.{is_gone}
use Rattle.quota_bucket.specs.State.{state_after}
use Rattle.quota_bucket.specs.Machine.{advanced, advance_report, asked, assigned, new_state}
use Rattle.quota_bucket.specs.Due.{due}
use Rattle.quota_bucket.specs.declared.rules.BucketRules.{BucketRules}
use Rattle.quota_bucket.specs.declared.bucket_state.BucketState.{BucketState}
use Rattle.quota_bucket.specs.declared.bucket_state.Advance.{Advance}
use Rattle.quota_bucket.specs.declared.strategy.Strategy.{Strategy}
use Rattle.quota_buckets.specs.Pasts.{Past}
use Rattle.quota_buckets.specs.Phases.{phase_of}
use Rattle.quota_buckets.specs.Sending.{reports_from, by_moment}
use Rattle.quota_buckets.specs.declared.phase.Phase.{Phase}
use Rattle.quota_buckets.specs.declared.phase.Phase.TheVariants.{None as NoPhase}
use Rattle.quota_buckets.specs.declared.report.Report.{Report}

-- a bucket by its state
pub record Stored : Type 0 where
  pub id : List Pair
  pub rules : BucketRules
  pub state : BucketState

-- what is stored of a bucket with its history
abbrev pub stored_of : Past → Stored
stored_of past = record { id = past.id; rules = past.rules; state = state_after past.rules past.history }

-- whether it has this name
abbrev pub is_stored_as : List Pair → Stored → Bool
is_stored_as id stored = same_pairs stored.id id

-- whether it wasn't erased
abbrev pub stored_there : Stored → Bool
stored_there stored = not (is_gone stored.state.phase)

-- after an advance
abbrev pub stored_advanced : Advance → Stored → Stored
stored_advanced advance stored = record stored { state = advanced stored.rules advance stored.state }

-- the report that an advance sends of it
abbrev pub stored_reports : Advance → Stored → List Report
stored_reports advance stored = reports_from stored.id (advance_report stored.rules advance stored.state)

-- after a request
abbrev pub stored_asked : ℕ → Bool → Stored → Stored
stored_asked at up stored = record stored { state = (asked stored.rules at up stored.state).state }

-- its answer
abbrev pub stored_answer : ℕ → Bool → Stored → Bool
stored_answer at up stored = (asked stored.rules at up stored.state).allowed

-- a bucket by its first request
abbrev pub first_stored : List Pair → BucketRules → ℕ → Bool → Stored
first_stored id rules at up = record { id = id; rules = rules; state = (asked rules at up (new_state at)).state }

-- after an assignment
abbrev pub stored_assigned : ℕ → Option ℕ → Strategy → Stored → Stored
stored_assigned at lifetime strategy stored = record stored { state = assigned at lifetime strategy stored.state }

-- the bucket of a slot, if there is one
abbrev pub slot_list : Option Stored → List Stored
slot_list None = []
slot_list (Some stored) = stored ∷ []

-- the buckets of all slots, in order
abbrev pub held : List (Option Stored) → List Stored
held [] = []
held (slot ∷ slots) = slot_list slot ++ held slots

-- the slots that aren't empty, in order
abbrev pub without_gaps : List (Option Stored) → List (Option Stored)
without_gaps slots = filter is_some slots

-- the slot of a place; beyond the last one it is empty
abbrev pub slot_at : List (Option Stored) → ℕ → Option Stored
slot_at slots place = slice_index_or slots place None

-- whether a slot has a bucket of this name
abbrev pub slot_named : List Pair → Option Stored → Bool
slot_named id None = false
slot_named id (Some stored) = is_stored_as id stored

-- the name of a slot's bucket
abbrev pub slot_id : Option Stored → Option (List Pair)
slot_id slot = option_map (λ stored. stored.id) slot

-- the phase of a slot's bucket
abbrev pub slot_phase : Option Stored → Phase
slot_phase None = NoPhase
slot_phase (Some stored) = phase_of stored.state.phase

-- the next moment at which a slot wants work, if there is one
abbrev pub slot_due : ℕ → Option Stored → Option ℕ
slot_due time None = None
slot_due time (Some stored) = due stored.rules stored.state time

-- a slot with this bucket, if it wasn't erased
abbrev pub there_or_none : Stored → Option Stored
there_or_none stored = if stored_there stored then Some stored else None

-- a slot after an advance, which may erase its bucket
abbrev pub slot_advanced : Advance → Option Stored → Option Stored
slot_advanced advance None = None
slot_advanced advance (Some stored) = there_or_none (stored_advanced advance stored)

-- this name, if the bucket was erased
abbrev pub id_if_gone : List Pair → Stored → Option (List Pair)
id_if_gone id stored = if stored_there stored then None else Some id

-- the name of a bucket that an advance erases
abbrev pub erased_id : Advance → Option Stored → Option (List Pair)
erased_id advance None = None
erased_id advance (Some stored) = id_if_gone stored.id (stored_advanced advance stored)

-- the report that an advance sends of a slot's bucket
abbrev pub slot_reports : Advance → Option Stored → List Report
slot_reports advance None = []
slot_reports advance (Some stored) = stored_reports advance stored

-- what is stored of a stream: its time, and its buckets in order of making
pub record Table : Type 0 where
  pub time : ℕ
  pub stored : List Stored

-- an advance from a table's time
abbrev pub advance_of : Table → ℕ → Bool → Advance
advance_of table to up = record { from = table.time; to = to; up = up }

-- a table after an advance: each bucket has it, and the erased ones are gone
abbrev pub table_advanced : Advance → Table → Table
table_advanced advance table = record { time = advance.to; stored = filter stored_there (map (stored_advanced advance) table.stored) }

-- the reports that an advance sends, in order
abbrev pub table_reports : Advance → Table → List Report
table_reports advance table = by_moment (flat_map (stored_reports advance) table.stored)

-- a list in which some places are set, one after the other, each by what it has
abbrev pub each_set : {X : Type 0} → (ℕ → X → X) → X → List X → List ℕ → List X
each_set change default xs [] = xs
each_set change default xs (place ∷ places) =
    each_set change default (slice_set xs place (change place (slice_index_or xs place default))) places

-- the reports of the buckets at some places
abbrev pub reports_at : Advance → List (Option Stored) → List ℕ → List Report
reports_at advance slots places = flat_map (λ place. slot_reports advance (slot_at slots place)) places

-- all places are within a list of this length
abbrev pub AllWithin : ℕ → List ℕ → Type 0
AllWithin count places = All (λ place. place < count) places
