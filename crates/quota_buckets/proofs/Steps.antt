-- An index of names stays that of its slots as one of them changes.
use Rattle.std.proofs.Common.{◌≡◌, ℕ, ◌+◌, ◌<◌, Bool, true, false, not, List, [], ◌∷◌, ◌++◌, refl, sym, ◌∙◌, Option, Some, None, option_map, length, cond, get_or, if◌then◌else◌}
use Rattle.std.proofs.Math.ListN.{set}
use Rattle.std.proofs.lemmas.List.{set-get_or, get_or_default}
use Rattle.quota_settings.specs.declared.pair.Pair.{Pair}
use Rattle.quota_settings.specs.Pairs.{same_pairs}
use Rattle.quota_bucket.specs.declared.timed_phase.TimedPhase.{TimedPhase}
use Rattle.quota_bucket.specs.declared.timed_phase.TimedPhase.TheVariants.{Gone, Unassigned, Live, Expired}
use Rattle.quota_bucket.specs.declared.rules.BucketRules.{BucketRules}
use Rattle.quota_bucket.specs.declared.bucket_state.BucketState.{BucketState}
use Rattle.quota_bucket.specs.declared.bucket_state.Asked.{Asked}
use Rattle.quota_bucket.specs.declared.bucket_state.Advance.{Advance}
use Rattle.quota_bucket.specs.declared.strategy.Strategy.{Strategy}
use Rattle.quota_bucket.specs.History.{is_gone, after_request, after_assignment, renewed, begins_by_assignment}
use Rattle.quota_bucket.specs.Machine.{asked}
use Rattle.quota_buckets.specs.Tables.{Stored, slot_at, stored_there, stored_advanced, stored_asked, stored_assigned, id_if_gone, slot_advanced, erased_id}
use Rattle.quota_buckets.specs.Slots.{IsIndex, HasNoPlace}
use Rattle.quota_buckets.proofs.Indexing.{changed_index, erased_index, added_index, no_place}

-- after a request a bucket is there
pub request_there : (before : TimedPhase) (at : ℕ) → is_gone (after_request before at) ≡ false
request_there Gone at = refl
request_there (Unassigned effect) at = refl
request_there (Live strategy effect expiry) at = refl
request_there (Expired strategy effect since) at = refl

chosen : (b : Bool) (x y : Asked) (s : TimedPhase) → x.state.phase ≡ s → y.state.phase ≡ s → (if b then x else y).state.phase ≡ s
chosen true x y s first second = first
chosen false x y s first second = second

asked_phase : (rules : BucketRules) (at : ℕ) (up : Bool) (state : BucketState)
    → (asked rules at up state).state.phase ≡ after_request state.phase at
asked_phase rules at up state = chosen (is_gone state.phase) _ _ _ refl refl

pub asked_there : (at : ℕ) (up : Bool) (stored : Stored) → is_gone (stored_asked at up stored).state.phase ≡ false
asked_there at up stored = rw (asked_phase stored.rules at up stored.state) (request_there stored.state.phase at)

renewed_there : (before : TimedPhase) (expires : Option ℕ) → is_gone (renewed before expires) ≡ is_gone before
renewed_there Gone expires = refl
renewed_there (Unassigned effect) expires = refl
renewed_there (Live strategy effect expiry) expires = refl
renewed_there (Expired strategy effect since) expires = refl

pub assignment_there : (before : TimedPhase) (at : ℕ) (lifetime : Option ℕ) (strategy : Strategy) → is_gone before ≡ false
    → is_gone (after_assignment before at lifetime strategy) ≡ false
assignment_there before at lifetime strategy there = rw there (over (begins_by_assignment before strategy))
  where
    over : (b : Bool) → is_gone (if b then Live strategy at (option_map (λ n. at + n) lifetime) else renewed before (option_map (λ n. at + n) lifetime)) ≡ false
    over true = refl
    over false = renewed_there before (option_map (λ n. at + n) lifetime) ∙ there

pub assigned_there : (at : ℕ) (lifetime : Option ℕ) (strategy : Strategy) (stored : Stored) → is_gone stored.state.phase ≡ false
    → is_gone (stored_assigned at lifetime strategy stored).state.phase ≡ false
assigned_there at lifetime strategy stored there = assignment_there stored.state.phase at lifetime strategy there

-- the slot that a place reads, whatever is read beyond the list
pub read_at : (slots : List (Option Stored)) (place : ℕ) (slot : Option Stored) → place < length slots → slot ≡ get_or slots place slot
    → slot_at slots place ≡ slot
read_at slots place slot within read = get_or_default slots place None slot within ∙ sym read

-- a slot that is set to what it was
unchanged : (index : List Pair → Option ℕ) (slots : List (Option Stored)) (place : ℕ) (slot : Option Stored) → IsIndex index slots
    → slot_at slots place ≡ slot → IsIndex index (set slots place slot)
unchanged index slots place slot is_index is = rw (← is, set-get_or slots place None) is_index

-- an advance that erases a bucket, and one that doesn't
gone_by : (id : List Pair) (stored : Stored) (name : List Pair) → id_if_gone id stored ≡ Some name → (stored_there stored ≡ false) × (id ≡ name)
gone_by id stored name is = over (stored_there stored) is
  where
    over : (b : Bool) → (if b then None else Some id) ≡ Some name → (b ≡ false) × (id ≡ name)
    over true h = absurd (cc)
    over false h = (refl, cc)

there_by : (id : List Pair) (stored : Stored) → id_if_gone id stored ≡ None → stored_there stored ≡ true
there_by id stored is = over (stored_there stored) is
  where
    over : (b : Bool) → (if b then None else Some id) ≡ None → b ≡ true
    over true h = refl
    over false h = absurd (cc)

not_gone : (b : Bool) → not b ≡ true → b ≡ false
not_gone true is = absurd (cc)
not_gone false is = refl

gone_step : (index less : List Pair → Option ℕ) (slots : List (Option Stored)) (place : ℕ) (advance : Advance) (name : List Pair)
    → IsIndex index slots → (slot : Option Stored) → slot_at slots place ≡ slot → erased_id advance slot ≡ Some name
    → ((q : List Pair) → less q ≡ cond (same_pairs name q) None (index q))
    → IsIndex less (set slots place (slot_advanced advance slot))
gone_step index less slots place advance name is_index None is erased removed = absurd (cc)
gone_step index less slots place advance name is_index (Some stored) is erased removed =
    let gone = gone_by stored.id (stored_advanced advance stored) name erased in
    rw gone.0 (erased_index index less slots place stored is_index is (λ q. rw gone.1 (removed q)))

stay_step : (index : List Pair → Option ℕ) (slots : List (Option Stored)) (place : ℕ) (advance : Advance)
    → IsIndex index slots → (slot : Option Stored) → slot_at slots place ≡ slot → erased_id advance slot ≡ None
    → IsIndex index (set slots place (slot_advanced advance slot))
stay_step index slots place advance is_index None is erased = unchanged index slots place None is_index is
stay_step index slots place advance is_index (Some stored) is erased =
    let there = there_by stored.id (stored_advanced advance stored) erased in
    rw there (changed_index index slots place stored (stored_advanced advance stored) is_index is refl (not_gone (is_gone (stored_advanced advance stored).state.phase) there))

pub advanced_gone : (index less : List Pair → Option ℕ) (slots : List (Option Stored)) (place : ℕ) (advance : Advance) (stored : Stored) (slot later : Option Stored)
    → IsIndex index slots → slot_at slots place ≡ slot → Some stored.id ≡ erased_id advance slot
    → ((q : List Pair) → less q ≡ cond (same_pairs stored.id q) None (index q)) → later ≡ slot_advanced advance slot
    → IsIndex less (set slots place later)
advanced_gone index less slots place advance stored slot later is_index read erased removed is =
    rw is (gone_step index less slots place advance stored.id is_index slot read (sym erased) removed)

pub advanced_there : (index : List Pair → Option ℕ) (slots : List (Option Stored)) (place : ℕ) (advance : Advance) (slot later : Option Stored)
    → IsIndex index slots → slot_at slots place ≡ slot → None ≡ erased_id advance slot
    → later ≡ slot_advanced advance slot → IsIndex index (set slots place later)
advanced_there index slots place advance slot later is_index read erased is =
    rw is (stay_step index slots place advance is_index slot read (sym erased))

-- a bucket behind the others
pub pushed_index : (index more : List Pair → Option ℕ) (slots : List (Option Stored)) (stored : Stored) (id : List Pair) → IsIndex index slots
    → HasNoPlace stored.id slots → id ≡ stored.id → ((q : List Pair) → more q ≡ cond (same_pairs id q) (Some (length slots)) (index q))
    → is_gone stored.state.phase ≡ false → (later : List (Option Stored)) → later ≡ slots ++ Some stored ∷ [] → IsIndex more later
pushed_index index more slots stored id is_index none name added there later is =
    rw is (added_index index more slots stored is_index (no_place index slots stored.id is_index none (index stored.id) refl)
    (λ q. rw (← name) (added q)) there)
