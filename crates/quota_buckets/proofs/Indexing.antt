-- What an index of names knows of its slots, and what stays of it as they change.
use Rattle.std.proofs.Common.{◌≡◌, ℕ, ◌<◌, ◌⊎◌, inl, inr, Bool, true, false, List, [], ◌∷◌, ◌++◌, refl, ap, sym, ◌∙◌, arith, Option, Some, None, length, cond, suc, zero}
use Rattle.std.proofs.Math.ListN.{set}
use Rattle.std.proofs.lemmas.Bool.{cases_eq, true≢false}
use Rattle.std.proofs.lemmas.List.{get_or-set_same, get_or-set_other}
use Rattle.quota_settings.specs.declared.pair.Pair.{Pair}
use Rattle.quota_settings.specs.Pairs.{same_pairs}
use Rattle.quota_bucket.specs.History.{is_gone}
use Rattle.quota_buckets.specs.Tables.{Stored, slot_at, slot_id, slot_named}
use Rattle.quota_buckets.specs.Slots.{IsIndex, IsPlaceOf, HasNoPlace}
use Rattle.quota_settings.specs.Laws.{same_by_eq, eq_of_same}

-- a slot that isn't empty is within the list
pub at_within : (slots : List (Option Stored)) (place : ℕ) (stored : Stored) → slot_at slots place ≡ Some stored → place < length slots
at_within [] place stored is = absurd (cc)
at_within (s ∷ slots) zero stored is = omega arith
at_within (s ∷ slots) (suc place) stored is = let rest = at_within slots place stored is in omega arith

-- a slot with a name has a bucket of it
pub record HasBucket (id : List Pair) (slot : Option Stored) : Type 0 where
  pub stored : Stored
  pub is : slot ≡ Some stored
  pub name : stored.id ≡ id

pub bucket_by_id : (id : List Pair) (slot : Option Stored) → slot_id slot ≡ Some id → HasBucket id slot
bucket_by_id id None is = absurd (cc)
bucket_by_id id (Some stored) is = record { stored = stored; is = refl; name = cc }

bucket_by_name : (id : List Pair) (slot : Option Stored) → slot_named id slot ≡ true → HasBucket id slot
bucket_by_name id None is = absurd (cc)
bucket_by_name id (Some stored) is = record { stored = stored; is = refl; name = same_by_eq stored.id id is }

named_by_id : (id : List Pair) (slot : Option Stored) → slot_id slot ≡ Some id → slot_named id slot ≡ true
named_by_id id None is = absurd (cc)
named_by_id id (Some stored) is = eq_of_same stored.id id (cc)

-- the bucket of a name that the index has
pub found_bucket : (index : List Pair → Option ℕ) (slots : List (Option Stored)) (id : List Pair) (place : ℕ) → IsIndex index slots
    → index id ≡ Some place → HasBucket id (slot_at slots place)
found_bucket index slots id place is_index is = bucket_by_id id (slot_at slots place) (is_index.named id place is)

-- the index has each place that is named
place_by_name : (index : List Pair → Option ℕ) (slots : List (Option Stored)) (id : List Pair) (place : ℕ) → IsIndex index slots
    → slot_named id (slot_at slots place) ≡ true → index id ≡ Some place
place_by_name index slots id place is_index is =
    let bucket = bucket_by_name id (slot_at slots place) is in
    ap index (sym bucket.name) ∙ is_index.placed place bucket.stored bucket.is

not_named : (b : Bool) → (b ≡ true → ⊥) → b ≡ false
not_named true never = absurd (never refl)
not_named false never = refl

-- what the index has is the place of a name
pub found_place : (index : List Pair → Option ℕ) (slots : List (Option Stored)) (id : List Pair) (place : ℕ) → IsIndex index slots
    → index id ≡ Some place → IsPlaceOf id place slots
found_place index slots id place is_index is =
    let bucket = bucket_by_id id (slot_at slots place) (is_index.named id place is) in
    record {
      within = at_within slots place bucket.stored bucket.is;
      here = named_by_id id (slot_at slots place) (is_index.named id place is);
      first = λ before lt. not_named (slot_named id (slot_at slots before)) (λ h.
          let same : before ≡ place = cc (place_by_name index slots id before is_index h, is) in
          omega arith);
    }

pub found_none : (index : List Pair → Option ℕ) (slots : List (Option Stored)) (id : List Pair) → IsIndex index slots
    → index id ≡ None → HasNoPlace id slots
found_none index slots id is_index is = λ place. not_named (slot_named id (slot_at slots place)) (λ h.
    let other = place_by_name index slots id place is_index h in cc)

-- a name without a place isn't in the index
pub no_place : (index : List Pair → Option ℕ) (slots : List (Option Stored)) (id : List Pair) → IsIndex index slots
    → HasNoPlace id slots → (o : Option ℕ) → index id ≡ o → index id ≡ None
no_place index slots id is_index none None is = is
no_place index slots id is_index none (Some place) is =
    let here = named_by_id id (slot_at slots place) (is_index.named id place is) in
    let other = none place in
    absurd (cc)

at_same : (slots : List (Option Stored)) (place k : ℕ) (slot : Option Stored) → place < length slots → k ≡ place
    → slot_at (set slots place slot) k ≡ slot
at_same slots place k slot within is = rw is (get_or-set_same slots place slot None within)

at_other : (slots : List (Option Stored)) (place k : ℕ) (slot : Option Stored) → (k ≡ place → ⊥)
    → slot_at (set slots place slot) k ≡ slot_at slots k
at_other slots place k slot apart = get_or-set_other slots place k slot None apart

-- a bucket that changes but keeps its name
pub changed_index : (index : List Pair → Option ℕ) (slots : List (Option Stored)) (place : ℕ) (stored later : Stored) → IsIndex index slots
    → slot_at slots place ≡ Some stored → later.id ≡ stored.id → is_gone later.state.phase ≡ false
    → IsIndex index (set slots place (Some later))
changed_index index slots place stored later is_index is name there = record {
  placed = λ k other at. placed_at k other at (cases_eq k place);
  named = λ id k found. named_at id k found (cases_eq k place);
  there = λ k other at. there_at k other at (cases_eq k place);
}
  where
    within : place < length slots
    within = at_within slots place stored is

    placed_at : (k : ℕ) (other : Stored) → slot_at (set slots place (Some later)) k ≡ Some other → (k ≡ place) ⊎ (k ≡ place → ⊥)
        → index other.id ≡ Some k
    placed_at k other at (inl e) =
        let same : later ≡ other = cc (at, at_same slots place k (Some later) within e) in
        rw (← same, name, e) (is_index.placed place stored is)
    placed_at k other at (inr ne) = is_index.placed k other (sym (at_other slots place k (Some later) ne) ∙ at)

    named_at : (id : List Pair) (k : ℕ) → index id ≡ Some k → (k ≡ place) ⊎ (k ≡ place → ⊥)
        → slot_id (slot_at (set slots place (Some later)) k) ≡ Some id
    named_at id k found (inl e) =
        let before : slot_id (slot_at slots place) ≡ Some id = rw (← e) (is_index.named id k found) in
        rw (at_same slots place k (Some later) within e, name) (rw is at before)
    named_at id k found (inr ne) = rw (at_other slots place k (Some later) ne) (is_index.named id k found)

    there_at : (k : ℕ) (other : Stored) → slot_at (set slots place (Some later)) k ≡ Some other → (k ≡ place) ⊎ (k ≡ place → ⊥)
        → is_gone other.state.phase ≡ false
    there_at k other at (inl e) =
        let same : later ≡ other = cc (at, at_same slots place k (Some later) within e) in rw (← same) there
    there_at k other at (inr ne) = is_index.there k other (sym (at_other slots place k (Some later) ne) ∙ at)

pub apart_names : (a b : List Pair) → (a ≡ b → ⊥) → same_pairs a b ≡ false
apart_names a b apart = not_named (same_pairs a b) (λ h. apart (same_by_eq a b h))

pub same_names : (a b : List Pair) → a ≡ b → same_pairs a b ≡ true
same_names a b is = eq_of_same a b is

pub cases_names : (a b : List Pair) → (a ≡ b) ⊎ (a ≡ b → ⊥)
cases_names a b = over (same_pairs a b) refl
  where
    over : (t : Bool) → same_pairs a b ≡ t → (a ≡ b) ⊎ (a ≡ b → ⊥)
    over true is = inl (same_by_eq a b is)
    over false is = inr (λ e. true≢false (sym (same_names a b e) ∙ is))

-- a bucket that is erased
pub erased_index : (index less : List Pair → Option ℕ) (slots : List (Option Stored)) (place : ℕ) (stored : Stored) → IsIndex index slots
    → slot_at slots place ≡ Some stored → ((q : List Pair) → less q ≡ cond (same_pairs stored.id q) None (index q))
    → IsIndex less (set slots place None)
erased_index index less slots place stored is_index is removed = record {
  placed = λ k other at. placed_at k other at (cases_eq k place);
  named = λ id k found. named_at id k found (cases_names stored.id id);
  there = λ k other at. there_at k other at (cases_eq k place);
}
  where
    within : place < length slots
    within = at_within slots place stored is

    placed_at : (k : ℕ) (other : Stored) → slot_at (set slots place None) k ≡ Some other → (k ≡ place) ⊎ (k ≡ place → ⊥)
        → less other.id ≡ Some k
    placed_at k other at (inl e) = absurd (let gone = at_same slots place k None within e in cc)
    placed_at k other at (inr ne) =
        let before : index other.id ≡ Some k = is_index.placed k other (sym (at_other slots place k None ne) ∙ at) in
        let apart : stored.id ≡ other.id → ⊥ = λ e. ne (let here : index stored.id ≡ Some place = is_index.placed place stored is in cc (ap index e, here, before)) in
        rw (removed other.id, apart_names stored.id other.id apart) before

    named_at : (id : List Pair) (k : ℕ) → less id ≡ Some k → (stored.id ≡ id) ⊎ (stored.id ≡ id → ⊥)
        → slot_id (slot_at (set slots place None) k) ≡ Some id
    named_at id k found (inl e) = absurd (let gone = rw (same_names stored.id id e) at (removed id) in cc)
    named_at id k found (inr ne) =
        let before : index id ≡ Some k = sym (rw (apart_names stored.id id ne) at (removed id)) ∙ found in
        let named : slot_id (slot_at slots k) ≡ Some id = is_index.named id k before in
        let apart : k ≡ place → ⊥ = λ e. ne (let here : slot_id (slot_at slots place) ≡ Some id = rw (← e) named in
        let there : slot_id (slot_at slots place) ≡ Some stored.id = rw is refl in cc (here, there)) in
        rw (at_other slots place k None apart) named

    there_at : (k : ℕ) (other : Stored) → slot_at (set slots place None) k ≡ Some other → (k ≡ place) ⊎ (k ≡ place → ⊥)
        → is_gone other.state.phase ≡ false
    there_at k other at (inl e) = absurd (let gone = at_same slots place k None within e in cc)
    there_at k other at (inr ne) = is_index.there k other (sym (at_other slots place k None ne) ∙ at)

-- a slot behind the others
pub push_last : (slots : List (Option Stored)) (slot : Option Stored) → slot_at (slots ++ slot ∷ []) (length slots) ≡ slot
push_last [] slot = refl
push_last (s ∷ slots) slot = push_last slots slot

pub push_other : (slots : List (Option Stored)) (slot : Option Stored) (k : ℕ) → (k ≡ length slots → ⊥)
    → slot_at (slots ++ slot ∷ []) k ≡ slot_at slots k
push_other [] slot zero apart = absurd (apart refl)
push_other [] slot (suc k) apart = refl
push_other (s ∷ slots) slot zero apart = refl
push_other (s ∷ slots) slot (suc k) apart = push_other slots slot k (λ e. apart (omega arith))

-- a bucket that is added
pub added_index : (index more : List Pair → Option ℕ) (slots : List (Option Stored)) (stored : Stored) → IsIndex index slots
    → index stored.id ≡ None → ((q : List Pair) → more q ≡ cond (same_pairs stored.id q) (Some (length slots)) (index q))
    → is_gone stored.state.phase ≡ false → IsIndex more (slots ++ Some stored ∷ [])
added_index index more slots stored is_index new added there = record {
  placed = λ k other at. placed_at k other at (cases_eq k (length slots));
  named = λ id k found. named_at id k found (cases_names stored.id id);
  there = λ k other at. there_at k other at (cases_eq k (length slots));
}
  where
    placed_at : (k : ℕ) (other : Stored) → slot_at (slots ++ Some stored ∷ []) k ≡ Some other → (k ≡ length slots) ⊎ (k ≡ length slots → ⊥)
        → more other.id ≡ Some k
    placed_at k other at (inl e) =
        let here : slot_at (slots ++ Some stored ∷ []) k ≡ Some stored = rw e (push_last slots (Some stored)) in
        let same : stored ≡ other = cc (here, at) in
        rw (added other.id, same_names stored.id other.id (ap (λ (x : Stored). x.id) same), e) refl
    placed_at k other at (inr ne) =
        let before : index other.id ≡ Some k = is_index.placed k other (sym (push_other slots (Some stored) k ne) ∙ at) in
        let apart : stored.id ≡ other.id → ⊥ = λ e. (let same = ap index e in cc) in
        rw (added other.id, apart_names stored.id other.id apart) before

    named_at : (id : List Pair) (k : ℕ) → more id ≡ Some k → (stored.id ≡ id) ⊎ (stored.id ≡ id → ⊥)
        → slot_id (slot_at (slots ++ Some stored ∷ []) k) ≡ Some id
    named_at id k found (inl e) =
        let last : Some (length slots) ≡ Some k = sym (rw (same_names stored.id id e) at (added id)) ∙ found in
        let is : k ≡ length slots = cc in
        rw (is, push_last slots (Some stored), e) refl
    named_at id k found (inr ne) =
        let before : index id ≡ Some k = sym (rw (apart_names stored.id id ne) at (added id)) ∙ found in
        let named : slot_id (slot_at slots k) ≡ Some id = is_index.named id k before in
        let bucket = bucket_by_id id (slot_at slots k) named in
        let within : k < length slots = at_within slots k bucket.stored bucket.is in
        rw (push_other slots (Some stored) k (λ e. omega arith)) named

    there_at : (k : ℕ) (other : Stored) → slot_at (slots ++ Some stored ∷ []) k ≡ Some other → (k ≡ length slots) ⊎ (k ≡ length slots → ⊥)
        → is_gone other.state.phase ≡ false
    there_at k other at (inl e) =
        let here : slot_at (slots ++ Some stored ∷ []) k ≡ Some stored = rw e (push_last slots (Some stored)) in
        let same : stored ≡ other = cc (here, at) in rw (← same) there
    there_at k other at (inr ne) = is_index.there k other (sym (push_other slots (Some stored) k ne) ∙ at)

pub empty_index : (index : List Pair → Option ℕ) → ((q : List Pair) → index q ≡ None) → IsIndex index []
empty_index index none = record {
  placed = λ place stored is. absurd (cc);
  named = λ id place is. absurd (let no = none id in cc);
  there = λ place stored is. absurd (cc);
}
