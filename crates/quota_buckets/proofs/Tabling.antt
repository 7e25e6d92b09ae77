-- What is stored in slots, by the place of a name.
use Rattle.std.proofs.Common.{◌≡◌, ℕ, ◌<◌, ◌⊎◌, inl, inr, Bool, true, false, List, [], ◌∷◌, refl, ap, sym, ◌∙◌, arith, Option, Some, None, option_map, length, find, get_or}
use Rattle.std.proofs.Common.{suc, zero, cond, is_some}
use Rattle.std.proofs.Math.ListN.{set, length-set}
use Rattle.std.proofs.lemmas.Bool.{cases_eq, true≢false}
use Rattle.std.proofs.lemmas.List.{get_or-set_same, get_or-set_other, set-get_or}
use Rattle.quota_settings.specs.declared.pair.Pair.{Pair}
use Rattle.quota_buckets.specs.FirstMatch.{at_first, without_first}
use Rattle.quota_buckets.specs.Tables.{Stored, is_stored_as, held, slot_at, slot_named, slot_due}
use Rattle.quota_settings.specs.Pairs.{same_pairs}
use Rattle.quota_bucket.specs.Due.{due}
use Rattle.quota_bucket.specs.History.{is_gone}
use Rattle.quota_buckets.specs.Slots.{IsIndex, IsPlaceOf, HasNoPlace, IsAgenda, IsTable}
use Rattle.quota_buckets.proofs.Steps.{read_at}
use Rattle.quota_buckets.proofs.Indexing.{at_within, found_bucket, found_place, changed_index, erased_index, empty_index}

-- what the place of a name says of the stored buckets
record FoundAt (id : List Pair) (f : Stored → Stored) (slots : List (Option Stored)) (place : ℕ) : Type 0 where
  pub changed : at_first (is_stored_as id) f (held slots) ≡ held (set slots place (option_map f (slot_at slots place)))
  pub found : find (is_stored_as id) (held slots) ≡ slot_at slots place
  pub removed : without_first (is_stored_as id) (held slots) ≡ held (set slots place None)

found_from : (id : List Pair) (f : Stored → Stored) (slots : List (Option Stored)) (place : ℕ) → place < length slots
    → slot_named id (slot_at slots place) ≡ true → ((before : ℕ) → before < place → slot_named id (slot_at slots before) ≡ false)
    → FoundAt id f slots place
found_from id f [] place within here first = absurd (omega arith)
found_from id f (None ∷ slots) zero within here first = absurd (true≢false (sym here))
found_from id f (Some stored ∷ slots) zero within here first = record { changed = rw here refl; found = rw here refl; removed = rw here refl }
found_from id f (None ∷ slots) (suc place) within here first =
    let rest = found_from id f slots place (omega arith) here (λ before lt. first (suc before) (omega arith)) in
    record { changed = rest.changed; found = rest.found; removed = rest.removed }
found_from id f (Some stored ∷ slots) (suc place) within here first =
    let rest = found_from id f slots place (omega arith) here (λ before lt. first (suc before) (omega arith)) in
    let other : is_stored_as id stored ≡ false = first 0 (omega arith) in
    record {
      changed = rw other (ap (λ ks. stored ∷ ks) rest.changed);
      found = rw other rest.found;
      removed = rw other (ap (λ ks. stored ∷ ks) rest.removed);
    }

found_at : (id : List Pair) (f : Stored → Stored) (slots : List (Option Stored)) (place : ℕ) → IsPlaceOf id place slots → FoundAt id f slots place
found_at id f slots place is = found_from id f slots place is.within is.here is.first

-- what it says that there is none
record NoneFound (id : List Pair) (f : Stored → Stored) (slots : List (Option Stored)) : Type 0 where
  pub changed : at_first (is_stored_as id) f (held slots) ≡ held slots
  pub found : find (is_stored_as id) (held slots) ≡ None
  pub removed : without_first (is_stored_as id) (held slots) ≡ held slots

none_found : (id : List Pair) (f : Stored → Stored) (slots : List (Option Stored)) → HasNoPlace id slots → NoneFound id f slots
none_found id f [] none = record { changed = refl; found = refl; removed = refl }
none_found id f (None ∷ slots) none =
    let rest = none_found id f slots (λ place. none (suc place)) in
    record { changed = rest.changed; found = rest.found; removed = rest.removed }
none_found id f (Some stored ∷ slots) none =
    let rest = none_found id f slots (λ place. none (suc place)) in
    let other : is_stored_as id stored ≡ false = none 0 in
    record {
      changed = rw other (ap (λ ks. stored ∷ ks) rest.changed);
      found = rw other rest.found;
      removed = rw other (ap (λ ks. stored ∷ ks) rest.removed);
    }

record NotThis (b : Bool) (found : Option Stored) : Type 0 where
  pub other : b ≡ false
  pub rest : found ≡ None

other_stored : (b : Bool) (found : Option Stored) (stored : Stored) → cond b (Some stored) found ≡ None → NotThis b found
other_stored true found stored none = absurd (cc)
other_stored false found stored none = record { other = refl; rest = none }

-- a name that isn't found has no place
pub not_found : (id : List Pair) (slots : List (Option Stored)) → find (is_stored_as id) (held slots) ≡ None → HasNoPlace id slots
not_found id [] none = none_at
  where
    none_at : HasNoPlace id []
    none_at place = refl
not_found id (None ∷ slots) none = over (not_found id slots none)
  where
    over : HasNoPlace id slots → (place : ℕ) → slot_named id (slot_at (None ∷ slots) place) ≡ false
    over rest zero = refl
    over rest (suc place) = rest place
not_found id (Some stored ∷ slots) none =
    over (other_stored (is_stored_as id stored) (find (is_stored_as id) (held slots)) stored none) (λ h. not_found id slots h)
  where
    over : NotThis (is_stored_as id stored) (find (is_stored_as id) (held slots)) → (find (is_stored_as id) (held slots) ≡ None → HasNoPlace id slots)
        → (place : ℕ) → slot_named id (slot_at (Some stored ∷ slots) place) ≡ false
    over not_this rest zero = not_this.other
    over not_this rest (suc place) = rest not_this.rest place

-- an agenda of slots of which one was set
pub agenda_set : (time : ℕ) (moments : List (Option ℕ)) (slots : List (Option Stored)) (place : ℕ) (moment : Option ℕ) (slot : Option Stored) → IsAgenda time moments slots
    → place < length slots → moment ≡ slot_due time slot → IsAgenda time (set moments place moment) (set slots place slot)
agenda_set time moments slots place moment slot agenda within is = record {
  room = (let a = length-set moments place moment in let b = length-set slots place slot in omega (arith, agenda.room));
  each = λ k. over k (cases_eq k place);
}
  where
    over : (k : ℕ) → (k ≡ place) ⊎ (k ≡ place → ⊥) → get_or (set moments place moment) k None ≡ slot_due time (slot_at (set slots place slot) k)
    over k (inl e) =
        rw (e, get_or-set_same moments place moment None (omega (arith, agenda.room)), get_or-set_same slots place slot None within) is
    over k (inr ne) = rw (get_or-set_other moments place k moment None ne, get_or-set_other slots place k slot None ne) (agenda.each k)

-- a table of which one bucket changed
pub changed_table : (time : ℕ) (moments : List (Option ℕ)) (index : List Pair → Option ℕ) (slots : List (Option Stored)) (place : ℕ) (moment : Option ℕ)
    (stored later : Stored) → IsTable time moments index slots → slot_at slots place ≡ Some stored → later.id ≡ stored.id
    → is_gone later.state.phase ≡ false → moment ≡ due later.rules later.state time
    → IsTable time (set moments place moment) index (set slots place (Some later))
changed_table time moments index slots place moment stored later is_table is name there next = record {
  indexed = changed_index index slots place stored later is_table.indexed is name there;
  planned = agenda_set time moments slots place moment (Some later) is_table.planned (at_within slots place stored is) next;
}

-- a table of which one bucket changed, but not when it is due
pub waiting_table : (time : ℕ) (moments : List (Option ℕ)) (index : List Pair → Option ℕ) (slots : List (Option Stored)) (place : ℕ)
    (stored later : Stored) → IsTable time moments index slots → slot_at slots place ≡ Some stored → later.id ≡ stored.id
    → is_gone later.state.phase ≡ false → due later.rules later.state time ≡ due stored.rules stored.state time
    → IsTable time moments index (set slots place (Some later))
waiting_table time moments index slots place stored later is_table is name there same =
    let now : get_or moments place None ≡ due later.rules later.state time =
    is_table.planned.each place ∙ ap (slot_due time) is ∙ sym same in
    rw set-get_or at (changed_table time moments index slots place (get_or moments place None) stored later is_table is name there now)

-- a table of which one bucket was erased
pub erased_table : (time : ℕ) (moments : List (Option ℕ)) (index less : List Pair → Option ℕ) (slots : List (Option Stored)) (id : List Pair) (place : ℕ)
    → IsTable time moments index slots → index id ≡ Some place → ((q : List Pair) → less q ≡ cond (same_pairs id q) None (index q))
    → IsTable time (set moments place None) less (set slots place None)
erased_table time moments index less slots id place is_table has removed =
    let bucket = found_bucket index slots id place is_table.indexed has in
    record {
      indexed = erased_index index less slots place bucket.stored is_table.indexed bucket.is (λ q. rw bucket.name (removed q));
      planned = agenda_set time moments slots place None None is_table.planned (at_within slots place bucket.stored bucket.is) refl;
    }

-- a table without buckets
pub empty_table : (time : ℕ) (moments : List (Option ℕ)) (index : List Pair → Option ℕ) → moments ≡ [] → ((q : List Pair) → index q ≡ None)
    → IsTable time moments index []
empty_table time moments index is none = record {
  indexed = empty_index index none;
  planned = record { room = omega arith; each = λ place. rw is refl };
}

-- a change at the place of a name is that of the first bucket of the name
pub stored_changed : (id : List Pair) (f : Stored → Stored) (slots later : List (Option Stored)) (place : ℕ) → IsPlaceOf id place slots
    → later ≡ set slots place (option_map f (slot_at slots place)) → held later ≡ at_first (is_stored_as id) f (held slots)
stored_changed id f slots later place is set = rw set (sym (found_at id f slots place is).changed)

pub stored_same : (id : List Pair) (f : Stored → Stored) (slots : List (Option Stored)) → HasNoPlace id slots
    → held slots ≡ at_first (is_stored_as id) f (held slots)
stored_same id f slots none = sym (none_found id f slots none).changed

pub stored_erased : (id : List Pair) (slots later : List (Option Stored)) (place : ℕ) → IsPlaceOf id place slots
    → later ≡ set slots place None → held later ≡ without_first (is_stored_as id) (held slots)
stored_erased id slots later place is set = rw set (sym (found_at id (λ k. k) slots place is).removed)

pub stored_left : (id : List Pair) (slots : List (Option Stored)) → HasNoPlace id slots → held slots ≡ without_first (is_stored_as id) (held slots)
stored_left id slots none = sym (none_found id (λ k. k) slots none).removed

pub place_holds : (id : List Pair) (slots : List (Option Stored)) (place : ℕ) → IsPlaceOf id place slots
    → slot_at slots place ≡ find (is_stored_as id) (held slots)
place_holds id slots place is = sym (found_at id (λ k. k) slots place is).found

pub none_holds : (id : List Pair) (slots : List (Option Stored)) → HasNoPlace id slots → None ≡ find (is_stored_as id) (held slots)
none_holds id slots none = sym (none_found id (λ k. k) slots none).found

is_there : (slot : Option Stored) (id : List Pair) → slot_named id slot ≡ true → true ≡ is_some slot
is_there None id here = absurd (true≢false (sym here))
is_there (Some stored) id here = refl

pub some_holds : (id : List Pair) (slots : List (Option Stored)) (place : ℕ) → IsPlaceOf id place slots
    → true ≡ is_some (find (is_stored_as id) (held slots))
some_holds id slots place is = rw (← place_holds id slots place is) (is_there (slot_at slots place) id is.here)

-- a bucket at the place of a name that is changed, and what is told of it
pub stored_at : (id : List Pair) (f : Stored → Stored) (slots : List (Option Stored)) (place : ℕ) (stored later : Stored) → IsPlaceOf id place slots
    → slot_at slots place ≡ Some stored → later ≡ f stored → held (set slots place (Some later)) ≡ at_first (is_stored_as id) f (held slots)
stored_at id f slots place stored later here at is =
    stored_changed id f slots (set slots place (Some later)) place here (rw at (ap (λ (s : Stored). set slots place (Some s)) is))

pub told_at : {X : Type 0} (id : List Pair) (g : Stored → X) (slots : List (Option Stored)) (place : ℕ) (stored : Stored) (x : X)
    → IsPlaceOf id place slots → slot_at slots place ≡ Some stored → x ≡ g stored → Some x ≡ option_map g (find (is_stored_as id) (held slots))
told_at id g slots place stored x here at is = rw (← place_holds id slots place here, at) (ap Some is)

-- the slot that is read at the place that the index has of a name
pub record IsReadAt (id : List Pair) (place : ℕ) (slot : Option Stored) (slots : List (Option Stored)) : Type 0 where
  pub here : IsPlaceOf id place slots
  pub at : slot_at slots place ≡ slot

pub read_place : (index : List Pair → Option ℕ) (slots : List (Option Stored)) (id : List Pair) (place : ℕ) (slot : Option Stored) → IsIndex index slots
    → Some place ≡ index id → slot ≡ get_or slots place slot → IsReadAt id place slot slots
read_place index slots id place slot is_index has read =
    let here = found_place index slots id place is_index (sym has) in record { here = here; at = read_at slots place slot here.within read }

-- it isn't empty
pub not_empty : (id : List Pair) (place : ℕ) (slot : Option Stored) (slots : List (Option Stored)) → IsReadAt id place slot slots → slot ≡ None → ⊥
not_empty id place slot slots read none = true≢false (sym read.here.here ∙ ap (slot_named id) (read.at ∙ none))
