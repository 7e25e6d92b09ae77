-- Slots whose gaps are closed hold the same buckets, and an index of their names that is set place by place is theirs.
use Rattle.std.proofs.Common.{◌≡◌, ℕ, ◌+◌, ◌<◌, ◌⊎◌, inl, inr, Bool, true, false, List, [], ◌∷◌, ◌++◌, refl, ap, sym, ◌∙◌, arith, Option, Some, None, cond, is_some, map, suc, zero}
use Rattle.std.proofs.Common.{get_or, length, take}
use Rattle.std.proofs.lemmas.Bool.{cases_eq}
use Rattle.std.proofs.lemmas.List.{map-append, take_more}
use Rattle.std.proofs.lemmas.List.Elements.{filter-append}
use Rattle.quota_settings.specs.declared.pair.Pair.{Pair}
use Rattle.quota_settings.specs.Pairs.{same_pairs}
use Rattle.quota_buckets.specs.Slots.{AllThere, AreDistinct, ArePlaced, IsIndex, IsNamed, IsSet}
use Rattle.quota_buckets.specs.Tables.{Stored, held, slot_at, slot_due, slot_id, without_gaps}
use Rattle.quota_buckets.proofs.Indexing.{apart_names, bucket_by_id, cases_names, same_names}

-- ---- closing gaps

-- the same buckets, in the same order
pub held_same : (slots : List (Option Stored)) → held (without_gaps slots) ≡ held slots
held_same [] = refl
held_same (None ∷ slots) = held_same slots
held_same (Some stored ∷ slots) = ap (λ ks. stored ∷ ks) (held_same slots)

-- a place of a bucket
pub record IsAt (stored : Stored) (slots : List (Option Stored)) : Type 0 where
  pub place : ℕ
  pub at : slot_at slots place ≡ Some stored

further : (stored : Stored) (slot : Option Stored) (slots : List (Option Stored)) → IsAt stored slots → IsAt stored (slot ∷ slots)
further stored slot slots is = record { place = suc is.place; at = is.at }

-- a bucket behind closed gaps was there before
pub was_at : (slots : List (Option Stored)) (place : ℕ) (stored : Stored) → slot_at (without_gaps slots) place ≡ Some stored → IsAt stored slots
was_at [] place stored is = absurd (cc)
was_at (None ∷ slots) place stored is = further stored None slots (was_at slots place stored is)
was_at (Some first ∷ slots) zero stored is = record { place = 0; at = is }
was_at (Some first ∷ slots) (suc place) stored is = further stored (Some first) slots (was_at slots place stored is)

-- a bucket is still there
pub is_at : (slots : List (Option Stored)) (place : ℕ) (stored : Stored) → slot_at slots place ≡ Some stored → IsAt stored (without_gaps slots)
is_at [] place stored is = absurd (cc)
is_at (None ∷ slots) zero stored is = absurd (cc)
is_at (None ∷ slots) (suc place) stored is = is_at slots place stored is
is_at (Some first ∷ slots) zero stored is = record { place = 0; at = is }
is_at (Some first ∷ slots) (suc place) stored is = further stored (Some first) (without_gaps slots) (is_at slots place stored is)

rest_distinct : (slot : Option Stored) (slots : List (Option Stored)) → AreDistinct (slot ∷ slots) → AreDistinct slots
rest_distinct slot slots distinct j k a b at_j at_k same =
    let e = distinct (suc j) (suc k) a b at_j at_k same in omega arith

-- names that differ still differ
pub distinct_kept : (slots : List (Option Stored)) → AreDistinct slots → AreDistinct (without_gaps slots)
distinct_kept [] distinct j k a b at_j at_k same = absurd (cc)
distinct_kept (None ∷ slots) distinct j k a b at_j at_k same = distinct_kept slots (rest_distinct None slots distinct) j k a b at_j at_k same
distinct_kept (Some first ∷ slots) distinct zero zero a b at_j at_k same = refl
distinct_kept (Some first ∷ slots) distinct zero (suc k) a b at_j at_k same =
    let later = was_at slots k b at_k in
    absurd (let e = distinct 0 (suc later.place) a b at_j later.at same in omega arith)
distinct_kept (Some first ∷ slots) distinct (suc j) zero a b at_j at_k same =
    let later = was_at slots j a at_j in
    absurd (let e = distinct (suc later.place) 0 a b later.at at_k same in omega arith)
distinct_kept (Some first ∷ slots) distinct (suc j) (suc k) a b at_j at_k same =
    let e = distinct_kept slots (rest_distinct (Some first) slots distinct) j k a b at_j at_k same in omega arith

-- buckets of an index have names that differ
pub distinct_of : (index : List Pair → Option ℕ) (slots : List (Option Stored)) → IsIndex index slots → AreDistinct slots
distinct_of index slots is_index j k a b at_j at_k same =
    let one : index a.id ≡ Some j = is_index.placed j a at_j in
    let other : index b.id ≡ Some k = is_index.placed k b at_k in
    let e : index a.id ≡ index b.id = ap index same in
    cc

pub distinct_closed : (index : List Pair → Option ℕ) (slots closed : List (Option Stored)) → IsIndex index slots → closed ≡ without_gaps slots
    → AreDistinct closed
distinct_closed index slots closed is_index is = rw is (distinct_kept slots (distinct_of index slots is_index))

pub there_closed : (index : List Pair → Option ℕ) (slots closed : List (Option Stored)) → IsIndex index slots → closed ≡ without_gaps slots
    → AllThere closed
there_closed index slots closed is_index is place stored at =
    let before = was_at slots place stored (rw is at at) in is_index.there before.place stored before.at

some_is : (o : Option ℕ) (n : ℕ) → o ≡ Some n → is_some o ≡ true
some_is None n is = absurd (cc)
some_is (Some m) n is = refl

pub named_closed : (index : List Pair → Option ℕ) (slots closed : List (Option Stored)) → IsIndex index slots → closed ≡ without_gaps slots
    → IsNamed index closed
named_closed index slots closed is_index is = record {
  has = λ place stored at.
      let before = was_at slots place stored (rw is at at) in
      some_is (index stored.id) before.place (is_index.placed before.place stored before.at);
  named = λ id place found.
      let bucket = bucket_by_id id (slot_at slots place) (is_index.named id place found) in
      let after = is_at slots place bucket.stored bucket.is in
      (after.place, rw (is, after.at, bucket.name) refl);
}

-- ---- the moments of slots that aren't empty

pub moments_more : (time : ℕ) (slots : List (Option Stored)) (i : ℕ) (slot : Option Stored) (now later : List (Option ℕ)) → i < length slots
    → get_or slots i None ≡ slot → now ≡ map (slot_due time) (without_gaps (take i slots))
    → later ≡ now ++ map (slot_due time) (without_gaps (slot ∷ [])) → later ≡ map (slot_due time) (without_gaps (take (i + 1) slots))
moments_more time slots i slot now later lt at before after =
    after ∙ rw before (sym (rw (take_more slots i None lt, at, filter-append is_some (take i slots) (slot ∷ []))
    (map-append (slot_due time) (without_gaps (take i slots)) (without_gaps (slot ∷ [])))))

-- ---- setting places

still_some : (b : Bool) (place : ℕ) (o : Option ℕ) → is_some o ≡ true → is_some (cond b (Some place) o) ≡ true
still_some true place o is = refl
still_some false place o is = is

pub names_set : (index later : List Pair → Option ℕ) (slots : List (Option Stored)) (place : ℕ) (stored : Stored) → IsNamed index slots
    → slot_at slots place ≡ Some stored → IsSet index later stored.id place → IsNamed later slots
names_set index later slots place stored named at set = record {
  has = λ k other here. rw (set other.id) (still_some (same_pairs stored.id other.id) place (index other.id) (named.has k other here));
  named = λ id k found. over id k found (cases_names stored.id id);
}
  where
    over : (id : List Pair) (k : ℕ) → later id ≡ Some k → (stored.id ≡ id) ⊎ (stored.id ≡ id → ⊥) → (j : ℕ) × (slot_id (slot_at slots j) ≡ Some id)
    over id k found (inl e) = (place, rw (at, e) refl)
    over id k found (inr ne) =
        let before : index id ≡ Some k = sym (rw (apart_names stored.id id ne) at (set id)) ∙ found in
        named.named id k before

pub places_set : (index later : List Pair → Option ℕ) (slots : List (Option Stored)) (place : ℕ) (stored : Stored) → AreDistinct slots
    → ArePlaced place index slots → slot_at slots place ≡ Some stored → IsSet index later stored.id place → ArePlaced (place + 1) later slots
places_set index later slots place stored distinct placed at set k other lt here = over (cases_eq k place)
  where
    over : (k ≡ place) ⊎ (k ≡ place → ⊥) → later other.id ≡ Some k
    over (inl e) =
        let same : stored ≡ other = (let there : slot_at slots place ≡ Some other = rw (← e) here in cc) in
        rw (set other.id, same_names stored.id other.id (ap (λ (s : Stored). s.id) same), e) refl
    over (inr ne) =
        rw (set other.id, apart_names stored.id other.id (λ e. ne (sym (distinct place k stored other at here e))))
        (placed k other (omega arith) here)

pub places_gap : (index : List Pair → Option ℕ) (slots : List (Option Stored)) (place : ℕ) → ArePlaced place index slots
    → slot_at slots place ≡ None → ArePlaced (place + 1) index slots
places_gap index slots place placed none k other lt here = over (cases_eq k place)
  where
    over : (k ≡ place) ⊎ (k ≡ place → ⊥) → index other.id ≡ Some k
    over (inl e) = absurd (let there : slot_at slots place ≡ Some other = rw (← e) here in cc)
    over (inr ne) = placed k other (omega arith) here

-- an index with the place of each bucket
pub all_placed : (index : List Pair → Option ℕ) (slots : List (Option Stored)) (count : ℕ) → AllThere slots → IsNamed index slots
    → ArePlaced count index slots → ((place : ℕ) (stored : Stored) → slot_at slots place ≡ Some stored → place < count) → IsIndex index slots
all_placed index slots count there named placed within = record {
  placed = λ place stored at. placed place stored (within place stored at) at;
  named = λ id place found.
      let one = named.named id place found in
      let bucket = bucket_by_id id (slot_at slots one.0) one.1 in
      let at : index bucket.stored.id ≡ Some one.0 = placed one.0 bucket.stored (within one.0 bucket.stored bucket.is) bucket.is in
      let again : index id ≡ Some one.0 = ap index (sym bucket.name) ∙ at in
      let same : one.0 ≡ place = cc (again, found) in
      rw (← same) one.1;
  there = there;
}

pub none_placed : (index : List Pair → Option ℕ) (slots : List (Option Stored)) → ArePlaced 0 index slots
none_placed index slots place stored lt at = absurd (omega arith)
