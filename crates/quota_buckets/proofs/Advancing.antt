-- An advance, which changes only the slots that an agenda has as due.
use Rattle.std.proofs.Common.{◌≡◌, ℕ, ◌+◌, ◌^◌, ◌<◌, ◌≤◌, ◌⊎◌, inl, inr, Bool, true, false, List, [], ◌∷◌, ◌++◌, refl, ap, sym, ◌∙◌, arith, Option, Some, None, length, map}
use Rattle.std.proofs.Common.{filter, get_or, take, drop, suc, zero, cond, if◌then◌else◌, replicate, nat_le, add-zero, append_assoc, append-nil, zero-add}
use Rattle.std.proofs.Math.ListN.{set, length-set}
use Rattle.std.specs.List.{flat_map}
use Rattle.std.proofs.lemmas.Bool.{cases_eq, leb-true, leb-false}
use Rattle.std.proofs.lemmas.Grind.{flat_map-append}
use Rattle.std.proofs.lemmas.List.{take-append-le, take_all, get_or-set_same, get_or-set_other, take_more, length-map, replicate-append-replicate}
use Rattle.std.proofs.Math.ListN.{get_or-map}
use Rattle.std.proofs.Common.{length-append}
use Rattle.quota_buckets.proofs.Indexing.{push_other, push_last}
use Rattle.agenda.specs.Reached.{is_reached, reached_from, reached}
use Rattle.quota_bucket.specs.Due.{due}
use Rattle.quota_bucket.specs.History.{is_gone}
use Rattle.quota_bucket.specs.declared.bucket_state.Advance.{Advance}
use Rattle.quota_bucket.specs.QuietLaws.{quiet, due_stays}
use Rattle.quota_buckets.specs.Tables.{Stored, held, slot_list, slot_at, slot_due, slot_advanced, slot_reports, stored_there, stored_advanced, stored_reports, each_set}
use Rattle.quota_buckets.specs.Tables.{reports_at, AllWithin}
use Rattle.quota_buckets.specs.Slots.{IsAgenda, AllThere}
use Rattle.quota_buckets.specs.declared.report.Report.{Report}

-- one more place that is set
each_more : {X : Type 0} (change : ℕ → X → X) (default : X) (xs : List X) (places : List ℕ) (place : ℕ)
    → each_set change default xs (places ++ place ∷ [])
    ≡ set (each_set change default xs places) place (change place (get_or (each_set change default xs places) place default))
each_more change default xs [] place = refl
each_more change default xs (p ∷ places) place = each_more change default (set xs p (change p (get_or xs p default))) places place

pub length-each_set : {X : Type 0} (change : ℕ → X → X) (default : X) (xs : List X) (places : List ℕ)
    → length (each_set change default xs places) ≡ length xs
length-each_set change default xs [] = refl
length-each_set change default xs (p ∷ places) =
    length-each_set change default (set xs p (change p (get_or xs p default))) places ∙ length-set xs p (change p (get_or xs p default))

cases_le : (a b : ℕ) → (a ≤ b) ⊎ (b < a)
cases_le a b = over (nat_le a b) refl
  where
    over : (t : Bool) → nat_le a b ≡ t → (a ≤ b) ⊎ (b < a)
    over true is = inl (leb-true a b is)
    over false is = inr (leb-false a b is)

-- each element by its place, counted from a number on
abbrev by_place : {X : Type 0} → (ℕ → X → X) → ℕ → List X → List X
by_place change place [] = []
by_place change place (x ∷ xs) = change place x ∷ by_place change (place + 1) xs

-- where nothing is reached there is no place
none_reached : (at place : ℕ) (ms : List (Option ℕ)) → ((k : ℕ) → is_reached at (get_or ms k None) ≡ false) → reached_from at place ms ≡ []
none_reached at place [] late = refl
none_reached at place (m ∷ ms) late =
    let not_now : is_reached at m ≡ false = late 0 in rw not_now (none_reached at (place + 1) ms (λ k. late (suc k)))

set_middle : {X : Type 0} (before : List X) (x y : X) (after : List X) → set (before ++ x ∷ after) (length before) y ≡ before ++ y ∷ after
set_middle [] x y after = refl
set_middle (b ∷ before) x y after = ap (λ zs. b ∷ zs) (set_middle before x y after)

get_middle : {X : Type 0} (before : List X) (x : X) (after : List X) (d : X) → get_or (before ++ x ∷ after) (length before) d ≡ x
get_middle [] x after d = refl
get_middle (b ∷ before) x after d = get_middle before x after d

length_last : {X : Type 0} (before : List X) (x : X) → length (before ++ x ∷ []) ≡ length before + 1
length_last [] x = refl
length_last (b ∷ before) x = let rest = length_last before x in omega arith

-- setting the places that are reached is changing each element by its place, where the others stay
each_reached : {X : Type 0} (change : ℕ → X → X) (default : X) (at : ℕ) (before xs : List X) (ms : List (Option ℕ)) → length xs ≤ length ms
    → ((k : ℕ) → k < length xs → is_reached at (get_or ms k None) ≡ false → change (length before + k) (get_or xs k default) ≡ get_or xs k default)
    → ((k : ℕ) → length xs ≤ k → is_reached at (get_or ms k None) ≡ false)
    → each_set change default (before ++ xs) (reached_from at (length before) ms) ≡ before ++ by_place change (length before) xs
each_reached change default at before [] ms room stays late = rw (none_reached at (length before) ms (λ k. late k (omega arith))) refl
each_reached change default at before (x ∷ xs) [] room stays late = absurd (omega arith)
each_reached change default at before (x ∷ xs) (m ∷ ms) room stays late =
    over (is_reached at m) refl (each_reached change default at (before ++ change (length before) x ∷ []) xs ms (omega arith) stays_on (λ k le. late (suc k) (omega arith)))
  where
    here : ℕ
    here = length before

    next : length (before ++ change (length before) x ∷ []) ≡ length before + 1
    next = length_last before (change (length before) x)

    stays_on : (k : ℕ) → k < length xs → is_reached at (get_or ms k None) ≡ false
        → change (length (before ++ change (length before) x ∷ []) + k) (get_or xs k default) ≡ get_or xs k default
    stays_on k lt after =
        let same : length (before ++ change (length before) x ∷ []) + k ≡ length before + suc k = omega (arith, next) in
        rw same (stays (suc k) (omega arith) after)

    over : (b : Bool) → is_reached at m ≡ b
        → each_set change default ((before ++ change (length before) x ∷ []) ++ xs) (reached_from at (length (before ++ change (length before) x ∷ [])) ms)
        ≡ (before ++ change (length before) x ∷ []) ++ by_place change (length (before ++ change (length before) x ∷ [])) xs
        → each_set change default (before ++ x ∷ xs) (if b then (length before ∷ reached_from at (length before + 1) ms) else reached_from at (length before + 1) ms)
        ≡ before ++ (change (length before) x ∷ by_place change (length before + 1) xs)
    over true is rest =
        let set_now : set (before ++ x ∷ xs) (length before) (change (length before) (get_or (before ++ x ∷ xs) (length before) default))
        ≡ before ++ change (length before) x ∷ xs =
        ap (λ y. set (before ++ x ∷ xs) (length before) (change (length before) y)) (get_middle before x xs default)
        ∙ set_middle before x (change (length before) x) xs in
        ap (λ zs. each_set change default zs (reached_from at (length before + 1) ms)) set_now
        ∙ rw (next, append_assoc before (change (length before) x ∷ []) xs, append_assoc before (change (length before) x ∷ []) (by_place change (length before + 1) xs)) at rest
    over false is rest =
        let same : change (length before) x ≡ x =
        (let h = stays 0 (omega arith) is in rw add-zero at h) in
        ap (λ y. each_set change default (before ++ y ∷ xs) (reached_from at (length before + 1) ms)) (sym same)
        ∙ rw (next, append_assoc before (change (length before) x ∷ []) xs, append_assoc before (change (length before) x ∷ []) (by_place change (length before + 1) xs)) at rest

-- a loop that sets places one after the other
pub each_step : {X : Type 0} (change : ℕ → X → X) (default : X) (xs now later : List X) (places : List ℕ) (i : ℕ) → i < length places
    → now ≡ each_set change default xs (take i places)
    → later ≡ set now (get_or places i 0) (change (get_or places i 0) (get_or now (get_or places i 0) default))
    → later ≡ each_set change default xs (take (i + 1) places)
each_step change default xs now later places i lt is set =
    set ∙ rw is (sym (rw (take_more places i 0 lt) (each_more change default xs (take i places) (get_or places i 0))))

pub each_within : {X : Type 0} (change : ℕ → X → X) (default : X) (xs now : List X) (places : List ℕ) (i count : ℕ)
    → now ≡ each_set change default xs (take i places) → count ≡ length xs → AllWithin count places → i < length places
    → get_or places i 0 < length now
each_within change default xs now places i count is size all lt =
    let same : length now ≡ length xs = ap length is ∙ length-each_set change default xs (take i places) in
    omega (arith, all i 0 lt)

pub reports_step : (advance : Advance) (slots : List (Option Stored)) (places : List ℕ) (i : ℕ) (now later : List Report) → i < length places
    → now ≡ reports_at advance slots (take i places) → later ≡ now ++ slot_reports advance (slot_at slots (get_or places i 0))
    → later ≡ reports_at advance slots (take (i + 1) places)
reports_step advance slots places i now later lt is more =
    more ∙ rw (is, take_more places i 0 lt, flat_map-append (λ place. slot_reports advance (slot_at slots place)) (take i places) (get_or places i 0 ∷ []))
    (ap (λ us. reports_at advance slots (take i places) ++ us) (sym (append-nil (slot_reports advance (slot_at slots (get_or places i 0))))))

-- a bucket that isn't due stays through an advance, sends nothing, and is due when it was
record SlotStays (advance : Advance) (slot : Option Stored) : Type 0 where
  pub same : slot_advanced advance slot ≡ slot
  pub silent : slot_reports advance slot ≡ []
  pub due : slot_due advance.to slot ≡ slot_due advance.from slot

slot_stays : (advance : Advance) (slot : Option Stored) → advance.from ≤ advance.to → advance.to < 2 ^ 64
    → ((stored : Stored) → slot ≡ Some stored → is_gone stored.state.phase ≡ false)
    → is_reached advance.to (slot_due advance.from slot) ≡ false → SlotStays advance slot
slot_stays advance None le bound there later = record { same = refl; silent = refl; due = refl }
slot_stays advance (Some stored) le bound there later =
    let here = there stored refl in
    let still = quiet stored.rules stored.state advance here bound later in
    record {
      same = rw (still.same, here) refl;
      silent = rw still.silent refl;
      due = due_stays stored.rules stored.state advance.from advance.to le bound later;
    }

constant_places : {X : Type 0} (f : X → X) (place : ℕ) (xs : List X) → by_place (λ _. f) place xs ≡ map f xs
constant_places f place [] = refl
constant_places f place (x ∷ xs) = ap (λ ys. f x ∷ ys) (constant_places f (place + 1) xs)

stays_at : (advance : Advance) (moments : List (Option ℕ)) (slots : List (Option Stored)) (k : ℕ) → advance.from ≤ advance.to → advance.to < 2 ^ 64
    → AllThere slots → IsAgenda advance.from moments slots → is_reached advance.to (get_or moments k None) ≡ false → SlotStays advance (slot_at slots k)
stays_at advance moments slots k le bound there agenda later =
    slot_stays advance (slot_at slots k) le bound (λ stored is. there k stored is) (rw (← agenda.each k) later)

beyond : (slots : List (Option Stored)) (k : ℕ) → length slots ≤ k → slot_at slots k ≡ None
beyond [] k le = refl
beyond (s ∷ slots) zero le = absurd (omega arith)
beyond (s ∷ slots) (suc k) le = beyond slots k (omega arith)

late_beyond : (advance : Advance) (moments : List (Option ℕ)) (slots : List (Option Stored)) (k : ℕ) → IsAgenda advance.from moments slots
    → length slots ≤ k → is_reached advance.to (get_or moments k None) ≡ false
late_beyond advance moments slots k agenda le = rw (agenda.each k, beyond slots k le) refl

-- turning the slots that are due is turning all
advanced_all : (advance : Advance) (moments : List (Option ℕ)) (slots : List (Option Stored)) → advance.from ≤ advance.to → advance.to < 2 ^ 64 → AllThere slots
    → IsAgenda advance.from moments slots
    → each_set (λ place. slot_advanced advance) None slots (reached advance.to moments) ≡ map (slot_advanced advance) slots
advanced_all advance moments slots le bound there agenda =
    each_reached (λ place. slot_advanced advance) None advance.to [] slots moments agenda.room
    (λ k within later. (stays_at advance moments slots k le bound there agenda later).same)
    (λ k past. late_beyond advance moments slots k agenda past)
    ∙ constant_places (slot_advanced advance) 0 slots

held_advanced : (advance : Advance) (slots : List (Option Stored)) → held (map (slot_advanced advance) slots) ≡ filter stored_there (map (stored_advanced advance) (held slots))
held_advanced advance [] = refl
held_advanced advance (None ∷ slots) = held_advanced advance slots
held_advanced advance (Some stored ∷ slots) = over (stored_there (stored_advanced advance stored)) (held_advanced advance slots)
  where
    over : (b : Bool) → held (map (slot_advanced advance) slots) ≡ filter stored_there (map (stored_advanced advance) (held slots))
        → slot_list (if b then Some (stored_advanced advance stored) else None) ++ held (map (slot_advanced advance) slots)
        ≡ cond b (stored_advanced advance stored ∷ filter stored_there (map (stored_advanced advance) (held slots)))
        (filter stored_there (map (stored_advanced advance) (held slots)))
    over true rest = ap (λ ks. stored_advanced advance stored ∷ ks) rest
    over false rest = rest

pub table_after : (advance : Advance) (moments : List (Option ℕ)) (slots later : List (Option Stored)) → advance.from ≤ advance.to → advance.to < 2 ^ 64 → AllThere slots
    → IsAgenda advance.from moments slots → later ≡ each_set (λ place. slot_advanced advance) None slots (reached advance.to moments)
    → held later ≡ filter stored_there (map (stored_advanced advance) (held slots))
table_after advance moments slots later le bound there agenda is =
    rw (is, advanced_all advance moments slots le bound there agenda) (held_advanced advance slots)

get_by_place : {X : Type 0} (f : ℕ → X → X) (from : ℕ) (xs : List X) (k : ℕ) (d : X) → k < length xs
    → get_or (by_place f from xs) k d ≡ f (from + k) (get_or xs k d)
get_by_place f from [] k d lt = absurd (omega arith)
get_by_place f from (x ∷ xs) zero d lt = rw add-zero refl
get_by_place f from (x ∷ xs) (suc k) d lt =
    let same : from + suc k ≡ from + 1 + k = omega arith in rw same (get_by_place f (from + 1) xs k d (omega arith))

get_by_place_past : {X : Type 0} (f : ℕ → X → X) (from : ℕ) (xs : List X) (k : ℕ) (d : X) → length xs ≤ k → get_or (by_place f from xs) k d ≡ d
get_by_place_past f from [] k d le = refl
get_by_place_past f from (x ∷ xs) zero d le = absurd (omega arith)
get_by_place_past f from (x ∷ xs) (suc k) d le = get_by_place_past f (from + 1) xs k d (omega arith)

length-by_place : {X : Type 0} (f : ℕ → X → X) (from : ℕ) (xs : List X) → length (by_place f from xs) ≡ length xs
length-by_place f from [] = refl
length-by_place f from (x ∷ xs) = ap suc (length-by_place f (from + 1) xs)

map_at : (advance : Advance) (slots : List (Option Stored)) (k : ℕ) → slot_at (map (slot_advanced advance) slots) k ≡ slot_advanced advance (slot_at slots k)
map_at advance [] k = refl
map_at advance (s ∷ slots) zero = refl
map_at advance (s ∷ slots) (suc k) = map_at advance slots k

planned_all : (advance : Advance) (moments : List (Option ℕ)) (slots : List (Option Stored)) → advance.from ≤ advance.to → advance.to < 2 ^ 64 → AllThere slots
    → IsAgenda advance.from moments slots
    → each_set (λ place _. slot_due advance.to (slot_at (map (slot_advanced advance) slots) place)) None moments (reached advance.to moments)
    ≡ by_place (λ place _. slot_due advance.to (slot_at (map (slot_advanced advance) slots) place)) 0 moments
planned_all advance moments slots le bound there agenda =
    each_reached (λ place _. slot_due advance.to (slot_at (map (slot_advanced advance) slots) place)) None advance.to [] moments moments (omega arith)
    (λ k within later.
    let still = stays_at advance moments slots k le bound there agenda later in
    let same : slot_at (map (slot_advanced advance) slots) (0 + k) ≡ slot_at slots k =
    rw zero-add (map_at advance slots k ∙ still.same) in
    rw same (still.due ∙ sym (agenda.each k)))
    (λ k past. rw (get_past moments k past) refl)
  where
    get_past : (ms : List (Option ℕ)) (k : ℕ) → length ms ≤ k → get_or ms k None ≡ None
    get_past [] k past = refl
    get_past (m ∷ ms) zero past = absurd (omega arith)
    get_past (m ∷ ms) (suc k) past = get_past ms k (omega arith)

pub agenda_after : (advance : Advance) (moments planned : List (Option ℕ)) (slots later : List (Option Stored)) → advance.from ≤ advance.to → advance.to < 2 ^ 64 → AllThere slots
    → IsAgenda advance.from moments slots → later ≡ each_set (λ place. slot_advanced advance) None slots (reached advance.to moments)
    → planned ≡ each_set (λ place _. slot_due advance.to (slot_at later place)) None moments (reached advance.to moments)
    → IsAgenda advance.to planned later
agenda_after advance moments planned slots later le bound there agenda is plan =
    let now : later ≡ map (slot_advanced advance) slots = is ∙ advanced_all advance moments slots le bound there agenda in
    let all : planned ≡ by_place (λ place _. slot_due advance.to (slot_at (map (slot_advanced advance) slots) place)) 0 moments =
    plan ∙ rw now (planned_all advance moments slots le bound there agenda) in
    rw (now, all) (record {
      room = (let a = length-by_place (λ place _. slot_due advance.to (slot_at (map (slot_advanced advance) slots) place)) 0 moments in
          let b : length (map (slot_advanced advance) slots) ≡ length slots = length-map _ _ in omega (arith, agenda.room));
      each = λ k. over k (cases_le (length moments) k);
    })
  where
    over : (k : ℕ) → (length moments ≤ k) ⊎ (k < length moments)
        → get_or (by_place (λ place _. slot_due advance.to (slot_at (map (slot_advanced advance) slots) place)) 0 moments) k None
        ≡ slot_due advance.to (slot_at (map (slot_advanced advance) slots) k)
    over k (inl past) =
        rw (
          get_by_place_past (λ place _. slot_due advance.to (slot_at (map (slot_advanced advance) slots) place)) 0 moments k None past,
          map_at advance slots k,
          beyond slots k (omega (arith, agenda.room)),
        ) refl
    over k (inr within) =
        rw (get_by_place (λ place _. slot_due advance.to (slot_at (map (slot_advanced advance) slots) place)) 0 moments k None within, zero-add) refl

-- the reports of the slots that are due are those of all
reports_reached : (advance : Advance) (g : ℕ → List Report) (from : ℕ) (xs : List (Option Stored)) (ms : List (Option ℕ)) → length xs ≤ length ms
    → ((k : ℕ) → k < length xs → g (from + k) ≡ slot_reports advance (slot_at xs k))
    → ((k : ℕ) → k < length xs → is_reached advance.to (get_or ms k None) ≡ false → slot_reports advance (slot_at xs k) ≡ [])
    → ((k : ℕ) → length xs ≤ k → is_reached advance.to (get_or ms k None) ≡ false)
    → flat_map g (reached_from advance.to from ms) ≡ flat_map (slot_reports advance) xs
reports_reached advance g from [] ms room each silent late = rw (none_reached advance.to from ms (λ k. late k (omega arith))) refl
reports_reached advance g from (x ∷ xs) [] room each silent late = absurd (omega arith)
reports_reached advance g from (x ∷ xs) (m ∷ ms) room each silent late =
    over (is_reached advance.to m) refl (reports_reached advance g (from + 1) xs ms (omega arith)
    (λ k lt. let same : from + 1 + k ≡ from + suc k = omega arith in rw same (each (suc k) (omega arith)))
    (λ k lt after. silent (suc k) (omega arith) after) (λ k past. late (suc k) (omega arith)))
  where
    over : (b : Bool) → is_reached advance.to m ≡ b → flat_map g (reached_from advance.to (from + 1) ms) ≡ flat_map (slot_reports advance) xs
        → flat_map g (if b then (from ∷ reached_from advance.to (from + 1) ms) else reached_from advance.to (from + 1) ms)
        ≡ slot_reports advance x ++ flat_map (slot_reports advance) xs
    over true is rest = rw (rest, ← (let h = each 0 (omega arith) in rw add-zero at h)) refl
    over false is rest = rw (rest, silent 0 (omega arith) is) refl

held_reports : (advance : Advance) (slots : List (Option Stored)) → flat_map (slot_reports advance) slots ≡ flat_map (stored_reports advance) (held slots)
held_reports advance [] = refl
held_reports advance (None ∷ slots) = held_reports advance slots
held_reports advance (Some stored ∷ slots) = ap (λ rs. stored_reports advance stored ++ rs) (held_reports advance slots)

pub reports_after : (advance : Advance) (moments : List (Option ℕ)) (found : List ℕ) (slots : List (Option Stored)) → advance.from ≤ advance.to → advance.to < 2 ^ 64 → AllThere slots
    → IsAgenda advance.from moments slots → found ≡ reached advance.to moments
    → reports_at advance slots found ≡ flat_map (stored_reports advance) (held slots)
reports_after advance moments found slots le bound there agenda is =
    rw is (reports_reached advance (λ place. slot_reports advance (slot_at slots place)) 0 slots moments agenda.room
    (λ k lt. rw zero-add refl) (λ k within later. (stays_at advance moments slots k le bound there agenda later).silent)
    (λ k past. late_beyond advance moments slots k agenda past)
    ∙ held_reports advance slots)

-- a place that is reached has a slot
from_at : (at from : ℕ) (ms : List (Option ℕ)) (count : ℕ) → ((k : ℕ) → k < length ms → count ≤ from + k → is_reached at (get_or ms k None) ≡ false)
    → (i d : ℕ) → i < length (reached_from at from ms) → get_or (reached_from at from ms) i d < count
from_at at from [] count late i d lt = absurd (omega arith)
from_at at from (m ∷ ms) count late i d lt =
    over (is_reached at m) refl i lt (λ j h. from_at at (from + 1) ms count
    (λ k within past. late (suc k) (omega arith) (omega arith)) j d h)
  where
    over : (b : Bool) → is_reached at m ≡ b → (i : ℕ) → i < length (if b then (from ∷ reached_from at (from + 1) ms) else reached_from at (from + 1) ms)
        → ((j : ℕ) → j < length (reached_from at (from + 1) ms) → get_or (reached_from at (from + 1) ms) j d < count)
        → get_or (if b then (from ∷ reached_from at (from + 1) ms) else reached_from at (from + 1) ms) i d < count
    over true is zero lt rest = ended (cases_le count from)
      where
        ended : (count ≤ from) ⊎ (from < count) → from < count
        ended (inl past) = absurd (let h : is_reached at m ≡ false = late 0 (omega arith) (omega arith) in cc)
        ended (inr within) = within
    over true is (suc j) lt rest = rest j (omega arith)
    over false is i lt rest = rest i lt

pub places_within : (advance : Advance) (moments : List (Option ℕ)) (found : List ℕ) (slots : List (Option Stored)) → IsAgenda advance.from moments slots
    → found ≡ reached advance.to moments → AllWithin (length slots) found
places_within advance moments found slots agenda is =
    rw is (λ i d lt. from_at advance.to 0 moments (length slots) (λ k within past. late_beyond advance moments slots k agenda (omega arith)) i d lt)

-- so many places that want no work
abbrev free : ℕ → List (Option ℕ)
free n = replicate n None

length-free : (n : ℕ) → length (free n) ≡ n
length-free zero = refl
length-free (suc n) = ap suc (length-free n)

-- places that want no work, behind others
free_at : (xs : List (Option ℕ)) (n k : ℕ) → get_or (xs ++ replicate n None) k None ≡ get_or xs k None
free_at (x ∷ xs) n zero = refl
free_at (x ∷ xs) n (suc k) = free_at xs n k
free_at [] zero k = refl
free_at [] (suc n) zero = refl
free_at [] (suc n) (suc k) = free_at [] n k ∙ refl

pub longer_agenda : (time n m : ℕ) (slots : List (Option Stored)) (agenda : List (Option ℕ))
    → agenda ≡ (map (slot_due time) slots ++ replicate n None) ++ replicate m None → IsAgenda time agenda slots
longer_agenda time n m slots agenda is = rw is (record {
  room = (let a : length (map (slot_due time) slots) ≡ length slots = length-map _ _ in
      simp (length-append) (omega arith));
  each = λ k. free_at (map (slot_due time) slots ++ replicate n None) m k ∙ free_at (map (slot_due time) slots) n k
      ∙ get_or-map (slot_due time) slots k None;
})

pub longer_room : (time n m : ℕ) (slots : List (Option Stored)) (agenda : List (Option ℕ)) → 0 < m
    → agenda ≡ (map (slot_due time) slots ++ replicate n None) ++ replicate m None → length slots < length agenda
longer_room time n m slots agenda more is =
    let a : length (map (slot_due time) slots) ≡ length slots = length-map _ _ in
    rw is (simp (length-append) (omega (arith, length-free m)))

pub free_more : (xs ys : List (Option ℕ)) (n : ℕ) → ys ≡ xs ++ replicate n None → ys ++ None ∷ [] ≡ xs ++ replicate (n + 1) None
free_more xs ys n is =
    rw is (append_assoc xs (replicate n None) (None ∷ []) ∙ ap (λ zs. xs ++ zs) (replicate-append-replicate n 1 None))

-- an agenda with one more slot
pub agenda_push : (time : ℕ) (moments planned : List (Option ℕ)) (slots later : List (Option Stored)) (stored : Stored) (moment : Option ℕ) → IsAgenda time moments slots
    → length slots < length moments → later ≡ slots ++ Some stored ∷ [] → moment ≡ due stored.rules stored.state time
    → planned ≡ set moments (length slots) moment → IsAgenda time planned later
agenda_push time moments planned slots later stored moment agenda room is next set_now = rw (set_now, is) (record {
  room = (let a = length-set moments (length slots) moment in let b = length_last slots (Some stored) in omega (arith, agenda.room));
  each = λ k. over k (cases_eq k (length slots));
})
  where
    over : (k : ℕ) → (k ≡ length slots) ⊎ (k ≡ length slots → ⊥)
        → get_or (set moments (length slots) moment) k None ≡ slot_due time (slot_at (slots ++ Some stored ∷ []) k)
    over k (inl e) = rw (e, get_or-set_same moments (length slots) moment None room) (next ∙ ap (slot_due time) (sym (push_last slots (Some stored))))
    over k (inr ne) = rw (get_or-set_other moments (length slots) k moment None ne, push_other slots (Some stored) k ne) (agenda.each k)

pub held_push : (slots later : List (Option Stored)) (stored : Stored) → later ≡ slots ++ Some stored ∷ [] → held later ≡ held slots ++ stored ∷ []
held_push slots later stored is = rw is (over slots)
  where
    over : (xs : List (Option Stored)) → held (xs ++ Some stored ∷ []) ≡ held xs ++ stored ∷ []
    over [] = refl
    over (None ∷ xs) = over xs
    over (Some k ∷ xs) = ap (λ ks. k ∷ ks) (over xs)

-- the items of a vector whose slice was changed
pub written : (n : ℕ) (later slots : List (Option Stored)) → length later ≡ length slots → n ≡ length slots
    → take n (later ++ drop (length later) slots) ≡ later
written n later slots same size = take-append-le n later (drop (length later) slots) (omega arith) ∙ take_all n later (omega arith)
