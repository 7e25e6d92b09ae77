-- What is noted of a journal holds after one more record, and of the records of several journals in any order.
use Rattle.std.proofs.Common.{◌≡◌, ℕ, zero, suc, ◌+◌, ◌<◌, ◌≤◌, List, [], ◌∷◌, ◌++◌, length, map, take, drop, refl, sym, ap, ◌∙◌, arith, Option, Some, None, slice_index_or, subst}
use Rattle.std.specs.List.{AllByRecursion}
use mathlib.Core.Option.{some, some-injective}
use lib.ListN.{get_elem?}
use Rattle.reply_text.specs.Short.{IsShort}
use Rattle.reply_text.specs.declared.record.Record.{Record}
use Rattle.script_run.specs.Journals.{AreNumbered, AreShort}
use Rattle.script_run.specs.RunRecords.{journal_at, record_at, ordered, IsPlace, IsOrder, blank}
use Rattle.script_run.specs.declared.run_records.RecordPlace.{RecordPlace}

pub none_numbered : AreNumbered []
none_numbered i r at = absurd (cc)

-- the records from a line on
numbered_behind : (n : ℕ) (rs : List Record) (r : Record) → ((i : ℕ) (x : Record) → get_elem? rs i ≡ some x → x.line ≡ n + i + 1)
    → r.line ≡ n + length rs + 1 → (i : ℕ) (x : Record) → get_elem? (rs ++ r ∷ []) i ≡ some x → x.line ≡ n + i + 1
numbered_behind n [] r before is zero x at = ap (λ (y : Record). y.line) (sym (some-injective r x at)) ∙ is
numbered_behind n [] r before is (suc i) x at = absurd (cc)
numbered_behind n (y ∷ rs) r before is zero x at = before zero x at
numbered_behind n (y ∷ rs) r before is (suc i) x at =
    let more = numbered_behind (suc n) rs r (λ j z there. let one = before (suc j) z there in omega (arith, one)) (omega (arith, is)) i x at in
    omega (arith, more)

-- one more record at the place of its line
pub numbered_push : (rs : List Record) (r : Record) → AreNumbered rs → r.line ≡ length rs + 1 → AreNumbered (rs ++ r ∷ [])
numbered_push rs r before is = λ i x at.
    let more = numbered_behind 0 rs r (λ j y there. let one = before j y there in omega (arith, one)) (omega (arith, is)) i x at in
    omega (arith, more)

-- one more short record
pub short_push : (rs : List Record) (r : Record) → AreShort rs → IsShort r.outcome → AreShort (rs ++ r ∷ [])
short_push [] r before is = (is, tt)
short_push (x ∷ rs) r before is = (before.0, short_push rs r before.1 is)

short_at : (rs : List Record) (k : ℕ) → k < length rs → AreShort rs → IsShort (slice_index_or rs k blank).outcome
short_at [] k h all = absurd (omega (arith, h))
short_at (r ∷ rs) zero h all = all.0
short_at (r ∷ rs) (suc k) h all = short_at rs k (omega arith) all.1

journal_short : (js : List (List Record)) (k : ℕ) → k < length js → AllByRecursion AreShort js → AreShort (journal_at js k)
journal_short [] k h all = absurd (omega (arith, h))
journal_short (j ∷ js) zero h all = all.0
journal_short (j ∷ js) (suc k) h all = journal_short js k (omega arith) all.1

placed_short : (js : List (List Record)) (ps : List RecordPlace) → AllByRecursion AreShort js → AllByRecursion (IsPlace js) ps
    → AreShort (map (record_at js) ps)
placed_short js [] all there = tt
placed_short js (p ∷ ps) all there =
    (short_at (journal_at js p.journal) p.index there.0.1 (journal_short js p.journal there.0.0 all), placed_short js ps all there.1)

-- where those of each journal are short, so are those in any order
pub ordered_short : (js : List (List Record)) (places : Option (List RecordPlace)) → AllByRecursion AreShort js → IsOrder js places
    → AreShort (ordered js places)
ordered_short js None all order = journal_short js 0 order all
ordered_short js (Some places) all order = placed_short js places all order

-- where those of the journals before are short, and those of one more
pub one_short : (js : List (List Record)) (n : ℕ) (j : List Record) → n < length js → j ≡ slice_index_or js n j → AreShort j
    → AllByRecursion AreShort (take n js) → AllByRecursion AreShort (take (suc n) js)
one_short [] n j h is short before = absurd (omega (arith, h))
one_short (x ∷ js) zero j h is short before = (subst AreShort is short, tt)
one_short (x ∷ js) (suc n) j h is short before = (before.0, one_short js n j (omega arith) is short before.1)

-- the journals before the end are all
pub all_taken : (js : List (List Record)) (n : ℕ) → length js ≤ n → AllByRecursion AreShort (take n js) → AllByRecursion AreShort js
all_taken [] n h all = tt
all_taken (j ∷ js) zero h all = absurd (omega (arith, h))
all_taken (j ∷ js) (suc n) h all = (all.0, all_taken js n (omega arith) all.1)
