-- Lines that are woven together are those of the records and totals, one after the other.
use Rattle.std.proofs.Common.{◌≡◌, ℕ, zero, suc, ◌+◌, ◌≤◌, ◌<◌, List, [], ◌∷◌, ◌++◌, map, drop, length, get_or, slice_index_or, Bool, true, false, refl, sym, ap, arith}
use Rattle.reply_text.specs.Short.{IsShort}
use Rattle.reply_text.specs.declared.record.Record.{Record}
use Rattle.reply_text.specs.declared.record.Outcome.{Outcome}
use Rattle.reply_text.specs.declared.record.Outcome.TheVariants.{Checked, Ticked, Installed, Bad, Full, Spent, VersionsFull}
use Rattle.script_run.specs.Journals.{AreShort}
use Rattle.run_lines.specs.RunLines.{record_line, is_short, unless_short, other_lines, woven_line, woven}

pub woven_all : (rs : List Record) (ts : List (List ℕ)) → woven rs (other_lines rs ++ ts) ≡ map record_line rs ++ ts
woven_all [] ts = refl
woven_all (r ∷ rs) ts = by (woven_all rs ts) (is_short r.outcome)
  where
    by : woven rs (other_lines rs ++ ts) ≡ map record_line rs ++ ts → (b : Bool)
        → woven_line b (record_line r) (woven rs) (unless_short b (record_line r) (other_lines rs) ++ ts) ≡ record_line r ∷ (map record_line rs ++ ts)
    by more true = ap (λ l. record_line r ∷ l) more
    by more false = ap (λ l. record_line r ∷ l) more

-- the record at a place, and those behind it
first_of : (rs : List Record) (p : ℕ) (d : Record) → p < length rs → d ≡ slice_index_or rs p d → drop p rs ≡ d ∷ drop (suc p) rs
first_of [] p d h is = absurd (omega (arith, h))
first_of (r ∷ rs) zero d h is = ap (λ (e : Record). e ∷ rs) (sym is)
first_of (r ∷ rs) (suc p) d h is = first_of rs p d (omega arith) is

-- the line at a place, and those behind it
line_of : (ms : List (List ℕ)) (n : ℕ) → n < length ms → drop n ms ≡ get_or ms n [] ∷ drop (suc n) ms
line_of [] n h = absurd (omega (arith, h))
line_of (m ∷ ms) zero h = refl
line_of (m ∷ ms) (suc n) h = line_of ms n (omega arith)

pub none_from : {X : Type 0} (xs : List X) (n : ℕ) → length xs ≤ n → drop n xs ≡ []
none_from [] zero h = refl
none_from [] (suc n) h = refl
none_from (x ∷ xs) zero h = absurd (omega arith)
none_from (x ∷ xs) (suc n) h = none_from xs n (omega arith)

one_behind : (n : ℕ) → n + 1 ≡ suc n
one_behind n = omega arith

module _ (rs : List Record) (ms : List (List ℕ)) (p n : ℕ) where
  -- the line of a short record
  pub short_next : (d : Record) → p < length rs → d ≡ slice_index_or rs p d → is_short d.outcome ≡ true
      → woven (drop p rs) (drop n ms) ≡ record_line d ∷ woven (drop (p + 1) rs) (drop n ms)
  short_next d h is short = rw (first_of rs p d h is, short, one_behind p) refl

  -- the line of another record
  pub other_next : (d : Record) → p < length rs → d ≡ slice_index_or rs p d → is_short d.outcome ≡ false → n < length ms
      → woven (drop p rs) (drop n ms) ≡ get_or ms n [] ∷ woven (drop (p + 1) rs) (drop (n + 1) ms)
  other_next d h is other low = rw (first_of rs p d h is, other, line_of ms n low, one_behind p, one_behind n) refl

  -- no line for another record
  pub other_none : (d : Record) → p < length rs → d ≡ slice_index_or rs p d → is_short d.outcome ≡ false → length ms ≤ n
      → woven (drop p rs) (drop n ms) ≡ []
  other_none d h is other high = rw (first_of rs p d h is, other, none_from ms n high) refl

  -- the line of a total
  pub total_next : length rs ≤ p → n < length ms → woven (drop p rs) (drop n ms) ≡ get_or ms n [] ∷ woven (drop p rs) (drop (n + 1) ms)
  total_next h low = rw (none_from rs p h, line_of ms n low, one_behind n) refl

  -- none is left
  pub total_none : length rs ≤ p → length ms ≤ n → woven (drop p rs) (drop n ms) ≡ []
  total_none h high = rw (none_from rs p h, none_from ms n high) refl

-- there is no line of a record that isn't short where all are
pub others_none : (rs : List Record) → AreShort rs → other_lines rs ≡ []
others_none [] all = refl
others_none (r ∷ rs) all = by (others_none rs all.1) r.outcome all.0
  where
    by : other_lines rs ≡ [] → (o : Outcome) → IsShort o → unless_short (is_short o) (record_line r) (other_lines rs) ≡ []
    by none (Checked answer) short = none
    by none (Ticked moment) short = none
    by none Installed short = none
    by none (Bad refused) short = absurd short
    by none (Full live held wanted) short = absurd short
    by none (Spent claims wanted) short = absurd short
    by none (VersionsFull versions) short = absurd short

-- one record less whose line may be made
pub others_more : (rs : List Record) (p : ℕ) (d : Record) → p < length rs → d ≡ slice_index_or rs p d
    → other_lines (drop p rs) ≡ unless_short (is_short d.outcome) (record_line d) (other_lines (drop (p + 1) rs))
others_more rs p d h is = rw (first_of rs p d h is, one_behind p) refl
