-- Records of several journals in the order of their lines.
use Rattle.std.specs.Prelude.{◌≡◌, ℕ, ◌+◌, ◌≤◌, ◌==◌, List, [], ◌∷◌, ◌++◌, length}
use Rattle.std.specs.List.{AllByRecursion}
use mathlib.Core.Option.{some}
use lib.ListN.{get_elem?}
use Rattle.rate_types.specs.Sums.{total, one_if}
use Rattle.reply_text.specs.declared.record.Record.{Record}

-- the records of all journals, one journal after the other
abbrev pub joined : List (List Record) → List Record
joined [] = []
joined (j ∷ js) = j ++ joined js

-- 1 where a record is that of the line with this number, else 0
abbrev pub on_line : ℕ → Record → ℕ
on_line n r = one_if (r.line == n)

-- each of so many lines, numbered from 1, has one record among these, and there are no others
pub record EachLineOnce (lines : ℕ) (records : List Record) : Type 0 where
  pub once : (n : ℕ) → 1 ≤ n → n ≤ lines → total (on_line n) records ≡ 1
  pub within : AllByRecursion (λ r. (1 ≤ r.line) × (r.line ≤ lines)) records

-- a record stands at a place of one of the journals
pub record IsFrom (journals : List (List Record)) (r : Record) : Type 0 where
  pub worker : ℕ
  pub journal : List Record
  pub place : ℕ
  pub there : get_elem? journals worker ≡ some journal
  pub here : get_elem? journal place ≡ some r

-- So many records in the order of their lines, each of them from one of the journals: what is summed over them is what is summed over
-- all journals.
pub record Merges (lines : ℕ) (journals : List (List Record)) (records : List Record) : Type 0 where
  pub as_many : length records ≡ lines
  pub numbered : (i : ℕ) (r : Record) → get_elem? records i ≡ some r → r.line ≡ i + 1
  pub from : (i : ℕ) (r : Record) → get_elem? records i ≡ some r → IsFrom journals r
  pub sums : (f : Record → ℕ) → total f records ≡ total (total f) journals
