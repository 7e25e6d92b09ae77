-- Inside: one journal that is in the order of its lines.
use Rattle.std.specs.Prelude.{◌≡◌, ℕ, ◌+◌, List, [], ◌∷◌, length}
use mathlib.Core.Option.{some}
use lib.ListN.{get_elem?}
use Rattle.reply_text.specs.declared.record.Record.{Record}

-- so many records, each at the place of its line
pub record AreInOrder (lines : ℕ) (records : List Record) : Type 0 where
  pub as_many : length records ≡ lines
  pub numbered : (i : ℕ) (r : Record) → get_elem? records i ≡ some r → r.line ≡ i + 1

-- one journal, whose records are in the order of their lines
abbrev pub IsLone : ℕ → List (List Record) → Type 0
IsLone lines (journal ∷ []) = AreInOrder lines journal
IsLone lines journals = ⊥
