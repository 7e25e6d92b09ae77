-- The lines of a run: one a record, then one a total, each with its line feed.
use Rattle.std.specs.Prelude.{ℕ, ◌-◌, List, [], ◌∷◌, ◌++◌, map, Bool, true, false, get_or}
use Rattle.rls_core.specs.declared.totals.Total.{Total}
use Rattle.reply_text.specs.declared.record.Record.{Record}
use Rattle.reply_text.specs.declared.record.Outcome.{Outcome}
use Rattle.reply_text.specs.declared.record.Outcome.TheVariants as outcome
use Rattle.reply_text.specs.Texts.{record_text_of, total_text_of}

-- the text of a record and its line feed
abbrev pub record_line : Record → List ℕ
record_line r = record_text_of r ++ 10 ∷ []

-- the text of a total and its line feed
abbrev pub total_line : Total → List ℕ
total_line t = total_text_of t ++ 10 ∷ []

-- a text and its line feed
abbrev pub text_line : List ℕ → List ℕ
text_line text = text ++ 10 ∷ []

-- The lines of a run, in order.
abbrev pub run_lines : List Record → List Total → List (List ℕ)
run_lines records totals = map record_line records ++ map total_line totals

-- the line that was come to last, and those that are left
pub record LinesLeft : Type 0 where
  pub line : List ℕ
  pub rest : List (List ℕ)

-- Inside: short records, whose lines are made in their turn, and the other lines, which are made before.

-- whether a record is that of an answered check, of a tick or of an installed configuration
abbrev pub is_short : Outcome → Bool
is_short (outcome.Checked answer) = true
is_short (outcome.Ticked moment) = true
is_short outcome.Installed = true
is_short other = false

-- a line that is there unless its record is short
abbrev pub unless_short : Bool → List ℕ → List (List ℕ) → List (List ℕ)
unless_short true line lines = lines
unless_short false line lines = line ∷ lines

-- the lines of the records that aren't short
abbrev pub other_lines : List Record → List (List ℕ)
other_lines [] = []
other_lines (r ∷ rs) = unless_short (is_short r.outcome) (record_line r) (other_lines rs)

-- a record's line, made in its turn or before, and what comes behind it
abbrev pub woven_line : Bool → List ℕ → (List (List ℕ) → List (List ℕ)) → List (List ℕ) → List (List ℕ)
woven_line true line more lines = line ∷ more lines
woven_line false line more [] = []
woven_line false line more (made ∷ lines) = made ∷ more lines

-- the lines of records and the lines that were made before, in their order
abbrev pub woven : List Record → List (List ℕ) → List (List ℕ)
woven [] lines = lines
woven (r ∷ rs) lines = woven_line (is_short r.outcome) (record_line r) (woven rs) lines

-- the kept line, or the one before this place
abbrev pub last_line : Bool → List ℕ → List (List ℕ) → ℕ → List ℕ
last_line true kept made next = kept
last_line false kept made next = get_or made (next - 1) []
