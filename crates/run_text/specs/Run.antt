-- The text of a run: lines of records, then lines of totals, each ended by a line feed.
use Rattle.std.specs.Prelude.{◌≡◌, ℕ, ◌+◌, ◌-◌, ◌==◌, ◌||◌, ◌⊎◌, List, [], ◌∷◌, ◌++◌, length, slice_index, Bool, false, true}
use Rattle.std.specs.List.{AllZip}
use Rattle.text_lines.specs.Lines.{cut}
use Rattle.rls_core.specs.declared.totals.Total.{Total}
use Rattle.reply_text.specs.Shown.{Shown}
use Rattle.run_text.specs.Reading.{IsRecordText, IsTotalText}

-- the last line ends with its line feed, where there is one
abbrev pub is_ended : List ℕ → Bool
is_ended bytes = (length bytes == 0) || (slice_index bytes (length bytes - 1) == 10)

-- These lines are the texts of these records, and then of these totals.
pub record AreTexts (lines : List (List ℕ)) (records : List Shown) (totals : List Total) : Type 0 where
  pub first : List (List ℕ)
  pub last : List (List ℕ)
  pub split : lines ≡ first ++ last
  pub each_record : AllZip IsRecordText first records
  pub each_total : AllZip IsTotalText last totals

-- These bytes are the text of a run: of these records and these totals.
pub record IsRunText (bytes : List ℕ) (records : List Shown) (totals : List Total) : Type 0 where
  pub ended : is_ended bytes ≡ true
  pub texts : AreTexts (cut bytes) records totals

-- A line may not stand behind these totals: it is the text of no total, and of no record either where there is no total yet.
pub record IsNeither (totals : List Total) (line : List ℕ) : Type 0 where
  pub no_total : (t : Total) → ¬ (IsTotalText line t)
  pub no_record : totals ≡ [] → (r : Shown) → ¬ (IsRecordText line r)

-- The line at this place, from 1, is the first that is neither or that stands as a record behind a total: those before it are texts of
-- records and then of totals.
pub record IsWrongLine (bytes : List ℕ) (place : ℕ) : Type 0 where
  pub records : List Shown
  pub totals : List Total
  pub before : List (List ℕ)
  pub line : List ℕ
  pub behind : List (List ℕ)
  pub lines : cut bytes ≡ before ++ line ∷ behind
  pub texts : AreTexts before records totals
  pub numbered : place ≡ length before + 1
  pub neither : IsNeither totals line

-- All lines are texts of records and then of totals, and the last one, at this place, lacks its line feed.
pub record IsUnended (bytes : List ℕ) (place : ℕ) : Type 0 where
  pub records : List Shown
  pub totals : List Total
  pub texts : AreTexts (cut bytes) records totals
  pub numbered : place ≡ length (cut bytes)
  pub open_end : is_ended bytes ≡ false

-- The first line, from 1, that keeps bytes from being the text of a run.
abbrev pub IsWrongAt : List ℕ → ℕ → Type 0
IsWrongAt bytes place = IsWrongLine bytes place ⊎ IsUnended bytes place

-- These bytes are the text of no run.
abbrev pub IsNoRun : List ℕ → Type 0
IsNoRun bytes = (records : List Shown) (totals : List Total) → ¬ (IsRunText bytes records totals)
