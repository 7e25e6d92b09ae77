-- Inside: the rule of the statistics: each word is the sum of what all views added to it.
use Rattle.std.specs.Prelude.{◌≡◌, ℕ, ◌+◌, ◌-◌, ◌*◌, ◌≤◌, ◌^◌, ◌==◌, List, [], ◌∷◌, ◌++◌, length, max, slice_index, if◌then◌else◌}
use mathlib.Core.Option.{some}
use lib.ListN.{get_elem?}
use Rattle.atomic_table.specs.Table.{State}
use Rattle.rate_types.specs.Sums.{total}
use Rattle.shared_stats.specs.declared.rule.Setup.{Setup}
use Rattle.shared_stats.specs.declared.rule.Amount.{Amount}
use Rattle.shared_stats.specs.declared.rule.AdderView.{AdderView}

-- what an amount is to a word
abbrev pub amount_at : ℕ → Amount → ℕ
amount_at word x = if x.word == word then x.amount else 0

-- all that was added to a word
abbrev pub added_to : ℕ → List Amount → ℕ
added_to word xs = total (amount_at word) xs

-- the greatest number that was found in a word
abbrev pub greatest_at : ℕ → List Amount → ℕ
greatest_at word [] = 0
greatest_at word (x ∷ xs) = max (amount_at word x) (greatest_at word xs)

-- a view that stands for so many passes and has done nothing
abbrev pub idle_view : ℕ → AdderView
idle_view passes = record { added = []; found = []; passes = passes }

-- an amount was added to a word
abbrev pub adding : ℕ → ℕ → AdderView → AdderView
adding word amount v = record v { added = v.added ++ record { word = word; amount = amount } ∷ [] }

-- a word was read
abbrev pub finding : ℕ → ℕ → AdderView → AdderView
finding word number v = record v { found = v.found ++ record { word = word; amount = number } ∷ [] }

-- the view after one pass was split off
abbrev pub one_less : AdderView → AdderView
one_less v = record v { passes = v.passes - 1 }

-- one view now stands for the passes of both
abbrev pub joined : AdderView → AdderView → AdderView
joined v w = record v { added = v.added ++ w.added; found = v.found ++ w.found; passes = v.passes + w.passes }

-- What one view has to do with the words: it added at most so much to one, and what it found is there.
pub record Fits (words : List ℕ) (v : AdderView) : Type 0 where
  pub few : (word : ℕ) → added_to word v.added ≤ v.passes * 2 ^ 57
  pub found : (word : ℕ) → greatest_at word v.found ≤ slice_index words word

-- the rule: each word is the sum of what all views added to it
pub record IsLawful (o : Setup) (s : State ℕ AdderView) : Type 0 where
  pub count : length s.words ≡ o.words
  pub sums : (word : ℕ) → slice_index s.words word ≡ total (λ v. added_to word v.added) s.views
  pub each : (j : ℕ) (v : AdderView) → get_elem? s.views j ≡ some v → Fits s.words v
  pub passes : total (λ v. v.passes) s.views ≡ o.passes
  pub small : o.passes ≤ 64
