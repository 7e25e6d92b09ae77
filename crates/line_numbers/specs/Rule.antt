-- Inside: the rule of line numbers: a word that says how often a number was asked for, and views that know which they drew.
use Rattle.std.specs.Prelude.{◌≡◌, ℕ, ◌+◌, ◌-◌, ◌≤◌, ◌<◌, ◌⊎◌, ◌^◌, [], ◌∷◌, ◌++◌, min}
use mathlib.Core.Option.{some}
use lib.ListN.{get_elem?}
use Rattle.atomic_table.specs.Table.{State}
use Rattle.rate_types.specs.Sums.{total, times}
use Rattle.line_numbers.specs.declared.rule.Setup.{Setup}
use Rattle.line_numbers.specs.declared.rule.DrawerView.{DrawerView}
use Rattle.line_numbers.specs.Rising.{IsDrawnOnce}

-- a view that stands for so many drawers and has done nothing
abbrev pub idle_view : ℕ → ℕ → DrawerView
idle_view lines drawers = record { lines = lines; drawn = []; least = 0; ends = 0; drawers = drawers }

-- a view that stands for no drawer
abbrev pub empty_view : DrawerView
empty_view = idle_view 0 0

-- a number was drawn
abbrev pub drew : ℕ → DrawerView → DrawerView
drew n v = record v { drawn = v.drawn ++ n ∷ []; least = n + 1 }

-- there were no more numbers
abbrev pub told_end : DrawerView → DrawerView
told_end v = record v { ends = v.ends + 1 }

-- the view after one drawer was split off
abbrev pub one_less : DrawerView → DrawerView
one_less v = record v { drawers = v.drawers - 1 }

-- the view of the drawer split off
abbrev pub one_drawer : DrawerView → DrawerView
one_drawer v = idle_view v.lines 1

-- one view now stands for the drawers of both
abbrev pub joined : DrawerView → DrawerView → DrawerView
joined v w = record v { lines = w.lines; drawn = v.drawn ++ w.drawn; ends = v.ends + w.ends; drawers = v.drawers + w.drawers }

-- what a step tells: it drew the number found, which is greater than those drawn before, or was told that there are no more
abbrev pub Drew : DrawerView → ℕ → DrawerView → Type 0
Drew v n w = ((n < v.lines) × (v.least ≤ n) × (w ≡ drew n v)) ⊎ ((v.lines ≤ n) × (w ≡ told_end v))

-- what one view has to do with the word
pub record Fits (o : Setup) (asked : ℕ) (v : DrawerView) : Type 0 where
  pub lines : 1 ≤ v.drawers → v.lines ≡ o.lines
  pub least : v.least ≤ asked
  pub ended : 1 ≤ v.ends → o.lines ≤ asked
  pub few : v.ends ≤ v.drawers
  pub bare : v.drawers ≡ 0 → v.drawn ≡ []

-- the rule: the word says how often a number was asked for, and each number below it that is a line's was drawn once
pub record IsLawful (o : Setup) (s : State ℕ DrawerView) : Type 0 where
  pub asked : ℕ
  pub words : s.words ≡ asked ∷ []
  pub bound : asked ≤ o.lines + total (λ v. v.ends) s.views
  pub small : o.lines + o.drawers + 1 < 2 ^ 64
  pub each : (j : ℕ) (v : DrawerView) → get_elem? s.views j ≡ some v → Fits o asked v
  pub drawers : total (λ v. v.drawers) s.views ≡ o.drawers
  pub once : (n : ℕ) → IsDrawnOnce (min asked o.lines) n (total (λ v. times n v.drawn) s.views)
