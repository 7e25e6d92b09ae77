-- Inside: how far the lines of bytes were read.
use Rattle.std.specs.Prelude.{◌≡◌, ℕ, List, ◌∷◌, ◌++◌}
use Rattle.std.specs.List.{AllZip}
use Rattle.text_lines.specs.Lines.{cut}

-- the first lines are the texts of these, and the others are those of the rest
pub record ReadTo {X : Type 0} (IsText : List ℕ → X → Type 0) (bytes rest : List ℕ) (xs : List X) : Type 0 where
  pub front : List (List ℕ)
  pub lines : cut bytes ≡ front ++ cut rest
  pub each : AllZip IsText front xs

-- the first line is the text of none
abbrev pub StopsAt : {X : Type 0} → (List ℕ → X → Type 0) → List ℕ → Type 0
StopsAt {X} IsText rest = (line : List ℕ) (more : List (List ℕ)) → cut rest ≡ line ∷ more → (x : X) → ¬ (IsText line x)
