-- What pin and reclaim answer.
use Rattle.std.specs.Prelude.{◌≡◌, ℕ, ◌==◌, ◌&&◌, Bool, false}
use Rattle.counter_cells.specs.declared.answers.Pin.{Pin}
use Rattle.counter_cells.specs.declared.answers.Pin.TheVariants.{Pinned, Other}
use Rattle.counter_cells.specs.declared.answers.Reclaim.{Reclaim}
use Rattle.counter_cells.specs.declared.answers.Reclaim.TheVariants.{Claimed, Held}

-- by cases of a pin's answer
abbrev pub MatchPin : Pin → Type 0 → (ℕ → Bool → Type 0) → Type 0
MatchPin Pinned p q = p
MatchPin (Other claim is_open) p q = q claim is_open

-- by cases of a reclaim's answer
abbrev pub MatchReclaim : Reclaim → Type 0 → (ℕ → Type 0) → Type 0
MatchReclaim Claimed p q = p
MatchReclaim (Held pins) p q = q pins

-- the gate that was found shows another claim than the one asked for, or it is closed
abbrev pub IsOther : ℕ → ℕ → Bool → Type 0
IsOther claim found is_open = (is_open && (found == claim)) ≡ false
