-- Inside: the view after steps that no public call makes.
use Rattle.std.specs.Prelude.{List, [], ◌∷◌, ℕ, ◌-◌, ◌==◌, true, ◌++◌, if◌then◌else◌, replicate}
use Rattle.counter_cells.specs.declared.view.CellView.{CellView}
use Rattle.counter_cells.specs.Steps.{last_moment, fresh_pass, missed, empty_view, good_pin}
use Rattle.counter_cells.specs.declared.setup.Setup.{Setup}
use Rattle.counter_cells.specs.Gates.{claim_shown, bit_shown, shows}
use Rattle.counter_cells.specs.Views.{no_cell}

-- the first seat: the claimer, with no cell taken, from which all passes are split off
abbrev pub first_claimer : Setup → CellView
first_claimer a = record empty_view { claimer = true; unmade = a.passes; moment = a.start; cells = replicate a.cells no_cell }

-- the claimer after one pass was split off, which takes the next number downwards
abbrev pub one_less : CellView → CellView
one_less v = record v { unmade = v.unmade - 1 }

-- the pass that was split off
abbrev pub new_pass : CellView → CellView
new_pass v = fresh_pass (v.unmade - 1) v.moment

-- a pin that missed, by the word that it found, and isn't given back yet
abbrev pub stray_pin : ℕ → ℕ → CellView → CellView
stray_pin cell word v = record (missed cell (claim_shown word) (bit_shown word == 1) v) { stray = cell ∷ v.stray }

-- a pin that asked for the claim and found the word: it is good where the gate was open under the claim, else stray
abbrev pub pinned : ℕ → ℕ → ℕ → CellView → CellView
pinned claim cell word v = if shows claim word then good_pin cell claim v else stray_pin cell word v

-- without the newest stray pin on the cell
abbrev pub drop_stray : ℕ → List ℕ → List ℕ
drop_stray cell [] = []
drop_stray cell (j ∷ js) = if j == cell then js else j ∷ drop_stray cell js

-- a stray pin given back
abbrev pub stray_unpinned : ℕ → CellView → CellView
stray_unpinned cell v = record v { stray = drop_stray cell v.stray }

-- a pass joined at closing
abbrev pub joined : CellView → CellView → CellView
joined v w = record v {
  numbers = v.numbers ++ w.numbers;
  ticks = v.ticks ++ w.ticks;
  moment = last_moment v.moment w.ticks;
  others = v.others ++ w.others;
  unused = [];
  charges = v.charges ++ w.charges;
  looks = v.looks ++ w.looks;
  pairs = v.pairs ++ w.pairs;
  held = v.held ++ w.held;
}

-- the claimer after these passes were joined
abbrev pub all_joined : CellView → List CellView → CellView
all_joined v [] = v
all_joined v (w ∷ ws) = all_joined (joined v w) ws

-- the items but the last one, where x stands before them
abbrev pub but_last : ℕ × ℕ → List (ℕ × ℕ) → List (ℕ × ℕ)
but_last x [] = []
but_last x (y ∷ ys) = x ∷ but_last y ys

-- the last one of these items, or x where there is none
abbrev pub last_alone : ℕ × ℕ → List (ℕ × ℕ) → List (ℕ × ℕ)
last_alone x [] = x ∷ []
last_alone x (y ∷ ys) = last_alone y ys

-- the Held answers but the newest
abbrev pub older : List (ℕ × ℕ) → List (ℕ × ℕ)
older [] = []
older (x ∷ xs) = but_last x xs

-- the newest Held answer alone
abbrev pub newest : List (ℕ × ℕ) → List (ℕ × ℕ)
newest [] = []
newest (x ∷ xs) = last_alone x xs

-- the claimer without its newest Held answer
abbrev pub without_newest : CellView → CellView
without_newest v = record v { held = older v.held }

-- a note of that answer
abbrev pub held_note : CellView → CellView
held_note v = record empty_view { held = newest v.held }

-- a pass that was told by a note
abbrev pub told_held : CellView → CellView → CellView
told_held v w = record v { held = v.held ++ w.held }
