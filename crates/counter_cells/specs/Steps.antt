-- The view after each kind of step, as a function of the view before and of what the step found.
use Rattle.std.specs.Prelude.{ℕ, zero, suc, ◌==◌, nat_lt, Bool, true, false, Some, None, List, [], ◌∷◌, ◌++◌, if◌then◌else◌}
use Rattle.std.specs.Prelude.{slice_index_or, slice_set, replicate}
use Rattle.counter_cells.specs.declared.view.Tick.{Tick}
use Rattle.counter_cells.specs.declared.view.Cell.{Cell}
use Rattle.counter_cells.specs.declared.view.CellView.{CellView}
use Rattle.counter_cells.specs.declared.setup.Setup.{Setup}
use Rattle.counter_cells.specs.Views.{claim_on, no_cell, cell_or}

-- a view that knows nothing
abbrev pub empty_view : CellView
empty_view = record {
  numbers = [];
  ticks = [];
  moment = 0;
  good = [];
  stray = [];
  others = [];
  unused = [];
  charges = [];
  looks = [];
  pairs = [];
  claimer = false;
  unmade = 0;
  cells = [];
  used_claims = [];
  held = [];
  heard = 0;
}

-- a pass with the number, before its first step
abbrev pub fresh_pass : ℕ → ℕ → CellView
fresh_pass n start = record empty_view { numbers = n ∷ []; moment = start }

-- all passes as they are made, the highest number first
abbrev pub new_passes : ℕ → ℕ → List CellView
new_passes zero start = []
new_passes (suc n) start = fresh_pass n start ∷ new_passes n start

-- the claimer when so many passes are still to be made
abbrev pub claimer_left : Setup → ℕ → CellView
claimer_left a n = record empty_view { claimer = true; unmade = n; moment = a.start; cells = replicate a.cells no_cell }

-- the number of a pass
abbrev pub number_of : CellView → ℕ
number_of v = slice_index_or v.numbers 0 0

-- the tick that answered the moment: the pass's offer is what it asked for, where that was later than its own moment
abbrev pub tick_of : ℕ → ℕ → CellView → Tick
tick_of moment now v = record { number = number_of v; moment = moment; offer = if nat_lt v.moment now then Some now else None }

-- the pass after a tick that asked for `now` and answered the moment
abbrev pub ticked : ℕ → ℕ → CellView → CellView
ticked moment now v = record v { moment = moment; ticks = v.ticks ++ tick_of moment now v ∷ [] }

-- a load of the clock, which is a tick where the clock isn't earlier than `now`
abbrev pub glanced : ℕ → ℕ → CellView → CellView
glanced moment now v = if nat_lt moment now then v else ticked moment now v

-- the claimer after it has heard the clock
abbrev pub has_heard : ℕ → CellView → CellView
has_heard moment v = record v { heard = moment }

-- a good pin, whose cell and claim also come to the pairs
abbrev pub good_pin : ℕ → ℕ → CellView → CellView
good_pin cell claim v = record v { good = (cell, claim) ∷ v.good; pairs = (cell, claim) ∷ v.pairs }

-- a pin that missed: it found the cell's gate closed or under another claim
abbrev pub missed : ℕ → ℕ → Bool → CellView → CellView
missed cell claim is_open v = record v { others = v.others ++ (record { cell = cell; claim = claim; is_open = is_open }) ∷ [] }

-- without the newest pin on the cell
abbrev pub drop_pin : ℕ → List (ℕ × ℕ) → List (ℕ × ℕ)
drop_pin cell [] = []
drop_pin cell (p ∷ ps) = if p.0 == cell then ps else p ∷ drop_pin cell ps

-- without the looks on the cell
abbrev pub without : ℕ → List (ℕ × ℕ) → List (ℕ × ℕ)
without cell [] = []
without cell (p ∷ ps) = if p.0 == cell then without cell ps else p ∷ without cell ps

-- whether a pin on the cell is among these
abbrev pub any_on : ℕ → List (ℕ × ℕ) → Bool
any_on cell [] = false
any_on cell (p ∷ ps) = if p.0 == cell then true else any_on cell ps

-- a good pin given back; with the last one on the cell its unused look ends
abbrev pub unpinned : ℕ → CellView → CellView
unpinned cell v = record v {
  good = drop_pin cell v.good;
  unused = if any_on cell (drop_pin cell v.good) then v.unused else without cell v.unused;
}

-- a look that found the count: it is the cell's unused look, and one more look under the claim of the pin
abbrev pub looked : ℕ → ℕ → CellView → CellView
looked cell count v = record v { unused = (cell, count) ∷ without cell v.unused; looks = v.looks ++ (claim_on cell v.good, count) ∷ [] }

-- a charge that found the count: it spends the unused look, and is one more charge under the claim of the pin
abbrev pub charged : ℕ → ℕ → ℕ → CellView → CellView
charged cell before hits v =
    record v {
      unused = without cell v.unused;
      charges = v.charges ++
          (record { claim = claim_on cell v.good; before = before; hits = hits }) ∷ [];
    }

-- a cell that was just taken under the claim
abbrev pub taken_cell : ℕ → Cell
taken_cell claim = record { ever = true; is_open = false; reset = false; claim = claim }

-- a cell taken under the claim by a reclaim
abbrev pub claimed_by : ℕ → ℕ → CellView → CellView
claimed_by cell claim v = record v { cells = slice_set v.cells cell (taken_cell claim); used_claims = claim ∷ v.used_claims }

-- a reclaim that found pins
abbrev pub held_by : ℕ → ℕ → CellView → CellView
held_by cell pins v = record v { held = v.held ++ (cell, pins) ∷ [] }

-- a cell whose count was set to 0
abbrev pub reset_by : ℕ → CellView → CellView
reset_by cell v = record v { cells = slice_set v.cells cell (record (cell_or v.cells cell) { reset = true }) }

-- a cell that was opened
abbrev pub opened_by : ℕ → CellView → CellView
opened_by cell v = record v { cells = slice_set v.cells cell (record (cell_or v.cells cell) { is_open = true }) }

-- the moment of the last tick, or the first argument where there is none
abbrev pub last_moment : ℕ → List Tick → ℕ
last_moment moment [] = moment
last_moment moment (x ∷ xs) = last_moment x.moment xs
