-- What ticks that offer nothing leave of a pass of the cells.
use Rattle.std.specs.Prelude.{◌≡◌, ◌≤◌, List, ◌++◌}
use Rattle.std.specs.List.{AllByRecursion}
use Rattle.counter_cells.specs.Steps.{number_of, last_moment}
use Rattle.counter_cells.specs.declared.view.CellView.{CellView}
use Rattle.counter_cells.specs.declared.view.Tick.{Tick}
use Rattle.counter_directory.specs.Acquired.{OffersNothing}

-- the pass has ticked, maybe never, and offered nothing; its moment is that of its last tick, and no earlier than before
pub record HasTickedAlone (v w : CellView) : Type 0 where
  pub number : number_of w ≡ number_of v
  pub added : List Tick
  pub ticks : w.ticks ≡ v.ticks ++ added
  pub offers : AllByRecursion (OffersNothing v) added
  pub moment : w.moment ≡ last_moment v.moment added
  pub later : v.moment ≤ w.moment
