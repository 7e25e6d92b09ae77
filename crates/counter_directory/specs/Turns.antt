-- What contracts see of a directory, and of one turn at its lock.
use Rattle.std.specs.Prelude.{ℕ, ◌≤◌, List, Result}
use Rattle.rate_types.specs.declared.counter_name.CounterName.{CounterName}
use Rattle.atomic_table.specs.Seated.{TableId}
use Rattle.counter_cells.specs.declared.view.CellView as cell_view
use Rattle.counter_directory.specs.declared.acquired.Acquired.{Acquired}
use Rattle.counter_directory.specs.declared.acquired.AcquireFault.{AcquireFault}
use Rattle.counter_directory.specs.Claims.{IsLawfulClaims, last_of}
use Rattle.counter_directory.specs.Acquired.{Bounds, ClaimTableView, Acquires}
use Rattle.counter_directory.specs.Passes.{KnownClaims, HasTurned}

-- a directory: which list its passes know, how many passes were made, and how many claims there may be at most
pub record DirectoryView : Type 0 where
  pub list_id : TableId
  pub passes : ℕ
  pub claims_max : ℕ

-- One turn at the lock. The pass then knows the list that the turn left, of which it had known a prefix. That list is
-- lawful, and the moment of the cell pass is no earlier than that of the last claim found
pub record Turned (b : Bounds) (names : List CounterName) (cell_pass : cell_view.CellView) (result : Result Acquired AcquireFault)
    (cell_pass' : cell_view.CellView) (pass pass' : KnownClaims) : Type 0 where
  pub found : ClaimTableView
  pub left : ClaimTableView
  pub did : Acquires b names cell_pass found result cell_pass' left
  pub lawful : IsLawfulClaims b.cells b.claims left.claims
  pub later : last_of 0 found.claims ≤ cell_pass'.moment
  pub turn : HasTurned found.claims left.claims pass pass'
