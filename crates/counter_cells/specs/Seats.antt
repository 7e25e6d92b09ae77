-- What every pass and every claimer knows between two calls.
use Rattle.std.specs.Prelude.{◌≡◌, ℕ, true, false, [], length}
use Rattle.atomic_table.specs.Seated.{TableId}
use Rattle.atomic_table.specs.declared.shared.Seat.{Seat}
use Rattle.counter_cells.specs.declared.view.Cell.{Cell}
use Rattle.counter_cells.specs.declared.view.CellView.{CellView}
use Rattle.counter_cells.specs.declared.setup.Setup.{Setup}

-- a pass has one number, and no stray pin
pub record IsPass (v : CellView) : Type 0 where
  pub role : v.claimer ≡ false
  pub number : length v.numbers ≡ 1
  pub made : v.unmade ≡ 0
  pub straight : v.stray ≡ []

-- the claimer has made all passes, and has ticked, pinned, looked and charged nothing
pub record IsClaimer (a : Setup) (v : CellView) : Type 0 where
  pub role : v.claimer ≡ true
  pub made : v.unmade ≡ 0
  pub number : v.numbers ≡ []
  pub pins : (v.good ≡ []) × (v.stray ≡ [])
  pub noted : (v.pairs ≡ []) × (v.others ≡ [])
  pub ticks : (v.ticks ≡ []) × (v.moment ≡ a.start)
  pub charges : (v.charges ≡ []) × (v.looks ≡ [])
  pub long : length v.cells ≡ a.cells

-- a seat at the table, which holds no slot
abbrev pub IsBareSeatOf : TableId → Seat ℕ CellView → Type 0
IsBareSeatOf table s = (s.table_id ≡ table) × (s.me.1 ≡ [])

-- the claimer has taken the cell and not yet opened it
abbrev pub IsTaken : Cell → Type 0
IsTaken c = (c.ever ≡ true) × (c.is_open ≡ false)
