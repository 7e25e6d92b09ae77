-- What contracts see of batches and of their drawers.
use Rattle.std.specs.Prelude.{◌≡◌, ℕ, Bool, false, List, [], map}
use Rattle.atomic_table.specs.Seated.{TableId}
use Rattle.line_numbers.specs.Drawers.{numbers_id, numbers_of, drawers_of, is_told}
use Rattle.line_numbers.specs.declared.batch_drawer.BatchDrawer.{BatchDrawer}
use Rattle.line_numbers.specs.declared.batches.Batches.{Batches}

-- which numbers, of how many lines, and the size of a batch
abbrev pub BatchesId : Type 0
BatchesId = (TableId × ℕ) × ℕ × ℕ

-- which batches these are
abbrev pub batches_id : Batches → BatchesId
batches_id batches = (numbers_id batches.numbers, batches.lines, batches.size)

-- of how many lines they are
abbrev pub lines_in : Batches → ℕ
lines_in batches = batches.lines

-- how many drawers were made
abbrev pub drawers_in : Batches → ℕ
drawers_in batches = drawers_of batches.numbers

-- whose numbers a drawer draws
abbrev pub batches_of : BatchDrawer → BatchesId
batches_of drawer = (numbers_of drawer.drawer, drawer.lines, drawer.size)

-- the numbers that a drawer drew, in order
abbrev pub given : BatchDrawer → List ℕ
given drawer = map (λ x. x.0) drawer.log.items

-- whether a drawer was told that there are no more
abbrev pub is_done : BatchDrawer → Bool
is_done drawer = is_told drawer.drawer

-- a drawer that has drawn nothing
pub record IsNew (drawer : BatchDrawer) : Type 0 where
  pub given : given drawer ≡ []
  pub done : is_done drawer ≡ false
