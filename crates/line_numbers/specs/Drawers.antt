-- What contracts see of line numbers and of their drawers.
use Rattle.std.specs.Prelude.{◌≡◌, ℕ, Bool, false, List, []}
use Rattle.atomic_table.specs.Seated.{TableId}
use Rattle.line_numbers.specs.declared.drawer.Drawer.{Drawer}
use Rattle.line_numbers.specs.declared.numbers.LineNumbers.{LineNumbers}

-- which numbers these are, and of how many lines
abbrev pub numbers_id : LineNumbers → TableId × ℕ
numbers_id numbers = (numbers.table.shared.table_id, numbers.lines)

-- of how many lines they are
abbrev pub lines_of : LineNumbers → ℕ
lines_of numbers = numbers.lines

-- how many drawers were made
abbrev pub drawers_of : LineNumbers → ℕ
drawers_of numbers = numbers.table.shared.key.drawers

-- whose numbers a drawer draws
abbrev pub numbers_of : Drawer → TableId × ℕ
numbers_of drawer = (drawer.seat.table_id, drawer.seat.me.0.lines)

-- the numbers that a drawer drew, in order
abbrev pub drawn : Drawer → List ℕ
drawn drawer = drawer.seat.me.0.drawn

-- whether a drawer was told that there are no more
abbrev pub is_told : Drawer → Bool
is_told drawer = drawer.has_ended

-- a drawer that has drawn nothing
pub record IsFresh (drawer : Drawer) : Type 0 where
  pub drawn : drawer.seat.me.0.drawn ≡ []
  pub told : drawer.has_ended ≡ false
