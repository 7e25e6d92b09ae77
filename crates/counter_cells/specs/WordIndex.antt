-- Inside: the index of each word in the table: first the clock, then of each cell its gate and its count, side by side. The clock has
-- eight words to itself, a line of memory. The cells lie in blocks of 64 lines, four on a line: the first 64 cells of a block begin one
-- line each, so that threads on few cells share no line, and the next 64 stand behind them.
use Rattle.std.specs.Prelude.{ℕ, ◌+◌, ◌-◌, ◌*◌, ◌/◌, ◌%◌, List, ◌∷◌, replicate, slice_index}

-- how many words a table of so many cells has: the last block is whole
abbrev pub words_of : ℕ → ℕ
words_of cells = 512 * ((cells + 255) / 256) + 8

-- the index of a cell's gate: its block, its line there, and its place on that line
abbrev pub gate_at : ℕ → ℕ
gate_at cell = 512 * (cell / 256) + 8 * (cell % 64) + 2 * (cell / 64 % 4) + 8

-- the index of a cell's count
abbrev pub count_at : ℕ → ℕ
count_at cell = gate_at cell + 1

-- the cell of a gate's index
abbrev pub gate_cell : ℕ → ℕ
gate_cell index = 256 * ((index - 8) / 512) + 64 * (index / 2 % 4) + (index - 8) / 8 % 64

-- the cell of a count's index
abbrev pub count_cell : ℕ → ℕ
count_cell index = gate_cell index

-- the clock among the words of a table
abbrev pub clock_of : List ℕ → ℕ
clock_of words = slice_index words 0

-- a cell's gate there
abbrev pub gate_of : List ℕ → ℕ → ℕ
gate_of words cell = slice_index words (gate_at cell)

-- a cell's count there
abbrev pub count_of : List ℕ → ℕ → ℕ
count_of words cell = slice_index words (count_at cell)

-- the words at the start: all gates closed with claim 0 and without pins, all counts 0
abbrev pub first_words : ℕ → ℕ → List ℕ
first_words cells start = start ∷ replicate (512 * ((cells + 255) / 256) + 7) 0
