-- What `gen` writes.
use Rattle.std.specs.Prelude.{ℕ, List}
use Rattle.load_gen.specs.Summary.{summary_of}
use Rattle.cli_exits.specs.Output.{with_line_feed}

-- the line of the summary of a load, which is that of each of its runs
abbrev pub load_text : ℕ → ℕ → List ℕ
load_text number checks = with_line_feed (summary_of number checks)
