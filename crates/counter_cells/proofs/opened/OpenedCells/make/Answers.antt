use Rattle.std.proofs.Common.{◌∙◌}
use Rattle.counter_cells.proofs.Making.{begins}
use Rattle.counter_cells.proofs.opened.OpenedCells.make.Goals as goal

pub of_words-requires : goal.of_words-requires
of_words-requires c =
    begins (record { cells = c.args.cells; passes = c.args.passes; start = c.args.start }) c.as_slice.result.now
    (c.as_slice.ensures.value ∙ c.in_ok-words.ensures.words) c.requires.passes.1 c.in_ok-words.ensures.bound
