use Rattle.std.proofs.Common.{length}
use Rattle.run_text.specs.Reading.{IsTotalText}
use Rattle.run_text.specs.ReadTo.{ReadTo}
use Rattle.run_text.proofs.run.read_totals.Given as goal

abbrev pub invariant-lines : goal.invariant-lines
invariant-lines l = ReadTo IsTotalText l.bytes l.rest l.totals.items

abbrev pub decreases-lines : goal.decreases-lines
decreases-lines l = length l.rest
