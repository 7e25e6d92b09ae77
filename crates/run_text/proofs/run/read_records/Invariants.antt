use Rattle.std.proofs.Common.{length, map}
use Rattle.run_text.specs.Reading.{IsRecordText}
use Rattle.run_text.specs.ReadTo.{ReadTo}
use Rattle.run_text.specs.Views.{shown_of}
use Rattle.run_text.proofs.run.read_records.Given as goal

abbrev pub invariant-lines : goal.invariant-lines
invariant-lines l = ReadTo IsRecordText l.bytes l.rest (map shown_of l.records.items)

abbrev pub decreases-lines : goal.decreases-lines
decreases-lines l = length l.rest
