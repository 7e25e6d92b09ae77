use Rattle.std.proofs.Common.{length}
use Rattle.agenda.proofs.agenda.+rows_over.Given as goal

abbrev pub decreases-rows_over : goal.decreases-rows_over
decreases-rows_over l = length l.moments.now
