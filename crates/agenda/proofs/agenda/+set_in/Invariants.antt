use Rattle.std.proofs.Common.{length}
use Rattle.agenda.proofs.agenda.+set_in.Given as goal

abbrev pub decreases-set_in : goal.decreases-set_in
decreases-set_in l = length l.above.now
