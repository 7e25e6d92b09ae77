use Rattle.std.proofs.Common.{◌∙◌, arith}
use Rattle.agenda.proofs.Halving.{row_all}
use Rattle.agenda.proofs.row.next_row.Goals as goal

pub returns : goal.returns
returns c = c.of.ensures ∙ row_all c.args.moments.now c.loop-pair.row.items c.loop-pair.pair c.loop-pair.invariant (omega arith)
