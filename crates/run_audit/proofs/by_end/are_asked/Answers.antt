use Rattle.std.proofs.Common.{arith}
use Rattle.run_audit.proofs.EndsBy.{none_over}
use Rattle.run_audit.proofs.by_end.are_asked.Goals as goal

pub ends-init : goal.ends-init
ends-init c =
    let same = none_over c.args.asked c.args.moment c.over-from.result c.args.ends.now c.over-from.ensures.within c.over-from.ensures.over in
    omega (arith, same)
