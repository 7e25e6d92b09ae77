use Rattle.run_audit.proofs.Tests.{renamed}
use Rattle.run_audit.proofs.Earliest.{above_by}
use Rattle.run_audit.proofs.at_least.AboveByEarlier.decide.Goals as goal

pub returns : goal.returns
returns c = λ earlier is. renamed _ _ c.stands_above-stands.ensures (above_by c.args.rec.now earlier c.args.most is)
