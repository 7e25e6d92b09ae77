use Rattle.run_audit.proofs.Tests.{renamed}
use Rattle.run_audit.proofs.Earliest.{at_least_by}
use Rattle.run_audit.proofs.at_least.MomentAtLeastByEarlier.decide.Goals as goal

pub returns : goal.returns
returns c = λ earlier is. renamed _ _ c.has_moment-stands.ensures (at_least_by (λ r. r.moment) c.args.rec.now earlier c.args.most is)
