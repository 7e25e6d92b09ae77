use Rattle.std.proofs.Common.{arith}
use Rattle.rule_stats.proofs.Hits.{hits_up_to}
use Rattle.rule_stats.proofs.numbers.hits_up_to.Goals as goal

pub returns-clause-number : goal.returns-clause-number
returns-clause-number c = grind (arith, hits_up_to c.args.most c.args.before c.args.hits)
