use Rattle.std.proofs.Common.{arith}
use Rattle.run_audit.proofs.Learning.{before_learnt}
use Rattle.run_audit.proofs.values.before_is_fair.Goals as goal

pub returns : goal.returns
returns c =
    before_learnt c.args.values.now.entries c.learn.new.values.entries c.args.key.worker c.args.key.counter c.args.limit c.args.before c.args.hits
    _ _ c.in_ok-fair.fair (omega arith) (omega arith) c.in_ok-fair.ensures
