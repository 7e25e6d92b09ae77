use Rattle.std.proofs.Common.{arith}
use Rattle.run_audit.proofs.Learning.{known_more, one_learnt}
use Rattle.run_audit.proofs.known.learn.Goals as goal

pub returns-then-known_of-most : goal.returns-then-known_of-most
returns-then-known_of-most c =
    known_more c.args.values.now.entries c.args.key.worker c.args.key.counter c.args.most c.args.value
    (omega (arith, c.if-known_of-most.true, c.known_of.ensures))

pub returns : goal.returns
returns c =
    one_learnt c.args.values.now.entries c.put.new.values.entries c.args.key.worker c.args.key.counter c.args.most c.args.value c.requires
    (omega (arith, c.if-known_of-most.false, c.known_of.ensures)) c.in_ok-put.ensures
