use Rattle.std.proofs.Common.{◌∙◌, sym, arith}
use Rattle.run_audit.proofs.Learning.{seen_learnt, seen_within}
use Rattle.run_audit.proofs.values.seen_is_fair.Goals as goal

pub returns-then-not-may_be_seen : goal.returns-then-not-may_be_seen
returns-then-not-may_be_seen c =
    seen_within c.args.values.now.entries c.args.key.worker c.args.key.counter c.args.limit c.args.seen c.args.hits _
    (sym c.may_be_seen-may_be_seen.ensures ∙ c.if-not-may_be_seen.true)

pub returns : goal.returns
returns c =
    seen_learnt c.args.values.now.entries c.learn.new.values.entries c.args.key.worker c.args.key.counter c.args.limit c.args.seen c.args.hits
    _ c.in_ok-fair.fair (omega arith) (sym c.may_be_seen-may_be_seen.ensures ∙ c.if-not-may_be_seen.false) c.in_ok-fair.ensures
