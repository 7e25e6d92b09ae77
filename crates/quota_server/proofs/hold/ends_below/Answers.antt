use Rattle.std.proofs.Common.{◌<◌, ◌-◌, sym, arith}
use Rattle.std.proofs.lemmas.Grind.{common_steps}
use Rattle.std.specs.VecDeque.{deque_len}
use Rattle.quota_server.proofs.Skylines.{below_at}
use Rattle.quota_server.proofs.hold.ends_below.Goals as goal

pub returns-in-Some-clause-below : goal.returns-in-Some-clause-below
returns-in-Some-clause-below c =
    let some : 0 < deque_len c.args.counts.now = grind (arith, common_steps) in
    let count = c.args.counts.now.ok.0 in
    sym (below_at c.args.counts.now.items c.args.count c.in-Some.last.now (deque_len c.args.counts.now - 1) (omega (arith, some, count)) c.in-Some.ensures.lookup)
