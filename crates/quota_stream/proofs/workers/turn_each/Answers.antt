use Rattle.std.proofs.Common.{◌<◌, length, get_or, refl, arith}
use Rattle.std.proofs.Math.ListN.{set}
use Rattle.std.proofs.lemmas.List.{get_or_default}
use Rattle.quota_stream.proofs.Working.{one_goes_on}
use Rattle.quota_stream.proofs.workers.turn_each.Goals as goal

pub tasks-preserved : goal.tasks-preserved
tasks-preserved c =
    let i = c.tasks.index in
    let task = get_or c.tasks.tasks i c.index-tasks-index.result in
    let within : i < length c.tasks.tasks = omega arith in
    one_goes_on c.args.tasks.now c.tasks.tasks (set c.tasks.tasks i c.turn.new.self) i task c.turn.new.self c.tasks.invariant within
    (get_or_default c.tasks.tasks i c.index-tasks-index.result task within) c.turn.ensures.goes_on refl
