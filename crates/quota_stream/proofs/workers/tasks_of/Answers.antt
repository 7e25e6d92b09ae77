use Rattle.std.proofs.Common.{ℕ, List, subst, arith}
use Rattle.quota_settings.specs.Covering.{AllSettings}
use Rattle.quota_stream.specs.Tasks.{Stands, output_text}
use Rattle.quota_stream.proofs.Working.{one_more_task}
use Rattle.quota_stream.proofs.workers.tasks_of.Goals as goal

pub streams-preserved : goal.streams-preserved
streams-preserved c =
    let i = c.streams.index in
    let task = c.new-task.result in
    let stands : Stands (output_text c.args.settings.now i c.index-streams-index.result) c.index-streams-index.result task =
    subst (λ (x : List ℕ). Stands (output_text c.args.settings.now i x) x task) c.bytes.ensures
    (subst (λ (s : AllSettings). Stands (output_text s i c.bytes.result.now) c.bytes.result.now task) c.in_ok-settings.ensures c.new-task.ensures) in
    one_more_task c.args.settings.now c.args.streams.now c.streams.tasks.items c.push.new.self.items i c.index-streams-index.result task
    c.streams.invariant (omega arith) c.index-streams-index.is stands c.in_ok-push.ensures.items
