use Rattle.std.proofs.Common.{◌∙◌, ap, ◌&&◌}
use Rattle.script_run.specs.Views.{line_view}
use Rattle.run_audit.proofs.Tests.{renamed}
use Rattle.run_audit.proofs.RecordOfBy.{record_of}
use Rattle.run_audit.proofs.kinds.RecordOfFact.decide.Goals as goal

pub returns : goal.returns
returns c =
    renamed _ _ (c.both-stands.ensures ∙ ap (λ b. b && c.has_kind-kind.result) c.both-head.ensures)
    (record_of c.args.self.now.workers c.args.before.now (line_view c.args.line.now) c.args.rec.now c.is_numbered-numbered.result
    c.is_by_worker-by_worker.result c.has_kind-kind.result c.is_numbered-numbered.ensures c.is_by_worker-by_worker.ensures
    c.has_kind-kind.ensures)
