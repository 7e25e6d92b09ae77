use Rattle.std.proofs.Common.{◌≡◌, map, ap, ◌∙◌}
use Rattle.rate_io.specs.Events.{wrote}
use Rattle.quota_stream.specs.Output.{with_feeds}
use Rattle.quota_stream.specs.Progress.{next_outcome}
use Rattle.quota_stream.proofs.Feeding.{outcome_lines}
use Rattle.quota_stream.proofs.Feeds.{lines_fed}
use Rattle.quota_stream.proofs.Parting.{err_as, grew_none, grew_as, line_fault, line_unwritten}
use Rattle.quota_stream.proofs.replaying.end_line.Goals as goal

pub returns-in_err-text-clause-fault : goal.returns-in_err-text-clause-fault
returns-in_err-text-clause-fault g c =
    err_as c.from_residual.result c.in_err-text.field-0.0 _ c.from_residual.ensures
    (grew_none _ _ (line_fault c.args.replay.now c.in_err-text.field-0.0 c.in_err-text.ensures.fault))

pub returns-in_default-clause-fault : goal.returns-in_default-clause-fault
returns-in_default-clause-fault g c =
    let lines : with_feeds c.as_bytes.result.now ≡ (next_outcome c.args.replay.now).written =
    ap with_feeds (c.as_bytes.ensures.value ∙ c.in_ok-text.ensures.written) ∙ lines_fed _ (outcome_lines _ c.args.replay.now.pending c.args.replay.now.stream) in
    grew_as _ _ _ _ c.in_default.ensures.up_to (λ writes up_to. line_unwritten c.args.replay.now _ writes lines up_to)

pub returns-clause-done : goal.returns-clause-done
returns-clause-done g c =
    let lines : with_feeds c.as_bytes.result.now ≡ (next_outcome c.args.replay.now).written =
    ap with_feeds (c.as_bytes.ensures.value ∙ c.in_ok-text.ensures.written) ∙ lines_fed _ (outcome_lines _ c.args.replay.now.pending c.args.replay.now.stream) in
    record {
      events = map wrote (with_feeds c.as_bytes.result.now);
      grew = c.in-Ok.ensures.each;
      are = record { next = c.in_ok-text.ensures.ended; few = c.in_ok-text.ensures.few; each = ap (map wrote) lines };
    }
