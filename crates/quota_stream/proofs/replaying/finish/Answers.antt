use Rattle.std.proofs.Common.{sym, ◌∙◌}
use Rattle.quota_stream.proofs.Parting.{err_as, grew_none, grew_as, nothing_pending, bytes_some, last_line, last_line_stops}
use Rattle.quota_stream.proofs.replaying.finish.Goals as goal

pub returns-then-not-has_pending-clause-done : goal.returns-then-not-has_pending-clause-done
returns-then-not-has_pending-clause-done g c =
    grew_none _ _ (nothing_pending c.args.replay.now (sym c.has_pending.ensures.pending ∙ c.if-not-has_pending.true) c.has_pending.ensures.few)

pub returns-in_err-end_line-clause-fault : goal.returns-in_err-end_line-clause-fault
returns-in_err-end_line-clause-fault g c =
    err_as c.from_residual.result c.in_err-end_line.field-0.0 _ c.from_residual.ensures
    (grew_as _ _ _ _ c.in_err-end_line.ensures.fault
    (λ writes stops. last_line_stops c.args.replay.now c.in_err-end_line.field-0.0 writes c.has_pending.ensures.plain
    (bytes_some _ (sym c.has_pending.ensures.pending ∙ c.if-not-has_pending.false)) stops))

pub returns-clause-done : goal.returns-clause-done
returns-clause-done g c =
    grew_as _ _ _ _ c.in_ok-end_line.ensures.done
    (λ writes ends. last_line c.args.replay.now _ writes c.has_pending.ensures.plain
    (bytes_some _ (sym c.has_pending.ensures.pending ∙ c.if-not-has_pending.false)) ends)
