use Rattle.std.proofs.Common.{◌≡◌, ◌==◌, Some, sym, ◌∙◌}
use Rattle.std.specs.List.{position}
use Rattle.quota_stream.proofs.Parting.{err_as, grew_none, grew_as, no_memory_as, none_plain, front_plain, all_added, line_added, line_not_added}
use Rattle.quota_stream.proofs.replaying.take_first.Goals as goal

pub add-requires : goal.add-requires
add-requires g c = none_plain c.args.bytes.now (sym c.in_default.ensures.at)

pub returns-in_err-add-clause-fault : goal.returns-in_err-add-clause-fault
returns-in_err-add-clause-fault g c =
    err_as c.from_residual.result c.in_err-add.field-0.0 _ c.from_residual.ensures
    (grew_none _ _ (no_memory_as c.args.replay.now c.args.bytes.now c.in_err-add.field-0.0 c.in_err-add.ensures.fault))

pub returns-in_default-clause-took : goal.returns-in_default-clause-took
returns-in_default-clause-took g c = grew_none _ _ (all_added c.args.replay.now _ c.args.bytes.now c.in_ok-add.ensures.added)

pub add-requires-2 : goal.add-requires-2
add-requires-2 g c = front_plain c.args.bytes.now c.in-Some.at (sym c.line_feed.ensures.at ∙ c.in-Some.is)

pub returns-in_err-add-2-clause-fault : goal.returns-in_err-add-2-clause-fault
returns-in_err-add-2-clause-fault g c =
    err_as c.from_residual-in_err-add-2.result c.in_err-add-2.field-0.0 _ c.from_residual-in_err-add-2.ensures
    (grew_none _ _ (no_memory_as c.args.replay.now c.args.bytes.now c.in_err-add-2.field-0.0 c.in_err-add-2.ensures.fault))

pub returns-in_err-end_line-clause-fault : goal.returns-in_err-end_line-clause-fault
returns-in_err-end_line-clause-fault g c =
    let feed : position (λ b. b == 10) c.args.bytes.now ≡ Some c.in-Some.at = sym c.line_feed.ensures.at ∙ c.in-Some.is in
    err_as c.from_residual-in_err-end_line.result c.in_err-end_line.field-0.0 _ c.from_residual-in_err-end_line.ensures
    (grew_as _ _ _ _ c.in_err-end_line.ensures.fault
    (λ writes stops. line_not_added c.args.replay.now _ c.args.bytes.now c.in-Some.at c.in_err-end_line.field-0.0 writes feed
    c.in_ok-add-2.ensures.added c.in_ok-add-2.ensures.plain stops))

pub returns-clause-took : goal.returns-clause-took
returns-clause-took g c =
    let feed : position (λ b. b == 10) c.args.bytes.now ≡ Some c.in-Some.at = sym c.line_feed.ensures.at ∙ c.in-Some.is in
    grew_as _ _ _ _ c.in_ok-end_line.ensures.done
    (λ writes ends. line_added c.args.replay.now _ _ c.args.bytes.now c.in-Some.at writes feed
    c.in_ok-add-2.ensures.added c.in_ok-add-2.ensures.plain ends)
