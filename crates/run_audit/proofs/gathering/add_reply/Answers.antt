use Rattle.std.proofs.Common.{◌++◌, sym, ap, ◌∙◌, arith, append-nil}
use Rattle.run_audit.specs.Shown.{shown_in}
use Rattle.run_audit.proofs.Gathered.{none_left}
use Rattle.run_audit.proofs.gathering.add_reply.Goals as goal

pub returns : goal.returns
returns c =
    let none = none_left c.args.kind c.args.request.now c.args.moment c.statuses.i c.descriptors-descriptors.result.now c.args.statuses.now
    (omega (arith, c.min-number.ensures, c.statuses-test.false)) in
    sym (append-nil c.statuses.charges.items) ∙ ap (λ xs. c.statuses.charges.items ++ xs) (sym none) ∙ c.statuses.invariant
    ∙ ap (λ ds. c.args.charges.now.items ++ shown_in c.args.kind c.args.request.now c.args.moment ds c.args.statuses.now)
    c.descriptors-descriptors.ensures.all
