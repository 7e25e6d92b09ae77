use Rattle.std.proofs.Common.{sym, subst}
use Rattle.crossbeam_channel.specs.Claims.{view}
use Rattle.link_handover.specs.Journals.{MayPut}
use Rattle.link_handover.proofs.Steps.{puts_any, nothing_told}
use Rattle.link_handover.proofs.handover.Handover.send.Goals as goal

pub send_as-requires-clause-rule : goal.send_as-requires-clause-rule
send_as-requires-clause-rule g c =
    let i = c.loop.invariant in
    let may = subst (λ m. MayPut m (view c.loop.pass)) (sym i.message) (subst (λ v. MayPut c.args.message v) (sym i.same) c.requires.may) in
    (puts_any _ _ _ _ may, nothing_told _ _)
