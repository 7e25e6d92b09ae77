use Rattle.std.proofs.Common.{arith, ap, ◌∙◌}
use Rattle.link_handover.proofs.Steps.{takes_one, nothing_told}
use Rattle.link_handover.proofs.handover.Handover.take.Goals as goal

pub recv_as-requires-clause-rule : goal.recv_as-requires-clause-rule
recv_as-requires-clause-rule g c =
    let same = c.loop.invariant.same in
    let takes = c.args.pass.now.takes in
    let parts = ap (λ v. v.parts) same in
    (takes_one _ _ (ap (λ v. v.puts) same ∙ takes.0) (omega arith), nothing_told _ _)
