use Rattle.std.proofs.Common.{ap, arith}
use Rattle.link_handover.proofs.Steps.{forks}
use Rattle.link_handover.proofs.handover.Handover.taker.Goals as goal

pub another-pass-requires-clause-rule : goal.another-pass-requires-clause-rule
another-pass-requires-clause-rule g c = forks _ _ c.args.put.now.puts (let few = c.requires.few in omega arith)

pub returns-clause-takers : goal.returns-clause-takers
returns-clause-takers g c =
    let few = c.requires.few in
    let most = c.args.put.now.few in
    let parts = ap (λ v. v.parts) c.another-pass.ensures.rule.0 in
    omega arith
