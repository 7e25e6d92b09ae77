use Rattle.run_audit.proofs.ChargeOrder.{sorted_chain}
use Rattle.run_audit.proofs.chain.are_chain.Goals as goal

pub returns : goal.returns
returns c =
    sorted_chain c.args.charges.items c.sorted-charges.result.items c.is_chain-chain.result c.sorted-charges.ensures.same
    c.sorted-charges.ensures.sorted cc
