use Rattle.std.proofs.Common.{refl, ap, arith}
use Rattle.counter_cells.specs.declared.view.CellView.{CellView}
use Rattle.counter_directory.proofs.Opening.{gates_heard}
use Rattle.counter_directory.proofs.claim_table.ClaimTable.tick.Goals as goal

pub invariant_of-self : goal.invariant_of-self
invariant_of-self g c =
    let b = c.args.self.now in
    let e = c.tick_up.ensures in
    record {
      size = b.size;
      heard = omega (arith, e.moment.1, e.heard);
      gates = gates_heard b.claimer _ b.pool.cells b.pool.last b.pool.next_claim b.pool.claims b.pool.reserved.items e.claimer b.gates;
      found = b.found;
    }

pub returns-clause-same : goal.returns-clause-same
returns-clause-same g c = (refl, refl, ap (λ (v : CellView). v.used_claims) c.tick_up.ensures.claimer)
