use Rattle.std.proofs.Common.{ap, ◌∙◌, arith}
use Rattle.counter_cells.specs.declared.view.CellView.{CellView}
use Rattle.counter_directory.proofs.Acquiring.{told_none, told_one}
use Rattle.counter_directory.proofs.Opening.{fresh_cell, gates_to, gates_claimed, gates_same, held_since_reserved, held_since_same}
use Rattle.counter_directory.proofs.Indexing.{index_to}
use Rattle.counter_directory.proofs.claim_table.ClaimTable.try_fresh.Goals as goal

pub invariant_of-self : goal.invariant_of-self
invariant_of-self g c =
    let b = c.args.self.now in
    let m = fresh_cell b.pool.cells b.pool.last b.pool.fresh _ b.pool.claims _ _ _ b.pool.reserved.items b.pool.cells_lawful in
    let e = c.reserve_fresh.ensures in
    record {
      size = e.keeps.cells ∙ b.size;
      heard = omega (arith, e.keeps.last, b.heard, ap (λ (v : CellView). v.heard) c.in-Claimed.ensures.reclaim.0);
      gates = gates_to _ _ _ _ _ _ _ _ _ _ _ e.keeps.cells e.keeps.last e.next_claim e.keeps.claims e.reserved
          (gates_claimed b.claimer _ b.pool.cells b.pool.most b.pool.last b.pool.next_claim b.pool.fresh b.pool.claims b.pool.reserved.items c.requires.some m.0 m.1
          b.pool.lawful c.in-Claimed.ensures.reclaim.0 b.gates);
      found = index_to _ _ _ _ _ e.keeps.last e.keeps.claims b.found;
    }

pub invariant_of-self-in-Held : goal.invariant_of-self-in-Held
invariant_of-self-in-Held g c =
    let b = c.args.self.now in
    record {
      size = b.size;
      heard = omega (arith, b.heard, ap (λ (v : CellView). v.heard) c.in-Held.ensures.reclaim.0);
      gates = gates_same b.claimer _ b.pool.cells b.pool.last b.pool.next_claim b.pool.claims b.pool.reserved.items c.in-Held.ensures.reclaim.0 b.gates;
      found = b.found;
    }

pub returns-in-Held-clause-held : goal.returns-in-Held-clause-held
returns-in-Held-clause-held g c =
    held_since_reserved c.args.cell_pass.now _ c.args.self.now.pool.fresh c.in-Held.pins c.args.self.now.pool.held.items c.in-Held.ensures.reclaim.1

pub returns-in-Held-clause-told : goal.returns-in-Held-clause-told
returns-in-Held-clause-told g c = told_one c.args.cell_pass.now _ c.args.self.now.pool.fresh c.in-Held.pins c.in-Held.ensures.reclaim.1

pub returns-in-Claimed-clause-told : goal.returns-in-Claimed-clause-told
returns-in-Claimed-clause-told g c = told_none c.args.cell_pass.now _ c.in-Claimed.ensures.reclaim.1

pub returns-in-Claimed-clause-held : goal.returns-in-Claimed-clause-held
returns-in-Claimed-clause-held g c =
    held_since_same c.args.cell_pass.now c.reclaim_for.new.pass c.args.self.now.pool.held.items _ (ap (λ (v : CellView). v.held) c.in-Claimed.ensures.reclaim.1)
    (ap (λ z. z.items) c.reserve_fresh.ensures.same.1)
