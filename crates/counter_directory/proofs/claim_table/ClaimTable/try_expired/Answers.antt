use Rattle.std.proofs.Common.{◌≡◌, ℕ, ◌-◌, ◌≤◌, ◌<◌, [], ◌∷◌, ◌++◌, get_or, sym, ap, ◌∙◌, arith}
use Rattle.std.specs.Prelude.{vec_len}
use Rattle.counter_directory.specs.declared.cell_pool.CellPool.{CellPool}
use Rattle.counter_directory.specs.Claims.{last_end}
use Rattle.counter_directory.specs.Pool.{spot, reserved_on}
use Rattle.counter_directory.proofs.Lists.{last_expired}
use Rattle.counter_directory.proofs.Opening.{expired_cell, gates_to, gates_claimed, gates_same, held_since_held, held_since_same}
use Rattle.counter_cells.specs.declared.view.CellView.{CellView}
use Rattle.counter_directory.proofs.Acquiring.{told_none, told_one}
use Rattle.counter_directory.proofs.Indexing.{index_to}
use Rattle.counter_directory.proofs.claim_table.ClaimTable.try_expired.Goals as goal

-- the cell read may be taken
may : (s : CellPool) (n cell : ℕ) → n ≡ vec_len s.expired → 0 < vec_len s.expired → cell ≡ get_or s.expired.items (n - 1) cell → (cell < s.cells)
    × (reserved_on cell s.reserved.items ≡ 0) × (last_end 0 cell s.claims ≤ s.last)
may s n cell len some is =
    expired_cell s.cells s.last _ _ n cell cell s.claims _ s.expired.items _ s.reserved.items (omega (arith, s.expired.ok.0)) (omega arith) is s.cells_lawful

pub reclaim_for-requires-clause-cell : goal.reclaim_for-requires-clause-cell
reclaim_for-requires-clause-cell g c =
    let b = c.args.self.now in
    let m = may b.pool c.len.result c.index-cell.result.now c.len.ensures c.requires.some c.index-cell.ensures in
    omega (arith, b.size, m.0)

pub invariant_of-self : goal.invariant_of-self
invariant_of-self g c =
    let b = c.args.self.now in
    let m = may b.pool c.len.result c.index-cell.result.now c.len.ensures c.requires.some c.index-cell.ensures in
    let e = c.reserve_expired.ensures in
    let k = last_expired b.pool.expired.items _ e.reserved.0 c.index-cell.result.now c.index-cell.result.now c.len.result e.reserved.1
    (omega (arith, b.pool.expired.ok.0, c.len.ensures)) c.index-cell.ensures in
    record {
      size = e.keeps.cells ∙ b.size;
      heard = omega (arith, e.keeps.last, b.heard, ap (λ (v : CellView). v.heard) c.in-Claimed.ensures.reclaim.0);
      gates = gates_to _ _ _ _ _ _ _ _ _ _ _ e.keeps.cells e.keeps.last e.next_claim e.keeps.claims
          (e.reserved.2 ∙ ap (λ z. b.pool.reserved.items ++ spot z b.pool.next_claim ∷ []) (sym k))
          (gates_claimed b.claimer _ b.pool.cells b.pool.most b.pool.last b.pool.next_claim c.index-cell.result.now b.pool.claims b.pool.reserved.items m.0 m.1 m.2
          b.pool.lawful c.in-Claimed.ensures.reclaim.0 b.gates);
      found = index_to _ _ _ _ _ e.keeps.last e.keeps.claims b.found;
    }

pub invariant_of-self-in-Held : goal.invariant_of-self-in-Held
invariant_of-self-in-Held g c =
    let b = c.args.self.now in
    let e = c.hold_expired.ensures in
    record {
      size = e.keeps.cells ∙ b.size;
      heard = omega (arith, e.keeps.last, b.heard, ap (λ (v : CellView). v.heard) c.in-Held.ensures.reclaim.0);
      gates = gates_to _ _ _ _ _ _ _ _ _ _ _ e.keeps.cells e.keeps.last e.numbers.next_claim e.keeps.claims (ap (λ z. z.items) e.same)
          (gates_same b.claimer _ b.pool.cells b.pool.last b.pool.next_claim b.pool.claims b.pool.reserved.items c.in-Held.ensures.reclaim.0 b.gates);
      found = index_to _ _ _ _ _ e.keeps.last e.keeps.claims b.found;
    }

pub returns-in-Held-clause-held : goal.returns-in-Held-clause-held
returns-in-Held-clause-held g c =
    let b = c.args.self.now in
    let e = c.hold_expired.ensures in
    held_since_held c.args.cell_pass.now _ e.held.0 c.index-cell.result.now c.in-Held.pins b.pool.held.items _ c.in-Held.ensures.reclaim.1 e.held.2
    (last_expired b.pool.expired.items _ e.held.0 c.index-cell.result.now c.index-cell.result.now c.len.result e.held.1
    (omega (arith, b.pool.expired.ok.0, c.len.ensures)) c.index-cell.ensures)

pub returns-in-Held-clause-told : goal.returns-in-Held-clause-told
returns-in-Held-clause-told g c = told_one c.args.cell_pass.now _ c.index-cell.result.now c.in-Held.pins c.in-Held.ensures.reclaim.1

pub returns-in-Claimed-clause-told : goal.returns-in-Claimed-clause-told
returns-in-Claimed-clause-told g c = told_none c.args.cell_pass.now _ c.in-Claimed.ensures.reclaim.1

pub returns-in-Claimed-clause-held : goal.returns-in-Claimed-clause-held
returns-in-Claimed-clause-held g c =
    held_since_same c.args.cell_pass.now c.reclaim_for.new.pass c.args.self.now.pool.held.items _ (ap (λ (v : CellView). v.held) c.in-Claimed.ensures.reclaim.1)
    (ap (λ z. z.items) c.reserve_expired.ensures.same.0)
