use Rattle.std.proofs.Common.{ap, ◌∙◌, arith}
use Rattle.counter_directory.proofs.Opening.{gates_to, gates_later}
use Rattle.counter_directory.proofs.Indexing.{index_to, index_turned}
use Rattle.counter_directory.proofs.claim_table.ClaimTable.expire.Goals as goal

pub turn_all-requires : goal.turn_all-requires
turn_all-requires g c = omega (arith, c.args.self.now.index.ok.0, c.args.self.now.found.four)

pub invariant_of-self : goal.invariant_of-self
invariant_of-self g c =
    let b = c.args.self.now in
    let e = c.expire.ensures in
    let t = c.turn_all.new.units in
    record {
      size = e.numbers.cells ∙ b.size;
      heard = omega (arith, e.last, c.requires.1);
      gates = gates_to _ _ _ _ _ _ _ _ _ _ _ e.numbers.cells e.last e.numbers.next_claim e.same.0 (ap (λ z. z.items) e.same.1)
          (gates_later b.claimer b.pool.cells b.pool.last c.args.moment b.pool.next_claim b.pool.claims b.pool.reserved.items c.requires.0 b.gates);
      found = index_to _ _ _ _ _ e.last e.same.0
          (index_turned b.pool.last c.args.moment b.pool.claims b.index.items t.items c.requires.0 (omega (arith, t.ok.0, c.turn_all.ensures.four)) c.turn_all.ensures.turned
          b.found);
    }
