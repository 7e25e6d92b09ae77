use Rattle.std.proofs.Common.{arith}
use Rattle.std.proofs.lemmas.Grind.{common_steps}
use Rattle.counter_directory.proofs.Starting.{pool_start, lawful_start, windows_start}
use Rattle.counter_directory.proofs.cell_pool.CellPool.make.Goals as goal

pub invariant_of-result : goal.invariant_of-result
invariant_of-result c =
    let e = c.in_ok-rings.ensures in
    record {
      cells_lawful = pool_start c.args.cells c.capped.result _ _ _ _ _ c.new.ensures c.in_ok-expired.ensures.items c.in_ok-held.ensures.items c.in_ok-reserved.ensures.items
          e.1;
      lawful = lawful_start c.args.cells c.args.most _ c.new.ensures;
      four = e.0;
      next_claim_is = grind (arith, common_steps);
      few = omega arith;
      room = (omega (arith, c.in_ok-expired.ensures.exact), omega (arith, c.in_ok-held.ensures.exact), omega (arith, c.in_ok-reserved.ensures.exact), e.2);
      windows = windows_start c.capped.result _ e.1;
      sizes = c.requires;
    }
