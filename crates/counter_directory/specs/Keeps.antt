-- Inside: what a change of the pool of cells leaves as it was.
use Rattle.std.specs.Prelude.{◌≡◌}
use Rattle.counter_directory.specs.declared.cell_pool.CellPool.{CellPool}

-- the claims, the rings, the moment and the bounds stay
pub record KeepsClaims (old new : CellPool) : Type 0 where
  pub claims : new.claims ≡ old.claims
  pub rings : new.rings ≡ old.rings
  pub last : new.last ≡ old.last
  pub cells : new.cells ≡ old.cells
  pub most : new.most ≡ old.most

-- no cell and no number was taken, and the bounds stay
pub record KeepsNumbers (old new : CellPool) : Type 0 where
  pub fresh : new.fresh ≡ old.fresh
  pub next_claim : new.next_claim ≡ old.next_claim
  pub cells : new.cells ≡ old.cells
  pub most : new.most ≡ old.most
