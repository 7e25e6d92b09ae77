use Rattle.std.proofs.Common.{◌≡◌}
use Rattle.counter_directory.specs.Windows.{ExpiredBelow}
use Rattle.counter_directory.proofs.cell_pool.CellPool.expire.Given as goal

abbrev pub invariant-loop-unit : goal.invariant-loop-unit
invariant-loop-unit l = record {
  claims : l.self.claims ≡ l.initial.self.claims;
  reserved : l.self.reserved ≡ l.initial.self.reserved;
  fresh : l.self.fresh ≡ l.initial.self.fresh;
  next_claim : l.self.next_claim ≡ l.initial.self.next_claim;
  cells : l.self.cells ≡ l.initial.self.cells;
  most : l.self.most ≡ l.initial.self.most;
  last : l.self.last ≡ l.fn.moment;
  held : l.self.held ≡ l.initial.self.held;
  expired : ExpiredBelow l.unit l.fn.moment l.self.rings.items;
}
