use Rattle.std.proofs.Common.{ap, arith}
use Rattle.counter_directory.specs.Passes.{knows}
use Rattle.counter_cells.specs.declared.view.CellView.{CellView}
use Rattle.rate_limiter.specs.Known.{pins_under}
use Rattle.rate_limiter.proofs.ConsistentCounters.{consistent_pins}
use Rattle.rate_limiter.proofs.pass_counters.PassCounters.tick.Goals as goal

pub invariant_of-self : goal.invariant_of-self
invariant_of-self g c =
    let e = c.tick.ensures.ticked in
    consistent_pins g.N.CellNaming.setup.cells (knows c.self.inside.claims).known c.self.inside.cells c.self.inside.known c.self.inside.looks c.self.invariant c.tick.new.pass
    (λ cell number. let f = ap (λ (x : CellView). pins_under cell number x.pairs) e in omega arith)
    (record { looks = ap (λ (x : CellView). x.looks) e; charges = ap (λ (x : CellView). x.charges) e })
