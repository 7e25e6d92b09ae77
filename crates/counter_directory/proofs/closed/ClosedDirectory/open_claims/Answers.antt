use Rattle.std.proofs.Common.{◌≡◌, subst, arith}
use mathlib.Core.Option.{some}
use lib.ListN.{get_elem?}
use Rattle.counter_directory.proofs.Lists.{at_index}
use Rattle.counter_directory.proofs.Open.{open_more}
use Rattle.counter_directory.proofs.closed.ClosedDirectory.open_claims.Goals as goal

pub loop-unit-preserved : goal.loop-unit-preserved
loop-unit-preserved g c =
    let d = c.args.self.now in
    let i = c.loop-unit.unit-index in
    let x = c.unit-item.result in
    open_more i d.last d.claims d.index.items x c.loop-unit.list.items c.add_open.new.list.items d.found
    (subst (λ l. get_elem? l i ≡ some x) c.deref-unit-items.ensures.value (at_index c.deref-unit-items.result.now i x (omega arith) c.unit-item.is))
    c.add_open.ensures.found c.add_open.ensures.unique c.in_ok-add_open.ensures.items c.loop-unit.invariant
