use Rattle.counter_cells.proofs.Handing.{told_back, told_on}
use Rattle.counter_cells.proofs.cells.Cells.reclaim_for.Goals as goal

pub returns-in-Held-clause-reclaim : goal.returns-in-Held-clause-reclaim
returns-in-Held-clause-reclaim g c =
    let r = c.in-Held.ensures.reclaim in
    let t = c.tell_held.ensures in (
      told_back c.args.claimer.now c.reclaim.new.claimer c.tell_held.new.claimer c.args.cell c.in-Held.pins r.0 t.claimer,
      told_on c.args.claimer.now c.reclaim.new.claimer c.args.pass.now c.tell_held.new.pass c.args.cell c.in-Held.pins r.0 t.pass,
      r.1,
    )
