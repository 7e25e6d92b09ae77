use Rattle.std.proofs.Common.{◌≤◌, ap, sym, subst, arith}
use Rattle.atomic_table.specs.Table.{Me}
use Rattle.shared_stats.specs.declared.rule.AdderView.{AdderView}
use Rattle.shared_stats.specs.Rule.{greatest_at}
use Rattle.shared_stats.proofs.Amounts.{greatest_more, greatest_here}
use Rattle.shared_stats.proofs.Steps.{finds}
use Rattle.shared_stats.proofs.looking.look.Goals as goal

pub load-requires : goal.load-requires
load-requires c =
    let h = c.requires.here in
    let words = h.words in
    let within = c.requires.within in
    (h.table, omega arith, finds _ _ _ _ _)

pub returns-clause-found : goal.returns-clause-found
returns-clause-found c =
    subst (λ (m : Me _ AdderView). c.load.result ≤ greatest_at c.args.word m.0.found) (sym c.load.ensures.2.0)
    (greatest_here c.args.word c.load.result c.args.seat.now.me.0.found)

pub returns-clause-rest : goal.returns-clause-rest
returns-clause-rest c =
    let e = c.load.ensures.2.0 in
    let old = c.args.seat.now.me.0.found in
    record {
      table = c.load.ensures.0;
      added = ap (λ (m : Me _ AdderView). m.0.added) e;
      found = λ word. subst (λ (m : Me _ AdderView). greatest_at word old ≤ greatest_at word m.0.found) (sym e) (greatest_more word c.args.word c.load.result old);
      passes = ap (λ (m : Me _ AdderView). m.0.passes) e;
      slots = ap (λ (m : Me _ AdderView). m.1) e;
    }
