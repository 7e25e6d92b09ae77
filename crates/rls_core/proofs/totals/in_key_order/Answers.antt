use Rattle.std.proofs.Common.{sym, subst, rules}
use Rattle.std.proofs.lemmas.List.Sorted.{ranks_by, answers_always}
use Rattle.rate_types.specs.contracts.counter_key.CounterKeyOrd.TheImpl.Laws.{total-law}
use Rattle.rls_core.specs.declared.totals.Total.{Total}
use Rattle.rls_core.specs.Totals.{AreTotals}
use Rattle.rls_core.proofs.Ordered.{is_below, are_totals}
use Rattle.rls_core.proofs.totals.in_key_order.Goals as goal

pub returns-clause-totals : goal.returns-clause-totals
returns-clause-totals c charged moment have =
    let sort = c.sort_unstable_by.ensures in
    let up = sort.sorted is_below (ranks_by total-law (λ (t : Total). t.key)) (answers_always _ _ _ (λ f a r g h. search rules)) in
    subst (AreTotals charged moment) (sym c.of.ensures) (are_totals c.args.totals.items c.sort_unstable_by.new.self.items sort.permutation up charged moment have)
