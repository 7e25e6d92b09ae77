use Rattle.std.proofs.Common.{◌≡◌, ap, ◌∙◌, sym, subst, cond, Some}
use Rattle.std.specs.BTreeMap.{is_at}
use Rattle.std.specs.Map.{lookup}
use Rattle.rate_types.specs.Counters.{key_cmp, same_counter}
use Rattle.rate_types.specs.contracts.counter_key.CounterKeyOrd.TheImpl.Laws.{matches_eq-law}
use Rattle.rls_core.specs.Sums.{Sums, AreOpen}
use Rattle.rls_core.proofs.Ends.{open_insert}
use Rattle.rls_core.proofs.counter_sums.CounterSums.put.Goals as goal

pub returns-clause-found : goal.returns-clause-found
returns-clause-found c = λ q.
    let P : Sums → Type 0 = λ sums. lookup (is_at (key_cmp q)) c.insert.new.self.entries
    ≡ cond (same_counter c.args.counter q) (Some c.args.sum) (lookup (is_at (key_cmp q)) sums) in
    subst P c.self.view_is (c.in_ok-insert.ensures.updates.0 q
    ∙ ap (λ b. cond b (Some c.args.sum) (lookup (is_at (key_cmp q)) c.self.inside.sums.entries)) (sym (matches_eq-law c.args.counter q)))

pub returns-clause-open : goal.returns-clause-open
returns-clause-open c m later before =
    let inside : AreOpen m c.self.inside.sums.entries = subst (AreOpen m) (sym c.self.view_is) before in
    subst (AreOpen m) (sym c.in_ok-insert.ensures.entries) (open_insert m c.self.inside.sums.entries c.args.counter c.args.sum later inside)
