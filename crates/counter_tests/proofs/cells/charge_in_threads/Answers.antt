use Rattle.std.proofs.Common.{◌≡◌, [], All, sym, subst}
use Rattle.std.specs.Prelude.{IfSome}
use Rattle.std.proofs.lemmas.List.Elements.{All-push}
use Rattle.counter_tests.proofs.Elements.{all_tail}
use Rattle.counter_tests.proofs.cells.charge_in_threads.Goals as goal

pub loop-charged-preserved : goal.loop-charged-preserved
loop-charged-preserved g c =
    let i = c.loop-charged.invariant in
    let t = all_tail (λ o. IfSome o (λ x. x.pass.good ≡ [])) c.in-Some.charged c.next.new.self.rest.items
    (subst (All (λ o. IfSome o (λ x. x.pass.good ≡ []))) c.in-Some.ensures.steps.0 i.rest) in
    record {
      bare = subst (All (λ p. p.good ≡ [])) (sym c.in_ok-push.ensures.items)
          (All-push (λ p. p.good ≡ []) c.loop-charged.passes.items c.in_ok-charged.charged.pass i.bare
          (subst (λ o. IfSome o (λ x. x.pass.good ≡ [])) c.in_ok-charged.ensures.ok_part t.0));
      rest = t.1;
    }
