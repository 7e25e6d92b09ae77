use Rattle.std.proofs.Common.{◌≡◌, [], All, sym, subst}
use Rattle.std.specs.Prelude.{IfSome}
use Rattle.counter_tests.proofs.Elements.{all_maybe, all_tail}
use Rattle.counter_tests.proofs.cells.charge_all.Goals as goal

pub loop-pass-preserved : goal.loop-pass-preserved
loop-pass-preserved g c =
    let i = c.loop-pass.invariant in
    let t = all_tail (λ o. IfSome o (λ p. p.good ≡ [])) c.in-Some.pass c.next.new.self.rest.items
    (subst (All (λ o. IfSome o (λ p. p.good ≡ []))) c.in-Some.ensures.steps.0 i.rest) in
    record {
      bare = subst (All (λ p. p.good ≡ [])) (sym c.push.ensures.items)
          (all_maybe (λ p. p.good ≡ []) c.loop-pass.passes.items c.in_ok-pass.field-0 _ i.bare (subst (λ o. IfSome o (λ p. p.good ≡ [])) c.in_ok-pass.was t.0));
      rest = t.1;
    }
