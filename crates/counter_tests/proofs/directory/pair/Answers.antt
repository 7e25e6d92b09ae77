use Rattle.std.proofs.Common.{◌≡◌, [], All, sym, subst}
use Rattle.std.specs.Prelude.{IfSome}
use Rattle.std.proofs.lemmas.List.Elements.{All-pop}
use Rattle.counter_directory.specs.Passes.{list_of}
use Rattle.counter_tests.proofs.Elements.{all_tail, all_maybe}
use Rattle.counter_tests.proofs.directory.pair.Goals as goal

pub loop-cell_pass-preserved : goal.loop-cell_pass-preserved
loop-cell_pass-preserved g c =
    let i = c.loop-cell_pass.invariant in
    let id = c.args.directory.now.list_id in
    let t = all_tail (λ h. h.good ≡ []) c.in-Some.cell_pass c.next.new.self.rest.items (subst (All (λ h. h.good ≡ [])) c.in-Some.ensures.steps.0 i.rest) in
    let p = All-pop (λ s. list_of s ≡ id) c.loop-cell_pass.passes.items c.pop.new.self.items c.pop.result c.pop.ensures.items i.passes in
    record {
      workers = subst (All (λ w. (w.cell_pass.good ≡ []) × (list_of w.pass ≡ id))) (sym c.push.ensures.items)
          (all_maybe (λ w. (w.cell_pass.good ≡ []) × (list_of w.pass ≡ id)) c.loop-cell_pass.workers.items _ _ i.workers
          (t.0, subst (λ o. IfSome o (λ s. list_of s ≡ id)) c.in_ok-pass.was p.1));
      rest = t.1;
      passes = p.0;
    }
