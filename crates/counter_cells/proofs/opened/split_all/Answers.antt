use Rattle.std.proofs.Common.{◌≡◌, ◌+◌, ◌-◌, List, [], ◌∷◌, ◌++◌, sym, ap, ◌∙◌, arith, append_assoc}
use Rattle.counter_cells.specs.declared.view.CellView.{CellView}
use Rattle.counter_cells.specs.Steps.{claimer_left, new_passes}
use Rattle.counter_cells.proofs.Passes.{next_pass}
use Rattle.counter_cells.proofs.opened.split_all.Goals as goal

pub loop-done-preserved : goal.loop-done-preserved
loop-done-preserved g c =
    let i = c.loop-done.invariant in
    let s = c.split-pass.ensures in
    let p = c.args.passes in
    let d = c.loop-done.done in
    let rest = new_passes (p - (d + 1)) c.args.start in
    record {
      here = s.claimer.0;
      left = s.claimer.1 ∙ ap (λ n. (claimer_left g.N.CellNaming.setup n, [])) (let e : p - d - 1 ≡ p - (d + 1) = omega arith in e);
      made = ap (λ (l : List CellView). l ++ rest) c.push_reserved.ensures.items ∙ append_assoc c.loop-done.made.items (c.split-pass.result ∷ []) rest
          ∙ ap (λ (x : CellView). c.loop-done.made.items ++ x ∷ rest) s.pass
          ∙ ap (λ (l : List CellView). c.loop-done.made.items ++ l) (sym (next_pass p d c.args.start c.loop-done-test.true)) ∙ i.made;
      len = c.push_reserved.ensures.len ∙ ap (λ n. n + 1) i.len;
      room = omega (arith, i.room, c.push_reserved.ensures.capacity);
    }
