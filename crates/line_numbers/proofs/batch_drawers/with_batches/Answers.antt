use Rattle.std.proofs.Common.{◌≡◌, ◌∙◌, ◌∷◌, ◌++◌, [], All, length, sym, subst, ap, arith, append_assoc, length-append}
use Rattle.line_numbers.specs.Drawers.{numbers_id, numbers_of, IsFresh}
use Rattle.line_numbers.specs.Batches.{batches_of, IsNew}
use Rattle.line_numbers.proofs.Joining.{all_next}
use Rattle.std.proofs.lemmas.List.Elements.{All-push}
use Rattle.line_numbers.proofs.batch_drawers.with_batches.Goals as goal

pub loop-drawer-preserved : goal.loop-drawer-preserved
loop-drawer-preserved c =
    let i = c.loop-drawer.invariant in
    let d = c.in-Some.drawer in
    let steps = c.in-Some.ensures.steps.0 in
    let rest = ap length steps in
    let pushed = c.push_reserved.ensures in
    let here = all_next (λ x. (numbers_of x ≡ numbers_id c.args.numbers.now) × IsFresh x) c.loop-drawer.yielded _ _ _ d c.requires.drawers i.whole steps in
    let made = c.with_no_batch.ensures in
    let l = length-append c.loop-drawer.yielded (d ∷ []) in
    record {
      whole = append_assoc c.loop-drawer.yielded (d ∷ []) c.next.new.self.rest.items ∙ ap (λ l. c.loop-drawer.yielded ++ l) (sym steps) ∙ i.whole;
      count = let a = pushed.len in let b = i.count in omega arith;
      room = let a = pushed.len in let b = pushed.capacity in let r = i.room in omega arith;
      fresh = subst (λ l. All (λ d. (batches_of d ≡ (numbers_id c.args.numbers.now, c.args.lines, c.args.size)) × IsNew d) l) (sym pushed.items)
          (All-push (λ d. (batches_of d ≡ (numbers_id c.args.numbers.now, c.args.lines, c.args.size)) × IsNew d) c.loop-drawer.made.items c.with_no_batch.result i.fresh (let a = made.0 in let b = made.1 in let e = made.2 in let h = here.0 in cc, made.3));
    }
