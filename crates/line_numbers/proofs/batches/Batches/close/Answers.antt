use Rattle.std.proofs.Common.{◌≡◌, ℕ, List, All, map, true, sym, subst, ap, arith}
use Rattle.rate_types.specs.Sums.{total, times}
use Rattle.line_numbers.specs.Rising.{IsDrawnOnce}
use Rattle.line_numbers.specs.Drawers.{numbers_id, numbers_of, drawn, is_told}
use Rattle.line_numbers.specs.declared.drawer.Drawer.{Drawer}
use Rattle.line_numbers.proofs.Batching.{IsDone, given_once, told_some, all_singles}
use Rattle.line_numbers.proofs.batches.Batches.close.Goals as goal

pub close-requires-clause-drawers : goal.close-requires-clause-drawers
close-requires-clause-drawers c =
    subst (λ l. All (λ (d : Drawer). numbers_of d ≡ numbers_id c.args.self.numbers) l) (sym c.in_ok-drawers.ensures)
    (all_singles (λ d. numbers_of d ≡ numbers_id c.args.self.numbers) c.args.drawers.items (λ k d lt. ap (λ x. x.0) (c.requires.drawers k d lt)))

pub returns : goal.returns
returns c =
    let self = c.args.self in
    let ds = c.args.drawers.items in
    let singles = c.in_ok-drawers.ensures in
    let done : All (IsDone self.lines self.size) ds =
    λ k d lt. ((ap (λ x. x.1) (c.requires.drawers k d lt), ap (λ x. x.2) (c.requires.drawers k d lt)), c.requires.done k d lt) in
    let len = c.args.drawers.ok.0 in
    let every = c.requires.every in
    let some = self.some in
    let all : c.close.result ≡ self.numbers.lines =
    told_some self.lines self.size c.close.result self.numbers.lines ds (omega arith) done
    (subst (λ l. All (λ (d : Drawer). is_told d ≡ true → c.close.result ≡ self.numbers.lines) l) singles c.close.ensures.whole) in
    record {
      once = given_once self.lines self.size self.sized self.numbers.lines self.all.0 ds done
          (λ q. subst (λ (n : ℕ). IsDrawnOnce n q (total (λ d. times q (drawn d)) (map (λ d. d.drawer) ds))) all
          (subst (λ (l : List Drawer). IsDrawnOnce c.close.result q (total (λ d. times q (drawn d)) l)) singles (c.close.ensures.once q)));
    }
