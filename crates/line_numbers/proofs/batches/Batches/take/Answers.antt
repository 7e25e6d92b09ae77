use Rattle.std.proofs.Common.{◌≡◌, ◌+◌, ◌*◌, ◌<◌, ◌≤◌, ◌∷◌, ◌++◌, [], ℕ, List, min, sym, subst, ap, ◌∙◌, arith, true≢false, refl}
use Rattle.rate_types.specs.Sums.{times}
use Rattle.line_numbers.specs.Within.{within, batched}
use Rattle.line_numbers.specs.Drawers.{drawn}
use Rattle.line_numbers.specs.Rising.{IsRising}
use Rattle.line_numbers.specs.Batches.{given}
use Rattle.line_numbers.proofs.Joining.{all_next}
use Rattle.line_numbers.proofs.Batching.{front_below, later_start, one_more, starts_below}
use Rattle.line_numbers.proofs.batches.Batches.take.Goals as goal

pub overflow_mul-start : goal.overflow_mul-start
overflow_mul-start c =
    let self = c.args.self.now in
    let e = c.in-Some.ensures in
    let batch = c.in-Some.batch in
    let lt = all_next (λ b. b < self.numbers.lines) (drawn c.args.drawer.now.drawer) [] (drawn c.draw.new.drawer) (batch ∷ []) batch e.below (sym e.drawn) refl in
    let start = starts_below batch self.numbers.lines self.size self.lines lt self.all.1 in
    let few = self.few in
    omega arith

pub invariant_of-drawer-2 : goal.invariant_of-drawer-2
invariant_of-drawer-2 c =
    let self = c.args.self.now in
    let old = c.args.drawer.now in
    let e = c.in-Some.ensures in
    let batch = c.in-Some.batch in
    let lt = all_next (λ b. b < self.numbers.lines) (drawn old.drawer) [] (drawn c.draw.new.drawer) (batch ∷ []) batch e.below (sym e.drawn) refl in
    let start = starts_below batch self.numbers.lines self.size self.lines lt self.all.1 in
    let few = self.few in
    let lines : old.lines ≡ self.lines = ap (λ x. x.1) c.requires.drawer in
    let size : old.size ≡ self.size = ap (λ x. x.2) c.requires.drawer in
    let product : batch * old.size ≡ batch * self.size = ap (λ (k : ℕ). batch * k) size in
    let sum = c.saturating_add.ensures in
    let m = c.min-drawer.ensures in
    let end : c.min-drawer.result ≡ min (batch * old.size + old.size) old.lines = omega arith in
    let front = front_below (drawn old.drawer) batch (subst IsRising e.drawn e.rising) in
    let past : old.end ≤ batch * old.size = old.past batch front in
    let some = old.sized in
    record {
      sized = old.sized;
      ordered = (omega arith, omega arith);
      told = λ h. absurd (true≢false (sym h ∙ e.told));
      each = λ n.
          subst (λ (xs : List ℕ). times n (given old) + within (batch * self.size) c.min-drawer.result n ≡ batched old.size old.lines n xs) (sym e.drawn)
          (subst (λ (k : ℕ). times n (given old) + within k c.min-drawer.result n ≡ batched old.size old.lines n (drawn old.drawer ++ batch ∷ [])) product
          (subst (λ (k : ℕ). times n (given old) + within (batch * old.size) k n ≡ batched old.size old.lines n (drawn old.drawer ++ batch ∷ [])) (sym end)
          (one_more old.size old.lines n batch (drawn old.drawer) (times n (given old)) old.next old.end c.requires.empty old.ordered.0 (old.each n))));
      below = λ k d within. let b = old.below k d within in let o = old.ordered in let m = c.requires.empty in omega arith;
      rises = old.rises;
      past = λ later all.
          let last = all_next (λ b. b < later) (drawn old.drawer) [] (drawn c.draw.new.drawer) (batch ∷ []) batch all (sym e.drawn) refl in
          let l = later_start batch later old.size last in
          omega arith;
    }

pub returns-clause-some : goal.returns-clause-some
returns-clause-some c is =
    let self = c.args.self.now in
    let e = c.in-Some.ensures in
    let batch = c.in-Some.batch in
    let lt = all_next (λ b. b < self.numbers.lines) (drawn c.args.drawer.now.drawer) [] (drawn c.draw.new.drawer) (batch ∷ []) batch e.below (sym e.drawn) refl in
    let start = starts_below batch self.numbers.lines self.size self.lines lt self.all.1 in
    let few = self.few in
    let some = self.sized in
    let sum = c.saturating_add.ensures in
    let m = c.min-drawer.ensures in
    (omega arith, e.told)
