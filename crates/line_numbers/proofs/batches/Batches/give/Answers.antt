use Rattle.std.proofs.Common.{◌≡◌, ◌+◌, ◌<◌, ◌==◌, ◌∷◌, ◌++◌, [], ℕ, List, All, map, refl, sym, subst, ap, ◌∙◌, arith}
use Rattle.std.proofs.lemmas.List.{map-append}
use Rattle.rate_types.specs.Sums.{times}
use Rattle.line_numbers.specs.Rising.{IsRising}
use Rattle.line_numbers.specs.Within.{within, batched}
use Rattle.line_numbers.specs.Drawers.{drawn}
use Rattle.line_numbers.specs.Batches.{given}
use Rattle.line_numbers.proofs.Rising.{times_append}
use Rattle.line_numbers.proofs.Batching.{rises_more, below_more, first_and_rest}
use Rattle.line_numbers.proofs.batches.Batches.give.Goals as goal

pub invariant_of-drawer : goal.invariant_of-drawer
invariant_of-drawer c =
    let d = c.args.drawer.now in
    let more : map (λ x. x.0) c.and-drawer.result.items ≡ given d ++ d.next ∷ [] =
    ap (map (λ x. x.0)) c.and-drawer.ensures ∙ map-append (λ x. x.0) d.log.items ((d.next, tt) ∷ []) in
    let some = c.requires.some in
    record {
      sized = d.sized;
      ordered = (omega arith, d.ordered.1);
      told = λ h. let e = d.told h in absurd (omega arith);
      each = λ n.
          let a = d.each n in
          let b = times_append n (given d) (d.next ∷ []) in
          let e = first_and_rest d.next d.end n (d.next == n) refl some in
          let step : times n (given d ++ d.next ∷ []) + within (d.next + 1) d.end n ≡ batched d.size d.lines n (drawn d.drawer) = omega arith in
          subst (λ (xs : List ℕ). times n xs + within (d.next + 1) d.end n ≡ batched d.size d.lines n (drawn d.drawer)) (sym more) step;
      below = subst (All (λ n. n < d.next + 1)) (sym more) (below_more (given d) d.next d.below);
      rises = subst IsRising (sym more) (rises_more (given d) d.next d.rises d.below);
      past = d.past;
    }
