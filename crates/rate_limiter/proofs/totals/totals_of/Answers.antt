use Rattle.std.proofs.Common.{◌≡◌, ◌∙◌, ◌<◌, ◌∷◌, ◌++◌, [], All, length, sym, subst, ap, append_assoc}
use Rattle.std.proofs.lemmas.List.{append-nil}
use Rattle.counter_directory.specs.declared.closed.OpenClaim.{OpenClaim}
use Rattle.rls_core.specs.Totals.{HaveTotals}
use Rattle.rate_limiter.specs.Summed.{open_totals}
use Rattle.rate_limiter.proofs.Making.{all_tail}
use Rattle.rate_limiter.proofs.Summing.{none_left, totals_append, have_totals}
use Rattle.rate_limiter.proofs.totals.totals_of.Goals as goal

pub loop-claim-preserved : goal.loop-claim-preserved
loop-claim-preserved c =
    let i = c.loop-claim.invariant in
    let x = c.in-Some.claim in
    let steps = c.in-Some.ensures.steps.0 in
    let IsCell : OpenClaim → Type 0 = λ y. y.spot.cell < length c.args.counts.now in
    let t = all_tail IsCell x c.next.new.self.rest.items (subst (All IsCell) steps i.rest) in
    record {
      whole = append_assoc c.loop-claim.yielded (x ∷ []) c.next.new.self.rest.items ∙ ap (λ l. c.loop-claim.yielded ++ l) (sym steps) ∙ i.whole;
      rest = t.1;
      counted = c.in_ok-add_count.ensures ∙ ap (λ l. l ++ open_totals c.args.moment c.args.counts.now (x ∷ [])) i.counted
          ∙ sym (totals_append c.args.moment c.args.counts.now c.loop-claim.yielded (x ∷ []));
    }

pub returns : goal.returns
returns c charged all claims =
    let i = c.loop-claim.invariant in
    let none : c.loop-claim.claim-iterator.rest.items ≡ []
    = none_left c.loop-claim.claim-iterator.rest.items (sym c.loop-claim.claim-iterator.rest.ok.0 ∙ c.in-None.ensures.steps.0) in
    let whole : c.loop-claim.yielded ≡ c.args.claims.items = sym (append-nil c.loop-claim.yielded) ∙ ap (λ l. c.loop-claim.yielded ++ l) (sym none) ∙ i.whole in
    let counted = i.counted ∙ ap (open_totals c.args.moment c.args.counts.now) whole in
    c.in_key_order.ensures.totals charged c.args.moment
    (subst (HaveTotals charged c.args.moment) (sym counted) (have_totals c.args.moment c.args.counts.now c.args.claims.items c.requires.once charged all claims))
