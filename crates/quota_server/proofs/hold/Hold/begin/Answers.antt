use Rattle.std.proofs.Common.{◌≡◌, ◌++◌, ◌∷◌, [], ◌∙◌, true, false, sym, ap, arith, rules}
use Rattle.std.proofs.lemmas.Grind.{common_steps}
use Rattle.quota_server.specs.Holds.{ends_below, without_smaller}
use Rattle.quota_server.proofs.Skylines.{popped, none_below}
use Rattle.quota_server.proofs.hold.Hold.begin.Goals as goal

pub smaller-preserved : goal.smaller-preserved
smaller-preserved c =
    let below : ends_below c.args.count c.smaller.self-inside.counts.items ≡ true = search rules in
    let before = c.smaller.invariant.1 in (
      popped c.args.count c.smaller.self-inside.counts.items c.pop_back.new.self.items c.pop_back.result below c.pop_back.ensures.items ∙ c.smaller.invariant.0,
      grind (arith, common_steps, before),
      c.pop_back.ensures.capacity ∙ c.smaller.invariant.2,
    )

pub returns : goal.returns
returns c =
    let above : ends_below c.args.count c.smaller.self-inside.counts.items ≡ false = search rules in
    record {
      counts = c.in-Ok.ensures.items ∙ ap (λ ms. ms ++ c.args.count ∷ []) (sym (none_below c.args.count c.smaller.self-inside.counts.items above) ∙ c.smaller.invariant.0
          ∙ ap (λ h. without_smaller c.args.count h.counts) c.self.view_is);
    }
