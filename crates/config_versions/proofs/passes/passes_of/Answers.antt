use Rattle.std.proofs.Common.{◌∙◌, [], ◌∷◌, ◌++◌, All, map, sym, subst, ap, arith, append_assoc}
use Rattle.std.proofs.lemmas.List.Elements.{All-push}
use Rattle.std.proofs.lemmas.List.{map-append}
use Rattle.std.proofs.lemmas.Grind.{common_steps}
use Rattle.std.specs.Arc.{arc_value}
use Rattle.told_list.specs.Tokens.{view, IsFresh}
use Rattle.config_versions.specs.PassState.{IsFirst}
use Rattle.config_versions.specs.Passes.{pass_state}
use Rattle.config_versions.proofs.Lists.{all_rest}
use Rattle.config_versions.proofs.passes.passes_of.Goals as goal

pub loop-seen-preserved : goal.loop-seen-preserved
loop-seen-preserved g c =
    let i = c.loop-seen.invariant in
    let s = c.in-Some.seen in
    let pass = c.first_pass-pass.result in
    let first = c.args.first.now in
    let steps = c.in-Some.ensures.steps.0 in
    let rest = subst (All (λ x. IsFresh (arc_value first ∷ []) (view x))) steps i.rest in
    record {
      whole = append_assoc c.loop-seen.yielded (s ∷ []) c.next.new.self.rest.items ∙ ap (λ l. c.loop-seen.yielded ++ l) (sym steps) ∙ i.whole;
      same = ap (map (λ p. p.seen)) c.push_reserved.ensures.items ∙ map-append (λ p. p.seen) c.loop-seen.passes.items (pass ∷ []) ∙ ap (λ l. l ++ pass.seen ∷ []) i.same
          ∙ ap (λ x. c.loop-seen.yielded ++ x ∷ []) c.first_pass-pass.ensures.token;
      first =
          subst (All (λ p. IsFirst (arc_value first) (pass_state p))) (sym c.push_reserved.ensures.items)
          (All-push (λ p. IsFirst (arc_value first) (pass_state p)) c.loop-seen.passes.items pass i.first
          (subst (λ v. IsFirst v (pass_state pass)) c.in_ok-index.ensures c.first_pass-pass.ensures.first));
      rest = all_rest (λ x. IsFresh (arc_value first ∷ []) (view x)) s c.next.new.self.rest.items rest;
      room = grind (arith, common_steps);
    }
