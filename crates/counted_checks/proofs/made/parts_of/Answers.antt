use Rattle.std.proofs.Common.{rules, ◌∷◌, ◌++◌, [], map, sym, ap, ◌∙◌, subst, append_assoc}
use Rattle.std.specs.List.{filter_map}
use Rattle.std.proofs.lemmas.List.{map-append}
use Rattle.counted_checks.specs.Made.{AreGivenBack}
use Rattle.counted_checks.proofs.Parts.{given_with, given_without}
use Rattle.counted_checks.proofs.made.parts_of.Goals as goal

pub loop-each-preserved-in-Some-pass : goal.loop-each-preserved-in-Some-pass
loop-each-preserved-in-Some-pass g c =
    let i = c.loop-each.invariant in
    let x = c.in-Some.each in
    let done = c.loop-each.yielded in
    record {
      whole = append_assoc done (x ∷ []) c.next.new.self.rest.items ∙ ap (λ l. done ++ l) (sym c.in-Some.ensures.steps.0) ∙ i.whole;
      room = search rules;
      space = search rules;
      checks = c.push_reserved.ensures.items ∙ ap (λ l. l ++ c.into_parts-one.result.0 ∷ []) i.checks
          ∙ ap (λ y. map (λ k. k.checks) done ++ y ∷ []) c.into_parts-one.ensures.checks ∙ sym (map-append (λ k. k.checks) done (x ∷ []));
      passes = subst (λ l. AreGivenBack l (filter_map (λ k. k.stats) (done ++ x ∷ []))) (sym c.push_reserved-in-Some-pass.ensures.items)
          (given_with c.loop-each.passes.items done x c.into_parts-one.result.1 c.in-Some-pass.pass i.passes c.into_parts-one.ensures.stats c.in-Some-pass.is);
    }

pub loop-each-preserved : goal.loop-each-preserved
loop-each-preserved g c =
    let i = c.loop-each.invariant in
    let x = c.in-Some.each in
    let done = c.loop-each.yielded in
    record {
      whole = append_assoc done (x ∷ []) c.next.new.self.rest.items ∙ ap (λ l. done ++ l) (sym c.in-Some.ensures.steps.0) ∙ i.whole;
      room = search rules;
      space = search rules;
      checks = c.push_reserved.ensures.items ∙ ap (λ l. l ++ c.into_parts-one.result.0 ∷ []) i.checks
          ∙ ap (λ y. map (λ k. k.checks) done ++ y ∷ []) c.into_parts-one.ensures.checks ∙ sym (map-append (λ k. k.checks) done (x ∷ []));
      passes = given_without c.loop-each.passes.items done x c.into_parts-one.result.1 i.passes c.into_parts-one.ensures.stats c.in_default.is;
    }
