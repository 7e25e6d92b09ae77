use Rattle.std.proofs.Common.{rules, ◌≡◌, ◌-◌, take, ◌∷◌, ◌++◌, [], length, map, sym, ap, ◌∙◌, subst, append_assoc}
use Rattle.std.proofs.lemmas.List.{map-append}
use Rattle.counted_checks.specs.Made.{begun, AreUnused}
use Rattle.counted_checks.proofs.Parts.{unused_left}
use Rattle.counted_checks.proofs.made.counted.Goals as goal

pub loop-each-preserved : goal.loop-each-preserved
loop-each-preserved g c =
    let i = c.loop-each.invariant in
    let x = c.in-Some.each in
    let steps = c.in-Some.ensures.steps.0 in
    let stats = c.args.stats.now in
    let done = c.loop-each.yielded in
    let same : c.loop-each.passes.len ≡ length c.loop-each.passes.items = search rules in
    record {
      whole = append_assoc done (x ∷ []) c.next.new.self.rest.items ∙ ap (λ l. done ++ l) (sym steps) ∙ i.whole;
      room = search rules;
      left = unused_left (length c.next.new.self.rest.items) stats c.loop-each.passes.items c.pop-pass.new.self.items
          (subst (λ n. AreUnused n stats c.loop-each.passes.items) (ap length steps) i.left)
          (c.pop-pass.ensures.rest ∙ ap (λ n. take (n - 1) c.loop-each.passes.items) same);
      made = c.push_reserved.ensures.items ∙ ap (λ l. l ++ c.new-in-loop-each.result ∷ []) i.made
          ∙ ap (λ y. map (begun stats) done ++ y ∷ []) (c.new-in-loop-each.ensures ∙ ap (λ s. record { checks = x; stats = s }) c.new.ensures)
          ∙ sym (map-append (begun stats) done (x ∷ []));
    }
