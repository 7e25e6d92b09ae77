use Rattle.std.proofs.Common.{◌≡◌, ◌++◌, ◌∷◌, [], map, true, length, sym, ap, ◌∙◌, arith, append_assoc}
use Rattle.std.proofs.lemmas.List.{map-append}
use Rattle.std.proofs.lemmas.Grind.{common_steps}
use Rattle.http_serve.proofs.Lists.{all_push}
use Rattle.http_serve.proofs.serving.parts_of.Goals as goal

pub loop-worker-preserved : goal.loop-worker-preserved
loop-worker-preserved g c =
    let inv = c.loop-worker.invariant in
    let w = c.in-Some.worker in
    let done = c.loop-worker.yielded in
    let rest = c.next.new.self.rest.items in
    let is : c.loop-worker.worker-iterator.rest.items ≡ w ∷ rest = c.in-Some.ensures.steps.0 in
    let n = ap length is in
    record {
      whole_list = append_assoc done (w ∷ []) rest ∙ ap (λ l. done ++ l) (sym is) ∙ inv.whole_list;
      takes = c.push_reserved.ensures.items ∙ ap (λ l. l ++ w.take ∷ []) inv.takes ∙ sym (map-append (λ v. v.take) done (w ∷ []));
      checks = c.push_reserved-in-loop-worker.ensures.items ∙ ap (λ l. l ++ w.checks ∷ []) inv.checks ∙ sym (map-append (λ v. v.checks) done (w ∷ []));
      lists = c.push_reserved-in-loop-worker-2.ensures.items ∙ ap (λ l. l ++ c.of.result ∷ []) inv.lists ∙ ap (λ x. map (λ v. v.served.items) done ++ x ∷ []) c.of.ensures
          ∙ sym (map-append (λ v. v.served.items) done (w ∷ []));
      whole = all_push (λ v. v.is_whole ≡ true) done w inv.whole c.if-not-is_whole.false;
      takes_room = grind (arith, common_steps);
      checks_room = grind (arith, common_steps);
      lists_room = grind (arith, common_steps);
    }
