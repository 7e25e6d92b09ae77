use Rattle.std.proofs.Common.{◌≡◌, ◌∙◌, ◌∷◌, ◌++◌, [], All, true, map, length, sym, subst, ap, arith, rules, append_assoc}
use Rattle.std.specs.Prelude.{IfSome}
use Rattle.std.proofs.lemmas.List.{append-nil, nil_from_length, map-append}
use Rattle.std.proofs.lemmas.List.Elements.{All-pop}
use Rattle.std.proofs.lemmas.Grind.{common_steps}
use Rattle.link_handover.specs.Passes.{TakesFrom, taken_by}
use Rattle.http_serve.specs.Working.{IsReady}
use Rattle.http_serve.specs.declared.worker.Worker.{Worker}
use Rattle.http_serve.proofs.Lists.{all_push}
use Rattle.http_serve.proofs.serving.workers_of.Goals as goal

pub loop-check-preserved : goal.loop-check-preserved
loop-check-preserved g c =
    let inv = c.loop-check.invariant in
    let check = c.in-Some.check in
    let rest = c.next.new.self.rest.items in
    let take = c.in-Some-pop.take in
    let worker : Worker g.row.N.Denot g.row.K.Denot g.N.Link = record { take = take; checks = check; served = c.new.result; is_whole = true } in
    let is : c.loop-check.check-iterator.rest.items ≡ check ∷ rest = c.in-Some.ensures.steps.0 in
    let n = ap length is in
    let popped = All-pop (λ t. TakesFrom c.args.handover.now t × (taken_by t ≡ [])) c.loop-check.takes.items c.pop.new.self.items c.pop.result c.pop.ensures.items inv.takes in
    let fresh = subst (λ r. IfSome r (λ t. TakesFrom c.args.handover.now t × (taken_by t ≡ []))) c.in-Some-pop.is popped.1 in
    let pushed = c.push_reserved.ensures.items in
    record {
      same = ap (λ l. map (λ w. w.checks) l ++ rest) pushed ∙ ap (λ l. l ++ rest) (map-append (λ w. w.checks) c.loop-check.workers.items (worker ∷ []))
          ∙ append_assoc (map (λ w. w.checks) c.loop-check.workers.items) (check ∷ []) rest ∙ ap (λ l. map (λ w. w.checks) c.loop-check.workers.items ++ l) (sym is) ∙ inv.same;
      left = grind (arith, common_steps);
      room = grind (arith, common_steps);
      takes = popped.0;
      ready = subst (λ l. All (λ w. IsReady c.args.handover.now w) l) (sym pushed)
          (all_push (λ w. IsReady c.args.handover.now w) c.loop-check.workers.items worker inv.ready (record { take = fresh.0; taken = fresh.1; served = search rules }));
    }

pub returns-clause-checks : goal.returns-clause-checks
returns-clause-checks g c =
    let inv = c.loop-check.invariant in
    let rest : c.loop-check.check-iterator.rest.items ≡ [] = nil_from_length c.loop-check.check-iterator.rest.items (sym c.loop-check.check-iterator.rest.ok.0
    ∙ c.in-None.ensures.steps.0) in
    sym (append-nil (map (λ w. w.checks) c.loop-check.workers.items)) ∙ ap (λ l. map (λ w. w.checks) c.loop-check.workers.items ++ l) (sym rest) ∙ inv.same
