use Rattle.std.proofs.Common.{◌≡◌, ◌∙◌, ◌∷◌, ◌++◌, [], map, length, sym, subst, ap, arith, append_assoc}
use Rattle.std.specs.Prelude.{IfSome}
use Rattle.std.specs.List.{AllByRecursion}
use Rattle.std.proofs.lemmas.List.{map-append}
use Rattle.std.proofs.lemmas.List.Elements.{All-pop}
use Rattle.std.proofs.lemmas.Grind.{common_steps}
use Rattle.line_numbers.specs.Batches.{batches_id, batches_of, IsNew}
use Rattle.worker_run.specs.Parts.{AreWorkers}
use Rattle.worker_run.specs.declared.working.Worker.{Worker}
use Rattle.worker_run.proofs.Gathering.{workers_more}
use Rattle.worker_run.proofs.running.workers_of.Goals as goal

pub loop-pass-preserved : goal.loop-pass-preserved
loop-pass-preserved g c =
    let inv = c.loop-pass.invariant in
    let pass = c.in-Some.pass in
    let rest = c.next.new.self.rest.items in
    let drawer = c.in-Some-pop.drawer in
    let worker : Worker g.row.N.Denot = record { number = c.loop-pass.number; pass = pass; drawer = drawer } in
    let is : c.loop-pass.pass-iterator.rest.items ≡ pass ∷ rest = c.in-Some.ensures.steps.0 in
    let n = ap length is in
    let passes = subst (λ l. AllByRecursion (λ p. p.limiter ≡ c.args.limiter.now.id) l) is inv.passes in
    let popped = All-pop (λ d. (batches_of d ≡ batches_id c.args.numbers.now) × IsNew d) c.loop-pass.drawers.items c.pop.new.self.items c.pop.result c.pop.ensures.items
    inv.drawers in
    let fresh = subst (λ r. IfSome r (λ d. (batches_of d ≡ batches_id c.args.numbers.now) × IsNew d)) c.in-Some-pop.is popped.1 in
    let pushed = c.push_reserved.ensures.items in
    record {
      same = ap (λ l. map (λ w. w.pass) l ++ rest) pushed ∙ ap (λ l. l ++ rest) (map-append (λ w. w.pass) c.loop-pass.workers.items (worker ∷ []))
          ∙ append_assoc (map (λ w. w.pass) c.loop-pass.workers.items) (pass ∷ []) rest ∙ ap (λ l. map (λ w. w.pass) c.loop-pass.workers.items ++ l) (sym is) ∙ inv.same;
      number = grind (arith, common_steps);
      left = grind (arith, common_steps);
      few = grind (arith, common_steps);
      room = grind (arith, common_steps);
      passes = passes.1;
      drawers = popped.0;
      workers = subst (λ l. AreWorkers c.args.limiter.now.id (batches_id c.args.numbers.now) 0 l) (sym pushed)
          (workers_more c.args.limiter.now.id (batches_id c.args.numbers.now) 0 c.loop-pass.workers.items worker inv.workers (omega (arith, inv.number))
          (record { pass = passes.0; drawer = fresh.0; fresh = fresh.1 }));
    }
