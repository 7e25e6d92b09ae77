use Rattle.std.proofs.Common.{◌++◌, ◌∷◌, [], map, List, ℕ, refl, sym, ap, ◌∙◌, subst}
use Rattle.std.proofs.lemmas.List.{map-append}
use Rattle.rate_types.specs.Sums.{total}
use Rattle.link_handover.specs.Handover.{numbers_in}
use Rattle.link_handover.specs.Passes.{is_end}
use Rattle.http_serve.specs.Service.{Service, AreServed}
use Rattle.http_serve.proofs.Services.{served_push}
use Rattle.http_serve.proofs.worker.work.Goals as goal

pub loop-init : goal.loop-init
loop-init g c =
    let p = c.args.worker.now.checks in
    record {
      take = c.requires.take;
      ends = ap (total is_end) c.requires.taken;
      taken = ap numbers_in c.requires.taken ∙ sym (ap (map (λ (s : Service). s.number)) c.requires.served);
      served = ([], subst (λ (l : List Service). AreServed g.K.Checks.answers p l [] p) (sym c.requires.served) (refl, refl));
    }

pub loop-preserved : goal.loop-preserved
loop-preserved g c =
    let inv = c.loop.invariant in
    let h = c.serve_next.ensures.goes c.if-not-serve_next.false in
    let done : List Service = c.loop.worker.served.items in
    let asked = inv.served.0 ++ h.asked in
    record {
      take = c.serve_next.ensures.take;
      ends = h.ends ∙ inv.ends;
      taken = h.taken ∙ ap (λ (l : List ℕ). l ++ h.service.number ∷ []) inv.taken ∙ sym (map-append (λ (s : Service). s.number) done (h.service ∷ []))
          ∙ sym (ap (map (λ (s : Service). s.number)) h.served);
      served = (
        asked,
        subst (λ (l : List Service). AreServed g.K.Checks.answers c.args.worker.now.checks l asked c.serve_next.new.worker.checks)
            (sym h.served)
            (served_push g.K.Checks.answers _ _ _ _ _ _ _ inv.served.1 h.one),
      );
    }
