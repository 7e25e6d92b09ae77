use Rattle.std.proofs.Common.{◌≡◌, ◌∙◌, ◌∷◌, ◌++◌, [], All, length, map, sym, subst, ap, arith, append_assoc}
use Rattle.std.specs.Prelude.{IfSome}
use Rattle.std.specs.Arc.{arc_value}
use Rattle.std.proofs.lemmas.List.{map-append}
use Rattle.std.proofs.lemmas.List.Elements.{All-pop, All-push}
use Rattle.std.proofs.lemmas.Grind.{common_steps}
use Rattle.counter_directory.specs.Passes.{list_of, knows, IsFresh}
use Rattle.config_versions.specs.PassState.{IsFirst}
use Rattle.config_versions.specs.Passes.{IsPassOf, pass_state, versions_id, versions_of}
use Rattle.rate_limiter.specs.Counters.{CountersView, pass_with}
use Rattle.rate_limiter.specs.Passes.{LimiterId, PassView, IsNewPass}
use Rattle.rate_limiter.specs.Made.{IsNewCellPass}
use Rattle.rate_limiter.proofs.Making.{all_tail, new_pass_of}
use Rattle.rate_limiter.proofs.make.passes_of.Goals as goal

pub loop-cells-preserved : goal.loop-cells-preserved
loop-cells-preserved g c =
    let before = c.loop-cells.invariant in
    let start = g.N.CellNaming.setup.start in
    let first = arc_value c.args.first.now in
    let o = c.args.directory.now in
    let vs = c.args.versions.now in
    let h = c.in-Some.cells in
    let s = c.in-Some-pop.claims in
    let v = c.in-Some-pop-2.version in
    let id : LimiterId = record { claims = o.list_id; versions = versions_id vs } in
    let steps = c.in-Some.ensures.steps.0 in
    let t = all_tail (IsNewCellPass start) h c.next.new.self.rest.items (subst (All (IsNewCellPass start)) steps before.rest) in
    let p = All-pop (λ s. (list_of s ≡ o.list_id) × IsFresh (knows s)) c.loop-cells.claim_passes.items c.pop.new.self.items c.pop.result c.pop.ensures.items before.claims in
    let claims = subst (λ r. IfSome r (λ s. (list_of s ≡ o.list_id) × IsFresh (knows s))) c.in-Some-pop.is p.1 in
    let q = All-pop (λ p. IsPassOf vs p × IsFirst first (pass_state p)) c.loop-cells.version_passes.items c.pop-in-loop-cells.new.self.items
    c.pop-in-loop-cells.result c.pop-in-loop-cells.ensures.items before.versions in
    let version = subst (λ r. IfSome r (λ p. IsPassOf vs p × IsFirst first (pass_state p))) c.in-Some-pop-2.is q.1 in
    let n = ap length steps in
    let made : c.new-pass.result ≡ pass_with (versions_of v) (pass_state v) (record { claims = s; cells = h; known = [] }) 0
    = c.new-pass.ensures ∙ ap (λ (u : CountersView). pass_with (versions_of v) (pass_state v) u 0) c.new-counters.ensures in
    record {
      whole = append_assoc c.loop-cells.yielded (h ∷ []) c.next.new.self.rest.items ∙ ap (λ l. c.loop-cells.yielded ++ l) (sym steps) ∙ before.whole;
      rest = t.1;
      claims = p.0;
      versions = q.0;
      claims_left = grind (arith, common_steps);
      versions_left = grind (arith, common_steps);
      passes = subst (All (λ (x : PassView). (x.limiter ≡ id) × IsNewPass first start x)) (sym c.push_reserved.ensures.items)
          (All-push (λ (x : PassView). (x.limiter ≡ id) × IsNewPass first start x) c.loop-cells.passes.items c.new-pass.result before.passes
          (subst (λ (x : PassView). (x.limiter ≡ id) × IsNewPass first start x) (sym made) (
            λ j. record { claims = claims.0 j; versions = version.0 j },
            new_pass_of first start (record { claims = list_of s; versions = versions_of v }) (pass_state v) (knows s) h version.1 claims.1 t.0,
          )));
      cells =
          ap (map (λ (x : PassView). x.cells)) c.push_reserved.ensures.items
          ∙ map-append (λ (x : PassView). x.cells) c.loop-cells.passes.items (c.new-pass.result ∷ [])
          ∙ ap (λ l. l ++ c.new-pass.result.cells ∷ []) before.cells
          ∙ ap (λ (x : PassView). c.loop-cells.yielded ++ x.cells ∷ []) made;
      made = grind (arith, common_steps);
      room = grind (arith, common_steps);
    }
