use Rattle.std.proofs.Common.{◌≡◌, ◌∙◌, [], ◌∷◌, ◌++◌, All, map, sym, subst, ap, arith, append_assoc}
use Rattle.std.proofs.lemmas.List.Elements.{All-push}
use Rattle.std.proofs.lemmas.List.{map-append}
use Rattle.std.proofs.lemmas.Grind.{common_steps}
use Rattle.counter_directory.specs.Passes.{list_of, knows}
use Rattle.config_versions.specs.Passes.{pass_state, versions_of}
use Rattle.rate_limiter.specs.Counters.{CountersView, pass_with}
use Rattle.rate_limiter.specs.Passes.{PassView}
use Rattle.rate_limiter.proofs.split.parts_of.Goals as goal

pub loop-pass-preserved : goal.loop-pass-preserved
loop-pass-preserved g c =
    let before = c.loop-pass.invariant in
    let p = c.in-Some.pass in
    let steps = c.in-Some.ensures.steps.0 in
    let y = c.loop-pass.yielded in
    let version = c.pass.inside.version in
    let claim = c.counters.inside.claims in
    let cell = c.counters.inside.cells in
    let is : pass_with (versions_of version) (pass_state version) (record { claims = claim; cells = cell; known = c.counters.inside.known }) c.pass.inside.refused ≡ p
    = ap (λ (u : CountersView). pass_with (versions_of version) (pass_state version) u c.pass.inside.refused) c.counters.view_is ∙ c.pass.view_is in
    let vs = c.loop-pass.versions.items in
    let cs = c.loop-pass.claims.items in
    record {
      whole = append_assoc y (p ∷ []) c.next.new.self.rest.items ∙ ap (λ l. y ++ l) (sym steps) ∙ before.whole;
      cells =
          c.push_reserved-in-loop-pass-2.ensures.items
          ∙ ap (λ l. l ++ cell ∷ []) before.cells
          ∙ ap (λ (x : PassView). map (λ p. p.cells) y ++ x.cells ∷ []) is
          ∙ sym (map-append (λ p. p.cells) y (p ∷ []));
      bare = subst (All (λ v. v.good ≡ [])) (sym c.push_reserved-in-loop-pass-2.ensures.items)
          (All-push (λ v. v.good ≡ []) c.loop-pass.cells.items cell before.bare (ap (λ (u : CountersView). u.cells.good) c.counters.view_is ∙ c.pass.invariant));
      claims =
          ap (map knows) c.push_reserved-in-loop-pass.ensures.items
          ∙ map-append knows cs (claim ∷ [])
          ∙ ap (λ l. l ++ knows claim ∷ []) before.claims
          ∙ ap (λ (x : PassView). map (λ p. p.claims) y ++ x.claims ∷ []) is
          ∙ sym (map-append (λ p. p.claims) y (p ∷ []));
      claim_lists =
          ap (map list_of) c.push_reserved-in-loop-pass.ensures.items
          ∙ map-append list_of cs (claim ∷ [])
          ∙ ap (λ l. l ++ list_of claim ∷ []) before.claim_lists
          ∙ ap (λ (x : PassView). map (λ p. p.limiter.claims) y ++ x.limiter.claims ∷ []) is
          ∙ sym (map-append (λ p. p.limiter.claims) y (p ∷ []));
      versions =
          ap (map pass_state) c.push_reserved.ensures.items
          ∙ map-append pass_state vs (version ∷ [])
          ∙ ap (λ l. l ++ pass_state version ∷ []) before.versions
          ∙ ap (λ (x : PassView). map (λ p. p.version) y ++ x.version ∷ []) is
          ∙ sym (map-append (λ p. p.version) y (p ∷ []));
      version_lists =
          ap (map versions_of) c.push_reserved.ensures.items
          ∙ map-append versions_of vs (version ∷ [])
          ∙ ap (λ l. l ++ versions_of version ∷ []) before.version_lists
          ∙ ap (λ (x : PassView). map (λ p. p.limiter.versions) y ++ x.limiter.versions ∷ []) is
          ∙ sym (map-append (λ p. p.limiter.versions) y (p ∷ []));
      claims_len = grind (arith, common_steps);
      versions_len = grind (arith, common_steps);
      cells_room = grind (arith, common_steps);
      claims_room = grind (arith, common_steps);
      versions_room = grind (arith, common_steps);
    }
