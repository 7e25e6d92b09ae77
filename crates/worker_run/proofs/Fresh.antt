-- What passes that have done nothing yet are.
use Rattle.std.proofs.Common.{◌≡◌, ℕ, ◌≤◌, List, [], ◌∷◌, sym, ap, subst, arith}
use Rattle.std.specs.Prelude.{All}
use Rattle.std.specs.List.{AllByRecursion}
use Rattle.config_versions.specs.PassState.{IsFirst}
use Rattle.counter_cells.specs.declared.view.CellView.{CellView}
use Rattle.descriptor_tree.specs.Trees.{DomainTree}
use Rattle.rate_limiter.specs.Passes.{LimiterId, PassView, IsNewPass}
use Rattle.worker_run.specs.Clauses.{first_version}

module _ (first : List DomainTree) (start : ℕ) where
  pub at_first : (ps : List PassView) → AllByRecursion (λ (p : PassView). IsNewPass first start p) ps → AllByRecursion (λ (p : PassView). IsFirst first p.version) ps
  at_first [] h = tt
  at_first (p ∷ ps) h = (h.0.version, at_first ps h.1)

  pub none_charged : (ps : List PassView) → AllByRecursion (λ (p : PassView). IsNewPass first start p) ps → AllByRecursion (λ (p : PassView). p.cells.charges ≡ []) ps
  none_charged [] h = tt
  none_charged (p ∷ ps) h = (ap (λ (v : CellView). v.charges) h.0.cells, none_charged ps h.1)

  pub none_claimed : (ps : List PassView) → AllByRecursion (λ (p : PassView). IsNewPass first start p) ps → AllByRecursion (λ (p : PassView). p.claims.own ≡ []) ps
  none_claimed [] h = tt
  none_claimed (p ∷ ps) h = (h.0.claims.own, none_claimed ps h.1)

  pub at_start : (ps : List PassView) → AllByRecursion (λ (p : PassView). IsNewPass first start p) ps → AllByRecursion (λ (p : PassView). start ≤ p.cells.moment) ps
  at_start [] h = tt
  at_start (p ∷ ps) h = (let m = ap (λ (v : CellView). v.moment) h.0.cells in omega (arith, m), at_start ps h.1)

-- new passes of one configuration are at it as their first version
pub fresh_at_first : (id : LimiterId) (config : List DomainTree) (start : ℕ) (ps : List PassView) → All (λ (p : PassView). (p.limiter ≡ id) × IsNewPass config start p) ps
    → All (λ (p : PassView). IsNewPass (first_version ps) start p) ps
fresh_at_first id config start [] h = λ k d lt. absurd (omega arith)
fresh_at_first id config start (p ∷ ps) h =
    let first : p.version.index ≡ config = (h 0 p (omega arith)).1.version.index in
    subst (λ (c : List DomainTree). All (λ (x : PassView). IsNewPass c start x) (p ∷ ps)) (sym first) (λ k d lt. (h k d lt).1)
