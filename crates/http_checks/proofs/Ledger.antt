-- What a check makes of a pass, and what new passes have.
use Rattle.std.proofs.Common.{◌⊎◌, inl, inr, ◌≡◌, ℕ, ◌+◌, ◌≤◌, ◌<◌, List, [], ◌∷◌, ◌++◌, map, Result, Ok, Err, sym, ap, ◌∙◌, subst}
use Rattle.std.proofs.lemmas.List.{append-nil}
use Rattle.std.specs.List.{AllByRecursion}
use mathlib.Core.List.{IsPrefix}
use Rattle.rate_types.specs.Requests.{RequestParts}
use Rattle.rate_types.specs.Ledger.{Charge, Sight}
use Rattle.rate_types.specs.declared.counter_key.CounterKey.{CounterKey}
use Rattle.descriptor_tree.specs.Trees.{DomainTree}
use Rattle.rls_core.specs.Reply.{charges_of, sights_of, counters_named}
use Rattle.rls_core.specs.declared.fault.CheckFault.{CheckFault}
use Rattle.rls_core.specs.declared.fault.CheckFault.TheVariants.{CountersFull, ClaimsSpent, OutOfMemory}
use Rattle.rls_core.specs.declared.reply.Reply.{Reply}
use Rattle.counter_cells.specs.Ledgers.{charge_of}
use Rattle.counter_cells.specs.Ledgers as cells
use Rattle.counter_cells.specs.declared.view.CellView.{CellView}
use Rattle.counter_cells.specs.declared.view.Charge as cell_charge
use Rattle.counter_directory.specs.Passes.{KnownClaims}
use Rattle.rate_limiter.specs.Passes.{PassView, IsNewPass}
use Rattle.rate_limiter.specs.PassStep.{HasRenewed, HasClaimed}
use Rattle.rate_limiter.specs.Refusals.{HasRefused}
use Rattle.rate_limiter.specs.Named.{AreNamed}
use Rattle.rate_limiter.specs.Values.{HasSights}
use Rattle.rate_limiter.proofs.Places.{all_weaker}
use Rattle.http_checks.specs.Checker.{Checker, ChecksBy}
use Rattle.http_checks.specs.Ledger.{charges_shown, sights_shown}
use Rattle.http_checks.proofs.Grown.{prefix_same, prefix_added}

-- what checks with these charges and sights made of a pass: it charged them and nothing else, and has what they saw; no version is its own
pub record Made (p q : Checker) (charges : List (Charge CounterKey)) (sights : List (Sight CounterKey)) : Type 0 where
  pub limiter : q.limiter ≡ p.limiter
  pub added : List cell_charge.Charge
  pub grew : q.pass.cells.charges ≡ p.pass.cells.charges ++ added
  pub named : AreNamed q.pass.claims.known (map charge_of added) charges
  pub seen : HasSights q.pass.claims.known q.pass.cells sights
  pub claims : IsPrefix p.pass.claims.known q.pass.claims.known
  pub looks : IsPrefix p.pass.cells.looks q.pass.cells.looks
  pub versions : IsPrefix p.pass.version.view.known q.pass.version.view.known
  pub own : q.pass.version.view.own ≡ p.pass.version.view.own

-- a refused check charged and saw nothing
none_made : {now : ℕ} (p q : Checker) {t : KnownClaims} → q.limiter ≡ p.limiter → HasRefused now p.pass (record q.pass { claims = t })
    → IsPrefix p.pass.claims.known q.pass.claims.known → Made p q [] []
none_made p q limiter s claims = record {
  limiter = limiter;
  added = [];
  grew = s.counts.charges ∙ sym (append-nil p.pass.cells.charges);
  named = tt;
  seen = tt;
  claims = claims;
  looks = prefix_same p.pass.cells.looks q.pass.cells.looks s.counts.looks;
  versions = s.versions;
  own = s.own_versions;
}

module _ (size : ℕ) where
  pub one_made : (p : Checker) (request : RequestParts) (now : ℕ) (result : Result Reply CheckFault) (q : Checker) → ChecksBy size p request now result q
      → Made p q (charges_shown request result) (sights_shown request result)
  one_made p request now (Ok reply) q h =
      let s = h.step in
      let c = s.charged in
      let k = s.claims in
      record {
        limiter = h.limiter;
        added = c.added;
        grew = c.grew;
        named = subst (λ (m : ℕ). AreNamed q.pass.claims.known (map charge_of c.added) (charges_of request m request.descriptors reply.statuses.items)) (sym s.moment_is) c.named;
        seen = subst (λ (m : ℕ). HasSights q.pass.claims.known q.pass.cells (sights_of request m request.descriptors reply.statuses.items)) (sym s.moment_is) s.seen;
        claims = prefix_added p.pass.claims.known k.found k.added q.pass.claims.known k.knew k.known;
        looks = c.looks;
        versions = s.version.knows;
        own = s.version.own;
      }
  one_made p request now (Err OutOfMemory) q h = by h.step.1.1
    where
      by : (q.pass.claims ≡ p.pass.claims) ⊎ (HasRenewed p.pass.version q.pass.version
          × HasClaimed (counters_named q.pass.version.index request q.pass.cells.moment) q.pass.cells.moment p.pass.claims q.pass.claims) → Made p q [] []
      by (inl same) = none_made p q h.limiter h.step.0 (prefix_same p.pass.claims.known q.pass.claims.known (ap (λ (t : KnownClaims). t.known) same))
      by (inr made) =
          let k = made.1 in
          none_made p q h.limiter h.step.0 (prefix_added p.pass.claims.known k.found k.added q.pass.claims.known k.knew k.known)
  one_made p request now (Err (ClaimsSpent claims wanted)) q h = none_made p q h.limiter h.step.0 h.step.0.claims
  one_made p request now (Err (CountersFull moment live held wanted)) q h = none_made p q h.limiter h.step.0 h.step.0.claims

-- ---- new passes

module _ (config : List DomainTree) (start : ℕ) where
  abbrev pub IsNew : PassView → Type 0
  IsNew p = IsNewPass config start p

  pub none_charged : (ps : List PassView) → AllByRecursion IsNew ps → AllByRecursion (λ (p : PassView). p.cells.charges ≡ []) ps
  none_charged ps h = all_weaker IsNew (λ (p : PassView). p.cells.charges ≡ []) (λ p n. ap (λ (v : CellView). v.charges) n.cells) ps h

  pub none_owned : (ps : List PassView) → AllByRecursion IsNew ps → AllByRecursion (λ (p : PassView). p.version.view.own ≡ []) ps
  none_owned ps h = all_weaker IsNew (λ (p : PassView). p.version.view.own ≡ []) (λ p n. n.version.own) ps h

  pub one_known : (ps : List PassView) → AllByRecursion IsNew ps → AllByRecursion (λ (p : PassView). p.version.view.known ≡ config ∷ []) ps
  one_known ps h = all_weaker IsNew (λ (p : PassView). p.version.view.known ≡ config ∷ []) (λ p n. n.version.known) ps h
