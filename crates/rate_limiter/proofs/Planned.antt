-- A check whose plan is made: what it has done until then, from the pass as it was given.
use Rattle.std.proofs.Common.{◌≡◌, ℕ, List, map, sym, subst, ap, ◌∙◌}
use Rattle.rate_types.specs.Requests.{RequestParts}
use Rattle.descriptor_tree.specs.Trees.{DomainTree}
use Rattle.rule_lookup.specs.declared.found.Found.{Found}
use Rattle.atomic_table.specs.Seated.{TableId}
use Rattle.config_versions.specs.PassState.{PassState}
use Rattle.counter_cells.specs.Steps.{ticked}
use Rattle.rls_core.specs.Reply.{found_for}
use Rattle.rate_limiter.specs.Passes.{PassView, KeepsAllButTicks, KeepsAllButVersion}
use Rattle.rate_limiter.specs.PassStep.{HasRenewed, HasOffered}
use Rattle.rate_limiter.specs.Sought.{SameKnown}
use Rattle.rate_limiter.specs.Counters.{CountersView, pass_with}

-- it ticked, looked for a newer version, found the rules, and asked for what is known of the counters: of these the order alone changed
pub record IsPlanned (request : RequestParts) (now : ℕ) (p : PassView) (versions : TableId) (version : PassState (List DomainTree)) (u v : CountersView) (refused : ℕ)
    (fs : List Found) : Type 0 where
  pub p1 : PassView
  pub moment : ℕ
  pub ticks : p1.cells ≡ ticked moment now p.cells
  pub offered : HasOffered now p.cells p1.cells
  pub rest : KeepsAllButTicks p p1
  pub renewed : HasRenewed p1.version version
  pub kept : KeepsAllButVersion p1 (pass_with versions version u refused)
  pub planned : v ≡ record u { known = v.known }
  pub same : SameKnown u.known v.known
  pub founds : fs ≡ map (found_for version.index request) request.descriptors

module _ (request : RequestParts) (now : ℕ) (p : PassView) (versions : TableId) (version : PassState (List DomainTree)) (u v : CountersView) (refused : ℕ) (fs : List Found)
    (h : IsPlanned request now p versions version u v refused fs) where
  pub planned_limiter : record { claims = u.claims.list_id; versions = versions } ≡ p.limiter
  planned_limiter = ap (λ (x : PassView). x.limiter) h.kept ∙ ap (λ (x : PassView). x.limiter) h.rest

-- from what the calls leave: q is the pass of which the plan takes the parts
pub planned_of : (request : RequestParts) (now : ℕ) (p p1 q : PassView) (versions : TableId) (version : PassState (List DomainTree)) (u v : CountersView) (refused : ℕ)
    (fs : List Found) → pass_with versions version u refused ≡ q → (moment : ℕ) → p1.cells ≡ ticked moment now p.cells → HasOffered now p.cells p1.cells → KeepsAllButTicks p p1
    → HasRenewed p1.version q.version → KeepsAllButVersion p1 q → v ≡ record u { known = v.known } → SameKnown u.known v.known
    → (index : List DomainTree) → index ≡ version.index → fs ≡ map (found_for index request) request.descriptors → IsPlanned request now p versions version u v refused fs
planned_of request now p p1 q versions version u v refused fs is moment ticks offered rest renewed kept planned same index index_is founds = record {
  p1 = p1;
  moment = moment;
  ticks = ticks;
  offered = offered;
  rest = rest;
  renewed = subst (λ (x : PassView). HasRenewed p1.version x.version) (sym is) renewed;
  kept = subst (KeepsAllButVersion p1) (sym is) kept;
  planned = planned;
  same = same;
  founds = founds ∙ ap (λ (l : List DomainTree). map (found_for l request) request.descriptors) index_is;
}
