-- What the descriptors of a check find of their counters, one after the other.
use Rattle.std.specs.Prelude.{◌≡◌, ℕ, ◌≤◌, ◌⊎◌, List, [], ◌∷◌, ◌++◌}
use Rattle.rate_types.specs.Requests.{RequestParts}
use Rattle.rate_types.specs.declared.counter_key.CounterKey.{CounterKey}
use Rattle.rate_types.specs.declared.request.Descriptor.{Descriptor}
use Rattle.window_keys.specs.Counter.{counter_of}
use Rattle.descriptor_tree.specs.Trees.{DomainTree}
use Rattle.rule_lookup.specs.declared.found.Found.{Found}
use Rattle.rule_lookup.specs.declared.found.Found.TheVariants.{Limited}
use Rattle.counter_cells.specs.Views.{Capped}
use Rattle.counter_cells.specs.declared.view.CellView.{CellView}
use Rattle.counter_cells.specs.declared.answers.Spot.{Spot}
use Rattle.counter_directory.specs.declared.claim.Claim.{Claim}
use Rattle.counter_directory.specs.Claims.{bindings_of}
use Rattle.rls_core.specs.Reply.{hits_of, found_for}
use Rattle.rls_core.specs.declared.status.Count.{Count}
use Rattle.rls_core.specs.declared.status.Count.TheVariants.{NoCount, Before, Seen}
use Rattle.rls_core.specs.declared.status.Status.{Status}
use Rattle.rate_limiter.specs.Values.{HasValue}

-- a pass has neither looked nor charged
pub record Keeps (v w : CellView) : Type 0 where
  pub looks : w.looks ≡ v.looks
  pub charges : w.charges ≡ v.charges

-- it has looked once, under the claim, and found so much: no less than any value that it had under the claim
pub record Looks (claim found : ℕ) (v w : CellView) : Type 0 where
  pub looks : w.looks ≡ v.looks ++ (claim, found) ∷ []
  pub charges : w.charges ≡ v.charges
  pub most : Capped claim found v

-- it has neither looked nor charged, and had the value under the claim already: no less than any other value that it had there
pub record Knows (claim seen : ℕ) (v w : CellView) : Type 0 where
  pub keeps : Keeps v w
  pub had : HasValue claim seen v
  pub most : Capped claim seen v

-- It has looked and found at most the limit, and then charged once, on so much before: no less than any value that it had under the
-- claim. Each of these, the look included, is at most the limit
pub record Charges (claim limit hits before : ℕ) (v w : CellView) : Type 0 where
  pub looked : CellView
  pub found : ℕ
  pub look : Looks claim found v looked
  pub within : found ≤ limit
  pub looks : w.looks ≡ looked.looks
  pub charges : w.charges ≡ looked.charges ++ (record { claim = claim; before = before; hits = hits }) ∷ []
  pub most : Capped claim before looked

-- A counter is seen by one look, or by a value that the pass had and that hits would come on top of, or it is charged once after a
-- look: each under a claim that binds it
abbrev pub Counted : List Claim → CounterKey → ℕ → ℕ → Count → CellView → CellView → Type 0
Counted claims key limit hits (Seen seen) v w =
    (s : Spot) × (1 ≤ bindings_of key s.cell s.claim claims) × (Looks s.claim seen v w ⊎ ((1 ≤ hits) × Knows s.claim seen v w))
Counted claims key limit hits (Before before) v w =
    (s : Spot) × (1 ≤ bindings_of key s.cell s.claim claims) × Charges s.claim limit hits before v w
Counted claims key limit hits NoCount v w = ⊥

-- a descriptor with a limit counts on its counter, another one counts nothing
abbrev pub CountsOne : List Claim → RequestParts → ℕ → Descriptor → Found → Count → CellView → CellView → Type 0
CountsOne claims request moment d (Limited limit unit shadow rule) count v w =
    Counted claims (counter_of request.domain d unit moment) limit (hits_of request d) count v w
CountsOne claims request moment d found count v w = Keeps v w

-- each descriptor in order, and nothing else
abbrev pub CountsEach : List Claim → List DomainTree → RequestParts → ℕ → List Descriptor → List Status → CellView → CellView → Type 0
CountsEach claims config request moment [] [] v w = Keeps v w
CountsEach claims config request moment (d ∷ ds) (s ∷ ss) v w =
    (mid : CellView) × CountsOne claims request moment d (found_for config request d) s.count v mid
    × CountsEach claims config request moment ds ss mid w
CountsEach claims config request moment ds ss v w = ⊥
