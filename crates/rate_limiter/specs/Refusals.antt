-- Why a check is refused, and what is left then.
use Rattle.std.specs.Prelude.{◌≡◌, ℕ, ◌+◌, ◌≤◌, ◌<◌, ◌⊎◌, ◌==◌, List, [], length, if◌then◌else◌, Result, Ok, Err}
use mathlib.Core.List.{IsPrefix}
use Rattle.rate_types.specs.Requests.{RequestParts}
use Rattle.rate_types.specs.declared.counter_key.CounterKey.{CounterKey}
use Rattle.counter_cells.specs.declared.view.CellView.{CellView}
use Rattle.counter_directory.specs.declared.claim.Claim.{Claim}
use Rattle.counter_directory.specs.Claims.{live_below}
use Rattle.counter_directory.specs.Acquired.{Bounds, IsWanted, AreHeld}
use Rattle.rls_core.specs.Reply.{counters_named}
use Rattle.rls_core.specs.declared.fault.CheckFault.{CheckFault}
use Rattle.rls_core.specs.declared.fault.CheckFault.TheVariants.{CountersFull, ClaimsSpent, OutOfMemory}
use Rattle.rls_core.specs.declared.reply.Reply.{Reply}
use Rattle.rate_limiter.specs.Passes.{LimiterView, PassView}
use Rattle.rate_limiter.specs.Counts.{Keeps}
use Rattle.rate_limiter.specs.PassStep.{HasRenewed, HasOffered, HasClaimed, IsPassStep}

-- What is left of a pass whose check wasn't answered: it neither looked nor charged, its version and its moment haven't fallen, it
-- offered nothing but `now`, and it holds no pin
pub record HasRefused (now : ℕ) (p q : PassView) : Type 0 where
  pub same : q.limiter ≡ p.limiter
  pub version : p.version.version ≤ q.version.version
  pub versions : IsPrefix p.version.view.known q.version.view.known
  pub own_versions : q.version.view.own ≡ p.version.view.own
  pub ticks : HasOffered now p.cells q.cells
  pub counts : Keeps p.cells q.cells
  pub claims : IsPrefix p.claims.known q.claims.known
  pub own_claims : q.claims.own ≡ p.claims.own
  pub bare : q.cells.good ≡ []

-- one refused check more, unless so many are counted as a u64 can count
abbrev pub one_more : ℕ → ℕ
one_more refused = if refused == 18446744073709551615 then refused else refused + 1

-- These claims are made, and so many counters of the check have none: together they are more than there may be
pub record AreClaimsSpent (b : Bounds) (keys : List CounterKey) (made : List Claim) (claims wanted : ℕ) : Type 0 where
  pub claims_is : claims ≡ length made
  pub wanted_is : IsWanted made keys wanted
  pub spent : b.claims < claims + wanted

-- By these claims so many cells are bound to windows that haven't ended at the moment, and so many counters of the check have no claim.
-- So many cells of windows that have ended were found pinned for the pass between these views. Together they are more than the cells
pub record AreCountersFull (b : Bounds) (keys : List CounterKey) (made : List Claim) (v w : CellView)
    (moment live held wanted : ℕ) : Type 0 where
  pub moment_is : moment ≡ w.moment
  pub wanted_is : IsWanted made keys wanted
  pub some : 1 ≤ wanted
  pub live_is : live ≡ live_below b.cells moment made
  pub held_is : AreHeld b.cells made moment v w held
  pub few : held ≤ b.held
  pub full : b.cells < live + held + wanted

-- The cause of each fault, by the version, the moment and the claims that the pass has after the check. Before there was no memory the
-- pass may have claimed counters of the check, at its moment and by its version, which is then one of those known
abbrev pub HasCause : Bounds → RequestParts → PassView → CheckFault → PassView → Type 0
HasCause b request p OutOfMemory q =
    (q.refused ≡ p.refused) × ((q.claims ≡ p.claims) ⊎ (HasRenewed p.version q.version
    × HasClaimed (counters_named q.version.index request q.cells.moment) q.cells.moment p.claims q.claims))
HasCause b request p (ClaimsSpent claims wanted) q =
    (q.refused ≡ one_more p.refused) × HasRenewed p.version q.version
    × AreClaimsSpent b (counters_named q.version.index request q.cells.moment) q.claims.known claims wanted
HasCause b request p (CountersFull moment live held wanted) q =
    (q.refused ≡ one_more p.refused) × HasRenewed p.version q.version
    × AreCountersFull b (counters_named q.version.index request q.cells.moment) q.claims.known p.cells q.cells moment live held wanted

-- the pass, but for the claims that it made before there was no memory
abbrev pub but_for_claims : CheckFault → PassView → PassView → PassView
but_for_claims OutOfMemory p q = record q { claims = p.claims }
but_for_claims (ClaimsSpent claims wanted) p q = q
but_for_claims (CountersFull moment live held wanted) p q = q

-- a check was answered, or refused for a cause
abbrev pub Checks : Bounds → LimiterView → RequestParts → ℕ → PassView → Result Reply CheckFault → PassView → Type 0
Checks b limiter request now p (Ok reply) q = IsPassStep limiter request now p reply q
Checks b limiter request now p (Err fault) q = HasRefused now p (but_for_claims fault p q) × HasCause b request p fault q
