-- A step of a pass: what an answered check did.
use Rattle.std.specs.Prelude.{◌≡◌, ℕ, ◌+◌, ◌≤◌, List, [], ◌++◌, length, map, IfSome}
use Rattle.std.specs.List.{AllByRecursion}
use mathlib.Core.List.{IsPrefix}
use mathlib.Core.Option.{some}
use lib.ListN.{get_elem?}
use Rattle.rate_types.specs.Requests.{RequestParts}
use Rattle.rate_types.specs.Ledger.{Charge}
use Rattle.rate_types.specs.declared.counter_key.CounterKey.{CounterKey}
use Rattle.rate_types.specs.declared.request.Descriptor.{Descriptor}
use Rattle.counter_directory.specs.Passes.{KnownClaims}
use Rattle.told_list.specs.Lists.{count_from}
use Rattle.config_versions.specs.PassState.{PassState, IsVersion}
use Rattle.counter_cells.specs.Steps.{number_of, last_moment}
use Rattle.counter_cells.specs.Ledgers.{charge_of}
use Rattle.counter_cells.specs.declared.view.CellView.{CellView}
use Rattle.counter_cells.specs.declared.view.Tick.{Tick}
use Rattle.counter_cells.specs.declared.view.Charge as cell_charge
use Rattle.counter_directory.specs.declared.claim.Claim.{Claim}
use Rattle.counter_directory.specs.Keys.{key_count}
use Rattle.rls_core.specs.Reply.{IsReplyOf, counters_named, found_for, charges_of, sights_of}
use Rattle.rls_core.specs.declared.reply.Reply.{Reply}
use Rattle.rate_limiter.specs.Passes.{LimiterView, PassView}
use Rattle.rate_limiter.specs.Known.{KnowsCounter}
use Rattle.rate_limiter.specs.Named.{AreNamed}
use Rattle.rate_limiter.specs.Values.{HasSights}
use Rattle.rate_limiter.specs.Counts.{CountsEach}

-- One load, and then the version is no older than before, nor than the load showed, and it is the one of its number among those known.
-- What was known of the versions is known still, and none was added
pub record HasRenewed {I : Type 0} (s t : PassState I) : Type 0 where
  pub loads : t.view.loads ≡ s.view.loads + 1
  pub rises : s.version ≤ t.version
  pub newest : t.view.shown ≤ t.version + 1
  pub at : IsVersion t.view.known t.version t.index
  pub knows : IsPrefix s.view.known t.view.known
  pub own : t.view.own ≡ s.view.own

-- the pass has ticked, and offered nothing but `now`; its moment is that of its last tick, at least `now`, and no earlier than before
pub record HasOffered (now : ℕ) (v w : CellView) : Type 0 where
  pub number : number_of w ≡ number_of v
  pub added : List Tick
  pub ticks : w.ticks ≡ v.ticks ++ added
  pub some : 1 ≤ length added
  pub offers : AllByRecursion (λ (x : Tick). (x.number ≡ number_of v) × IfSome x.offer (λ m. m ≡ now)) added
  pub moment : w.moment ≡ last_moment v.moment added
  pub least : now ≤ w.moment
  pub later : v.moment ≤ w.moment

-- what the pass knew of the claims it knows still, and each claim that it made is of one of the counters, at the moment
pub record HasClaimed (keys : List CounterKey) (moment : ℕ) (v w : KnownClaims) : Type 0 where
  pub found : List Claim
  pub added : List Claim
  pub knew : IsPrefix v.known found
  pub known : w.known ≡ found ++ added
  pub own : w.own ≡ v.own ++ count_from (length found) (length added)
  pub named : (i : ℕ) (x : Claim) → get_elem? added i ≡ some x → 1 ≤ key_count x.key keys
  pub made : (i : ℕ) (x : Claim) → get_elem? added i ≡ some x → x.moment ≡ moment

-- the pass has charged just these, in order, each under the number of a claim that binds its counter; what it had looked at stays
pub record HasCharged (claims : List Claim) (charges : List (Charge CounterKey)) (v w : CellView) : Type 0 where
  pub added : List cell_charge.Charge
  pub grew : w.charges ≡ v.charges ++ added
  pub named : AreNamed claims (map charge_of added) charges
  pub looks : IsPrefix v.looks w.looks

-- the pass knows the counter of each descriptor, by its version and at its moment
abbrev pub KnowsAll : RequestParts → PassView → Type 0
KnowsAll request q = (i : ℕ) (d : Descriptor) → get_elem? request.descriptors i ≡ some d
    → KnowsCounter request q.cells.moment q.known d (found_for q.version.index request d)

-- A check with `now` that was answered. The version is the pass's, after one load at least, and no older than that load showed or than
-- before. The moment is the pass's, and no earlier than `now` or than before. The reply is that of this one version, at this moment,
-- with its counts. The pass counted what the reply shows, in order, each on a claim that binds its counter, and nothing else: so it
-- charged just what the reply shows, and has what the reply says was seen. It claimed nothing but these counters, at its moment, and
-- knows each of them. It holds no pin.
pub record IsPassStep (limiter : LimiterView) (request : RequestParts) (now : ℕ) (p : PassView) (r : Reply) (q : PassView) : Type 0 where
  pub same : q.limiter ≡ p.limiter
  pub version : HasRenewed p.version q.version
  pub version_is : r.version ≡ q.version.version
  pub ticks : HasOffered now p.cells q.cells
  pub moment_is : r.moment ≡ q.cells.moment
  pub reply : IsReplyOf q.version.index request q.cells.moment limiter.global_shadow r.over r.statuses.items
  pub counts : CountsEach q.claims.known q.version.index request q.cells.moment request.descriptors r.statuses.items p.cells q.cells
  pub charged : HasCharged q.claims.known (charges_of request q.cells.moment request.descriptors r.statuses.items) p.cells q.cells
  pub seen : HasSights q.claims.known q.cells (sights_of request q.cells.moment request.descriptors r.statuses.items)
  pub claims : HasClaimed (counters_named q.version.index request q.cells.moment) q.cells.moment p.claims q.claims
  pub knows : KnowsAll request q
  pub bare : q.cells.good ≡ []
  pub refused : q.refused ≡ p.refused
