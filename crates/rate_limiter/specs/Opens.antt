-- A check that takes no lock and no memory: what it does, why it isn't answered, and what is left then.
use Rattle.std.specs.Prelude.{◌≡◌, ℕ, ◌+◌, ◌<◌, [], length, None, Some, Result, Ok, Err}
use mathlib.Core.Option.{some}
use lib.ListN.{get_elem?}
use Rattle.rate_types.specs.Requests.{RequestParts}
use Rattle.rate_types.specs.declared.counter_key.CounterKey.{CounterKey}
use Rattle.rate_types.specs.declared.request.Descriptor.{Descriptor}
use Rattle.config_versions.specs.PassState.{PassState, HasLoaded}
use Rattle.counter_cells.specs.declared.view.CellView.{CellView}
use Rattle.counter_cells.specs.declared.answers.Spot.{Spot}
use Rattle.rls_core.specs.Reply.{found_for}
use Rattle.rls_core.specs.declared.reply.Reply.{Reply}
use Rattle.rate_limiter.specs.Passes.{LimiterView, PassView, KeepsAllButVersion}
use Rattle.rate_limiter.specs.Counts.{Keeps}
use Rattle.rate_limiter.specs.Known.{spot_of, SameSpots, KnowsCounter, HasCounter, HasMissed}
use Rattle.rate_limiter.specs.PassStep.{HasOffered, IsPassStep}
use Rattle.rate_limiter.specs.declared.not_open.NotOpen.{NotOpen}
use Rattle.rate_limiter.specs.declared.not_open.NotOpen.TheVariants.{Behind, Unknown, Reclaimed}

-- one load, which showed no newer version than the pass's
pub record IsUpToDate {I : Type 0} (s t : PassState I) : Type 0 where
  pub loaded : HasLoaded s t
  pub newest : t.view.shown ≡ s.version + 1

-- What such a check leaves where no newer version was shown: the pass's version and what it knows of versions and of claims are as they
-- were, so it took no turn at a lock; of each counter it knows the same spot, and it counts no refused check more
pub record HasStayedOpen (p q : PassView) : Type 0 where
  pub same : q.limiter ≡ p.limiter
  pub version : IsUpToDate p.version q.version
  pub claims : q.claims ≡ p.claims
  pub known : SameSpots p.known q.known
  pub refused : q.refused ≡ p.refused

-- the check ticked and offered nothing but `now`; it neither looked nor charged, and holds no pin
pub record HasNotCounted (now : ℕ) (p q : PassView) : Type 0 where
  pub ticks : HasOffered now p.cells q.cells
  pub counts : Keeps p.cells q.cells
  pub bare : q.cells.good ≡ []

-- nothing else was done on the cells, so nothing was pinned
abbrev pub HasOnlyTicked : CellView → CellView → Type 0
HasOnlyTicked v w = w ≡ record v { ticks = w.ticks; moment = w.moment }

-- before the check the pass knew the counters of the first n descriptors, by its version and at its moment after the check
abbrev pub KnowsFirst : ℕ → RequestParts → PassView → PassView → Type 0
KnowsFirst n request p q = (i : ℕ) (d : Descriptor) → i < n → get_elem? request.descriptors i ≡ some d
    → KnowsCounter request q.cells.moment p.known d (found_for q.version.index request d)

-- this is the counter of the descriptor at the place, by the pass's version and at its moment
abbrev pub IsCounterAt : RequestParts → PassView → ℕ → CounterKey → Type 0
IsCounterAt request q place key = (d : Descriptor) × (get_elem? request.descriptors place ≡ some d)
    × HasCounter request q.cells.moment d (found_for q.version.index request d) key

-- A check without lock and memory. It is answered as a step of the pass, all counters of which the pass knew. It isn't where the load
-- showed a newer version: then nothing else was done. Else it isn't where the pass doesn't know a counter, of which this is the first, and
-- then pinned nothing; else where a pin of a known counter's cell found the cell under another claim
abbrev pub Opens : LimiterView → RequestParts → ℕ → PassView → Result Reply NotOpen → PassView → Type 0
Opens limiter request now p (Ok reply) q =
    IsPassStep limiter request now p reply q × HasStayedOpen p q × KnowsFirst (length request.descriptors) request p q
Opens limiter request now p (Err (Behind version)) q =
    KeepsAllButVersion p q × HasLoaded p.version q.version × (version + 1 ≡ q.version.view.shown) × (p.version.version < version)
Opens limiter request now p (Err (Unknown place)) q =
    HasStayedOpen p q × HasNotCounted now p q × HasOnlyTicked p.cells q.cells × KnowsFirst place request p q
    × (key : CounterKey) × IsCounterAt request q place key × (spot_of key p.known ≡ None)
Opens limiter request now p (Err (Reclaimed place claim)) q =
    HasStayedOpen p q × HasNotCounted now p q × KnowsFirst (length request.descriptors) request p q
    × (key : CounterKey) × IsCounterAt request q place key
    × (s : Spot) × (spot_of key p.known ≡ Some s) × HasMissed s claim p.cells q.cells
