-- Inside: what comes of each descriptor of a check.
use Rattle.std.specs.Prelude.{◌≡◌, ◌⊎◌, ℕ, ◌+◌, ◌≤◌, ◌==◌, ◌||◌, ◌&&◌, nat_lt, not, true, false, List, [], ◌∷◌, None, Some}
use Rattle.std.specs.List.{list_any}
use Rattle.rate_types.specs.Requests.{RequestParts}
use Rattle.rate_types.specs.declared.request.Descriptor.{Descriptor}
use Rattle.rule_lookup.specs.declared.found.Found.{Found}
use Rattle.counter_cells.specs.Views.{claim_on, Capped}
use Rattle.counter_cells.specs.Steps.{number_of, looked, charged}
use Rattle.counter_cells.specs.declared.view.CellView.{CellView}
use Rattle.counter_cells.specs.declared.answers.Spot.{Spot}
use Rattle.counter_directory.specs.Spots.{LeavesAllButPins}
use Rattle.counter_directory.specs.declared.claim.Claim.{Claim}
use Rattle.rls_core.specs.Reply.{hits_of, is_over_limit}
use Rattle.rls_core.specs.Status.{status_of}
use Rattle.rls_core.specs.declared.reply.Reply.{Reply}
use Rattle.rls_core.specs.declared.status.Count.{Count}
use Rattle.rls_core.specs.declared.status.Count.TheVariants.{NoCount, Before, Seen}
use Rattle.rls_core.specs.declared.status.Status.{Status}
use Rattle.over_cache.specs.Entries.{Entries, is_key, known_of, noted}
use Rattle.over_cache.specs.declared.known.Known.{Known}
use Rattle.rate_limiter.specs.Counters.{CountersView}
use Rattle.rate_limiter.specs.Counts.{CountsOne}
use Rattle.rate_limiter.specs.Known.{spot_in, seen_in}
use Rattle.rate_limiter.specs.Names.{names_under, name_keys}
use Rattle.rate_limiter.specs.Passes.{LimiterView}
use Rattle.rate_limiter.specs.Used.{HasUsed}
use Rattle.rate_limiter.specs.Values.{HasValue}

-- ---- one cell

-- a charge of a pinned cell after a look at it
pub record ChargedAt (spot : Spot) (limit hits before : ℕ) (v w : CellView) : Type 0 where
  pub found : ℕ
  pub within : found ≤ limit
  pub most_found : Capped (claim_on spot.cell v.good) found v
  pub most : Capped (claim_on spot.cell v.good) before (looked spot.cell found v)
  pub charge : w ≡ charged spot.cell before hits (looked spot.cell found v)

-- a look at a pinned cell
abbrev pub LookedAt : Spot → ℕ → CellView → CellView → Type 0
LookedAt spot seen v w = Capped (claim_on spot.cell v.good) seen v × (w ≡ looked spot.cell seen v)

-- a value that the pass had under the claim already, no less than any other that it had there
abbrev pub KnewAt : ℕ → ℕ → CellView → CellView → Type 0
KnewAt claim seen v w = HasValue claim seen v × Capped claim seen v × (w ≡ v)

-- what was counted on a pinned cell: it was seen above the limit or without hits, by a look or, where there are hits, by what the pass had
-- seen before; or charged
abbrev pub CountedAt : Spot → ℕ → ℕ → Count → CellView → CellView → Type 0
CountedAt spot limit hits (Seen seen) v w =
    (((hits == 0) || nat_lt limit seen) ≡ true) × (LookedAt spot seen v w ⊎ ((1 ≤ hits) × KnewAt spot.claim seen v w))
CountedAt spot limit hits (Before before) v w = (nat_lt 0 hits ≡ true) × ChargedAt spot limit hits before v w
CountedAt spot limit hits NoCount v w = ⊥

-- the value that a count leaves
abbrev pub value_of : ℕ → Count → ℕ
value_of hits NoCount = 0
value_of hits (Before before) = before + hits
value_of hits (Seen seen) = seen

-- a value was noted under the key, where it is known; what is known of the other keys stays
pub record HasRaised (key : List ℕ) (spot : Spot) (value : ℕ) (entries entries' : Entries) : Type 0 where
  pub this : ((known_of key entries ≡ None) × (entries' ≡ entries))
      ⊎ ((old : Known) × (known_of key entries ≡ Some old) × (entries' ≡ noted key spot value entries))
  pub others : (other : List ℕ) → is_key other key ≡ false → known_of other entries' ≡ known_of other entries

-- under each key the same spot is known as before, and no less was seen there
pub record HaveRisen (entries entries' : Entries) : Type 0 where
  pub spots : (key : List ℕ) → spot_in (known_of key entries') ≡ spot_in (known_of key entries)
  pub seen : (key : List ℕ) → seen_in (known_of key entries) ≤ seen_in (known_of key entries')

-- ---- the descriptors

-- neither the number nor the ticks nor the moment nor the pins, present and past, good or missed, changed
pub record SameButCounts (v w : CellView) : Type 0 where
  pub number : number_of w ≡ number_of v
  pub good : w.good ≡ v.good
  pub pins : w.pairs ≡ v.pairs
  pub others : w.others ≡ v.others
  pub ticks : w.ticks ≡ v.ticks
  pub moment : w.moment ≡ v.moment

-- a descriptor was counted so, and nothing else was done
pub record IsCounted (claims : List Claim) (request : RequestParts) (moment : ℕ) (d : Descriptor) (f : Found) (s : Status)
    (v w : CellView) : Type 0 where
  pub status : status_of f moment (hits_of request d) s.count ≡ Some s
  pub counts : CountsOne claims request moment d f s.count v w
  pub same : SameButCounts v w

-- the same for each descriptor, in order
abbrev pub AreCounted : List Claim → RequestParts → ℕ → List Descriptor → List Found → List Status → CellView → CellView → Type 0
AreCounted claims request moment [] [] [] v w = w ≡ v
AreCounted claims request moment (d ∷ ds) (f ∷ fs) (s ∷ ss) v w =
    (mid : CellView) × IsCounted claims request moment d f s v mid × AreCounted claims request moment ds fs ss mid w
AreCounted claims request moment ds fs ss v w = ⊥

-- the reply was made of this version and moment: each descriptor was counted, in order, and then the pins were given back
pub record HasAnswered (limiter : LimiterView) (version : ℕ) (request : RequestParts) (fs : List Found) (reply : Reply)
    (v w : CountersView) : Type 0 where
  pub mid : CellView
  pub counted : AreCounted v.claims.claims.known request v.cells.moment request.descriptors fs reply.statuses.items v.cells mid
  pub left : LeavesAllButPins mid w.cells
  pub bare : w.cells.good ≡ []
  pub claims : w.claims ≡ v.claims
  pub known : HaveRisen v.known w.known
  pub uses : HasUsed [] (name_keys v.cells.moment (names_under request request.descriptors fs)) v.known w.known
  pub version_is : reply.version ≡ version
  pub moment_is : reply.moment ≡ v.cells.moment
  pub over_is : reply.over ≡ (list_any (λ s. is_over_limit s.code) reply.statuses.items && not limiter.global_shadow)
