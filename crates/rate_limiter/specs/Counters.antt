-- Inside: what a pass has of the counters, as one value.
use Rattle.std.specs.Prelude.{◌≡◌, ◌≤◌, ◌<◌, ℕ, List, All}
use Rattle.atomic_table.specs.Seated.{TableId}
use Rattle.descriptor_tree.specs.Trees.{DomainTree}
use Rattle.config_versions.specs.PassState.{PassState}
use Rattle.counter_cells.specs.Views.{good_on, claim_on}
use Rattle.counter_cells.specs.declared.view.CellView.{CellView}
use Rattle.counter_cells.specs.declared.answers.Spot.{Spot}
use Rattle.counter_directory.specs.Passes.{DirectoryPassView}
use Rattle.counter_directory.specs.Spots.{spots_on}
use Rattle.counter_directory.specs.declared.claim.Claim.{Claim}
use Rattle.over_cache.specs.Entries.{Entries}
use Rattle.rate_limiter.specs.Passes.{PassView}
use Rattle.rate_limiter.specs.Known.{AreBoundEntries, AreSeenEntries, AreClaimedOnce}
use Rattle.rate_limiter.specs.Values.{looks_counted}

-- what it knows of the claims, what it did on the cells, and what it knows of its counters
pub record CountersView : Type 0 where
  pub claims : DirectoryPassView
  pub cells : CellView
  pub known : Entries

-- what is known of the counters is bound by the claims and was seen on the cells; each counter is claimed once; and so many looks were made
pub record IsConsistent (cells : ℕ) (claims : List Claim) (v : CellView) (known : Entries) (looks : ℕ) : Type 0 where
  pub bound : AreBoundEntries cells claims v.pairs known
  pub seen : AreSeenEntries v known
  pub once : AreClaimedOnce claims
  pub looks_are : looks ≡ looks_counted v

-- the pass with these versions, at this one, that has this of the counters
abbrev pub pass_with : TableId → PassState (List DomainTree) → CountersView → ℕ → PassView
pass_with versions version v refused = record {
  limiter = record { claims = v.claims.list_id; versions = versions };
  version = version;
  claims = v.claims.claims;
  cells = v.cells;
  known = v.known;
  refused = refused;
}

-- a pin is held on the spot's cell, under its claim
pub record IsPinned (v : CellView) (s : Spot) : Type 0 where
  pub held : 1 ≤ good_on s.cell v
  pub under : claim_on s.cell v.good ≡ s.claim

-- the pins that are held are those on the spots
pub record Holds (cells : ℕ) (spots : List Spot) (v : CellView) : Type 0 where
  pub within : All (λ (s : Spot). s.cell < cells) spots
  pub pins : (cell : ℕ) → good_on cell v ≡ spots_on cell spots
