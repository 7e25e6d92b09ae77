-- What contracts see of a limiter and of its passes.
use Rattle.std.specs.Prelude.{◌≡◌, ℕ, ◌-◌, ◌*◌, List, [], Bool}
use Rattle.rate_types.specs.declared.limits.TheConstants.{MOST_PINS}
use Rattle.atomic_table.specs.Seated.{TableId}
use Rattle.descriptor_tree.specs.Trees.{DomainTree}
use Rattle.counter_directory.specs.Passes.{IsFresh, KnownClaims}
use Rattle.config_versions.specs.PassState.{PassState, IsFirst}
use Rattle.counter_cells.specs.Steps.{number_of, fresh_pass}
use Rattle.counter_cells.specs.declared.view.CellView.{CellView}
use Rattle.counter_directory.specs.Acquired.{Bounds}
use Rattle.over_cache.specs.Entries.{Entries}

-- which objects belong together: the list of claims and the list of versions
pub record LimiterId : Type 0 where
  pub claims : TableId
  pub versions : TableId

-- a limiter: which it is, how many passes were made, how many claims there may be at most, and whether its overall codes are always OK
pub record LimiterView : Type 0 where
  pub id : LimiterId
  pub passes : ℕ
  pub claims_max : ℕ
  pub global_shadow : Bool

-- A pass: the limiter that it was made with; the version at which it is, and what it knows of the versions; what it knows of the claims;
-- what it did on the cells; what it knows of its counters; and how many of its checks were refused for want of cells or of claims
pub record PassView : Type 0 where
  pub limiter : LimiterId
  pub version : PassState (List DomainTree)
  pub claims : KnownClaims
  pub cells : CellView
  pub known : Entries
  pub refused : ℕ

-- how many cells, claims and held cells there are at most
abbrev pub bounds_of : ℕ → LimiterView → Bounds
bounds_of cells l = record { cells = cells; claims = l.claims_max; held = MOST_PINS * (l.passes - 1) }

-- a pass that has done nothing yet: it is at the first version, which is the configuration, and its moment is the start
pub record IsNewPass (config : List DomainTree) (start : ℕ) (p : PassView) : Type 0 where
  pub version : IsFirst config p.version
  pub claims : IsFresh p.claims
  pub cells : p.cells ≡ fresh_pass (number_of p.cells) start
  pub known : p.known ≡ []
  pub refused : p.refused ≡ 0

-- nothing of the pass changed but its version and what it knows of the versions
abbrev pub KeepsAllButVersion : PassView → PassView → Type 0
KeepsAllButVersion p q = q ≡ record p { version = q.version }

-- nothing of the pass changed but its ticks and its moment
abbrev pub KeepsAllButTicks : PassView → PassView → Type 0
KeepsAllButTicks p q = q ≡ record p { cells = record p.cells { ticks = q.cells.ticks; moment = q.cells.moment } }
