-- What reloads and look-ups of newer versions leave.
use Rattle.std.specs.Prelude.{◌≡◌, ◌≤◌, ℕ, List, length, Result, Ok, Err}
use mathlib.Core.List.{IsPrefix}
use Rattle.rate_types.specs.declared.limits.TheConstants.{MOST_VERSIONS}
use Rattle.descriptor_tree.specs.Trees.{DomainTree}
use Rattle.config_versions.specs.PassState.{PassState, HasInstalled, IsNewest}
use Rattle.rls_core.specs.declared.fault.ReloadFault.{ReloadFault}
use Rattle.rls_core.specs.declared.fault.ReloadFault.TheVariants.{VersionsFull, OutOfMemory}

-- the pass is at the version at which it was; it knows what it knew of the versions, and made none
pub record HasStayed {I : Type 0} (s t : PassState I) : Type 0 where
  pub version : t.version ≡ s.version
  pub index : t.index ≡ s.index
  pub knows : IsPrefix s.view.known t.view.known
  pub own : t.view.own ≡ s.view.own

-- the version hasn't fallen; what was known of the versions is known still, and the pass made none
pub record HasRisen {I : Type 0} (s t : PassState I) : Type 0 where
  pub rises : s.version ≤ t.version
  pub knows : IsPrefix s.view.known t.view.known
  pub own : t.view.own ≡ s.view.own

-- the configuration is the version with this number, and the pass is at it; or there are as many versions as there may be, and the pass is
-- at the newest; or there was no memory
abbrev pub Reloads : List DomainTree → Result ℕ ReloadFault → PassState (List DomainTree) → PassState (List DomainTree) → Type 0
Reloads config (Ok version) s t = HasInstalled config version s t
Reloads config (Err (VersionsFull versions)) s t =
    (versions ≡ MOST_VERSIONS) × (length t.view.known ≡ MOST_VERSIONS) × IsNewest s t
Reloads config (Err OutOfMemory) s t = HasStayed s t
