-- Inside: what each act does to the versions.
use Rattle.std.specs.Prelude.{◌≡◌, ℕ, ◌+◌, ◌-◌, ◌<◌, ◌≤◌, List, [], ◌∷◌, ◌++◌, length}
use Rattle.std.specs.Arc.{arc_value}
use Rattle.rate_types.specs.declared.limits.TheConstants.{MOST_VERSIONS}
use Rattle.config_versions.specs.declared.install.Installed.{Installed}
use Rattle.config_versions.specs.declared.install.Installed.TheVariants as installed
use Rattle.config_versions.specs.declared.refresh.Refreshed.{Refreshed}
use Rattle.config_versions.specs.declared.refresh.Refreshed.TheVariants as refreshed
use Rattle.config_versions.specs.PassState.{IsVersion}

module _ {I : Type 0} where
  -- `next` is added, or the list is full, or there is no memory
  abbrev pub Installs : I → List I → Installed I → List I → Type 0
  Installs next found (installed.Added n) left = (n ≡ length found) × (n < MOST_VERSIONS) × (left ≡ found ++ next ∷ [])
  Installs next found (installed.Full newest) left =
      (length found ≡ MOST_VERSIONS) × IsVersion found (MOST_VERSIONS - 1) (arc_value newest) × (left ≡ found)
  Installs next found installed.OutOfMemory left = left ≡ found

  -- the version with this number is the newest, or there is a newer one
  abbrev pub Refreshes : ℕ → List I → Refreshed I → List I → Type 0
  Refreshes version found refreshed.Newest left = (length found ≤ version + 1) × (left ≡ found)
  Refreshes version found (refreshed.Newer n newest) left =
      (n + 1 ≡ length found) × (version < n) × IsVersion found n (arc_value newest) × (left ≡ found)
  Refreshes version found refreshed.OutOfMemory left = (version + 1 < length found) × (left ≡ found)
