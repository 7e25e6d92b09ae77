-- Which configuration each version of a run is.
use Rattle.std.specs.Prelude.{◌≡◌, ℕ, ◌≤◌, ◌<◌, ◌==◌, ◌&&◌, List, ◌∷◌, Bool, true, false, count_by, if◌then◌else◌, ⊤}
use Rattle.std.specs.List.{AllByRecursion}
use Rattle.rate_types.specs.declared.limits.TheConstants.{MOST_VERSIONS}
use Rattle.descriptor_tree.specs.Trees.{DomainTree}
use Rattle.reply_text.specs.declared.record.Record.{Record}
use Rattle.reply_text.specs.declared.record.Outcome.{Outcome}
use Rattle.reply_text.specs.declared.record.Outcome.TheVariants as outcome
use Rattle.script_run.specs.ScriptLine.{ScriptLine, reload}
use Rattle.script_run.specs.Lines.{EachLine, IsAtLeastEarlier}

-- whether a reload was installed
abbrev pub is_installed : Outcome → Bool
is_installed outcome.Installed = true
is_installed other = false

-- how many reloads were installed
abbrev pub installs : List Record → ℕ
installs records = count_by (λ r. is_installed r.outcome) records

-- the configuration of a line that was installed as version v, else the other one
abbrev pub installed_or : ℕ → ScriptLine → ℕ → Outcome → List DomainTree → List DomainTree
installed_or v (reload config) version outcome.Installed other = if version == v then config else other
installed_or v line version shown other = other

-- The configuration of version v: that of the line that was installed as v, else the first.
abbrev pub version_in : List DomainTree → List ScriptLine → List Record → ℕ → List DomainTree
version_in first (l ∷ ls) (r ∷ rs) v = installed_or v l r.version r.outcome (version_in first ls rs v)
version_in first lines records v = first

-- an installed version is greater than those of its worker's earlier records
abbrev pub IsAbove : List Record → Record → Outcome → Type 0
IsAbove earlier r outcome.Installed = AllByRecursion (λ e. e.worker ≡ r.worker → e.version < r.version) earlier
IsAbove earlier r other = ⊤

-- The versions from 1 on are installed without a gap, by one line each, fewer than there may be; each record is by one of them or
-- by the first; and an installed version is greater than those of its worker's earlier records.
pub record VersionsNumbered (lines : List ScriptLine) (records : List Record) : Type 0 where
  pub once : (v : ℕ) → 1 ≤ v → v ≤ installs records → count_by (λ r. is_installed r.outcome && (r.version == v)) records ≡ 1
  pub few : installs records < MOST_VERSIONS
  pub known : AllByRecursion (λ r. r.version ≤ installs records) records
  pub above : EachLine lines records (λ before earlier l r. IsAbove earlier r r.outcome)

-- Along the records of one worker the versions never fall.
abbrev pub VersionsNeverFall : List ScriptLine → List Record → Type 0
VersionsNeverFall lines records = EachLine lines records (λ before earlier l r. IsAtLeastEarlier (λ s. s.version) earlier r)
