-- By which configuration each check was answered, where new ones were put in force meanwhile, and what closing the limiter tells of it.
use Rattle.std.specs.Prelude.{◌≡◌, ℕ, ◌+◌, ◌-◌, ◌*◌, ◌≤◌, ◌<◌, ◌==◌, List, [], ◌∷◌, length, map, All, Bool, Result, Ok, Err, ⊤}
use Rattle.std.specs.List.{AllByRecursion, flat_map}
use Rattle.rate_types.specs.Counters.{same_counter}
use Rattle.rate_types.specs.Ledger.{Charge, Sight, admitted_in, IsLawfulLedger, IsLawfulSight}
use Rattle.rate_types.specs.Requests.{RequestParts}
use Rattle.rate_types.specs.Sums.{total, one_if}
use Rattle.rate_types.specs.declared.counter_key.CounterKey.{CounterKey}
use Rattle.rate_types.specs.declared.limits.TheConstants.{MOST_PINS, MOST_VERSIONS}
use Rattle.descriptor_tree.specs.Trees.{DomainTree}
use Rattle.told_list.specs.Lists.{IsOwnedOnce}
use Rattle.config_versions.specs.PassState.{IsVersion}
use Rattle.rls_core.specs.Reply.{IsReplyOf}
use Rattle.rls_core.specs.declared.fault.CheckFault.{CheckFault}
use Rattle.rls_core.specs.declared.fault.CheckFault.TheVariants as check_fault
use Rattle.rls_core.specs.declared.fault.ReloadFault.{ReloadFault}
use Rattle.rls_core.specs.declared.fault.ReloadFault.TheVariants as reload_fault
use Rattle.rls_core.specs.declared.reply.Reply.{Reply}
use Rattle.rate_limiter.specs.Passes.{LimiterView, PassView, IsNewPass}
use Rattle.http_endpoint.specs.Answers.{Checked}
use Rattle.http_checks.specs.Checker.{checker}
use Rattle.http_checks.specs.Ledger.{charges_shown, sights_shown, LeadEach}
use Rattle.http_checks.specs.Deeds.{At, Deed, checked, reloaded, Deeds}
use Rattle.http_checks.specs.Causes.{HasCause}
use Rattle.http_checks.specs.Moments.{MomentsRise, HasSource}
use Rattle.http_checks.specs.Room.{all_counters, HadRoomFor}

-- the charges that a deed shows; a reload has none
abbrev pub charges_of : Deed → List (Charge CounterKey)
charges_of (checked a at) = charges_shown a.request a.result
charges_of (reloaded config result) = []

-- the sights that a deed shows; a reload has none
abbrev pub sights_of : Deed → List (Sight CounterKey)
sights_of (checked a at) = sights_shown a.request a.result
sights_of (reloaded config result) = []

-- the charges of all these deeds
abbrev pub ledger_of : List Deed → List (Charge CounterKey)
ledger_of deeds = flat_map charges_of deeds

-- the sights of all these deeds
abbrev pub sights_in : List Deed → List (Sight CounterKey)
sights_in deeds = flat_map sights_of deeds

-- 1 where a deed put the version with this number in force, else 0
abbrev pub installed_by : ℕ → Deed → ℕ
installed_by number (reloaded config (Ok version)) = one_if (version == number)
installed_by number other = 0

-- how often the version with this number was put in force
abbrev pub installs : ℕ → List Deed → ℕ
installs number deeds = total (installed_by number) deeds

-- the reply is that of the one version that it shows
pub record IsByVersion (configs : List (List DomainTree)) (global_shadow : Bool) (request : RequestParts) (reply : Reply) : Type 0 where
  pub config : List DomainTree
  pub version : IsVersion configs reply.version config
  pub is_reply : IsReplyOf config request reply.moment global_shadow reply.over reply.statuses.items

-- A check that was answered shows its version and its moment in its reply, and one that found no room its moment.
abbrev pub IsAnsweredBy : List (List DomainTree) → Bool → RequestParts → At → Result Reply CheckFault → Type 0
IsAnsweredBy configs global_shadow request at (Ok reply) =
    (reply.version ≡ at.version) × (reply.moment ≡ at.moment) × IsByVersion configs global_shadow request reply
IsAnsweredBy configs global_shadow request at (Err (check_fault.CountersFull moment live held wanted)) = moment ≡ at.moment
IsAnsweredBy configs global_shadow request at (Err (check_fault.ClaimsSpent claims wanted)) = ⊤
IsAnsweredBy configs global_shadow request at (Err check_fault.OutOfMemory) = ⊤

-- a configuration that was put in force is the version with the number answered, which isn't the first; it isn't put in force only where
-- there are as many versions as there may be, or where there was no memory
abbrev pub IsInForce : List (List DomainTree) → List DomainTree → Result ℕ ReloadFault → Type 0
IsInForce configs config (Ok version) = (1 ≤ version) × IsVersion configs version config
IsInForce configs config (Err (reload_fault.VersionsFull versions)) = (versions ≡ MOST_VERSIONS) × (length configs ≡ MOST_VERSIONS)
IsInForce configs config (Err reload_fault.OutOfMemory) = ⊤

-- each deed goes by these versions
abbrev pub GoesBy : List (List DomainTree) → Bool → Deed → Type 0
GoesBy configs global_shadow (checked a at) = IsAnsweredBy configs global_shadow a.request at a.result
GoesBy configs global_shadow (reloaded config result) = IsInForce configs config result

-- ---- along one pass

-- the version that a reload answered, or the last that there may be, else the one before
abbrev pub version_answered : ℕ → Result ℕ ReloadFault → ℕ
version_answered version (Ok number) = number
version_answered version (Err (reload_fault.VersionsFull versions)) = MOST_VERSIONS - 1
version_answered version (Err reload_fault.OutOfMemory) = version

-- a reload that put its configuration in force answered a greater number
abbrev pub IsAbove : ℕ → Result ℕ ReloadFault → Type 0
IsAbove version (Ok number) = version < number
IsAbove version (Err fault) = ⊤

-- Along these deeds of one pass, which was at this version, versions never fall, and each reload answers a greater one.
abbrev pub VersionsRise : ℕ → List Deed → Type 0
VersionsRise version [] = ⊤
VersionsRise version (checked a at ∷ deeds) = (version ≤ at.version) × VersionsRise at.version deeds
VersionsRise version (reloaded config result ∷ deeds) = IsAbove version result × VersionsRise (version_answered version result) deeds

-- ---- all passes

-- the deeds of several passes, one pass after the other
abbrev pub all_deeds : List (List Deed) → List Deed
all_deeds deeds = flat_map (λ xs. xs) deeds

-- ---- checks alone

-- checks, each with where it left its pass, as deeds
abbrev pub as_deeds : List (Checked × At) → List Deed
as_deeds xs = map (λ x. checked x.0 x.1) xs

-- the checks alone
abbrev pub checks_alone : List (Checked × At) → List Checked
checks_alone xs = map (λ x. x.0) xs

-- ---- the closed limiter

module _ (cells : ℕ) (limiter : LimiterView) where
  -- The deeds of the passes of one limiter, which had so many cells, of which these are all versions. Version 0 is the configuration that it
  -- was made with, and each other one was put in force by one reload, as what was handed to it. Each reply is that of the one version that
  -- it shows; along one pass versions never fall. Nor do moments: each is the start, or was offered. The charges of all replies are one
  -- lawful ledger, in which no limit admits more than itself, and what they saw are lawful sights in it. Each refused check has its cause;
  -- where there are cells for all counters that the checks name, none is refused for want of cells.
  pub record AreLawfulDeeds (config : List DomainTree) (start : ℕ) (configs : List (List DomainTree)) (deeds : List (List Deed)) : Type 0 where
    pub first : IsVersion configs 0 config
    pub few : length configs ≤ MOST_VERSIONS
    pub once : (version : ℕ) → IsOwnedOnce 1 (length configs) version (installs version (all_deeds deeds))
    pub by_versions : AllByRecursion (GoesBy configs limiter.global_shadow) (all_deeds deeds)
    pub versions_rise : AllByRecursion (VersionsRise 0) deeds
    pub moments_rise : AllByRecursion (MomentsRise start) deeds
    pub sources : AllByRecursion (HasSource start (all_deeds deeds)) (all_deeds deeds)
    pub ledger : IsLawfulLedger same_counter (ledger_of (all_deeds deeds))
    pub limits_hold : (c : CounterKey) (limit : ℕ) → admitted_in same_counter c limit (ledger_of (all_deeds deeds)) ≤ limit
    pub sights : AllByRecursion (IsLawfulSight same_counter (ledger_of (all_deeds deeds))) (sights_in (all_deeds deeds))
    pub causes : AllByRecursion (HasCause cells limiter configs (all_deeds deeds)) (all_deeds deeds)
    pub room : MOST_PINS * (limiter.passes - 1) + length (all_counters configs (all_deeds deeds)) ≤ cells
        → AllByRecursion HadRoomFor (all_deeds deeds)

  -- These checks, pass by pass, with where each left its pass, are lawful where the limiter had this configuration all the time.
  pub record AreLawfulAlone (config : List DomainTree) (start : ℕ) (checks : List (List Checked)) : Type 0 where
    pub placed : List (List (Checked × At))
    pub are : map checks_alone placed ≡ checks
    pub lawful : AreLawfulDeeds config start (config ∷ []) (map as_deeds placed)

  -- pass by pass, these deeds led from what it was to what it is
  abbrev pub DeedsEach : List PassView → List (List Deed) → List PassView → Type 0
  DeedsEach [] [] [] = Unit {0}
  DeedsEach (p ∷ ps) (xs ∷ deeds) (q ∷ qs) = Deeds cells (checker limiter p) xs (checker limiter q) × DeedsEach ps deeds qs
  DeedsEach ps deeds qs = ⊥

  -- The limiter is closed, with these passes: whatever deeds led to them from passes that were new, all of one configuration and with the
  -- limiter's start as their moment, are lawful, by versions that there are. Where no configuration came later, there is the first alone.
  pub record HasClosedVersions (start : ℕ) (passes : List PassView) : Type 0 where
    pub lawful : (config : List DomainTree) (before : List PassView) (deeds : List (List Deed))
        → All (λ p. IsNewPass config start p) before → DeedsEach before deeds passes
        → (configs : List (List DomainTree)) × AreLawfulDeeds config start configs deeds
    pub alone : (config : List DomainTree) (before : List PassView) (checks : List (List Checked))
        → All (λ p. IsNewPass config start p) before → LeadEach cells limiter before checks passes → AreLawfulAlone config start checks
