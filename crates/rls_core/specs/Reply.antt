-- The reply to a request: the status of each descriptor, by one configuration at one moment.
use Rattle.std.specs.Prelude.{◌≡◌, ℕ, ◌&&◌, not, List, [], ◌∷◌, ◌++◌, Bool, true, false, Option, Some, unwrap_or}
use Rattle.std.specs.List.{list_any, flat_map}
use Rattle.rate_types.specs.Ledger.{Charge, Sight}
use Rattle.rate_types.specs.Requests.{RequestParts}
use Rattle.rate_types.specs.declared.counter_key.CounterKey.{CounterKey}
use Rattle.rate_types.specs.declared.request.Descriptor.{Descriptor}
use Rattle.rate_types.specs.declared.request.OwnLimit.{OwnLimit}
use Rattle.window_keys.specs.Counter.{counter_of}
use Rattle.descriptor_tree.specs.Trees.{DomainTree}
use Rattle.rule_lookup.specs.Replaces.{found_among}
use Rattle.rule_lookup.specs.declared.found.Found.{Found}
use Rattle.rule_lookup.specs.declared.found.Found.TheVariants.{Limited}
use Rattle.rls_core.specs.declared.status.Code.{Code}
use Rattle.rls_core.specs.declared.status.Code.TheVariants.{OverLimit}
use Rattle.rls_core.specs.declared.status.Code.TheVariants as code
use Rattle.rls_core.specs.declared.status.Count.{Count}
use Rattle.rls_core.specs.declared.status.Count.TheVariants.{Before, Seen}
use Rattle.rls_core.specs.declared.status.Status.{Status}
use Rattle.rls_core.specs.Status.{status_of}

-- a descriptor's hits are its own where given, else the request's
abbrev pub hits_of : RequestParts → Descriptor → ℕ
hits_of request descriptor = unwrap_or descriptor.hits request.hits

-- what a descriptor of a request finds: its rule, and none where the rule of another descriptor replaces it
abbrev pub found_for : List DomainTree → RequestParts → Descriptor → Found
found_for config request descriptor = found_among config request.domain request.descriptors descriptor

-- the code is OVER_LIMIT
abbrev pub is_over_limit : Code → Bool
is_over_limit OverLimit = true
is_over_limit code.Ok = false

-- each descriptor in order has the status of its rule and its count
abbrev pub AreStatuses : List DomainTree → RequestParts → ℕ → List Descriptor → List Status → Type 0
AreStatuses config request moment [] [] = Unit {0}
AreStatuses config request moment (d ∷ ds) (s ∷ ss) =
    (status_of (found_for config request d) moment (hits_of request d) s.count ≡ Some s) × AreStatuses config request moment ds ss
AreStatuses config request moment ds ss = ⊥

-- The reply: these statuses, and over where one of them is and global shadow is off.
pub record IsReplyOf (config : List DomainTree) (request : RequestParts) (moment : ℕ) (global_shadow over : Bool)
    (statuses : List Status) : Type 0 where
  pub each : AreStatuses config request moment request.descriptors statuses
  pub overall : over ≡ (list_any (λ s. is_over_limit s.code) statuses && not global_shadow)

-- the charge that a status shows
abbrev pub charge_shown : RequestParts → ℕ → Descriptor → Option OwnLimit → Count → List (Charge CounterKey)
charge_shown request moment d (Some own) (Before before) =
    record { counter = counter_of request.domain d own.unit moment; before = before; hits = hits_of request d } ∷ []
charge_shown request moment d limit other = []

-- the charges of a reply, in the order of its descriptors
abbrev pub charges_of : RequestParts → ℕ → List Descriptor → List Status → List (Charge CounterKey)
charges_of request moment (d ∷ ds) (s ∷ ss) = charge_shown request moment d s.limit s.count ++ charges_of request moment ds ss
charges_of request moment ds ss = []

-- the sight that a status shows, where its hits weren't charged
abbrev pub sight_shown : RequestParts → ℕ → Descriptor → Option OwnLimit → Count → List (Sight CounterKey)
sight_shown request moment d (Some own) (Seen seen) = record { counter = counter_of request.domain d own.unit moment; seen = seen } ∷ []
sight_shown request moment d limit other = []

-- the sights of a reply, in the order of its descriptors
abbrev pub sights_of : RequestParts → ℕ → List Descriptor → List Status → List (Sight CounterKey)
sights_of request moment (d ∷ ds) (s ∷ ss) = sight_shown request moment d s.limit s.count ++ sights_of request moment ds ss
sights_of request moment ds ss = []

-- the counter of a descriptor, where it has a limit
abbrev pub counter_under : RequestParts → ℕ → Descriptor → Found → List CounterKey
counter_under request moment d (Limited limit unit shadow rule) = counter_of request.domain d unit moment ∷ []
counter_under request moment d other = []

-- the counters that a request names at a moment
abbrev pub counters_named : List DomainTree → RequestParts → ℕ → List CounterKey
counters_named config request moment = flat_map (λ d. counter_under request moment d (found_for config request d)) request.descriptors
