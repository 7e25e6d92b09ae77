-- What happened to a bucket, the latest event first, and its phase and decisions after that.
use Rattle.std.specs.Prelude.{ℕ, ◌+◌, ◌&&◌, Bool, true, false, not, List, [], ◌∷◌, nat_le, if◌then◌else◌, Some, None}
use Rattle.std.specs.Prelude.{Option, option_map, unwrap_or}
use Rattle.quota_bucket.specs.Strategies.{Decision, allows, same_strategy}
use Rattle.quota_bucket.specs.declared.strategy.Strategy.{Strategy}
use Rattle.quota_bucket.specs.declared.rules.BucketRules.{BucketRules}
use Rattle.quota_bucket.specs.declared.rules.AtExpiry.{AtExpiry}
use Rattle.quota_bucket.specs.declared.rules.AtExpiry.TheVariants.{Abandon, Fallback, Reuse}
use Rattle.quota_bucket.specs.declared.timed_phase.InForce.{InForce}
use Rattle.quota_bucket.specs.declared.timed_phase.TimedPhase.{TimedPhase}
use Rattle.quota_bucket.specs.declared.timed_phase.TimedPhase.TheVariants.{Gone, Unassigned, Live, Expired}

-- what can happen to a bucket, each at a moment; an advance and a request know whether the stream was up
pub data Event : Type 0 where
  Advance : (at : ℕ) (up : Bool) → Event
  Request : (at : ℕ) (up : Bool) → Event
  Assignment : (at : ℕ) (lifetime : Option ℕ) (strategy : Strategy) → Event
  Abandonment : (at : ℕ) → Event

-- when it happened
abbrev pub moment_of : Event → ℕ
moment_of (Advance at up) = at
moment_of (Request at up) = at
moment_of (Assignment at lifetime strategy) = at
moment_of (Abandonment at) = at

-- whether there is no bucket
abbrev pub is_gone : TimedPhase → Bool
is_gone Gone = true
is_gone _ = false

-- what an expiry makes of an assignment
abbrev pub at_expiry : AtExpiry → Strategy → ℕ → ℕ → TimedPhase
at_expiry Abandon strategy effect expiry = Gone
at_expiry (Fallback fallback) strategy effect expiry = Expired fallback expiry expiry
at_expiry Reuse strategy effect expiry = Expired strategy effect expiry

-- the phase after the expiry of an assignment, where the advance reaches it
abbrev pub after_expiry : BucketRules → TimedPhase → ℕ → TimedPhase
after_expiry rules (Live strategy effect (Some expiry)) at =
    if nat_le expiry at then at_expiry rules.expired strategy effect expiry else Live strategy effect (Some expiry)
after_expiry rules before at = before

-- what the end of an expired behaviour leaves of it
abbrev pub ended : Option ℕ → Strategy → ℕ → ℕ → ℕ → TimedPhase
ended None strategy effect since at = Expired strategy effect since
ended (Some timeout) strategy effect since at =
    if nat_le (since + timeout) at then Gone else Expired strategy effect since

-- the phase after the end of an expired behaviour, where the advance reaches it
abbrev pub after_timeout : BucketRules → TimedPhase → ℕ → TimedPhase
after_timeout rules (Expired strategy effect since) at = ended rules.timeout strategy effect since at
after_timeout rules before at = before

-- the phase after an advance
abbrev pub after_advance : BucketRules → TimedPhase → ℕ → TimedPhase
after_advance rules before at = after_timeout rules (after_expiry rules before at) at

-- the phase after a request
abbrev pub after_request : TimedPhase → ℕ → TimedPhase
after_request Gone at = Unassigned at
after_request before at = before

-- an assignment that goes on until another moment
abbrev pub renewed : TimedPhase → Option ℕ → TimedPhase
renewed (Live strategy effect expiry) expires = Live strategy effect expires
renewed before expires = before

-- whether an assignment begins a new effect: one that isn't equal to that in force
abbrev pub begins_by_assignment : TimedPhase → Strategy → Bool
begins_by_assignment (Live old effect expiry) strategy = not (same_strategy old strategy)
begins_by_assignment _ strategy = true

-- the phase after an assignment, which keeps the effect of an equal one; where there is no bucket it changes nothing
abbrev pub after_assignment : TimedPhase → ℕ → Option ℕ → Strategy → TimedPhase
after_assignment before at lifetime strategy =
    if is_gone before then Gone
    else if begins_by_assignment before strategy then Live strategy at (option_map (λ n. at + n) lifetime)
    else renewed before (option_map (λ n. at + n) lifetime)

-- the phase after an event
abbrev pub after : BucketRules → Event → TimedPhase → TimedPhase
after rules (Advance at up) before = after_advance rules before at
after rules (Request at up) before = after_request before at
after rules (Assignment at lifetime strategy) before = after_assignment before at lifetime strategy
after rules (Abandonment at) before = Gone

-- the phase after a history, whose latest event stands first
abbrev pub phase_after : BucketRules → List Event → TimedPhase
phase_after rules [] = Gone
phase_after rules (event ∷ history) = after rules event (phase_after rules history)

-- the strategy in force in a phase, with the moment from which it has effect; none where there is no bucket
abbrev pub in_force : BucketRules → TimedPhase → Option InForce
in_force rules Gone = None
in_force rules (Unassigned effect) = Some (record { strategy = rules.unassigned; effect = effect })
in_force rules (Live strategy effect expiry) = Some (record { strategy = strategy; effect = effect })
in_force rules (Expired strategy effect since) = Some (record { strategy = strategy; effect = effect })

-- what decides a request at a moment, by the phase before it: the strategy in force, and for the request that makes the bucket
-- that of its settings, from this moment on
abbrev pub force_for : BucketRules → TimedPhase → ℕ → InForce
force_for rules before at = unwrap_or (in_force rules before) (record { strategy = rules.unassigned; effect = at })

-- whether an expiry begins a new effect
abbrev pub has_fallback : AtExpiry → Bool
has_fallback (Fallback fallback) = true
has_fallback _ = false

-- whether the expiry that an advance reaches begins a new effect
abbrev pub begins_by_expiry : BucketRules → TimedPhase → ℕ → Bool
begins_by_expiry rules (Live strategy effect (Some expiry)) at = nat_le expiry at && has_fallback rules.expired
begins_by_expiry rules _ at = false

-- whether an event begins a new effect, in the phase before it
abbrev pub begins : BucketRules → Event → TimedPhase → Bool
begins rules (Advance at up) before = begins_by_expiry rules before at
begins rules (Request at up) before = is_gone before
begins rules (Assignment at lifetime strategy) before = begins_by_assignment before strategy
begins rules (Abandonment at) before = true

-- whether a request at a moment is allowed, by the phase before it and the earlier requests of its effect
abbrev pub allowed_in : BucketRules → TimedPhase → ℕ → List Decision → Bool
allowed_in rules before at earlier =
    let force = force_for rules before at in allows force.strategy force.effect at earlier

-- the requests after an event, by the phase before it
abbrev pub with_event : BucketRules → Event → TimedPhase → List Decision → List Decision
with_event rules (Request at up) before earlier = record { at = at; allowed = allowed_in rules before at earlier } ∷ earlier
with_event rules _ before earlier = earlier

-- the requests since the event that began the effect in force, each with its answer, the latest first
abbrev pub decided : BucketRules → List Event → List Decision
decided rules [] = []
decided rules (event ∷ history) =
    with_event rules event (phase_after rules history)
    (if begins rules event (phase_after rules history) then [] else decided rules history)

-- whether a request at a moment is allowed after a history
abbrev pub is_allowed : BucketRules → List Event → ℕ → Bool
is_allowed rules history at =
    allowed_in rules (phase_after rules history) at
    (if is_gone (phase_after rules history) then [] else decided rules history)
