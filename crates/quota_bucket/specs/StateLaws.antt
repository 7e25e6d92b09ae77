-- Inside: laws that proofs cite, here and in other crates. Each step of the state is the event on the history.
use Rattle.std.proofs.Common.{◌≡◌, ℕ, ◌+◌, ◌-◌, ◌<◌, ◌≤◌, ◌&&◌, ◌||◌, ◌^◌, ◌⊎◌, inl, inr, Bool, true, false, not, List, [], ◌∷◌, refl, sym}
use Rattle.std.proofs.Common.{arith, count_by, min, if◌then◌else◌, nat_lt, nat_le, Some, None, Option, is_some, unwrap_or, option_map}
use Rattle.std.proofs.lemmas.Bool.Decides.{nat_tests}
use Rattle.std.proofs.lemmas.List.Sums.{sum_by-cons}
use Rattle.quota_bucket.specs.declared.strategy.Strategy.{Strategy}
use Rattle.quota_bucket.specs.declared.strategy.Strategy.TheVariants.{AllowAll, DenyAll, PerUnit, TokenBucket}
use Rattle.quota_bucket.specs.declared.rules.BucketRules.{BucketRules}
use Rattle.quota_bucket.specs.declared.rules.AtExpiry.{AtExpiry}
use Rattle.quota_bucket.specs.declared.rules.AtExpiry.TheVariants.{Abandon, Fallback, Reuse}
use Rattle.quota_bucket.specs.declared.timed_phase.InForce.{InForce}
use Rattle.quota_bucket.specs.declared.timed_phase.TimedPhase.{TimedPhase}
use Rattle.quota_bucket.specs.declared.timed_phase.TimedPhase.TheVariants.{Gone, Unassigned, Live, Expired}
use Rattle.quota_bucket.specs.declared.meter.Meter.{Meter}
use Rattle.quota_bucket.specs.declared.meter.Meter.TheVariants.{Fresh}
use Rattle.quota_bucket.specs.declared.bucket_state.BucketState.{BucketState}
use Rattle.quota_bucket.specs.declared.bucket_state.Asked.{Asked}
use Rattle.quota_bucket.specs.Strategies.{Decision, allows}
use Rattle.quota_bucket.specs.History.{Event}
use Rattle.quota_bucket.specs.History.{Advance, Request, Assignment, Abandonment}
use Rattle.quota_bucket.specs.History.{moment_of, phase_after, decided, is_allowed, is_gone, after_advance, after_timeout, ended, at_expiry, has_fallback}
use Rattle.quota_bucket.specs.History.{after_request, after_assignment, renewed, begins, begins_by_expiry, begins_by_assignment, with_event, in_force, allowed_in}
use Rattle.quota_bucket.specs.Reports.{unreported, first_at, last_report, shown, waits, present, report_of_advance, report_of_request}
use Rattle.quota_bucket.specs.State.{meter_of, meter_in, state_from, state_after}
use Rattle.quota_bucket.specs.Machine.{advanced, advance_report, after_report, asked, assigned, one_if}
use Rattle.quota_bucket.specs.TimeOrder.{Falls, IsInOrder}
use Rattle.quota_bucket.specs.MeterLaws.{judged-meter_of}

pub meter_of-none : (strategy : Strategy) (effect : ℕ) → meter_of strategy effect [] ≡ Fresh
meter_of-none AllowAll effect = refl
meter_of-none DenyAll effect = refl
meter_of-none (PerUnit count unit) effect = refl
meter_of-none (TokenBucket max per_fill length) effect = refl

meter_in-none : (force : Option InForce) → meter_in force [] ≡ Fresh
meter_in-none None = refl
meter_in-none (Some force) = meter_of-none force.strategy force.effect

pub Falls-later : (a b : ℕ) (ds : List Decision) → a ≤ b → Falls a ds → Falls b ds
Falls-later a b [] le falls = falls
Falls-later a b (d ∷ ds) le falls = (omega (arith, falls.0), falls.1)

-- what an effect has of the requests, where an event may begin it
kept_falls : (begin : Bool) (a b : ℕ) (ds : List Decision) → a ≤ b → Falls a ds → Falls b (if begin then [] else ds)
kept_falls true a b ds le falls = tt
kept_falls false a b ds le falls = Falls-later a b ds le falls

with_falls : (rules : BucketRules) (event : Event) (phase : TimedPhase) (ds : List Decision) → Falls (moment_of event) ds
    → Falls (moment_of event) (with_event rules event phase ds)
with_falls rules (Advance at up) phase ds falls = falls
with_falls rules (Request at up) phase ds falls = (omega arith, falls)
with_falls rules (Assignment at lifetime strategy) phase ds falls = falls
with_falls rules (Abandonment at) phase ds falls = falls

-- in a history in order, the requests of an effect are in order
pub decided_falls : (rules : BucketRules) (history : List Event) → IsInOrder history → Falls (present history) (decided rules history)
decided_falls rules [] order = tt
decided_falls rules (event ∷ history) order =
    with_falls rules event _ _
    (kept_falls (begins rules event (phase_after rules history)) (present history) (moment_of event) (decided rules history) order.0
    (decided_falls rules history order.1))

-- a timeout that has come leaves nothing, and another one leaves the behaviour
ended_cases : (timeout : Option ℕ) (strategy : Strategy) (effect since at : ℕ)
    → (ended timeout strategy effect since at ≡ Gone) ⊎ (ended timeout strategy effect since at ≡ Expired strategy effect since)
ended_cases None strategy effect since at = inr refl
ended_cases (Some timeout) strategy effect since at = over (nat_le (since + timeout) at)
  where
    over : (b : Bool) → ((if b then Gone else Expired strategy effect since) ≡ Gone) ⊎ ((if b then Gone else Expired strategy effect since) ≡ Expired strategy effect since)
    over true = inl refl
    over false = inr refl

-- the meter where an advance may begin an effect or erase the bucket
abbrev MeterKept : BucketRules → TimedPhase → TimedPhase → Bool → List Decision → Type 0
MeterKept rules before later begin ds =
    (if (begin || is_gone later) then Fresh else meter_in (in_force rules before) ds)
    ≡ meter_in (in_force rules later) (if begin then [] else ds)

ended_keeps : (rules : BucketRules) (before : TimedPhase) (strategy : Strategy) (effect since : ℕ) (ds : List Decision) (later : TimedPhase)
    → in_force rules before ≡ Some (record { strategy = strategy; effect = effect })
    → (later ≡ Gone) ⊎ (later ≡ Expired strategy effect since) → MeterKept rules before later false ds
ended_keeps rules before strategy effect since ds later force (inl gone) = rw gone refl
ended_keeps rules before strategy effect since ds later force (inr is) = rw (is, force) refl

began_keeps : (rules : BucketRules) (before later : TimedPhase) (ds : List Decision) → MeterKept rules before later true ds
began_keeps rules before later ds = sym (meter_in-none (in_force rules later))

expiry_keeps : (rules : BucketRules) (expired : AtExpiry) (strategy : Strategy) (effect expiry at : ℕ) (ds : List Decision)
    → MeterKept rules (Live strategy effect (Some expiry)) (after_timeout rules (at_expiry expired strategy effect expiry) at)
    (has_fallback expired) ds
expiry_keeps rules Abandon strategy effect expiry at ds = refl
expiry_keeps rules (Fallback fallback) strategy effect expiry at ds =
    began_keeps rules (Live strategy effect (Some expiry)) (ended rules.timeout fallback expiry expiry at) ds
expiry_keeps rules Reuse strategy effect expiry at ds =
    ended_keeps rules (Live strategy effect (Some expiry)) strategy effect expiry ds _ refl
    (ended_cases rules.timeout strategy effect expiry at)

live_keeps : (rules : BucketRules) (strategy : Strategy) (effect expiry at : ℕ) (ds : List Decision) (reached : Bool)
    → MeterKept rules (Live strategy effect (Some expiry))
    (after_timeout rules (if reached then at_expiry rules.expired strategy effect expiry else Live strategy effect (Some expiry)) at)
    (reached && has_fallback rules.expired) ds
live_keeps rules strategy effect expiry at ds true = expiry_keeps rules rules.expired strategy effect expiry at ds
live_keeps rules strategy effect expiry at ds false = refl

advance_keeps : (rules : BucketRules) (before : TimedPhase) (at : ℕ) (ds : List Decision)
    → MeterKept rules before (after_advance rules before at) (begins_by_expiry rules before at) ds
advance_keeps rules Gone at ds = refl
advance_keeps rules (Unassigned effect) at ds = refl
advance_keeps rules (Live strategy effect None) at ds = refl
advance_keeps rules (Live strategy effect (Some expiry)) at ds = live_keeps rules strategy effect expiry at ds (nat_le expiry at)
advance_keeps rules (Expired strategy effect since) at ds =
    ended_keeps rules (Expired strategy effect since) strategy effect since ds _ refl
    (ended_cases rules.timeout strategy effect since at)

pub count_cons : (p : Decision → Bool) (d : Decision) (ds : List Decision) → count_by p (d ∷ ds) ≡ (if p d then 1 else 0) + count_by p ds
count_cons p d ds = sum_by-cons (λ x. if p x then 1 else 0) d ds

-- a request waits exactly where one of the shown counts isn't 0
pub shown_some : (n m : ℕ) → 0 < n + m → (nat_lt 0 (shown n) || nat_lt 0 (shown m)) ≡ true
shown_some n m some = grind (arith, nat_tests)

one_of : (b : Bool) (m n : ℕ) → 0 < ((if b then 1 else 0) + m) + ((if (not b) then 1 else 0) + n)
one_of true m n = omega arith
one_of false m n = omega arith

pub waits-shown : (ds : List Decision)
    → (nat_lt 0 (shown (count_by (λ d. d.allowed) ds)) || nat_lt 0 (shown (count_by (λ d. not d.allowed) ds))) ≡ waits ds
waits-shown [] = refl
waits-shown (d ∷ ds) =
    shown_some (count_by (λ x. x.allowed) (d ∷ ds)) (count_by (λ x. not x.allowed) (d ∷ ds))
    (rw (count_cons (λ x. x.allowed) d ds, count_cons (λ x. not x.allowed) d ds)
    (one_of d.allowed (count_by (λ x. x.allowed) ds) (count_by (λ x. not x.allowed) ds)))

reported_step : (rules : BucketRules) (sent : Option ℕ) (phase : TimedPhase) (meter : Meter) (state : BucketState) (ds waiting : List Decision)
    → meter ≡ meter_in (in_force rules phase) ds
    → state.allowed ≡ shown (count_by (λ d. d.allowed) waiting) → state.denied ≡ shown (count_by (λ d. not d.allowed) waiting)
    → after_report sent phase meter state
    ≡ state_from rules phase ds (if is_some sent then [] else waiting) state.first (unwrap_or sent state.reported)
reported_step rules (Some moment) phase meter state ds waiting is allowed denied = rw is refl
reported_step rules None phase meter state ds waiting is allowed denied = rw (is, allowed, denied) refl

-- an advance
pub advanced-state_after : (rules : BucketRules) (history : List Event) (at : ℕ) (up : Bool)
    → advanced rules (record { from = present history; to = at; up = up }) (state_after rules history)
    ≡ state_after rules (Advance at up ∷ history)
advanced-state_after rules history at up =
    rw (waits-shown (unreported rules history))
    (reported_step rules _ _ _ _ _ (unreported rules history) (advance_keeps rules (phase_after rules history) at (decided rules history)) refl refl)

-- the report of an advance
pub advance_report-state_after : (rules : BucketRules) (history : List Event) (at : ℕ) (up : Bool)
    → advance_report rules (record { from = present history; to = at; up = up }) (state_after rules history)
    ≡ report_of_advance rules history at up
advance_report-state_after rules history at up = rw (waits-shown (unreported rules history)) refl

capped_more : (n k most : ℕ) → min (min n most + k) most ≡ min (k + n) most
capped_more n k most = omega arith

-- a count with one more
shown_more : (p : Decision → Bool) (d : Decision) (ds : List Decision)
    → shown (shown (count_by p ds) + one_if (p d)) ≡ shown (count_by p (d ∷ ds))
shown_more p d ds = rw (count_cons p d ds) (capped_more (count_by p ds) (one_if (p d)) (2 ^ 64 - 1))

-- what is answered and kept after a request, by the phase before it and the lists
abbrev AskedOf : BucketRules → ℕ → Bool → TimedPhase → List Decision → List Decision → ℕ → ℕ → Asked
AskedOf rules at up before ds waiting first reported =
    let phase = after_request before at in
    let earlier : List Decision = if is_gone before then [] else ds in
    let answer = allowed_in rules before at earlier in
    let request : Decision = record { at = at; allowed = answer } in
    record {
      allowed = answer;
      report = if (is_gone before && up) then Some (record {
        at = at;
        elapsed = 0;
        allowed = if answer then 1 else 0;
        denied = if answer then 0 else 1;
      }) else None;
      state = state_from rules phase (request ∷ earlier)
          (if is_gone before then (if up then [] else request ∷ []) else request ∷ waiting)
          (if is_gone before then at else first) (if is_gone before then at else reported);
    }

first_asked : (rules : BucketRules) (at : ℕ) (up answer : Bool) (meter : Meter)
    → meter ≡ meter_of rules.unassigned at (record { at = at; allowed = answer } ∷ [])
    → (let a : Asked = record {
      allowed = answer;
      report = if up then Some (record { at = at; elapsed = 0; allowed = one_if answer; denied = one_if (not answer) }) else None;
      state = record {
        first = at;
        reported = at;
        phase = Unassigned at;
        meter = meter;
        allowed = if up then 0 else one_if answer;
        denied = if up then 0 else one_if (not answer);
      };
    } in a) ≡ record {
      allowed = answer;
      report = if up then Some (record { at = at; elapsed = 0; allowed = if answer then 1 else 0; denied = if answer then 0 else 1 }) else None;
      state = state_from rules (Unassigned at) (record { at = at; allowed = answer } ∷ [])
          (if up then [] else record { at = at; allowed = answer } ∷ []) at at;
    }
first_asked rules at true true meter is = rw is refl
first_asked rules at true false meter is = rw is refl
first_asked rules at false true meter is = rw is refl
first_asked rules at false false meter is = rw is refl

ask_step : (rules : BucketRules) (at : ℕ) (up : Bool) (before : TimedPhase) (ds waiting : List Decision) (first reported : ℕ) → Falls at ds
    → asked rules at up (state_from rules before ds waiting first reported) ≡ AskedOf rules at up before ds waiting first reported
ask_step rules at up Gone ds waiting first reported falls =
    let fresh : meter_of rules.unassigned at [] ≡ Fresh = meter_of-none rules.unassigned at in
    let told = judged-meter_of rules.unassigned at at [] tt in
    rw (← fresh, told) (first_asked rules at up (allows rules.unassigned at at []) _ refl)
ask_step rules at up (Unassigned effect) ds waiting first reported falls =
    rw (
      judged-meter_of rules.unassigned effect at ds falls,
      shown_more (λ d. d.allowed) (record { at = at; allowed = allows rules.unassigned effect at ds }) waiting,
      shown_more (λ d. not d.allowed) (record { at = at; allowed = allows rules.unassigned effect at ds }) waiting,
    ) refl
ask_step rules at up (Live strategy effect expiry) ds waiting first reported falls =
    rw (
      judged-meter_of strategy effect at ds falls,
      shown_more (λ d. d.allowed) (record { at = at; allowed = allows strategy effect at ds }) waiting,
      shown_more (λ d. not d.allowed) (record { at = at; allowed = allows strategy effect at ds }) waiting,
    ) refl
ask_step rules at up (Expired strategy effect since) ds waiting first reported falls =
    rw (
      judged-meter_of strategy effect at ds falls,
      shown_more (λ d. d.allowed) (record { at = at; allowed = allows strategy effect at ds }) waiting,
      shown_more (λ d. not d.allowed) (record { at = at; allowed = allows strategy effect at ds }) waiting,
    ) refl

-- a request
pub asked-state_after : (rules : BucketRules) (history : List Event) (at : ℕ) (up : Bool) → Falls at (decided rules history)
    → asked rules at up (state_after rules history) ≡ record {
      allowed = is_allowed rules history at;
      report = report_of_request rules history at up;
      state = state_after rules (Request at up ∷ history);
    }
asked-state_after rules history at up falls =
    ask_step rules at up (phase_after rules history) (decided rules history) (unreported rules history)
    (first_at rules history) (last_report rules history) falls

-- the meter where an assignment may begin an effect
renewed_keeps : (rules : BucketRules) (before : TimedPhase) (strategy : Strategy) (expires : Option ℕ) (ds : List Decision)
    → begins_by_assignment before strategy ≡ false
    → meter_in (in_force rules before) ds ≡ meter_in (in_force rules (renewed before expires)) ds
renewed_keeps rules Gone strategy expires ds is = refl
renewed_keeps rules (Unassigned effect) strategy expires ds is = refl
renewed_keeps rules (Live old effect expiry) strategy expires ds is = refl
renewed_keeps rules (Expired old effect since) strategy expires ds is = refl

begun_keeps : (rules : BucketRules) (before : TimedPhase) (at : ℕ) (expires : Option ℕ) (strategy : Strategy) (ds : List Decision) (begin : Bool)
    → begins_by_assignment before strategy ≡ begin
    → (let later = if begin then Live strategy at expires else renewed before expires in
    (if begin then Fresh else meter_in (in_force rules before) ds) ≡ meter_in (in_force rules later) (if begin then [] else ds))
begun_keeps rules before at expires strategy ds true is = sym (meter_of-none strategy at)
begun_keeps rules before at expires strategy ds false is = renewed_keeps rules before strategy expires ds is

assign_keeps : (rules : BucketRules) (before : TimedPhase) (at : ℕ) (lifetime : Option ℕ) (strategy : Strategy) (ds : List Decision)
    → (if (begins_by_assignment before strategy) then Fresh else meter_in (in_force rules before) ds)
    ≡ meter_in (in_force rules (after_assignment before at lifetime strategy)) (if (begins_by_assignment before strategy) then [] else ds)
assign_keeps rules Gone at lifetime strategy ds = refl
assign_keeps rules (Unassigned effect) at lifetime strategy ds = sym (meter_of-none strategy at)
assign_keeps rules (Live old effect expiry) at lifetime strategy ds =
    begun_keeps rules (Live old effect expiry) at (option_map (λ n. at + n) lifetime) strategy ds
    (begins_by_assignment (Live old effect expiry) strategy) refl
assign_keeps rules (Expired old effect since) at lifetime strategy ds = sym (meter_of-none strategy at)

-- an assignment
pub assigned-state_after : (rules : BucketRules) (history : List Event) (at : ℕ) (lifetime : Option ℕ) (strategy : Strategy)
    → assigned at lifetime strategy (state_after rules history) ≡ state_after rules (Assignment at lifetime strategy ∷ history)
assigned-state_after rules history at lifetime strategy =
    rw (assign_keeps rules (phase_after rules history) at lifetime strategy (decided rules history)) refl
