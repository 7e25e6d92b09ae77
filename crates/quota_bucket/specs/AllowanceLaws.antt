-- Inside: laws that proofs cite, here and in other crates. No effect allows more than its strategy's number.
use Rattle.std.proofs.Common.{◌≡◌, ℕ, ◌+◌, ◌-◌, ◌*◌, ◌<◌, ◌≤◌, ◌==◌, ◌&&◌, ◌⊎◌, inl, inr, Bool, true, false, List, [], ◌∷◌, refl, arith, ap, sym, ◌∙◌, Some}
use Rattle.std.proofs.Common.{None, Option, option_map, count_by, if◌then◌else◌, nat_lt, nat_le, min, suc, zero}
use Rattle.std.specs.Bool.{⊤}
use Rattle.std.proofs.lemmas.Bool.{ltb-true, leb-true, leb-false, eqb-true}
use Rattle.std.proofs.lemmas.Bool.Decides.{nat_tests}
use Rattle.std.proofs.Math.Nat.{div-zero, mul-add, mul-le-mul_left}
use Rattle.quota_bucket.specs.declared.strategy.Strategy.{Strategy}
use Rattle.quota_bucket.specs.declared.strategy.Strategy.TheVariants.{AllowAll, DenyAll, PerUnit, TokenBucket}
use Rattle.quota_bucket.specs.declared.rules.BucketRules.{BucketRules}
use Rattle.quota_bucket.specs.declared.rules.AtExpiry.{AtExpiry}
use Rattle.quota_bucket.specs.declared.rules.AtExpiry.TheVariants.{Abandon, Fallback, Reuse}
use Rattle.quota_bucket.specs.declared.timed_phase.TimedPhase.{TimedPhase}
use Rattle.quota_bucket.specs.declared.timed_phase.TimedPhase.TheVariants.{Gone, Unassigned, Live, Expired}
use Rattle.quota_bucket.specs.Strategies.{Decision, allows, allowed_in, allowed_between, interval_at, fills_at, tokens_left, tokens_before, millis_of}
use Rattle.quota_bucket.specs.History.{Event, Advance, Request, Assignment, Abandonment, phase_after, decided, is_gone, after, after_advance, after_timeout, ended}
use Rattle.quota_bucket.specs.History.{at_expiry, has_fallback, after_request, after_assignment, renewed, begins, begins_by_expiry, begins_by_assignment, with_event}
use Rattle.quota_bucket.specs.History.{in_force, allowed_in as is_allowed_in}
use Rattle.quota_bucket.specs.Machine.{one_if}
use Rattle.quota_bucket.specs.TimeOrder.{Falls, IsInOrder}
use Rattle.quota_bucket.specs.Allowance.{IsWithin, IsWithinForce, KeepsAllowance}
use Rattle.quota_bucket.specs.MeterLaws.{div-le}
use Rattle.quota_bucket.specs.StateLaws.{decided_falls, count_cons}

-- each request was decided by this strategy and effect, over the requests before it
abbrev IsDecidedBy : Strategy → ℕ → List Decision → Type 0
IsDecidedBy strategy effect [] = ⊤
IsDecidedBy strategy effect (d ∷ ds) = (d.allowed ≡ allows strategy effect d.at ds) × IsDecidedBy strategy effect ds

-- each was decided as a phase has it
abbrev IsDecidedIn : BucketRules → TimedPhase → List Decision → Type 0
IsDecidedIn rules Gone ds = ⊤
IsDecidedIn rules (Unassigned effect) ds = IsDecidedBy rules.unassigned effect ds
IsDecidedIn rules (Live strategy effect expiry) ds = IsDecidedBy strategy effect ds
IsDecidedIn rules (Expired strategy effect since) ds = IsDecidedBy strategy effect ds

decided_none : (rules : BucketRules) (phase : TimedPhase) → IsDecidedIn rules phase []
decided_none rules Gone = tt
decided_none rules (Unassigned effect) = tt
decided_none rules (Live strategy effect expiry) = tt
decided_none rules (Expired strategy effect since) = tt

-- what stays where an event begins no effect: the strategy and its effect, unless the bucket is gone
abbrev Stays : BucketRules → TimedPhase → TimedPhase → Bool → List Decision → Type 0
Stays rules before later begin ds = IsDecidedIn rules before ds → IsDecidedIn rules later (if begin then [] else ds)

ended_stays : (timeout : Option ℕ) (rules : BucketRules) (strategy : Strategy) (effect since at : ℕ) (ds : List Decision)
    → IsDecidedBy strategy effect ds → IsDecidedIn rules (ended timeout strategy effect since at) ds
ended_stays None rules strategy effect since at ds before = before
ended_stays (Some timeout) rules strategy effect since at ds before = over (nat_le (since + timeout) at)
  where
    over : (b : Bool) → IsDecidedIn rules (if b then Gone else Expired strategy effect since) ds
    over true = tt
    over false = before

expiry_stays : (rules : BucketRules) (expired : AtExpiry) (strategy : Strategy) (effect expiry at : ℕ) (ds : List Decision)
    → Stays rules (Live strategy effect (Some expiry)) (after_timeout rules (at_expiry expired strategy effect expiry) at) (has_fallback expired) ds
expiry_stays rules Abandon strategy effect expiry at ds before = tt
expiry_stays rules (Fallback fallback) strategy effect expiry at ds before = decided_none rules _
expiry_stays rules Reuse strategy effect expiry at ds before = ended_stays rules.timeout rules strategy effect expiry at ds before

live_stays : (rules : BucketRules) (strategy : Strategy) (effect expiry at : ℕ) (ds : List Decision) (reached : Bool)
    → Stays rules (Live strategy effect (Some expiry))
    (after_timeout rules (if reached then at_expiry rules.expired strategy effect expiry else Live strategy effect (Some expiry)) at)
    (reached && has_fallback rules.expired) ds
live_stays rules strategy effect expiry at ds true = expiry_stays rules rules.expired strategy effect expiry at ds
live_stays rules strategy effect expiry at ds false = λ before. before

advance_stays : (rules : BucketRules) (before : TimedPhase) (at : ℕ) (ds : List Decision)
    → Stays rules before (after_advance rules before at) (begins_by_expiry rules before at) ds
advance_stays rules Gone at ds before = tt
advance_stays rules (Unassigned effect) at ds before = before
advance_stays rules (Live strategy effect None) at ds before = before
advance_stays rules (Live strategy effect (Some expiry)) at ds before = live_stays rules strategy effect expiry at ds (nat_le expiry at) before
advance_stays rules (Expired strategy effect since) at ds before = ended_stays rules.timeout rules strategy effect since at ds before

request_stays : (rules : BucketRules) (before : TimedPhase) (at : ℕ) (ds : List Decision)
    → Stays rules before (after_request before at) (is_gone before) ds
request_stays rules Gone at ds before = tt
request_stays rules (Unassigned effect) at ds before = before
request_stays rules (Live strategy effect expiry) at ds before = before
request_stays rules (Expired strategy effect since) at ds before = before

begun_stays : (rules : BucketRules) (old strategy : Strategy) (effect at : ℕ) (expiry expires : Option ℕ) (ds : List Decision) (begin : Bool)
    → Stays rules (Live old effect expiry) (if begin then Live strategy at expires else renewed (Live old effect expiry) expires) begin ds
begun_stays rules old strategy effect at expiry expires ds true before = tt
begun_stays rules old strategy effect at expiry expires ds false before = before

assignment_stays : (rules : BucketRules) (before : TimedPhase) (at : ℕ) (lifetime : Option ℕ) (strategy : Strategy) (ds : List Decision)
    → Stays rules before (after_assignment before at lifetime strategy) (begins_by_assignment before strategy) ds
assignment_stays rules Gone at lifetime strategy ds before = tt
assignment_stays rules (Unassigned effect) at lifetime strategy ds before = tt
assignment_stays rules (Live old effect expiry) at lifetime strategy ds before =
    begun_stays rules old strategy effect at expiry (option_map (λ n. at + n) lifetime) ds
    (begins_by_assignment (Live old effect expiry) strategy) before
assignment_stays rules (Expired old effect since) at lifetime strategy ds before = tt

event_stays : (rules : BucketRules) (event : Event) (before : TimedPhase) (ds : List Decision)
    → Stays rules before (after rules event before) (begins rules event before) ds
event_stays rules (Advance at up) before ds = advance_stays rules before at ds
event_stays rules (Request at up) before ds = request_stays rules before at ds
event_stays rules (Assignment at lifetime strategy) before ds = assignment_stays rules before at lifetime strategy ds
event_stays rules (Abandonment at) before ds = λ _. tt

request_decided : (rules : BucketRules) (at : ℕ) (before : TimedPhase) (ds : List Decision) → IsDecidedIn rules (after_request before at) ds
    → IsDecidedIn rules (after_request before at) (record { at = at; allowed = is_allowed_in rules before at ds } ∷ ds)
request_decided rules at Gone ds by = (refl, by)
request_decided rules at (Unassigned effect) ds by = (refl, by)
request_decided rules at (Live strategy effect expiry) ds by = (refl, by)
request_decided rules at (Expired strategy effect since) ds by = (refl, by)

with_decided : (rules : BucketRules) (event : Event) (before : TimedPhase) (ds : List Decision) → IsDecidedIn rules (after rules event before) ds
    → IsDecidedIn rules (after rules event before) (with_event rules event before ds)
with_decided rules (Advance at up) before ds by = by
with_decided rules (Request at up) before ds by = request_decided rules at before ds by
with_decided rules (Assignment at lifetime strategy) before ds by = by
with_decided rules (Abandonment at) before ds by = by

-- the requests since an effect began were decided by it
decided_in : (rules : BucketRules) (history : List Event) → IsDecidedIn rules (phase_after rules history) (decided rules history)
decided_in rules [] = tt
decided_in rules (event ∷ history) =
    with_decided rules event (phase_after rules history) _
    (event_stays rules event (phase_after rules history) (decided rules history) (decided_in rules history))

-- one more request in an interval, decided by a number
counted_more : (here same : Bool) (n count : ℕ) → n ≤ count → (here ≡ true → same ≡ true → n < count)
    → (if (here && same) then 1 else 0) + n ≤ count
counted_more true true n count le less = omega (arith, less refl refl)
counted_more true false n count le less = omega arith
counted_more false same n count le less = omega arith

within_count : (count length effect interval : ℕ) (d : Decision) (ds : List Decision)
    → d.allowed ≡ nat_lt (allowed_in length effect (interval_at length effect d.at) ds) count
    → allowed_in length effect interval ds ≤ count → allowed_in length effect interval (d ∷ ds) ≤ count
within_count count length effect interval d ds is within =
    rw (count_cons (λ d. d.allowed && interval_at length effect d.at == interval) d ds)
    (counted_more d.allowed (interval_at length effect d.at == interval) (allowed_in length effect interval ds) count within
    (λ here same. rw (← eqb-true _ _ same) (ltb-true _ _ (sym is ∙ here))))

count_within : (count : ℕ) (unit : _) (effect interval : ℕ) (ds : List Decision) → IsDecidedBy (PerUnit count unit) effect ds
    → allowed_in (millis_of unit) effect interval ds ≤ count
count_within count unit effect interval [] by = omega arith
count_within count unit effect interval (d ∷ ds) by =
    within_count count (millis_of unit) effect interval d ds by.0 (count_within count unit effect interval ds by.1)

-- tokens come up to later moments too
fills-le : (interval effect a b : ℕ) → a ≤ b → fills_at interval effect a ≤ fills_at interval effect b
fills-le zero effect a b le = rw (div-zero (a - effect), div-zero (b - effect)) (omega arith)
fills-le (suc k) effect a b le = div-le (a - effect) (b - effect) (suc k) (omega arith) (omega arith)

-- how many were allowed from a moment on
abbrev allowed_since : ℕ → List Decision → ℕ
allowed_since from requests = count_by (λ d. d.allowed && nat_le from d.at) requests

-- none, where the latest one is earlier
none_since : (from moment : ℕ) (ds : List Decision) → Falls moment ds → moment < from → allowed_since from ds ≡ 0
none_since from moment [] falls before = refl
none_since from moment (d ∷ ds) falls before =
    rw (count_cons (λ d. d.allowed && nat_le from d.at) d ds, none_since from d.at ds falls.1 (omega (arith, falls.0)))
    (let below : d.at ≤ moment = falls.0 in early d.allowed (omega arith))
  where
    early : (b : Bool) → d.at < from → (if (b && nat_le from d.at) then 1 else 0) + 0 ≡ 0
    early true lt = grind (arith, nat_tests)
    early false lt = refl

-- a request and what it leaves are the tokens before it
spent : (tokens : ℕ) (b : Bool) → b ≡ nat_le 1 tokens → one_if b + tokens_left tokens b ≡ tokens
spent tokens true is = let some : 1 ≤ tokens = leb-true 1 tokens (sym is) in omega arith
spent tokens false is = omega arith

-- tokens that came in two steps came in one
two_steps : (p a b c : ℕ) → a ≤ b → b ≤ c → p * (b - a) + p * (c - b) ≡ p * (c - a)
two_steps p a b c ab bc = sym (mul-add p (b - a) (c - b)) ∙ ap (λ n. p * n) (omega arith)

-- the sum of what was allowed and what is left: one more request keeps its bound
held_more : (max p ff f0 f1 count left before : ℕ) → ff ≤ f0 → f0 ≤ f1
    → count + left ≤ max + p * (f0 - ff) → before ≤ left + p * (f1 - f0) → count + before ≤ max + p * (f1 - ff)
held_more max p ff f0 f1 count left before a b le now = omega (arith, two_steps p ff f0 f1 a b)

-- the latest request counts from its moment on
count_now : (from : ℕ) (d : Decision) (ds : List Decision) → from ≤ d.at
    → allowed_since from (d ∷ ds) ≡ one_if d.allowed + allowed_since from ds
count_now from d ds le = count_cons (λ d. d.allowed && nat_le from d.at) d ds ∙ ap (λ n. n + allowed_since from ds) (here d.allowed)
  where
    here : (b : Bool) → one_if (b && nat_le from d.at) ≡ one_if b
    here true = grind (arith, nat_tests)
    here false = refl

cases_le : (a b : ℕ) → (a ≤ b) ⊎ (b < a)
cases_le a b = over (nat_le a b) refl
  where
    over : (t : Bool) → nat_le a b ≡ t → (a ≤ b) ⊎ (b < a)
    over true is = inl (leb-true a b is)
    over false is = inr (leb-false a b is)

-- the latest request, whether the one before it counts or not
held_step : (max p ff f0 f1 one count left after : ℕ) {P Q : Type 0} → f0 ≤ f1 → one + after ≡ min (left + p * (f1 - f0)) max
    → P ⊎ Q → (P → ff ≤ f0) → (P → count + left ≤ max + p * (f0 - ff)) → (Q → count ≡ 0)
    → one + count + after ≤ max + p * (f1 - ff)
held_step max p ff f0 f1 one count left after later all (inl h) order rest none =
    let sum : count + (one + after) ≤ max + p * (f1 - ff) =
    held_more max p ff f0 f1 count left (one + after) (order h) later (rest h) (omega (arith, all)) in
    omega (arith, sum)
held_step max p ff f0 f1 one count left after later all (inr h) order rest none = omega (arith, all, none h)

-- since a moment at most the tokens at first and those that came were used or are left
held_since : (max p interval effect from : ℕ) (d : Decision) (ds : List Decision) → Falls d.at ds
    → IsDecidedBy (TokenBucket max p interval) effect (d ∷ ds) → from ≤ d.at
    → allowed_since from (d ∷ ds) + tokens_left (tokens_before max p interval effect d.at ds) d.allowed
    ≤ max + p * (fills_at interval effect d.at - fills_at interval effect from)
held_since max p interval effect from d [] falls by le =
    rw (count_now from d [] le)
    (let all : one_if d.allowed + tokens_left max d.allowed ≡ max = spent max d.allowed by.0 in
    fits (one_if d.allowed) all)
  where
    fits : (n : ℕ) → n + tokens_left max d.allowed ≡ max
        → n + 0 + tokens_left max d.allowed ≤ max + p * (fills_at interval effect d.at - fills_at interval effect from)
    fits n all = omega arith
held_since max p interval effect from d (e ∷ ds) falls by le =
    rw (count_now from d (e ∷ ds) le)
    (let all = spent (tokens_before max p interval effect d.at (e ∷ ds)) d.allowed by.0 in
    let rest : from ≤ e.at → allowed_since from (e ∷ ds) + tokens_left (tokens_before max p interval effect e.at ds) e.allowed
    ≤ max + p * (fills_at interval effect e.at - fills_at interval effect from) =
    λ h. held_since max p interval effect from e ds falls.1 by.1 h in
    let none : e.at < from → allowed_since from (e ∷ ds) ≡ 0 =
    λ h. none_since from e.at (e ∷ ds) (omega arith, falls.1) h in
    held_step max p (fills_at interval effect from) (fills_at interval effect e.at) (fills_at interval effect d.at)
    (one_if d.allowed) (allowed_since from (e ∷ ds)) (tokens_left (tokens_before max p interval effect e.at ds) e.allowed)
    (tokens_left (tokens_before max p interval effect d.at (e ∷ ds)) d.allowed)
    (fills-le interval effect e.at d.at falls.0) all (cases_le from e.at)
    (λ h. fills-le interval effect from e.at h) rest none)

-- those between two moments are among those since the first
between-since : (from to : ℕ) (ds : List Decision) → allowed_between from to ds ≤ allowed_since from ds
between-since from to [] = omega arith
between-since from to (d ∷ ds) =
    rw (count_cons (λ d. d.allowed && (nat_le from d.at && nat_le d.at to)) d ds, count_cons (λ d. d.allowed && nat_le from d.at) d ds)
    (fewer d.allowed (nat_le from d.at) (nat_le d.at to) (between-since from to ds))
  where
    fewer : (a b c : Bool) → allowed_between from to ds ≤ allowed_since from ds
        → (if (a && (b && c)) then 1 else 0) + allowed_between from to ds ≤ (if (a && b) then 1 else 0) + allowed_since from ds
    fewer true true true le = omega arith
    fewer true true false le = omega arith
    fewer true false c le = omega arith
    fewer false b c le = omega arith

-- a request after both moments doesn't count
between-later : (from to : ℕ) (d : Decision) (ds : List Decision) → to < d.at → allowed_between from to (d ∷ ds) ≡ allowed_between from to ds
between-later from to d ds later =
    count_cons (λ d. d.allowed && (nat_le from d.at && nat_le d.at to)) d ds ∙ none d.allowed (nat_le from d.at)
  where
    none : (a b : Bool) → (if (a && (b && nat_le d.at to)) then 1 else 0) + allowed_between from to ds ≡ allowed_between from to ds
    none true true = grind (arith, nat_tests)
    none true false = omega arith
    none false b = omega arith

more_tokens : (max p ff f0 f1 : ℕ) → f0 ≤ f1 → max + p * (f0 - ff) ≤ max + p * (f1 - ff)
more_tokens max p ff f0 f1 le = let more : p * (f0 - ff) ≤ p * (f1 - ff) = mul-le-mul_left p (omega arith) in omega (arith, more)

tokens_within : (max p interval effect : ℕ) (ds : List Decision) (moment : ℕ) → Falls moment ds
    → IsDecidedBy (TokenBucket max p interval) effect ds → (from to : ℕ) → from ≤ to
    → allowed_between from to ds ≤ max + p * (fills_at interval effect to - fills_at interval effect from)
tokens_within max p interval effect [] moment falls by from to le = omega arith
tokens_within max p interval effect (d ∷ ds) moment falls by from to le =
    over (cases_le d.at to) (cases_le from d.at) (tokens_within max p interval effect ds d.at falls.1 by.1 from to le)
  where
    over : (d.at ≤ to) ⊎ (to < d.at) → (from ≤ d.at) ⊎ (d.at < from)
        → allowed_between from to ds ≤ max + p * (fills_at interval effect to - fills_at interval effect from)
        → allowed_between from to (d ∷ ds) ≤ max + p * (fills_at interval effect to - fills_at interval effect from)
    over (inl before) (inl after) rest = omega (
      arith,
      between-since from to (d ∷ ds),
      held_since max p interval effect from d ds falls.1 by after,
      more_tokens max p (fills_at interval effect from) (fills_at interval effect d.at) (fills_at interval effect to)
          (fills-le interval effect d.at to before),
    )
    over (inl before) (inr early) rest =
        omega (arith, between-since from to (d ∷ ds), none_since from d.at (d ∷ ds) (omega arith, falls.1) early)
    over (inr later) _ rest = rw (between-later from to d ds later) rest

strategy_within : (strategy : Strategy) (effect moment : ℕ) (ds : List Decision) → Falls moment ds → IsDecidedBy strategy effect ds
    → IsWithin strategy effect ds
strategy_within AllowAll effect moment ds falls by = tt
strategy_within DenyAll effect moment ds falls by = tt
strategy_within (PerUnit count unit) effect moment ds falls by = λ interval. count_within count unit effect interval ds by
strategy_within (TokenBucket max p interval) effect moment ds falls by = tokens_within max p interval effect ds moment falls by

phase_within : (rules : BucketRules) (phase : TimedPhase) (moment : ℕ) (ds : List Decision) → Falls moment ds
    → IsDecidedIn rules phase ds → IsWithinForce (in_force rules phase) ds
phase_within rules Gone moment ds falls by = tt
phase_within rules (Unassigned effect) moment ds falls by = strategy_within rules.unassigned effect moment ds falls by
phase_within rules (Live strategy effect expiry) moment ds falls by = strategy_within strategy effect moment ds falls by
phase_within rules (Expired strategy effect since) moment ds falls by = strategy_within strategy effect moment ds falls by

-- whatever happened to a bucket, the effect in force has allowed no more than its strategy's number
pub allowance : (rules : BucketRules) (history : List Event) → IsInOrder history → KeepsAllowance rules history
allowance rules history order =
    phase_within rules (phase_after rules history) _ (decided rules history) (decided_falls rules history order) (decided_in rules history)
