-- Inside: laws that proofs cite, here and in other crates. Until a bucket is due, an advance changes nothing that is kept of
-- it, and while a request waits for a report, another one changes nothing of when it is due.
use Rattle.std.proofs.Common.{◌≡◌, ℕ, ◌+◌, ◌-◌, ◌*◌, ◌/◌, ◌^◌, ◌<◌, ◌≤◌, ◌&&◌, ◌||◌, not, Bool, true, false, refl, arith, Some, None, Option, if◌then◌else◌}
use Rattle.std.proofs.Common.{nat_le, nat_lt}
use Rattle.std.proofs.lemmas.Bool.Decides.{nat_tests}
use Rattle.std.proofs.lemmas.Nat.{div_below}
use Rattle.std.proofs.Math.Nat.{add-mul}
use Rattle.agenda.specs.Reached.{is_reached, earlier}
use Rattle.quota_bucket.specs.declared.strategy.Strategy.{Strategy}
use Rattle.quota_bucket.specs.declared.rules.BucketRules.{BucketRules}
use Rattle.quota_bucket.specs.declared.timed_phase.TimedPhase.{TimedPhase}
use Rattle.quota_bucket.specs.declared.timed_phase.TimedPhase.TheVariants.{Gone, Unassigned, Live, Expired}
use Rattle.quota_bucket.specs.declared.bucket_state.BucketState.{BucketState}
use Rattle.quota_bucket.specs.declared.bucket_state.Advance.{Advance}
use Rattle.quota_bucket.specs.History.{is_gone, after_advance, after_request, ended, begins_by_expiry, force_for}
use Rattle.quota_bucket.specs.Reports.{next_report, shown}
use Rattle.quota_bucket.specs.Machine.{is_waiting, report_moment, asked, one_if}
use Rattle.quota_bucket.specs.MeterLaws.{div-le}
use Rattle.quota_bucket.specs.Meters.{judged}
use Rattle.quota_bucket.specs.StateLaws.{shown_some}
use Rattle.quota_bucket.specs.Due.{reachable, timeout_due, phase_due, report_due, due, IsQuiet}

-- what an advance before the next change of the phase leaves
record PhaseStays (rules : BucketRules) (phase : TimedPhase) (to : ℕ) : Type 0 where
  pub same : after_advance rules phase to ≡ phase
  pub begins : begins_by_expiry rules phase to ≡ false

ended_stays : (timeout : Option ℕ) (strategy : Strategy) (effect since to : ℕ) → is_reached to (timeout_due since timeout) ≡ false
    → ended timeout strategy effect since to ≡ Expired strategy effect since
ended_stays None strategy effect since to later = refl
ended_stays (Some timeout) strategy effect since to later = rw later refl

phase_stays : (rules : BucketRules) (phase : TimedPhase) (to : ℕ) → is_reached to (phase_due rules phase) ≡ false → PhaseStays rules phase to
phase_stays rules Gone to later = record { same = refl; begins = refl }
phase_stays rules (Unassigned effect) to later = record { same = refl; begins = refl }
phase_stays rules (Live strategy effect None) to later = record { same = refl; begins = refl }
phase_stays rules (Live strategy effect (Some expiry)) to later = record { same = rw later refl; begins = rw later refl }
phase_stays rules (Expired strategy effect since) to later =
    record { same = ended_stays rules.timeout strategy effect since to later; begins = refl }

-- a moment that an advance doesn't reach as far as 64 bits hold it is later
past : (moment to : ℕ) (fits : Bool) → nat_lt moment (2 ^ 64) ≡ fits → to < 2 ^ 64
    → is_reached to (if fits then Some moment else None) ≡ false → nat_le moment to ≡ false
past moment to true is lt later = later
past moment to false is lt later = grind (arith, nat_tests)

no_report : (reached up waiting lasts : Bool) (moment : ℕ) → (reached && waiting) ≡ false
    → (if (reached && (up && (waiting && lasts))) then (Some moment) else None) ≡ None
no_report true true true lasts moment none = absurd (cc)
no_report true true false lasts moment none = refl
no_report true false waiting lasts moment none = refl
no_report false up waiting lasts moment none = refl

not_both : (waiting : Bool) (moment to : ℕ) → to < 2 ^ 64 → is_reached to (if waiting then (reachable moment) else None) ≡ false
    → (nat_le moment to && waiting) ≡ false
not_both true moment to lt later = rw (past moment to (nat_lt moment (2 ^ 64)) refl lt later) refl
not_both false moment to lt later = none (nat_le moment to)
  where
    none : (b : Bool) → (b && false) ≡ false
    none true = refl
    none false = refl

-- no report is sent before it is due
report_stays : (rules : BucketRules) (state : BucketState) (advance : Advance) → advance.to < 2 ^ 64
    → is_reached advance.to (report_due rules state advance.from) ≡ false → report_moment rules advance state ≡ None
report_stays rules state advance lt later =
    no_report (nat_le (next_report state.first rules.reporting.value advance.from) advance.to) advance.up (is_waiting state) _ _
    (not_both (is_waiting state) (next_report state.first rules.reporting.value advance.from) advance.to lt later)

-- where the earlier of two moments isn't reached, neither is
record NeitherReached (a b : Option ℕ) (to : ℕ) : Type 0 where
  pub first : is_reached to a ≡ false
  pub second : is_reached to b ≡ false

neither : (a b : Option ℕ) (to : ℕ) → is_reached to (earlier a b) ≡ false → NeitherReached a b to
neither None b to later = record { first = refl; second = later }
neither (Some a) None to later = record { first = later; second = refl }
neither (Some a) (Some b) to later = record { first = grind (arith, nat_tests); second = grind (arith, nat_tests) }

-- a bucket that is there and isn't due stays as it is and sends nothing
pub quiet : (rules : BucketRules) (state : BucketState) (advance : Advance) → is_gone state.phase ≡ false → advance.to < 2 ^ 64
    → is_reached advance.to (due rules state advance.from) ≡ false → IsQuiet rules state advance
quiet rules state advance there lt later =
    let both = neither (phase_due rules state.phase) (report_due rules state advance.from) advance.to later in
    let phase = phase_stays rules state.phase advance.to both.first in
    let silent : report_moment rules advance state ≡ None = report_stays rules state advance lt both.second in
    record { same = rw (silent, phase.same, phase.begins, there) refl; silent = rw silent refl }

-- later moments of the same period have the same next report
same_period : (n m k : ℕ) → 0 < k → n ≤ m → m < (n / k + 1) * k → m / k ≡ n / k
same_period n m k pos le lt =
    let low : n / k ≤ m / k = div-le n m k pos le in
    let high : m / k < n / k + 1 = div_below m k (n / k + 1) pos lt in
    omega arith

next_stays : (first interval from to : ℕ) → 0 < interval → from ≤ to → to < next_report first interval from
    → next_report first interval to ≡ next_report first interval from
next_stays first interval from to pos le lt =
    let more : ((from - first) / interval + 1) * interval ≡ (from - first) / interval * interval + 1 * interval =
    add-mul ((from - first) / interval) 1 interval in
    let same : (to - first) / interval ≡ (from - first) / interval =
    same_period (from - first) (to - first) interval pos (omega arith) (omega arith) in
    rw same refl

before_it : (moment to : ℕ) → nat_le moment to ≡ false → to < moment
before_it moment to later = grind (arith, nat_tests)

report_due_stays : (waiting : Bool) (first interval from to : ℕ) → 0 < interval → from ≤ to → to < 2 ^ 64
    → is_reached to (if waiting then (reachable (next_report first interval from)) else None) ≡ false
    → (if waiting then (reachable (next_report first interval to)) else None)
    ≡ (if waiting then (reachable (next_report first interval from)) else None)
report_due_stays true first interval from to pos le lt later =
    let before : to < next_report first interval from =
    before_it _ to (past (next_report first interval from) to (nat_lt (next_report first interval from) (2 ^ 64)) refl lt later) in
    rw (next_stays first interval from to pos le before) refl
report_due_stays false first interval from to pos le lt later = refl

-- while nothing is due, the same moment is the next one
pub due_stays : (rules : BucketRules) (state : BucketState) (from to : ℕ) → from ≤ to → to < 2 ^ 64
    → is_reached to (due rules state from) ≡ false → due rules state to ≡ due rules state from
due_stays rules state from to le lt later =
    let both = neither (phase_due rules state.phase) (report_due rules state from) to later in
    let same : report_due rules state to ≡ report_due rules state from =
    report_due_stays (is_waiting state) state.first rules.reporting.value from to rules.reporting.ok le lt both.second in
    rw same refl

-- a report moment that 64 bits hold is the one that is reached, and another one isn't reached
pub past_report : (moment to : ℕ) (sent next : Option ℕ) → to < 2 ^ 64 → next ≡ reachable moment → next ≡ None → sent ≡ None
    → sent ≡ (if nat_le moment to then Some moment else None)
past_report moment to sent next lt is none absent =
    let late : nat_le moment to ≡ false = past moment to (nat_lt moment (2 ^ 64)) refl lt (rw (← is, none) refl) in rw late absent

kept_phase : (before : TimedPhase) (at : ℕ) → is_gone before ≡ false → after_request before at ≡ before
kept_phase Gone at there = absurd (cc)
kept_phase (Unassigned effect) at there = refl
kept_phase (Live strategy effect expiry) at there = refl
kept_phase (Expired strategy effect since) at there = refl

some_waits : (a d : ℕ) → (nat_lt 0 a || nat_lt 0 d) ≡ true → 0 < a + d
some_waits a d waits = grind (arith, nat_tests)

still_waits : (a d x y : ℕ) → (nat_lt 0 a || nat_lt 0 d) ≡ true → (nat_lt 0 (shown (a + x)) || nat_lt 0 (shown (d + y))) ≡ true
still_waits a d x y waits = let some = some_waits a d waits in shown_some (a + x) (d + y) (omega arith)

-- a request of a bucket in which one waits changes nothing of when it is due
pub asked_due : (rules : BucketRules) (at : ℕ) (up : Bool) (state : BucketState) → is_gone state.phase ≡ false → is_waiting state ≡ true → (time : ℕ)
    → due rules (asked rules at up state).state time ≡ due rules state time
asked_due rules at up state there waits time =
    let force = force_for rules state.phase at in
    let verdict = judged force.strategy state.meter (at - force.effect) in
    let still : (nat_lt 0 (shown (state.allowed + one_if verdict.allowed)) || nat_lt 0 (shown (state.denied + one_if (not verdict.allowed)))) ≡ true =
    still_waits state.allowed state.denied (one_if verdict.allowed) (one_if (not verdict.allowed)) waits in
    rw (there, kept_phase state.phase at there, still, waits) refl
