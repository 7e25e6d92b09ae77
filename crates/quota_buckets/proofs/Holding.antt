-- What is stored stays that of the history, call by call.
use Rattle.std.proofs.Common.{◌≡◌, ℕ, ◌<◌, ◌≤◌, Bool, true, false, not, List, [], ◌∷◌, ◌++◌, refl, ap, sym, ◌∙◌, arith, subst, Option, Some, None, option_map, length}
use Rattle.std.proofs.Common.{map, filter, find, cond, get_or, suc, zero, is_some, unwrap_or, ◌↔◌, Err}
use Rattle.std.specs.Option.{ok_or}
use Rattle.std.specs.List.{flat_map}
use Rattle.quota_settings.specs.Covering.{AllSettings, OneSettings, covering, id_of}
use Rattle.quota_settings.specs.declared.pair.Pair.{Pair}
use Rattle.quota_bucket.specs.declared.strategy.Strategy.{Strategy}
use Rattle.quota_bucket.specs.declared.rules.BucketRules.{BucketRules}
use Rattle.quota_bucket.specs.declared.bucket_state.Asked.{Asked}
use Rattle.quota_bucket.specs.declared.bucket_state.BucketState.{BucketState}
use Rattle.quota_bucket.specs.History.{Advance, Request, Assignment, phase_after, is_gone, is_allowed, decided, begins_by_assignment}
use Rattle.quota_bucket.specs.Reports.{report_of_advance, report_of_request}
use Rattle.quota_bucket.specs.TimeOrder.{Falls}
use Rattle.quota_bucket.specs.State.{state_after}
use Rattle.quota_bucket.specs.Machine.{advance_report, asked, new_state}
use Rattle.quota_bucket.specs.Allowance.{KeepsAllowance}
use Rattle.quota_bucket.specs.StateLaws.{advanced-state_after, advance_report-state_after, asked-state_after, assigned-state_after, decided_falls}
use Rattle.quota_bucket.specs.AllowanceLaws.{allowance}
use Rattle.quota_buckets.specs.FirstMatch.{at_first, without_first}
use Rattle.quota_buckets.specs.Pasts.{Past, happened, is_there, is_named}
use Rattle.quota_buckets.specs.Sending.{report_from, by_moment}
use Rattle.quota_buckets.specs.Streams.{Stream, advanced_to, reports_due, past_reports, connected, asked_again, answer, assigned_in, abandoned_in, bucket_of, made_now}
use Rattle.quota_buckets.specs.Streams.{assigned_as, phase_in, or_no_bucket, requested, decision, KeepAllowance}
use Rattle.quota_buckets.specs.Phases.{phase_of}
use Rattle.quota_buckets.specs.declared.report.Report.{Report}
use Rattle.quota_buckets.specs.declared.answers.Decided.{Decided}
use Rattle.quota_buckets.specs.declared.phase.Phase.TheVariants.{None as NoPhase}
use Rattle.quota_bucket.specs.declared.timed_phase.TimedPhase.{TimedPhase}
use Rattle.quota_bucket.specs.declared.timed_phase.TimedPhase.TheVariants.{Gone, Unassigned, Live, Expired}
use Rattle.std.proofs.lemmas.Bool.{true≢false}
use Rattle.quota_buckets.specs.Tables.{Stored, Table, stored_of, is_stored_as, stored_there, stored_advanced, stored_reports, stored_asked, stored_answer}
use Rattle.quota_buckets.specs.Tables.{stored_assigned, slot_phase, advance_of, table_advanced, table_reports}
use Rattle.quota_buckets.specs.Calls.{after_call, after_calls}
use Rattle.quota_buckets.specs.Held.{IsOnTime, AllOnTime, IsHeld}
use Rattle.quota_buckets.specs.declared.call.Call.{Call}
use Rattle.quota_buckets.proofs.Steps.{request_there, assignment_there}

-- one more call
pub call_more : (s : Stream) (calls : List (Call × List Pair)) (call : Call) (pairs : List Pair)
    → after_calls s (calls ++ (call, pairs) ∷ []) ≡ after_call call pairs (after_calls s calls)
call_more s [] call pairs = refl
call_more s (c ∷ calls) call pairs = call_more (after_call c.0 c.1 s) calls call pairs

-- a change of the first bucket of a name, stored and in the history
first_stored : (id : List Pair) (time : ℕ) (f : Stored → Stored) (g : Past → Past) → ((p : Past) → IsOnTime time p → f (stored_of p) ≡ stored_of (g p))
    → (ps : List Past) → AllOnTime time ps → at_first (is_stored_as id) f (map stored_of ps) ≡ map stored_of (at_first (is_named id) g ps)
first_stored id time f g same [] all = refl
first_stored id time f g same (p ∷ ps) all = over (is_named id p) (same p all.0) (first_stored id time f g same ps all.1)
  where
    over : (b : Bool) → f (stored_of p) ≡ stored_of (g p) → at_first (is_stored_as id) f (map stored_of ps) ≡ map stored_of (at_first (is_named id) g ps)
        → cond b (f (stored_of p) ∷ map stored_of ps) (stored_of p ∷ at_first (is_stored_as id) f (map stored_of ps))
        ≡ map stored_of (cond b (g p ∷ ps) (p ∷ at_first (is_named id) g ps))
    over true here rest = ap (λ k. k ∷ map stored_of ps) here
    over false here rest = ap (λ ks. stored_of p ∷ ks) rest

first_on_time : (id : List Pair) (time : ℕ) (g : Past → Past) → ((p : Past) → IsOnTime time p → IsOnTime time (g p))
    → (ps : List Past) → AllOnTime time ps → AllOnTime time (at_first (is_named id) g ps)
first_on_time id time g stays [] all = tt
first_on_time id time g stays (p ∷ ps) all = over (is_named id p) (stays p all.0) (first_on_time id time g stays ps all.1)
  where
    over : (b : Bool) → IsOnTime time (g p) → AllOnTime time (at_first (is_named id) g ps)
        → AllOnTime time (cond b (g p ∷ ps) (p ∷ at_first (is_named id) g ps))
    over true here rest = (here, all.1)
    over false here rest = (all.0, rest)

found_stored : (id : List Pair) (ps : List Past) → find (is_stored_as id) (map stored_of ps) ≡ option_map stored_of (find (is_named id) ps)
found_stored id [] = refl
found_stored id (p ∷ ps) = over (is_named id p) (found_stored id ps)
  where
    over : (b : Bool) → find (is_stored_as id) (map stored_of ps) ≡ option_map stored_of (find (is_named id) ps)
        → cond b (Some (stored_of p)) (find (is_stored_as id) (map stored_of ps)) ≡ option_map stored_of (cond b (Some p) (find (is_named id) ps))
    over true rest = refl
    over false rest = rest

-- of the bucket of a name what holds of all
found_same : {X : Type 0} (id : List Pair) (time : ℕ) (f : Stored → X) (g : Past → X) → ((p : Past) → IsOnTime time p → f (stored_of p) ≡ g p)
    → (ps : List Past) → AllOnTime time ps → option_map f (find (is_stored_as id) (map stored_of ps)) ≡ option_map g (find (is_named id) ps)
found_same id time f g same [] all = refl
found_same id time f g same (p ∷ ps) all = over (is_named id p) (same p all.0) (found_same id time f g same ps all.1)
  where
    over : (b : Bool) → f (stored_of p) ≡ g p → option_map f (find (is_stored_as id) (map stored_of ps)) ≡ option_map g (find (is_named id) ps)
        → option_map f (cond b (Some (stored_of p)) (find (is_stored_as id) (map stored_of ps))) ≡ option_map g (cond b (Some p) (find (is_named id) ps))
    over true here rest = ap Some here
    over false here rest = rest

-- an advance
stored_advance : (at : ℕ) (up : Bool) (time : ℕ) (p : Past) → IsOnTime time p
    → stored_advanced (record { from = time; to = at; up = up }) (stored_of p) ≡ stored_of (happened (Advance at up) p)
stored_advance at up time p is =
    ap (λ (r : BucketState). let k : Stored = record { id = p.id; rules = p.rules; state = r } in k)
    (rw (← is.now) (advanced-state_after p.rules p.history at up))

advance_stored : (at : ℕ) (up : Bool) (time : ℕ) (ps : List Past) → AllOnTime time ps
    → filter stored_there (map (stored_advanced (record { from = time; to = at; up = up })) (map stored_of ps))
    ≡ map stored_of (filter is_there (map (happened (Advance at up)) ps))
advance_stored at up time [] all = refl
advance_stored at up time (p ∷ ps) all =
    step (stored_advanced (record { from = time; to = at; up = up }) (stored_of p)) (stored_advance at up time p all.0) (advance_stored at up time ps all.1)
  where
    over : (b : Bool) → filter stored_there (map (stored_advanced (record { from = time; to = at; up = up })) (map stored_of ps))
        ≡ map stored_of (filter is_there (map (happened (Advance at up)) ps))
        → cond b (stored_of (happened (Advance at up) p) ∷ filter stored_there (map (stored_advanced (record { from = time; to = at; up = up })) (map stored_of ps)))
        (filter stored_there (map (stored_advanced (record { from = time; to = at; up = up })) (map stored_of ps)))
        ≡ map stored_of (cond b (happened (Advance at up) p ∷ filter is_there (map (happened (Advance at up)) ps)) (filter is_there (map (happened (Advance at up)) ps)))
    over true rest = ap (λ ks. stored_of (happened (Advance at up) p) ∷ ks) rest
    over false rest = rest

    step : (k : Stored) → k ≡ stored_of (happened (Advance at up) p)
        → filter stored_there (map (stored_advanced (record { from = time; to = at; up = up })) (map stored_of ps))
        ≡ map stored_of (filter is_there (map (happened (Advance at up)) ps))
        → cond (stored_there k) (k ∷ filter stored_there (map (stored_advanced (record { from = time; to = at; up = up })) (map stored_of ps)))
        (filter stored_there (map (stored_advanced (record { from = time; to = at; up = up })) (map stored_of ps)))
        ≡ map stored_of (filter is_there (map (happened (Advance at up)) (p ∷ ps)))
    step k is rest = rw is (over (is_there (happened (Advance at up) p)) rest)

advance_on_time : (at : ℕ) (up : Bool) (time : ℕ) (ps : List Past) → time ≤ at → AllOnTime time ps
    → AllOnTime at (filter is_there (map (happened (Advance at up)) ps))
advance_on_time at up time [] le all = tt
advance_on_time at up time (p ∷ ps) le all = over (is_there (happened (Advance at up) p)) refl (advance_on_time at up time ps le all.1)
  where
    over : (b : Bool) → is_there (happened (Advance at up) p) ≡ b → AllOnTime at (filter is_there (map (happened (Advance at up)) ps))
        → AllOnTime at (cond b (happened (Advance at up) p ∷ filter is_there (map (happened (Advance at up)) ps)) (filter is_there (map (happened (Advance at up)) ps)))
    over true there rest = (record { now = refl; in_order = (rw all.0.now le, all.0.in_order); there = there }, rest)
    over false there rest = rest

advance_reported : (at : ℕ) (up : Bool) (time : ℕ) (ps : List Past) → AllOnTime time ps
    → flat_map (stored_reports (record { from = time; to = at; up = up })) (map stored_of ps) ≡ flat_map (past_reports at up) ps
advance_reported at up time [] all = refl
advance_reported at up time (p ∷ ps) all =
    let here : advance_report p.rules (record { from = time; to = at; up = up }) (state_after p.rules p.history) ≡ report_of_advance p.rules p.history at up =
    rw (← all.0.now) (advance_report-state_after p.rules p.history at up) in
    rw (here, advance_reported at up time ps all.1) refl

pub advance_held : (settings : AllSettings) (up : Bool) (table later : Table) (s : Stream) (at : ℕ) → IsHeld settings up table s → table.time ≤ at
    → later ≡ table_advanced (advance_of table at up) table → IsHeld settings up later (advanced_to at s)
advance_held settings up table later s at is le advanced_now = rw advanced_now (record {
  settings_are = is.settings_are;
  is_up = is.is_up;
  time_is = refl;
  stored_are = rw (is.stored_are, ← is.time_is, ← is.is_up) (advance_stored at s.up s.time s.buckets is.on_time);
  on_time = advance_on_time at s.up s.time s.buckets (rw is.time_is le) is.on_time;
})

pub advance_sent : (settings : AllSettings) (up : Bool) (table : Table) (s : Stream) (at : ℕ) → IsHeld settings up table s
    → table_reports (advance_of table at up) table ≡ reports_due at s
advance_sent settings up table s at is =
    rw (is.stored_are, ← is.time_is, ← is.is_up) (ap by_moment (advance_reported at s.up s.time s.buckets is.on_time))

-- a request of a bucket that is there
falls_now : (time : ℕ) (p : Past) → IsOnTime time p → Falls time (decided p.rules p.history)
falls_now time p is = let P : ℕ → Type 0 = λ n. Falls n (decided p.rules p.history) in subst P is.now (decided_falls p.rules p.history is.in_order)

ask_stored : (time : ℕ) (up : Bool) (p : Past) → IsOnTime time p → stored_asked time up (stored_of p) ≡ stored_of (happened (Request time up) p)
ask_stored time up p is =
    ap (λ (a : Asked). let k : Stored = record { id = p.id; rules = p.rules; state = a.state } in k)
    (asked-state_after p.rules p.history time up (falls_now time p is))

ask_answer : (time : ℕ) (up : Bool) (p : Past) → IsOnTime time p → stored_answer time up (stored_of p) ≡ is_allowed p.rules p.history time
ask_answer time up p is = ap (λ (a : Asked). a.allowed) (asked-state_after p.rules p.history time up (falls_now time p is))

ask_on_time : (time : ℕ) (up : Bool) (p : Past) → IsOnTime time p → IsOnTime time (happened (Request time up) p)
ask_on_time time up p is = record {
  now = refl;
  in_order = (rw is.now (omega arith), is.in_order);
  there = ap not (request_there (phase_after p.rules p.history) time);
}

pub ask_held : (settings : AllSettings) (up : Bool) (table later : Table) (s : Stream) (id : List Pair) → IsHeld settings up table s
    → later ≡ record table { stored = at_first (is_stored_as id) (stored_asked table.time up) table.stored } → IsHeld settings up later (asked_again id s)
ask_held settings up table later s id is now = rw now (record {
  settings_are = is.settings_are;
  is_up = is.is_up;
  time_is = is.time_is;
  stored_are = rw (is.stored_are, ← is.time_is, ← is.is_up) (first_stored id s.time (stored_asked s.time s.up) (happened (Request s.time s.up))
      (λ p h. ask_stored s.time s.up p h) s.buckets is.on_time);
  on_time = first_on_time id s.time (happened (Request s.time s.up)) (λ p h. ask_on_time s.time s.up p h) s.buckets is.on_time;
})

pub ask_told : (settings : AllSettings) (up : Bool) (table : Table) (s : Stream) (id : List Pair) → IsHeld settings up table s
    → option_map (stored_answer table.time up) (find (is_stored_as id) table.stored) ≡ answer id s
ask_told settings up table s id is =
    rw (is.stored_are, ← is.time_is, ← is.is_up) (found_same id s.time (stored_answer s.time s.up) (λ p. is_allowed p.rules p.history s.time)
    (λ p h. ask_answer s.time s.up p h) s.buckets is.on_time)

-- an assignment
not_true : (b : Bool) → not b ≡ true → b ≡ false
not_true true is = absurd (cc)
not_true false is = refl

assign_stored : (time : ℕ) (lifetime : Option ℕ) (strategy : Strategy) (p : Past)
    → stored_assigned time lifetime strategy (stored_of p) ≡ stored_of (happened (Assignment time lifetime strategy) p)
assign_stored time lifetime strategy p =
    ap (λ (r : BucketState). let k : Stored = record { id = p.id; rules = p.rules; state = r } in k)
    (assigned-state_after p.rules p.history time lifetime strategy)

assign_on_time : (time : ℕ) (lifetime : Option ℕ) (strategy : Strategy) (p : Past) → IsOnTime time p
    → IsOnTime time (happened (Assignment time lifetime strategy) p)
assign_on_time time lifetime strategy p is = record {
  now = refl;
  in_order = (rw is.now (omega arith), is.in_order);
  there = ap not (assignment_there (phase_after p.rules p.history) time lifetime strategy (not_true (is_gone (phase_after p.rules p.history)) is.there));
}

pub assign_held : (settings : AllSettings) (up : Bool) (table later : Table) (s : Stream) (id : List Pair) (lifetime : Option ℕ) (strategy : Strategy)
    → IsHeld settings up table s
    → later ≡ record table { stored = at_first (is_stored_as id) (stored_assigned table.time lifetime strategy) table.stored }
    → IsHeld settings up later (assigned_in id lifetime strategy s)
assign_held settings up table later s id lifetime strategy is now = rw now (record {
  settings_are = is.settings_are;
  is_up = is.is_up;
  time_is = is.time_is;
  stored_are = rw (is.stored_are, ← is.time_is) (first_stored id s.time (stored_assigned s.time lifetime strategy)
      (happened (Assignment s.time lifetime strategy)) (λ p h. assign_stored s.time lifetime strategy p) s.buckets is.on_time);
  on_time = first_on_time id s.time (happened (Assignment s.time lifetime strategy)) (λ p h. assign_on_time s.time lifetime strategy p h) s.buckets is.on_time;
})

pub assign_told : (settings : AllSettings) (up : Bool) (table : Table) (s : Stream) (id : List Pair) (strategy : Strategy) → IsHeld settings up table s
    → option_map (λ stored. assigned_as (begins_by_assignment stored.state.phase strategy)) (find (is_stored_as id) table.stored)
    ≡ option_map (λ p. assigned_as (begins_by_assignment (phase_after p.rules p.history) strategy)) (bucket_of id s)
assign_told settings up table s id strategy is =
    rw is.stored_are (found_same id s.time (λ stored. assigned_as (begins_by_assignment stored.state.phase strategy))
    (λ p. assigned_as (begins_by_assignment (phase_after p.rules p.history) strategy)) (λ p h. refl) s.buckets is.on_time)

-- an abandonment
without_stored : (id : List Pair) (ps : List Past) → without_first (is_stored_as id) (map stored_of ps) ≡ map stored_of (without_first (is_named id) ps)
without_stored id [] = refl
without_stored id (p ∷ ps) = over (is_named id p) (without_stored id ps)
  where
    over : (b : Bool) → without_first (is_stored_as id) (map stored_of ps) ≡ map stored_of (without_first (is_named id) ps)
        → cond b (map stored_of ps) (stored_of p ∷ without_first (is_stored_as id) (map stored_of ps)) ≡ map stored_of (cond b ps (p ∷ without_first (is_named id) ps))
    over true rest = refl
    over false rest = ap (λ ks. stored_of p ∷ ks) rest

without_on_time : (id : List Pair) (time : ℕ) (ps : List Past) → AllOnTime time ps → AllOnTime time (without_first (is_named id) ps)
without_on_time id time [] all = tt
without_on_time id time (p ∷ ps) all = over (is_named id p) (without_on_time id time ps all.1)
  where
    over : (b : Bool) → AllOnTime time (without_first (is_named id) ps) → AllOnTime time (cond b ps (p ∷ without_first (is_named id) ps))
    over true rest = all.1
    over false rest = (all.0, rest)

pub abandon_held : (settings : AllSettings) (up : Bool) (table later : Table) (s : Stream) (id : List Pair) → IsHeld settings up table s
    → later ≡ record table { stored = without_first (is_stored_as id) table.stored } → IsHeld settings up later (abandoned_in id s)
abandon_held settings up table later s id is now = rw now (record {
  settings_are = is.settings_are;
  is_up = is.is_up;
  time_is = is.time_is;
  stored_are = rw is.stored_are (without_stored id s.buckets);
  on_time = without_on_time id s.time s.buckets is.on_time;
})

-- whether there is a bucket, and its phase
found_there : (id : List Pair) (time : ℕ) (ps : List Past) → AllOnTime time ps → (p : Past) → find (is_named id) ps ≡ Some p → is_there p ≡ true
found_there id time [] all p is = absurd (cc)
found_there id time (q ∷ ps) all p is = over (is_named id q) is (λ h. found_there id time ps all.1 p h)
  where
    over : (b : Bool) → cond b (Some q) (find (is_named id) ps) ≡ Some p → (find (is_named id) ps ≡ Some p → is_there p ≡ true) → is_there p ≡ true
    over true h rest = let same : q ≡ p = cc in rw (← same) all.0.there
    over false h rest = rest h

phase_there : (phase : TimedPhase) → is_gone phase ≡ false → phase_of phase ≡ NoPhase → ⊥
phase_there Gone there is = true≢false there
phase_there (Unassigned effect) there is = cc
phase_there (Live strategy effect expiry) there is = cc
phase_there (Expired strategy effect since) there is = cc

no_phase : (o : Option Past) → ((p : Past) → o ≡ Some p → is_there p ≡ true)
    → (is_some o ≡ false) ↔ (unwrap_or (option_map (λ p. phase_of (phase_after p.rules p.history)) o) NoPhase ≡ NoPhase)
no_phase None there = (λ _. refl, λ _. refl)
no_phase (Some p) there = (
  λ h. absurd (true≢false h),
  λ h. absurd (phase_there (phase_after p.rules p.history) (not_true (is_gone (phase_after p.rules p.history)) (there p refl)) h),
)

pub phase_none : (settings : AllSettings) (up : Bool) (table : Table) (s : Stream) (id : List Pair) → IsHeld settings up table s
    → (is_some (bucket_of id s) ≡ false) ↔ (phase_in id s ≡ NoPhase)
phase_none settings up table s id is = no_phase (bucket_of id s) (λ p h. found_there id s.time s.buckets is.on_time p h)

map_none : {X : Type 0} (f : Past → X) (o : Option Past) → (option_map f o ≡ None) ↔ (is_some o ≡ false)
map_none f None = (λ _. refl, λ _. refl)
map_none f (Some p) = (λ h. absurd (cc), λ h. absurd (true≢false h))

pub none_exactly : {X : Type 0} (f : Past → X) (settings : AllSettings) (up : Bool) (table : Table) (s : Stream) (id : List Pair) → IsHeld settings up table s
    → (option_map f (bucket_of id s) ≡ None) ↔ (phase_in id s ≡ NoPhase)
none_exactly f settings up table s id is =
    let a = map_none f (bucket_of id s) in
    let b = phase_none settings up table s id is in
    (λ h. b.0 (a.0 h), λ h. a.1 (b.1 h))

-- the phase of a name
pub phase_told : (settings : AllSettings) (up : Bool) (table : Table) (s : Stream) (id : List Pair) → IsHeld settings up table s
    → slot_phase (find (is_stored_as id) table.stored) ≡ phase_in id s
phase_told settings up table s id is = rw (is.stored_are, found_stored id s.buckets) (over (bucket_of id s))
  where
    over : (o : Option Past) → slot_phase (option_map stored_of o) ≡ unwrap_or (option_map (λ p. phase_of (phase_after p.rules p.history)) o) NoPhase
    over None = refl
    over (Some p) = refl

pub there_told : (settings : AllSettings) (up : Bool) (table : Table) (s : Stream) (id : List Pair) → IsHeld settings up table s
    → is_some (find (is_stored_as id) table.stored) ≡ is_some (bucket_of id s)
there_told settings up table s id is = rw (is.stored_are, found_stored id s.buckets) (over (bucket_of id s))
  where
    over : (o : Option Past) → is_some (option_map stored_of o) ≡ is_some o
    over None = refl
    over (Some p) = refl

-- the allowance of each bucket
all_allow : (time : ℕ) (ps : List Past) → AllOnTime time ps → (k : ℕ) (d : Past) → k < length ps
    → KeepsAllowance (get_or ps k d).rules (get_or ps k d).history
all_allow time [] all k d lt = absurd (omega arith)
all_allow time (p ∷ ps) all zero d lt = allowance p.rules p.history all.0.in_order
all_allow time (p ∷ ps) all (suc k) d lt = all_allow time ps all.1 k d (omega arith)

pub allowance_held : (settings : AllSettings) (up : Bool) (table : Table) (s : Stream) → IsHeld settings up table s → KeepAllowance s
allowance_held settings up table s is = all_allow s.time s.buckets is.on_time

-- the stream's coming and going, and its beginning
pub up_held : (settings : AllSettings) (up later : Bool) (table : Table) (s : Stream) → IsHeld settings up table s → IsHeld settings later table (connected later s)
up_held settings up later table s is = record {
  settings_are = is.settings_are;
  is_up = refl;
  time_is = is.time_is;
  stored_are = is.stored_are;
  on_time = is.on_time;
}

-- a name that is absent
pub record Absent (id : List Pair) (f : Stored → Stored) (stored : List Stored) : Type 0 where
  pub same : at_first (is_stored_as id) f stored ≡ stored
  pub none : find (is_stored_as id) stored ≡ None

absent_from : (id : List Pair) (f : Stored → Stored) (stored : List Stored) → find (is_stored_as id) stored ≡ None → Absent id f stored
absent_from id f [] none = record { same = refl; none = refl }
absent_from id f (k ∷ stored) none = over (is_stored_as id k) refl none (λ h. absent_from id f stored h)
  where
    over : (b : Bool) → is_stored_as id k ≡ b → cond b (Some k) (find (is_stored_as id) stored) ≡ None
        → (find (is_stored_as id) stored ≡ None → Absent id f stored) → Absent id f (k ∷ stored)
    over true is h rest = absurd (cc)
    over false is h rest = record { same = rw is (ap (λ ks. k ∷ ks) (rest h).same); none = rw is h }

option_none : {X Y : Type 0} (f : X → Y) (o : Option X) → option_map f o ≡ None → o ≡ None
option_none f None is = refl
option_none f (Some x) is = absurd (cc)

pub absent : {X : Type 0} (id : List Pair) (f : Stored → Stored) (g : Stored → X) (stored : List Stored) → option_map g (find (is_stored_as id) stored) ≡ None
    → Absent id f stored
absent id f g stored is = absent_from id f stored (option_none g (find (is_stored_as id) stored) is)

-- a request that makes a bucket
pub first_asked : (rules : BucketRules) (time : ℕ) (up : Bool) → asked rules time up (new_state time) ≡ record {
  allowed = is_allowed rules [] time;
  report = report_of_request rules [] time up;
  state = state_after rules (Request time up ∷ []);
}
first_asked rules time up = asked-state_after rules [] time up tt

map_push : {X Y : Type 0} (f : X → Y) (xs : List X) (x : X) → map f (xs ++ x ∷ []) ≡ map f xs ++ f x ∷ []
map_push f [] x = refl
map_push f (y ∷ xs) x = ap (λ ys. f y ∷ ys) (map_push f xs x)

push_on_time : (time : ℕ) (ps : List Past) (p : Past) → AllOnTime time ps → IsOnTime time p → AllOnTime time (ps ++ p ∷ [])
push_on_time time [] p all here = (here, tt)
push_on_time time (q ∷ ps) p all here = (all.0, push_on_time time ps p all.1 here)

pub made_held : (settings : AllSettings) (up : Bool) (table later : Table) (s : Stream) (id : List Pair) (rules : BucketRules) (state : BucketState)
    → IsHeld settings up table s → state ≡ (asked rules table.time up (new_state table.time)).state
    → later ≡ record table { stored = table.stored ++ record { id = id; rules = rules; state = state } ∷ [] }
    → IsHeld settings up later (record s { buckets = s.buckets ++ made_now id rules s ∷ [] })
made_held settings up table later s id rules state is runs now =
    let first : state ≡ state_after rules (Request s.time s.up ∷ []) =
    runs ∙ rw (← is.time_is, ← is.is_up) (ap (λ (a : Asked). a.state) (first_asked rules s.time s.up)) in
    rw (now, first) (record {
      settings_are = is.settings_are;
      is_up = is.is_up;
      time_is = is.time_is;
      stored_are = rw is.stored_are (sym (map_push stored_of s.buckets (made_now id rules s)));
      on_time = push_on_time s.time s.buckets (made_now id rules s) is.on_time (record { now = refl; in_order = (omega arith, tt); there = refl });
    })

-- an answer about a bucket, where there is one
pub ok_or_no_bucket : {X : Type 0} (o : Option X) → ok_or o (record {}) ≡ or_no_bucket o
ok_or_no_bucket None = refl
ok_or_no_bucket (Some x) = refl

no_bucket_map : {X : Type 0} (f : Past → X) (o : Option Past) → (or_no_bucket (option_map f o) ≡ Err (record {})) ↔ (is_some o ≡ false)
no_bucket_map f None = (λ _. refl, λ _. refl)
no_bucket_map f (Some p) = (λ h. absurd (cc), λ h. absurd (true≢false h))

pub no_bucket_exactly : {X : Type 0} (f : Past → X) (settings : AllSettings) (up : Bool) (table : Table) (s : Stream) (id : List Pair) → IsHeld settings up table s
    → (or_no_bucket (option_map f (bucket_of id s)) ≡ Err (record {})) ↔ (phase_in id s ≡ NoPhase)
no_bucket_exactly f settings up table s id is =
    let a = no_bucket_map f (bucket_of id s) in
    let b = phase_none settings up table s id is in
    (λ h. b.0 (a.0 h), λ h. a.1 (b.1 h))

-- what a request does by what its bucket answers
pub record IsAskedAgain (attributes id : List Pair) (s : Stream) (allowed : Bool) : Type 0 where
  pub counted : requested attributes s ≡ asked_again id s
  pub decision : decision attributes s ≡ record { bucket = Some id; allowed = allowed; report = None }

pub asked_again_is : (attributes id : List Pair) (s : Stream) (settings : AllSettings) (one : OneSettings) (allowed : Bool) → s.settings ≡ settings
    → covering settings attributes ≡ Some one → id ≡ id_of one attributes → answer id s ≡ Some allowed → IsAskedAgain attributes id s allowed
asked_again_is attributes id s settings one allowed same covers named told = record {
  counted = rw (same, covers, ← named, told) refl;
  decision = rw (same, covers, ← named, told) refl;
}

pub record IsMadeBy (attributes id : List Pair) (s : Stream) (rules : BucketRules) : Type 0 where
  pub counted : requested attributes s ≡ record s { buckets = s.buckets ++ made_now id rules s ∷ [] }
  pub decision : decision attributes s ≡ record {
    bucket = Some id;
    allowed = is_allowed rules [] s.time;
    report = option_map (report_from id) (report_of_request rules [] s.time s.up);
  }

pub made_is : (attributes id : List Pair) (s : Stream) (settings : AllSettings) (one : OneSettings) (rules : BucketRules) → s.settings ≡ settings
    → covering settings attributes ≡ Some one → id ≡ id_of one attributes → rules ≡ one.rules → answer id s ≡ None → IsMadeBy attributes id s rules
made_is attributes id s settings one rules same covers named ruled told = record {
  counted = rw (same, covers, ← named, told, ruled) refl;
  decision = rw (same, covers, ← named, told, ruled) refl;
}

pub made_told : (settings : AllSettings) (up : Bool) (table : Table) (s : Stream) (id : List Pair) (rules : BucketRules) (allowed : Bool) (report : Option Report)
    → IsHeld settings up table s → allowed ≡ (asked rules table.time up (new_state table.time)).allowed
    → report ≡ option_map (report_from id) (asked rules table.time up (new_state table.time)).report
    → (let d : Decided = record { bucket = Some id; allowed = allowed; report = report } in d) ≡ record {
      bucket = Some id;
      allowed = is_allowed rules [] s.time;
      report = option_map (report_from id) (report_of_request rules [] s.time s.up);
    }
made_told settings up table s id rules allowed report is answers reports =
    let asked_now : asked rules table.time up (new_state table.time) ≡ record {
      allowed = is_allowed rules [] s.time;
      report = report_of_request rules [] s.time s.up;
      state = state_after rules (Request s.time s.up ∷ []);
    } = rw (← is.time_is, ← is.is_up) (first_asked rules s.time s.up) in
    let a : allowed ≡ is_allowed rules [] s.time = answers ∙ ap (λ (x : Asked). x.allowed) asked_now in
    let b : report ≡ option_map (report_from id) (report_of_request rules [] s.time s.up) =
    reports ∙ ap (λ (x : Asked). option_map (report_from id) x.report) asked_now in
    rw (a, b) refl
