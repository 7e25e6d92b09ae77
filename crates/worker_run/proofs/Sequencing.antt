-- With one worker, line after line, all is determined.
use Rattle.std.proofs.Common.{◌≡◌, ℕ, zero, suc, ◌+◌, ◌==◌, List, [], ◌∷◌, ◌++◌, length, take, drop}
use Rattle.std.proofs.Common.{Bool, true, cond, Some, None, Option}
use Rattle.std.proofs.Common.{refl, sym, ap, ◌∙◌, subst, arith, append_assoc, eq-eqb, length-append}
use Rattle.std.specs.Prelude.{slice_get}
use Rattle.std.specs.List.{AllByRecursion}
use mathlib.Core.Option.{some, some-injective, some-ne-none}
use lib.ListN.{get_elem?}
use Rattle.rate_types.specs.Counters.{same_counter}
use Rattle.rate_types.specs.Ledger.{Charge, Sight, charged_total, IsLawfulSight}
use Rattle.rate_types.specs.Requests.{RequestParts}
use Rattle.rate_types.specs.declared.counter_key.CounterKey.{CounterKey}
use Rattle.rate_types.specs.declared.request.Descriptor.{Descriptor}
use Rattle.rate_types.specs.declared.request.OwnLimit.{OwnLimit}
use Rattle.window_keys.specs.Counter.{counter_of}
use Rattle.descriptor_tree.specs.Trees.{DomainTree}
use Rattle.rule_lookup.specs.declared.found.Found.{Found}
use Rattle.rule_lookup.specs.declared.found.Found.TheVariants.{NoRule, Unlimited, Limited}
use Rattle.rls_core.specs.Reply.{hits_of, found_for, charge_shown, charges_of, AreStatuses}
use Rattle.rls_core.specs.Reply as reply
use Rattle.rls_core.specs.Sequential.{count_for, charged_under, AreSequential}
use Rattle.rls_core.specs.declared.status.Count.{Count}
use Rattle.rls_core.specs.declared.status.Count.TheVariants.{NoCount, Before, Seen}
use Rattle.rls_core.specs.declared.status.Status.{Status}
use Rattle.rate_limiter.proofs.Places.{all_back, all_front, append_nil, below, take_front, take_length, to_elem}
use Rattle.reply_text.specs.declared.record.Record.{Record}
use Rattle.reply_text.specs.declared.record.Outcome.{Outcome}
use Rattle.reply_text.specs.declared.record.Outcome.TheVariants as outcome
use Rattle.script_run.specs.ScriptLine.{ScriptLine, check, reload, tick, bad}
use Rattle.script_run.specs.Charges.{charges_shown, ledger_of, sights_shown, sights_of, charged_in, ChargesFormLedger, SightsLawful}
use Rattle.script_run.specs.Replies.{IsByRule, RepliesByRule}
use Rattle.script_run.specs.Values.{value_shown, values_of, values_shown, known_by, IsFairStatus, AreFair, IsFairLine, ValuesNeverFall}
use Rattle.worker_run.proofs.Fairness.{limit_of, Allows, status_allows}
use Rattle.worker_run.proofs.Turns.{Event, event, charges, sights, values, Fair, Turns, turns, charged_more}

-- ---- what checks show, as events

-- what a status shows under a limit
abbrev event_of : RequestParts → ℕ → Descriptor → Option OwnLimit → Count → List Event
event_of request moment d (Some own) count = event (counter_of request.domain d own.unit moment) own.limit (hits_of request d) count ∷ []
event_of request moment d None count = []

abbrev events_each : RequestParts → ℕ → List Descriptor → List Status → List Event
events_each request moment (d ∷ ds) (s ∷ ss) = event_of request moment d s.limit s.count ++ events_each request moment ds ss
events_each request moment ds ss = []

abbrev events_shown : ScriptLine → ℕ → Outcome → List Event
events_shown (check request) moment (outcome.Checked answer) = events_each request moment request.descriptors answer.statuses
events_shown line moment other = []

abbrev events_of : List ScriptLine → List Record → List Event
events_of (l ∷ ls) (r ∷ rs) = events_shown l r.moment r.outcome ++ events_of ls rs
events_of lines records = []

charges_append : (xs ys : List Event) → charges (xs ++ ys) ≡ charges xs ++ charges ys
charges_append [] ys = refl
charges_append (event c limit hits (Before before) ∷ xs) ys = ap (λ l. (record { counter = c; before = before; hits = hits }) ∷ l) (charges_append xs ys)
charges_append (event c limit hits (Seen seen) ∷ xs) ys = charges_append xs ys
charges_append (event c limit hits NoCount ∷ xs) ys = charges_append xs ys

sights_append : (xs ys : List Event) → sights (xs ++ ys) ≡ sights xs ++ sights ys
sights_append [] ys = refl
sights_append (event c limit hits (Seen seen) ∷ xs) ys = ap (λ l. (record { counter = c; seen = seen }) ∷ l) (sights_append xs ys)
sights_append (event c limit hits (Before before) ∷ xs) ys = sights_append xs ys
sights_append (event c limit hits NoCount ∷ xs) ys = sights_append xs ys

values_append : (xs ys : List Event) → values (xs ++ ys) ≡ values xs ++ values ys
values_append [] ys = refl
values_append (event c limit hits (Before before) ∷ xs) ys = ap (λ l. (record { counter = c; seen = before + hits }) ∷ l) (values_append xs ys)
values_append (event c limit hits (Seen seen) ∷ xs) ys = ap (λ l. (record { counter = c; seen = seen }) ∷ l) (values_append xs ys)
values_append (event c limit hits NoCount ∷ xs) ys = values_append xs ys

one_charge : (request : RequestParts) (moment : ℕ) (d : Descriptor) (limit : Option OwnLimit) (count : Count)
    → charges (event_of request moment d limit count) ≡ charge_shown request moment d limit count
one_charge request moment d None count = refl
one_charge request moment d (Some own) (Before before) = refl
one_charge request moment d (Some own) (Seen seen) = refl
one_charge request moment d (Some own) NoCount = refl

one_sight : (request : RequestParts) (moment : ℕ) (d : Descriptor) (limit : Option OwnLimit) (count : Count)
    → sights (event_of request moment d limit count) ≡ reply.sight_shown request moment d limit count
one_sight request moment d None count = refl
one_sight request moment d (Some own) (Before before) = refl
one_sight request moment d (Some own) (Seen seen) = refl
one_sight request moment d (Some own) NoCount = refl

one_value : (request : RequestParts) (moment : ℕ) (d : Descriptor) (limit : Option OwnLimit) (count : Count)
    → values (event_of request moment d limit count) ≡ value_shown request moment d limit count
one_value request moment d None count = refl
one_value request moment d (Some own) (Before before) = refl
one_value request moment d (Some own) (Seen seen) = refl
one_value request moment d (Some own) NoCount = refl

each_charge : (request : RequestParts) (moment : ℕ) (ds : List Descriptor) (ss : List Status) → charges (events_each request moment ds ss) ≡ charges_of request moment ds ss
each_charge request moment [] ss = refl
each_charge request moment (d ∷ ds) [] = refl
each_charge request moment (d ∷ ds) (s ∷ ss) =
    charges_append (event_of request moment d s.limit s.count) (events_each request moment ds ss)
    ∙ ap (λ l. l ++ charges (events_each request moment ds ss)) (one_charge request moment d s.limit s.count)
    ∙ ap (λ l. charge_shown request moment d s.limit s.count ++ l) (each_charge request moment ds ss)

each_sight : (request : RequestParts) (moment : ℕ) (ds : List Descriptor) (ss : List Status) → sights (events_each request moment ds ss) ≡ reply.sights_of request moment ds ss
each_sight request moment [] ss = refl
each_sight request moment (d ∷ ds) [] = refl
each_sight request moment (d ∷ ds) (s ∷ ss) =
    sights_append (event_of request moment d s.limit s.count) (events_each request moment ds ss)
    ∙ ap (λ l. l ++ sights (events_each request moment ds ss)) (one_sight request moment d s.limit s.count)
    ∙ ap (λ l. reply.sight_shown request moment d s.limit s.count ++ l) (each_sight request moment ds ss)

each_value : (request : RequestParts) (moment : ℕ) (ds : List Descriptor) (ss : List Status) → values (events_each request moment ds ss) ≡ values_of request moment ds ss
each_value request moment [] ss = refl
each_value request moment (d ∷ ds) [] = refl
each_value request moment (d ∷ ds) (s ∷ ss) =
    values_append (event_of request moment d s.limit s.count) (events_each request moment ds ss)
    ∙ ap (λ l. l ++ values (events_each request moment ds ss)) (one_value request moment d s.limit s.count)
    ∙ ap (λ l. value_shown request moment d s.limit s.count ++ l) (each_value request moment ds ss)

-- each line's
line_charges : (l : ScriptLine) (moment : ℕ) (o : Outcome) → charges (events_shown l moment o) ≡ charges_shown l moment o
line_charges (check request) moment (outcome.Checked answer) = each_charge request moment request.descriptors answer.statuses
line_charges (check request) moment o = refl
line_charges (reload config) moment o = refl
line_charges (tick now) moment o = refl
line_charges (bad refused) moment o = refl

line_sights : (l : ScriptLine) (moment : ℕ) (o : Outcome) → sights (events_shown l moment o) ≡ sights_shown l moment o
line_sights (check request) moment (outcome.Checked answer) = each_sight request moment request.descriptors answer.statuses
line_sights (check request) moment o = refl
line_sights (reload config) moment o = refl
line_sights (tick now) moment o = refl
line_sights (bad refused) moment o = refl

line_values : (l : ScriptLine) (moment : ℕ) (o : Outcome) → values (events_shown l moment o) ≡ values_shown l moment o
line_values (check request) moment (outcome.Checked answer) = each_value request moment request.descriptors answer.statuses
line_values (check request) moment o = refl
line_values (reload config) moment o = refl
line_values (tick now) moment o = refl
line_values (bad refused) moment o = refl

-- all lines'
all_charges : (ls : List ScriptLine) (rs : List Record) → charges (events_of ls rs) ≡ ledger_of ls rs
all_charges [] rs = refl
all_charges (l ∷ ls) [] = refl
all_charges (l ∷ ls) (r ∷ rs) =
    charges_append (events_shown l r.moment r.outcome) (events_of ls rs) ∙ ap (λ x. x ++ charges (events_of ls rs)) (line_charges l r.moment r.outcome)
    ∙ ap (λ x. charges_shown l r.moment r.outcome ++ x) (all_charges ls rs)

all_sights : (ls : List ScriptLine) (rs : List Record) → sights (events_of ls rs) ≡ sights_of ls rs
all_sights [] rs = refl
all_sights (l ∷ ls) [] = refl
all_sights (l ∷ ls) (r ∷ rs) =
    sights_append (events_shown l r.moment r.outcome) (events_of ls rs) ∙ ap (λ x. x ++ sights (events_of ls rs)) (line_sights l r.moment r.outcome)
    ∙ ap (λ x. sights_shown l r.moment r.outcome ++ x) (all_sights ls rs)

-- what one worker knows are the values of all lines
all_values : (ls : List ScriptLine) (rs : List Record) → AllByRecursion (λ (r : Record). r.worker ≡ 0) rs → values (events_of ls rs) ≡ known_by 0 ls rs
all_values [] rs one = refl
all_values (l ∷ ls) [] one = refl
all_values (l ∷ ls) (r ∷ rs) one =
    let yes : (r.worker == 0) ≡ true = eq-eqb r.worker 0 one.0 in
    values_append (events_shown l r.moment r.outcome) (events_of ls rs) ∙ ap (λ x. x ++ values (events_of ls rs)) (line_values l r.moment r.outcome)
    ∙ ap (λ x. values_shown l r.moment r.outcome ++ x) (all_values ls rs one.1)
    ∙ ap (λ (t : Bool). cond t (values_shown l r.moment r.outcome) [] ++ known_by 0 ls rs) (sym yes)

-- ---- fairness of events

fair_on : (known : List (Sight CounterKey)) (xs ys : List Event) → Fair known xs → Fair (known ++ values xs) ys → Fair known (xs ++ ys)
fair_on known [] ys f g = subst (λ (k : List (Sight CounterKey)). Fair k ys) (sym (append_nil known)) g
fair_on known (event c limit hits (Before before) ∷ xs) ys f g =
    let new : Sight CounterKey = record { counter = c; seen = before + hits } in
    (f.0, f.1, fair_on (known ++ new ∷ []) xs ys f.2 (subst (λ (k : List (Sight CounterKey)). Fair k ys) (sym (append_assoc known (new ∷ []) (values xs))) g))
fair_on known (event c limit hits (Seen seen) ∷ xs) ys f g =
    let new : Sight CounterKey = record { counter = c; seen = seen } in
    (f.0, f.1, fair_on (known ++ new ∷ []) xs ys f.2 (subst (λ (k : List (Sight CounterKey)). Fair k ys) (sym (append_assoc known (new ∷ []) (values xs))) g))
fair_on known (event c limit hits NoCount ∷ xs) ys f g = fair_on known xs ys f g

fair_statuses : (known : List (Sight CounterKey)) (request : RequestParts) (moment : ℕ) (ds : List Descriptor) (ss : List Status) → AreFair known request moment ds ss
    → Fair known (events_each request moment ds ss)
fair_statuses known request moment [] ss f = tt
fair_statuses known request moment (d ∷ ds) [] f = tt
fair_statuses known request moment (d ∷ ds) (s ∷ ss) f = one (λ k g. fair_statuses k request moment ds ss g) s.limit s.count f
  where
    one : ((k : List (Sight CounterKey)) → AreFair k request moment ds ss → Fair k (events_each request moment ds ss)) → (limit : Option OwnLimit) (count : Count)
        → IsFairStatus known request moment d limit count × AreFair (known ++ value_shown request moment d limit count) request moment ds ss
        → Fair known (event_of request moment d limit count ++ events_each request moment ds ss)
    one rest None count g = subst (λ (k : List (Sight CounterKey)). Fair k (events_each request moment ds ss)) (sym (append_nil known)) (rest (known ++ []) g.1)
    one rest (Some own) (Before before) g = (g.0.0, g.0.1, rest _ g.1)
    one rest (Some own) (Seen seen) g = (g.0.0, g.0.1, rest _ g.1)
    one rest (Some own) NoCount g = subst (λ (k : List (Sight CounterKey)). Fair k (events_each request moment ds ss)) (sym (append_nil known)) (rest (known ++ []) g.1)

fair_line : (known : List (Sight CounterKey)) (l : ScriptLine) (moment : ℕ) (o : Outcome) → IsFairLine known l moment o → Fair known (events_shown l moment o)
fair_line known (check request) moment (outcome.Checked answer) f = fair_statuses known request moment request.descriptors answer.statuses f
fair_line known (check request) moment o f = tt
fair_line known (reload config) moment o f = tt
fair_line known (tick now) moment o f = tt
fair_line known (bad refused) moment o f = tt

-- lines in front, and lines behind
events_on : (fl : List ScriptLine) (fr : List Record) (ls : List ScriptLine) (rs : List Record) → length fr ≡ length fl
    → events_of (fl ++ ls) (fr ++ rs) ≡ events_of fl fr ++ events_of ls rs
events_on [] [] ls rs n = refl
events_on [] (r ∷ fr) ls rs n = absurd (omega arith)
events_on (l ∷ fl) [] ls rs n = absurd (omega arith)
events_on (l ∷ fl) (r ∷ fr) ls rs n =
    ap (λ x. events_shown l r.moment r.outcome ++ x) (events_on fl fr ls rs (omega arith))
    ∙ sym (append_assoc (events_shown l r.moment r.outcome) (events_of fl fr) (events_of ls rs))

turns_on : (ledger : List (Charge CounterKey)) (xs ys : List Event) → Turns ledger (xs ++ ys) → Turns (ledger ++ charges xs) ys
turns_on ledger [] ys t = subst (λ (l : List (Charge CounterKey)). Turns l ys) (append_nil ledger) t
turns_on ledger (event c limit hits (Before before) ∷ xs) ys t =
    let new : Charge CounterKey = record { counter = c; before = before; hits = hits } in
    subst (λ (l : List (Charge CounterKey)). Turns l ys) (append_assoc ledger (new ∷ []) (charges xs)) (turns_on (ledger ++ new ∷ []) xs ys t.1)
turns_on ledger (event c limit hits (Seen seen) ∷ xs) ys t = turns_on ledger xs ys t.1
turns_on ledger (event c limit hits NoCount ∷ xs) ys t = turns_on ledger xs ys t

turns_front : (ledger : List (Charge CounterKey)) (xs ys : List Event) → Turns ledger (xs ++ ys) → Turns ledger xs
turns_front ledger [] ys t = tt
turns_front ledger (event c limit hits (Before before) ∷ xs) ys t = (t.0, turns_front _ xs ys t.1)
turns_front ledger (event c limit hits (Seen seen) ∷ xs) ys t = (t.0, turns_front ledger xs ys t.1)
turns_front ledger (event c limit hits NoCount ∷ xs) ys t = turns_front ledger xs ys t

-- ---- each answered check counts in turn

module _ (config : List DomainTree) (request : RequestParts) (moment : ℕ) where
  -- the descriptors and statuses that are left count in turn
  abbrev Left : List Descriptor → List Status → Type 0
  Left ds ss = (more : List (Charge CounterKey)) → Turns more (events_each request moment ds ss) → AreSequential config request moment (charged_in more) ds ss

  in_turn_each : (ledger : List (Charge CounterKey)) (ds : List Descriptor) (ss : List Status) → AreStatuses config request moment ds ss
      → Turns ledger (events_each request moment ds ss) → AreSequential config request moment (charged_in ledger) ds ss
  in_turn_each ledger [] [] are t = tt
  in_turn_each ledger [] (s ∷ ss) are t = tt
  in_turn_each ledger (d ∷ ds) [] are t = tt
  in_turn_each ledger (d ∷ ds) (s ∷ ss) are t =
      let a = status_allows (found_for config request d) moment (hits_of request d) s.count s are.0 in
      one (λ more u. in_turn_each more ds ss are.1 u) (found_for config request d) s.limit s.count a.0 a.1 t
    where
      -- nothing was charged
      none : (λ (c : CounterKey). charged_in ledger c + charged_total same_counter c []) ≡ charged_in ledger
      none = λ i c. same c i
        where
          same : (c : CounterKey) → charged_in ledger c + charged_total same_counter c [] ≡ charged_in ledger c
          same c = omega arith

      -- the rest, where nothing was charged
      rest : Left ds ss → Turns ledger (events_each request moment ds ss) → AreSequential config request moment (λ c. charged_in ledger c + charged_total same_counter c []) ds ss
      rest next u = subst (λ (f : CounterKey → ℕ). AreSequential config request moment f ds ss) (sym none) (next ledger u)

      one : Left ds ss → (f : Found) (limit : Option OwnLimit) (count : Count) → limit ≡ limit_of f → Allows f (hits_of request d) count
          → Turns ledger (event_of request moment d limit count ++ events_each request moment ds ss)
          → (count ≡ count_for f (hits_of request d) (charged_under (charged_in ledger) request moment d f))
          × AreSequential config request moment (λ c. charged_in ledger c + charged_total same_counter c (charge_shown request moment d limit count)) ds ss
      one next f limit count is allows u =
          subst (λ (o : Option OwnLimit). (count ≡ count_for f (hits_of request d) (charged_under (charged_in ledger) request moment d f))
          × AreSequential config request moment (λ c. charged_in ledger c + charged_total same_counter c (charge_shown request moment d o count)) ds ss) (sym is)
          (by f count allows (subst (λ (o : Option OwnLimit). Turns ledger (event_of request moment d o count ++ events_each request moment ds ss)) is u))
        where
          by : (f : Found) (count : Count) → Allows f (hits_of request d) count → Turns ledger (event_of request moment d (limit_of f) count ++ events_each request moment ds ss)
              → (count ≡ count_for f (hits_of request d) (charged_under (charged_in ledger) request moment d f))
              × AreSequential config request moment (λ c. charged_in ledger c + charged_total same_counter c (charge_shown request moment d (limit_of f) count)) ds ss
          by NoRule count allows v = (allows, rest next v)
          by (Unlimited rule) count allows v = (allows, rest next v)
          by (Limited limit unit shadow rule) NoCount allows v = absurd allows
          by (Limited limit unit shadow rule) (Seen seen) allows v = (v.0, rest next v.1)
          by (Limited limit unit shadow rule) (Before before) allows v =
              let new : Charge CounterKey = record { counter = counter_of request.domain d unit moment; before = before; hits = hits_of request d } in
              let more : charged_in (ledger ++ new ∷ []) ≡ (λ (c : CounterKey). charged_in ledger c + charged_total same_counter c (new ∷ [])) =
              λ i c. charged_more ledger (new ∷ []) c i in
              (v.0, subst (λ (f : CounterKey → ℕ). AreSequential config request moment f ds ss) more (next (ledger ++ new ∷ []) v.1))

at_length : {A : Type 0} (front : List A) (x : A) (back : List A) → slice_get (front ++ x ∷ back) (length front) ≡ Some x
at_length [] x back = refl
at_length (y ∷ front) x back = at_length front x back

split_take : {A : Type 0} (xs : List A) (i : ℕ) (x : A) → get_elem? xs i ≡ some x → xs ≡ take i xs ++ x ∷ drop (suc i) xs
split_take [] i x e = absurd (some-ne-none x (sym e))
split_take (y ∷ ys) zero x e = ap (λ (z : _). z ∷ ys) (some-injective y x e)
split_take (y ∷ ys) (suc i) x e = ap (λ (l : List _). y ∷ l) (split_take ys i x e)

-- what a line counts, by the configuration of its version and the charges before it
abbrev pub Counts : List DomainTree → List (Charge CounterKey) → ScriptLine → ℕ → Outcome → Type 0
Counts config ledger (check request) moment (outcome.Checked answer) = AreSequential config request moment (charged_in ledger) request.descriptors answer.statuses
Counts config ledger line moment other = Unit {0}

line_counts : (config : List DomainTree) (global_shadow : Bool) (ledger : List (Charge CounterKey)) (l : ScriptLine) (moment : ℕ) (o : Outcome)
    → Turns ledger (events_shown l moment o)
    → IsByRule config global_shadow l moment o → Counts config ledger l moment o
line_counts config global_shadow ledger (check request) moment (outcome.Checked answer) t rule =
    in_turn_each config request moment ledger request.descriptors answer.statuses rule.each t
line_counts config global_shadow ledger (check request) moment o t rule = tt
line_counts config global_shadow ledger (reload c) moment o t rule = tt
line_counts config global_shadow ledger (tick now) moment o t rule = tt
line_counts config global_shadow ledger (bad refused) moment o t rule = tt

module _ (lines : List ScriptLine) (records : List Record) (one : AllByRecursion (λ (r : Record). r.worker ≡ 0) records) (fair : ValuesNeverFall lines records) where
  fair_from : (fl : List ScriptLine) (fr : List Record) (ls : List ScriptLine) (rs : List Record) → length fr ≡ length fl → fl ++ ls ≡ lines → fr ++ rs ≡ records
      → Fair (values (events_of fl fr)) (events_of ls rs)
  fair_from fl fr [] rs n a c = tt
  fair_from fl fr (l ∷ ls) [] n a c = tt
  fair_from fl fr (l ∷ ls) (r ∷ rs) n a c =
      fair_on (values (events_of fl fr)) (events_shown l r.moment r.outcome) (events_of ls rs) (fair_line (values (events_of fl fr)) l r.moment r.outcome here_fair)
      (subst (λ (k : List (Sight CounterKey)). Fair k (events_of ls rs)) more
      (fair_from (fl ++ l ∷ []) (fr ++ r ∷ []) ls rs longer (append_assoc fl (l ∷ []) ls ∙ a) (append_assoc fr (r ∷ []) rs ∙ c)))
    where
      ones : AllByRecursion (λ (x : Record). x.worker ≡ 0) (fr ++ r ∷ rs)
      ones = subst (λ (l : List Record). AllByRecursion (λ (x : Record). x.worker ≡ 0) l) (sym c) one

      mine : r.worker ≡ 0
      mine = (all_back (λ (x : Record). x.worker ≡ 0) fr (r ∷ rs) ones).0

      known : known_by r.worker (take (length fl) lines) (take (length fl) records) ≡ values (events_of fl fr)
      known =
          ap (λ (w : ℕ). known_by w (take (length fl) lines) (take (length fl) records)) mine
          ∙ ap (λ (x : List ScriptLine). known_by 0 (take (length fl) x) (take (length fl) records)) (sym a)
          ∙ ap (λ (x : List ScriptLine). known_by 0 x (take (length fl) records)) (take_front fl (l ∷ ls))
          ∙ ap (λ (x : List Record). known_by 0 fl (take (length fl) x)) (sym c)
          ∙ ap (λ (k : ℕ). known_by 0 fl (take k (fr ++ r ∷ rs))) (sym n)
          ∙ ap (λ (x : List Record). known_by 0 fl x) (take_front fr (r ∷ rs))
          ∙ sym (all_values fl fr (all_front (λ (x : Record). x.worker ≡ 0) fr (r ∷ rs) ones))

      line_at : slice_get lines (length fl) ≡ Some l
      line_at = ap (λ (x : List ScriptLine). slice_get x (length fl)) (sym a) ∙ at_length fl l ls

      record_at : slice_get records (length fl) ≡ Some r
      record_at = ap (λ (x : List Record). slice_get x (length fl)) (sym c) ∙ ap (slice_get (fr ++ r ∷ rs)) (sym n) ∙ at_length fr r rs

      here_fair : IsFairLine (values (events_of fl fr)) l r.moment r.outcome
      here_fair = subst (λ (k : List (Sight CounterKey)). IsFairLine k l r.moment r.outcome) known (fair (length fl) l r line_at record_at)

      more : values (events_of (fl ++ l ∷ []) (fr ++ r ∷ [])) ≡ values (events_of fl fr) ++ values (events_shown l r.moment r.outcome)
      more =
          ap values (events_on fl fr (l ∷ []) (r ∷ []) n) ∙ values_append (events_of fl fr) (events_shown l r.moment r.outcome ++ [])
          ∙ ap (λ (x : List Event). values (events_of fl fr) ++ values x) (sym (append_nil (events_shown l r.moment r.outcome)))

      longer : length (fr ++ r ∷ []) ≡ length (fl ++ l ∷ [])
      longer = let x = length-append fr (r ∷ []) in let y = length-append fl (l ∷ []) in omega (arith, x, y, n)

  module _ (ledger : ChargesFormLedger lines records) (seen : SightsLawful lines records) where
    all_turns : Turns [] (events_of lines records)
    all_turns =
        turns (ledger_of lines records) ledger [] [] (events_of lines records) (fair_from [] [] lines records refl refl refl) tt (λ c most h. omega arith)
        (sym (all_charges lines records))
        (subst (λ (l : List (Sight CounterKey)). AllByRecursion (IsLawfulSight same_counter (ledger_of lines records)) l) (sym (all_sights lines records)) seen)

    -- a line's checks count in turn
    turn_at : (i : ℕ) (l : ScriptLine) (r : Record) → get_elem? lines i ≡ some l → get_elem? records i ≡ some r
        → Turns (ledger_of (take i lines) (take i records)) (events_shown l r.moment r.outcome)
    turn_at i l r el er =
        subst (λ (x : List (Charge CounterKey)). Turns x (events_shown l r.moment r.outcome)) (all_charges (take i lines) (take i records))
        (turns_front (charges (events_of (take i lines) (take i records))) (events_shown l r.moment r.outcome) (events_of (drop (suc i) lines) (drop (suc i) records))
        (turns_on [] (events_of (take i lines) (take i records)) (events_of (l ∷ drop (suc i) lines) (r ∷ drop (suc i) records)) (subst (Turns []) parts all_turns)))
      where
        as_many : length (take i records) ≡ length (take i lines)
        as_many =
            let a = below lines i l el in
            let c = below records i r er in
            take_length records i (omega (arith, c)) ∙ sym (take_length lines i (omega (arith, a)))

        parts : events_of lines records ≡ events_of (take i lines) (take i records) ++ events_of (l ∷ drop (suc i) lines) (r ∷ drop (suc i) records)
        parts =
            ap (λ (x : List ScriptLine). events_of x records) (split_take lines i l el)
            ∙ ap (λ (x : List Record). events_of (take i lines ++ l ∷ drop (suc i) lines) x) (split_take records i r er)
            ∙ events_on (take i lines) (take i records) (l ∷ drop (suc i) lines) (r ∷ drop (suc i) records) as_many

    pub counts_at : (configs : ℕ → List DomainTree) (global_shadow : Bool) → RepliesByRule configs global_shadow lines records → (i : ℕ) (l : ScriptLine) (r : Record)
        → slice_get lines i ≡ Some l → slice_get records i ≡ Some r
        → Counts (configs r.version) (ledger_of (take i lines) (take i records)) l r.moment r.outcome
    counts_at configs global_shadow rule i l r el er =
        line_counts (configs r.version) global_shadow (ledger_of (take i lines) (take i records)) l r.moment r.outcome
        (turn_at i l r (to_elem lines i l el) (to_elem records i r er)) (rule i l r el er)
