-- Why checks and reloads of a run are refused.
use Rattle.std.proofs.Common.{◌≡◌, ℕ, ◌+◌, ◌-◌, ◌*◌, ◌≤◌, ◌==◌, ◌||◌, ◌⊎◌, not, List, [], ◌++◌, length, take, true, inl, inr, Some, Option, refl, sym, ap, ◌∙◌, subst}
use Rattle.std.proofs.Common.{arith, length-append}
use Rattle.std.proofs.lemmas.Bool.{and_from, or_left, or_right}
use Rattle.std.proofs.lemmas.List.{length-map}
use Rattle.std.specs.Prelude.{slice_get}
use Rattle.std.specs.List.{AllByRecursion}
use mathlib.Core.List.{IsPrefix}
use mathlib.Core.Option.{some}
use lib.ListN.{get_elem?}
use Rattle.rate_types.specs.Requests.{RequestParts}
use Rattle.rate_types.specs.Sums.{total, times}
use Rattle.rate_types.proofs.Sums.{total_one}
use Rattle.rate_types.specs.declared.counter_key.CounterKey.{CounterKey}
use Rattle.rate_types.specs.declared.limits.TheConstants.{MOST_CLAIMS, MOST_LINES, MOST_PINS}
use Rattle.descriptor_tree.specs.Trees.{DomainTree}
use Rattle.told_list.specs.Lists.{IsOwnedOnce}
use Rattle.counter_cells.specs.declared.view.CellView.{CellView}
use Rattle.counter_directory.specs.Acquired.{Bounds}
use Rattle.counter_directory.specs.Claims.{IsLawfulClaims}
use Rattle.counter_directory.specs.declared.claim.Claim.{Claim}
use Rattle.rls_core.specs.Reply.{counters_named}
use Rattle.rate_limiter.specs.Passes.{LimiterView, PassView}
use Rattle.rate_limiter.specs.Refusals.{AreClaimsSpent, AreCountersFull}
use Rattle.rate_limiter.proofs.RequestCounters.{named_open}
use Rattle.rate_limiter.proofs.CounterLists.{count, Differ, among_from_count, no_longer, inside}
use Rattle.rate_limiter.proofs.LawfulClaims.{keys_differ, first_lawful}
use Rattle.rate_limiter.proofs.OpenClaims.{keys_in, live_few}
use Rattle.rate_limiter.proofs.WantedCounters.{missing_differ, missing_is, together_differ, together_count, some_open, open_long, open_is, open_differ}
use Rattle.rate_limiter.proofs.Places.{all_of_each, at_each, below, here, of_elem, to_elem}
use Rattle.reply_text.specs.declared.record.Record.{Record}
use Rattle.reply_text.specs.declared.record.Outcome.{Outcome}
use Rattle.reply_text.specs.declared.record.Outcome.TheVariants as outcome
use Rattle.script_run.specs.ScriptLine.{ScriptLine, check, reload, tick, bad}
use Rattle.script_run.specs.Named.{all_tried, bound_by, is_among, is_open_at}
use Rattle.script_run.specs.Refusals.{may_be_bound, is_named_at, IsFull, HasRefusalCause, RefusalsHaveCauses}
use Rattle.script_run.specs.Versions.{installs, VersionsNumbered}
use Rattle.worker_run.specs.LineSteps.{LineStep}
use Rattle.worker_run.specs.Work.{HaveRun}
use Rattle.worker_run.proofs.Claimed.{to_claims, to_versions, line_there, line_is, given, given_named}
use Rattle.worker_run.proofs.Ledger.{whole}
use Rattle.worker_run.proofs.Owners.{record_named}
use Rattle.worker_run.proofs.NamedByLines.{HasFew, all_few, tried_in, found_tried, tried_total}
use Rattle.worker_run.proofs.Splitting.{Placed, placed}
use Rattle.worker_run.proofs.DifferentCounters.{there_are}

-- each check of a run has no more descriptors than a request may have
step_few : (b : Bounds) (limiter : LimiterView) (start : ℕ) (l : ScriptLine) (o : Outcome) (p q : PassView) → LineStep b limiter start l p o q → HasFew l
step_few b limiter start (check request) (outcome.Checked answer) p q s = s.3
step_few b limiter start (check request) (outcome.Full live held wanted) p q s = s.2
step_few b limiter start (check request) (outcome.Spent claims wanted) p q s = s.2
step_few b limiter start (check request) o p q s = absurd s
step_few b limiter start (reload config) o p q s = tt
step_few b limiter start (tick now) o p q s = tt
step_few b limiter start (bad refused) o p q s = tt

module _ (b : Bounds) (limiter : LimiterView) (start : ℕ) (lines : List ScriptLine) (before after : List PassView) (records : List Record)
    (h : HaveRun b limiter start lines before after records) (configs : ℕ → List DomainTree) (versions : List (List DomainTree))
    (agree : (n : ℕ) (c : List DomainTree) → slice_get versions n ≡ Some c → configs n ≡ c) (claims : List Claim)
    (none : AllByRecursion (λ (p : PassView). p.claims.own ≡ []) before) (claimed : AllByRecursion (λ (q : PassView). IsPrefix q.claims.known claims) after)
    (known : AllByRecursion (λ (q : PassView). IsPrefix q.version.view.known versions) after)
    (owned : (n : ℕ) → IsOwnedOnce 0 (length claims) n (total (λ (q : PassView). times n q.claims.own) after)) (most : ℕ) (lawful : IsLawfulClaims b.cells most claims) where
  module _ (i : ℕ) (r : Record) (at : get_elem? records i ≡ some r) (y : Placed b limiter start lines before after records h r)
      (kept : y.split.to.claims.own ≡ y.split.from.claims.own)
      (request : RequestParts) (tried : tried_in configs lines r ≡ counters_named (configs r.version) request r.moment) where
    abbrev made : List Claim
    made = y.split.to.claims.known

    abbrev keys : List CounterKey
    keys = counters_named (configs r.version) request r.moment

    made_differ : Differ (keys_in made)
    made_differ = keys_differ b.cells most made
        (first_lawful b.cells most made claims (to_claims b limiter start lines before after records h configs versions agree claims none claimed known owned i r at y) lawful)

    -- what a claim binds, and what the check names, checks of the run name
    made_named : (c : CounterKey) → 1 ≤ count c (keys_in made) → 1 ≤ count c (all_tried configs lines records)
    made_named c some_c = given_named b limiter start lines before after records h configs versions agree claims none claimed known owned i r at y kept c some_c

    keys_named : (c : CounterKey) → 1 ≤ count c keys → 1 ≤ count c (all_tried configs lines records)
    keys_named c some_c =
        let e = ap (count c) tried in
        let o = total_one (λ (x : Record). count c (tried_in configs lines x)) records i r at in
        let t = tried_total configs lines c 0 lines records (whole b limiter start lines before after records h) in
        omega arith

    -- ---- the cause of a check that finds no room

    module _ (v w : CellView) (live held wanted : ℕ) (a : AreCountersFull b keys made v w r.moment live held wanted) where
      abbrev lives : List CounterKey
      lives = some_open r.moment made live

      long : length lives ≡ live
      long = open_long r.moment made live (let l = live_few r.moment b.cells made in let e = a.live_is in omega arith)

      is_bound : (c : CounterKey) → 1 ≤ count c lives → may_be_bound configs lines records (take i lines) (take i records) r c ≡ true
      is_bound c some_c =
          let o = open_is r.moment made live c some_c in
          and_from (is_open_at r.moment c) _ o.0
          (pick (given b limiter start lines before after records h configs versions agree claims none claimed known owned i r at y kept c o.1))
        where
          pick : (1 ≤ count c (bound_by (λ w. not (w == r.worker)) configs lines records))
              ⊎ (1 ≤ count c (bound_by (λ w. w == r.worker) configs (take i lines) (take i records)))
              → (is_among (bound_by (λ w. not (w == r.worker)) configs lines records) c
              || is_among (bound_by (λ w. w == r.worker) configs (take i lines) (take i records)) c) ≡ true
          pick (inl x) = or_left _ _ (among_from_count (bound_by (λ w. not (w == r.worker)) configs lines records) c x)
          pick (inr x) = or_right _ _ (among_from_count (bound_by (λ w. w == r.worker) configs (take i lines) (take i records)) c x)

      abbrev missing : List CounterKey
      missing = a.wanted_is.0

      is_named : (c : CounterKey) → 1 ≤ count c (lives ++ missing) → is_named_at configs lines records r.moment c ≡ true
      is_named c some_c =
          together_count keys made missing a.wanted_is.1 lives c (is_named_at configs lines records r.moment c ≡ true) some_c
          (λ l.
          let o = open_is r.moment made live c l in
          and_from (is_open_at r.moment c) _ o.0 (among_from_count (all_tried configs lines records) c (made_named c o.1)))
          (λ l.
          let k = (missing_is keys made missing a.wanted_is.1 c l).1 in
          and_from (is_open_at r.moment c) _ (named_open (configs r.version) request r.moment c k) (among_from_count (all_tried configs lines records) c (keys_named c k)))

      full : (workers : ℕ) → b.held ≡ MOST_PINS * (workers - 1) → IsFull configs workers b.cells lines records (take i lines) (take i records) request r live held wanted
      full workers held_most = record {
        full = a.full;
        some = a.some;
        wants = there_are (is_among keys) missing wanted (sym a.wanted_is.2) (missing_differ keys made missing a.wanted_is.1)
            (λ c l. among_from_count keys c (missing_is keys made missing a.wanted_is.1 c l).1);
        lives = there_are (may_be_bound configs lines records (take i lines) (take i records) r) lives live long (open_differ r.moment made live made_differ) is_bound;
        names = there_are (is_named_at configs lines records r.moment) (lives ++ missing) (live + wanted)
            (let e = length-append lives missing in let l = long in let w = a.wanted_is.2 in omega arith)
            (together_differ keys made missing a.wanted_is.1 lives (open_differ r.moment made live made_differ) (λ c l. (open_is r.moment made live c l).1)) is_named;
        holds = let f = a.few in omega arith;
      }

    -- ---- claims are never spent

    unspent : (spent wanted : ℕ) → AreClaimsSpent b keys made spent wanted → AllByRecursion HasFew lines → length lines ≤ MOST_LINES → MOST_CLAIMS ≤ b.claims → ⊥
    unspent spent wanted a few short room =
        let missing = a.wanted_is.0 in
        let differ = together_differ keys made missing a.wanted_is.1 (keys_in made) made_differ (λ c l. l) in
        let n = no_longer (keys_in made ++ missing) (all_tried configs lines records)
        (inside (keys_in made ++ missing) (all_tried configs lines records) differ
        (λ c some_c. together_count keys made missing a.wanted_is.1 (keys_in made) c (1 ≤ count c (all_tried configs lines records)) some_c (made_named c)
        (λ l. keys_named c (missing_is keys made missing a.wanted_is.1 c l).1))) in
        let f = all_few configs lines records few in
        let e = length-append (keys_in made) missing in
        let k = length-map made (λ (x : Claim). x.key) in
        let w = a.wanted_is.2 in
        let s = a.spent in
        let c = a.claims_is in
        omega arith

  few_descriptors : AllByRecursion HasFew lines
  few_descriptors = all_of_each HasFew lines (λ i l at.
      let el = of_elem lines i l at in
      let e = below lines i l at in
      let m = h.merges.as_many in
      let r = here records i (omega arith) in
      let y = placed b limiter start lines before after records h i r.0 r.1 in
      subst HasFew (line_is b limiter start lines before after records h configs versions agree claims none claimed known owned i r.0 r.1 y l el)
      (step_few b limiter start y.split.step.line r.0.outcome y.split.from y.split.to y.split.step.step))

  -- each refused check and each refused reload has its cause
  module _ (workers : ℕ) (held_most : b.held ≡ MOST_PINS * (workers - 1)) (short : length lines ≤ MOST_LINES) (room : MOST_CLAIMS ≤ b.claims)
      (numbered : VersionsNumbered lines records) where
    pub refusals_have_causes : RefusalsHaveCauses configs workers b.cells lines records
    refusals_have_causes i l r el er = by l r.outcome refl (subst (λ (x : ScriptLine). LineStep b limiter start x y.split.from r.outcome y.split.to) line y.split.step.step)
      where
        at : get_elem? records i ≡ some r
        at = to_elem records i r er

        y : Placed b limiter start lines before after records h r
        y = placed b limiter start lines before after records h i r at

        line : y.split.step.line ≡ l
        line = line_is b limiter start lines before after records h configs versions agree claims none claimed known owned i r at y l el

        tried : (request : RequestParts) → l ≡ check request → tried_in configs lines r ≡ counters_named (configs r.version) request r.moment
        tried request e =
            ap (λ (o : Option ScriptLine). found_tried configs o r)
            (line_there b limiter start lines before after records h configs versions agree claims none claimed known owned i r at y l el ∙ ap Some e)

        keys_are : (request : RequestParts) → l ≡ check request
            → counters_named y.split.to.version.index request y.split.to.cells.moment ≡ counters_named (configs r.version) request r.moment
        keys_are request e =
            record_named configs versions agree b limiter start lines y.worker y.split.from r y.split.to y.split.step
            (to_versions b limiter start lines before after records h configs versions agree claims none claimed known owned i r at y) request (line ∙ e)

        by : (k : ScriptLine) (o : Outcome) → l ≡ k → LineStep b limiter start k y.split.from o y.split.to
            → HasRefusalCause configs workers b.cells lines records (take i lines) (take i records) k r o
        by (check request) (outcome.Full live held wanted) e s =
            full i r at y s.0.own_claims request (tried request e) y.split.from.cells y.split.to.cells live held wanted
            (subst (λ (m : ℕ). AreCountersFull b (counters_named (configs r.version) request r.moment)
            y.split.to.claims.known y.split.from.cells y.split.to.cells m live held wanted)
            (s.1.1.2.moment_is ∙ sym y.split.step.at)
            (subst (λ (ks : List CounterKey). AreCountersFull b ks y.split.to.claims.known y.split.from.cells y.split.to.cells s.1.0 live held wanted)
            (keys_are request e) s.1.1.2)) workers held_most
        by (check request) (outcome.Spent spent wanted) e s =
            unspent i r at y s.0.own_claims request (tried request e) spent wanted
            (subst (λ (ks : List CounterKey). AreClaimsSpent b ks y.split.to.claims.known spent wanted) (keys_are request e) s.1.2) few_descriptors short room
        by (check request) (outcome.Checked answer) e s = tt
        by (reload config) outcome.Installed e s = tt
        by (reload config) (outcome.VersionsFull versions) e s =
            let n = s.1.2.version in
            let m = s.1.1 in
            let v = y.split.step.by_version in
            let a = at_each (λ (x : Record). x.version ≤ installs records) records i r at numbered.known in
            let f = numbered.few in
            (s.1.0, omega arith)
        by (tick now) (outcome.Ticked shown) e s = tt
        by (bad refused) (outcome.Bad shown) e s = tt
        by k o e s = absurd s
