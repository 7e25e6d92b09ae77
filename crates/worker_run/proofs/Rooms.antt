-- With one worker there was room for the counters of each answered check, and none for those of a refused one.
use Rattle.std.proofs.Common.{◌≡◌, ℕ, zero, suc, ◌≤◌, ◌<◌, ◌==◌, ◌&&◌, ◌⊎◌, not, List, [], ◌∷◌, ◌++◌, length, take, filter, Bool, true, false, cond, inl, inr, Some}
use Rattle.std.proofs.Common.{refl, sym, ap, ◌∙◌, subst, arith, true≢false, eq-eqb}
use Rattle.std.proofs.lemmas.Bool.{and_from, and_parts, lt-ltb, not-true, not_from_false, false_from_ne_true}
use Rattle.std.specs.Prelude.{slice_get, nat_lt}
use Rattle.std.specs.List.{AllByRecursion}
use mathlib.Core.List.{IsPrefix}
use mathlib.Core.Option.{some, some-injective, some-ne-none}
use lib.ListN.{get_elem?}
use Rattle.rate_types.specs.Requests.{RequestParts}
use Rattle.rate_types.specs.Sums.{total, one_if, times}
use Rattle.rate_types.specs.declared.counter_key.CounterKey.{CounterKey}
use Rattle.window_keys.specs.Counter.{window_end_of}
use Rattle.descriptor_tree.specs.Trees.{DomainTree}
use Rattle.told_list.specs.Lists.{IsOwnedOnce}
use Rattle.counter_cells.specs.declared.view.CellView.{CellView}
use Rattle.counter_directory.specs.Acquired.{Bounds}
use Rattle.counter_directory.specs.Claims.{claims_of, live_below, IsLawfulClaims}
use Rattle.counter_directory.specs.declared.claim.Claim.{Claim}
use Rattle.rls_core.specs.Reply.{counters_named}
use Rattle.rls_core.specs.Sequential.{IsNumberOf, Wants, HasRoom, LacksRoom}
use Rattle.rate_limiter.specs.Passes.{LimiterView, PassView}
use Rattle.rate_limiter.specs.Refusals.{AreCountersFull}
use Rattle.rate_limiter.proofs.RequestCounters.{named_open}
use Rattle.rate_limiter.proofs.CounterLists.{count, among, among_from_count, count_from_among, filter_count}
use Rattle.rate_limiter.proofs.LawfulClaims.{first_claims, first_lawful, keys_differ}
use Rattle.rate_limiter.proofs.OpenClaims.{keys_in, keys_count, open_in, live_all, live_most}
use Rattle.rate_limiter.proofs.WantedCounters.{missing_differ, missing_is}
use Rattle.rate_limiter.proofs.Places.{below, in_either, prefix_at, to_elem}
use Rattle.reply_text.specs.declared.record.Record.{Record}
use Rattle.reply_text.specs.declared.record.Outcome.{Outcome}
use Rattle.reply_text.specs.declared.record.Outcome.TheVariants as outcome
use Rattle.script_run.specs.ScriptLine.{ScriptLine, check, reload, tick, bad}
use Rattle.script_run.specs.Lines.{EachLine}
use Rattle.script_run.specs.Named.{bound_by}
use Rattle.script_run.specs.Sequential.{is_bound}
use Rattle.worker_run.specs.LineSteps.{LineStep}
use Rattle.worker_run.specs.Work.{HaveRun}
use Rattle.worker_run.proofs.Binding.{step_claimed, journal_claimed}
use Rattle.worker_run.proofs.Claimed.{IsBinder, binder, early_binder, any_worker, owner, made_in, to_claims, to_versions, from_versions, line_is, given}
use Rattle.worker_run.proofs.Journals.{journal_push}
use Rattle.worker_run.proofs.KeyOrder.{in_order}
use Rattle.worker_run.proofs.InTurn.{HasRoomInTurn}
use Rattle.worker_run.proofs.Ledger.{journal_claims}
use Rattle.worker_run.proofs.Numbers.{number_of, number_in, among_filter, numbers_fit}
use Rattle.worker_run.proofs.Ordering.{in_turn, moments_rise}
use Rattle.worker_run.proofs.Owners.{own_before, record_named}
use Rattle.worker_run.proofs.Splitting.{Placed, placed, earlier_split}

same_test : (s t : Bool) → (s ≡ true → t ≡ true) → (t ≡ true → s ≡ true) → s ≡ t
same_test true t f g = sym (f refl)
same_test false true f g = g refl
same_test false false f g = refl

module _ (b : Bounds) (limiter : LimiterView) (start : ℕ) (lines : List ScriptLine) (before after : List PassView) (records : List Record)
    (h : HaveRun b limiter start lines before after records) (configs : ℕ → List DomainTree) (versions : List (List DomainTree))
    (agree : (n : ℕ) (c : List DomainTree) → slice_get versions n ≡ Some c → configs n ≡ c) (claims : List Claim)
    (none : AllByRecursion (λ (p : PassView). p.claims.own ≡ []) before) (claimed : AllByRecursion (λ (q : PassView). IsPrefix q.claims.known claims) after)
    (known : AllByRecursion (λ (q : PassView). IsPrefix q.version.view.known versions) after)
    (owned : (n : ℕ) → IsOwnedOnce 0 (length claims) n (total (λ (q : PassView). times n q.claims.own) after)) (most : ℕ) (lawful : IsLawfulClaims b.cells most claims)
    (one : length before ≡ 1) where
  first_of : (w : ℕ) (q : PassView) → get_elem? after w ≡ some q → w ≡ 0
  first_of w q e = let l = below after w q e in let m = h.as_many.0 in omega arith

  worker_is : (j : ℕ) (r : Record) → get_elem? records j ≡ some r → r.worker ≡ 0
  worker_is j r e =
      let y = placed b limiter start lines before after records h j r e in
      y.split.step.by_worker ∙ first_of y.worker y.last y.last_is

  module _ (i : ℕ) (r : Record) (at : get_elem? records i ≡ some r) (y : Placed b limiter start lines before after records h r) where
    abbrev made : List Claim
    made = y.split.to.claims.known

    abbrev bound : List CounterKey
    bound = bound_by (λ w. true) configs (take i lines) (take i records)

    made_claims : IsPrefix made claims
    made_claims = to_claims b limiter start lines before after records h configs versions agree claims none claimed known owned i r at y

    made_lawful : IsLawfulClaims b.cells most made
    made_lawful = first_lawful b.cells most made claims made_claims lawful

    -- an earlier answered check gave the counter a cell: it has a claim
    had : (c : CounterKey) → 1 ≤ count c bound → 1 ≤ claims_of c y.split.from.claims.known
    had c some_c = by (early_binder b limiter start lines before after records h configs (λ w. true) c i some_c)
      where
        by : (j : ℕ) × (x : Record) × IsBinder b limiter start lines before after records h configs (λ w. true) c j x × (j < i) → 1 ≤ claims_of c y.split.from.claims.known
        by f =
            let e = earlier_split b limiter start lines before after records h f.0 i f.1 r f.3 f.2.there at (worker_is f.0 f.1 f.2.there ∙ sym (worker_is i r at)) y in
            journal_claimed configs versions agree b limiter start lines y.worker y.first y.split.earlier y.split.from e.0 f.1 c y.split.front
            (from_versions b limiter start lines before after records h configs versions agree claims none claimed known owned i r at y) e.1 f.2.named

    had_then : (c : CounterKey) → 1 ≤ count c bound → 1 ≤ count c (keys_in made)
    had_then c some_c =
        let m = had c some_c in
        let g = first_claims c y.split.from.claims.known made (journal_claims b limiter start lines y.worker y.split.from (r ∷ []) y.split.to (y.split.to, y.split.step, refl)) in
        let k = keys_count c made in
        omega arith

    -- each claim was made no later than the record's moment
    made_early : (n : ℕ) (x : Claim) → get_elem? made n ≡ some x → x.moment ≤ r.moment
    made_early n x e =
        let there = prefix_at made claims n x made_claims e in
        let o = owner b limiter start lines before after records h configs versions agree claims none claimed known owned n x there in
        let w : o.place ≡ y.worker = first_of o.place o.item o.at ∙ sym (first_of y.worker y.last y.last_is) in
        let is : o.item ≡ y.last = some-injective o.item y.last (sym o.at ∙ ap (get_elem? after) w ∙ y.last_is) in
        let mine = subst (λ (q : PassView). 1 ≤ times n q.claims.own) is o.has in
        let then = own_before b limiter start lines y.worker y.split.to y.split.later y.last n y.split.back (below made n x e) mine in
        let m = made_in b limiter start lines before after records h configs versions agree claims none claimed known owned n x y.worker y.split.to
        (y.split.earlier ++ r ∷ []) y.first there
        y.first_is (journal_push b limiter start y.worker lines y.first y.split.earlier y.split.from r y.split.to y.split.front y.split.step) made_claims
        (to_versions b limiter start lines before after records h configs versions agree claims none claimed known owned i r at y) then in
        let a = m.at in
        let le = up_to m.place m.by_record (in_either y.split.earlier (r ∷ []) m.place m.by_record m.there) in
        omega arith
      where
        up_to : (k : ℕ) (q : Record) → (get_elem? y.split.earlier k ≡ some q) ⊎ ((j : ℕ) × (get_elem? (r ∷ []) j ≡ some q)) → q.moment ≤ r.moment
        up_to k q (inl there) =
            let f = y.split.within k q there in
            in_turn b limiter start y.worker lines (λ (p : PassView). p.cells.moment) (λ (v : Record). v.moment)
            (λ p v u s. (moments_rise b limiter start s.line v.outcome p u s.step, s.at)) y.first y.journal y.last y.steps k y.place q r f.1 y.found (omega (arith, f.0))
        up_to k q (inr f) = itself f.0 f.1
          where
            itself : (j : ℕ) → get_elem? (r ∷ []) j ≡ some q → q.moment ≤ r.moment
            itself zero e = let same = ap (λ (v : Record). v.moment) (some-injective r q e) in omega arith
            itself (suc j) e = absurd (some-ne-none q (sym e))

    -- so no two of them are open on one cell
    live_is : live_below b.cells r.moment made ≡ length (open_in r.moment made)
    live_is = live_all r.moment b.cells most made made_lawful made_early

    abbrev has_cell : CounterKey → Bool
    has_cell c = is_bound configs (take i lines) (take i records) r.moment c

    open_count : (c : CounterKey) → nat_lt r.moment (window_end_of c) ≡ true → count c (open_in r.moment made) ≡ count c (keys_in made)
    open_count c e = filter_count (λ k. nat_lt r.moment (window_end_of k)) (keys_in made) c ∙ ap (λ (s : Bool). cond s (count c (keys_in made)) 0) e

    module _ (request : RequestParts) where
      abbrev keys : List CounterKey
      keys = counters_named (configs r.version) request r.moment

      abbrev wants_cell : CounterKey → Bool
      wants_cell c = among keys c && not (has_cell c)

      -- ---- an answered check

      room : ((c : CounterKey) → 1 ≤ count c keys → 1 ≤ claims_of c made) → HasRoom (configs r.version) b.cells request r.moment has_cell
      room named = record {
        live = length (in_order lives);
        wanted = length (in_order wanted);
        needs = record { lives = number_live; wants = number_wanted };
        fits = let f = numbers_fit has_cell wants_cell (length (in_order lives)) (length (in_order wanted)) (open_in r.moment made) number_live number_wanted apart first second in
            let e = live_is in
            let m = live_most r.moment b.cells made in
            omega arith;
      }
        where
          lives : List CounterKey
          lives = filter (λ c. nat_lt r.moment (window_end_of c)) bound

          number_live : IsNumberOf has_cell (length (in_order lives))
          number_live = number_in has_cell lives (among_filter (λ c. nat_lt r.moment (window_end_of c)) bound)

          wanted : List CounterKey
          wanted = filter (λ c. not (has_cell c)) keys

          turned : (s u : Bool) → (s && u) ≡ (u && s)
          turned true true = refl
          turned true false = refl
          turned false true = refl
          turned false false = refl

          number_wanted : Wants has_cell keys (length (in_order wanted))
          number_wanted = number_in wants_cell wanted (λ c. among_filter (λ k. not (has_cell k)) keys c ∙ turned (not (has_cell c)) (among keys c))

          apart : (c : CounterKey) → has_cell c ≡ true → wants_cell c ≡ false
          apart c e = ap (λ (s : Bool). among keys c && not s) e ∙ turned (among keys c) false

          first : (c : CounterKey) → has_cell c ≡ true → 1 ≤ count c (open_in r.moment made)
          first c e =
              let p = and_parts (nat_lt r.moment (window_end_of c)) (among bound c) e in
              let o = open_count c p.0 in
              let g = had_then c (count_from_among bound c p.1) in
              omega arith

          second : (c : CounterKey) → wants_cell c ≡ true → 1 ≤ count c (open_in r.moment made)
          second c e =
              let p = and_parts (among keys c) (not (has_cell c)) e in
              let n = count_from_among keys c p.0 in
              let o = open_count c (named_open (configs r.version) request r.moment c n) in
              let k = keys_count c made in
              let g = named c n in
              omega arith

      -- ---- a refused one

      module _ (kept : y.split.to.claims.own ≡ y.split.from.claims.own) (v w : CellView) (live held wanted : ℕ) (a : AreCountersFull b keys made v w r.moment live held wanted)
          (held_none : b.held ≡ 0) where
        abbrev missing : List CounterKey
        missing = a.wanted_is.0

        -- what has a claim, an earlier answered check gave a cell
        has : (c : CounterKey) → 1 ≤ count c (keys_in made) → 1 ≤ count c bound
        has c some_c = pick (given b limiter start lines before after records h configs versions agree claims none claimed known owned i r at y kept c some_c)
          where
            pick : (1 ≤ count c (bound_by (λ x. not (x == r.worker)) configs lines records)) ⊎ (1 ≤ count c (bound_by (λ x. x == r.worker) configs (take i lines) (take i records)))
                → 1 ≤ count c bound
            pick (inl other) =
                let f = binder b limiter start lines before after records h configs (λ x. not (x == r.worker)) c other in
                let same = eq-eqb f.1.worker r.worker (worker_is f.0 f.1 f.2.there ∙ sym (worker_is i r at)) in
                absurd (true≢false (sym f.2.passes ∙ ap not same))
            pick (inr own) = any_worker b limiter start lines before after records h configs (λ x. x == r.worker) c i own

        among_same : (c : CounterKey) → among (keys_in made) c ≡ among bound c
        among_same c =
            same_test (among (keys_in made) c) (among bound c) (λ e. among_from_count bound c (has c (count_from_among (keys_in made) c e)))
            (λ e. among_from_count (keys_in made) c (had_then c (count_from_among bound c e)))

        number_live : IsNumberOf has_cell live
        number_live =
            subst (λ (n : ℕ). IsNumberOf has_cell n) (sym (a.live_is ∙ live_is))
            (number_of has_cell (open_in r.moment made)
            (λ c.
            let f = filter_count (λ k. nat_lt r.moment (window_end_of k)) (keys_in made) c in
            let d = keys_differ b.cells most made made_lawful c in
            let l = no_more (nat_lt r.moment (window_end_of c)) (count c (keys_in made)) in
            omega arith)
            (λ c. among_filter (λ k. nat_lt r.moment (window_end_of k)) (keys_in made) c ∙ ap (λ (s : Bool). nat_lt r.moment (window_end_of c) && s) (among_same c)))
          where
            no_more : (s : Bool) (m : ℕ) → cond s m 0 ≤ m
            no_more true m = omega arith
            no_more false m = omega arith

        is_wanted : (c : CounterKey) → among missing c ≡ wants_cell c
        is_wanted c = same_test (among missing c) (wants_cell c) to back
          where
            to : among missing c ≡ true → wants_cell c ≡ true
            to e =
                let m = missing_is keys made missing a.wanted_is.1 c (count_from_among missing c e) in
                let out : has_cell c ≡ false = false_from_ne_true (has_cell c) (λ (s : has_cell c ≡ true).
                let p = and_parts (nat_lt r.moment (window_end_of c)) (among bound c) s in
                let g = had_then c (count_from_among bound c p.1) in
                let k = keys_count c made in
                let z = m.0 in
                omega arith) in
                and_from (among keys c) (not (has_cell c)) (among_from_count keys c m.1) (not_from_false (has_cell c) out)

            back : wants_cell c ≡ true → among missing c ≡ true
            back e =
                let p = and_parts (among keys c) (not (has_cell c)) e in
                let n = count_from_among keys c p.0 in
                let lasts = named_open (configs r.version) request r.moment c n in
                let none : claims_of c made ≡ 0 = pick (claims_of c made) refl lasts (not-true (has_cell c) p.1) in
                let is = a.wanted_is.1 c in
                let both = and_from (claims_of c made == 0) (nat_lt 0 (count c keys)) (eq-eqb (claims_of c made) 0 none) (lt-ltb 0 (count c keys) (omega arith)) in
                let o = ap one_if both in
                among_from_count missing c (omega arith)
              where
                pick : (k : ℕ) → claims_of c made ≡ k → nat_lt r.moment (window_end_of c) ≡ true → has_cell c ≡ false → claims_of c made ≡ 0
                pick zero e lasts out = e
                pick (suc k) e lasts out =
                    let n = keys_count c made in
                    let g = has c (omega arith) in
                    absurd (true≢false (sym (and_from (nat_lt r.moment (window_end_of c)) (among bound c) lasts (among_from_count bound c g)) ∙ out))

        lacks : (held ≡ 0) × LacksRoom (configs r.version) b.cells request r.moment has_cell live wanted
        lacks = (
          (let f = a.few in omega arith),
          record {
            needs = record {
              lives = number_live;
              wants = subst (λ (n : ℕ). Wants has_cell keys n) (sym a.wanted_is.2) (number_of wants_cell missing (missing_differ keys made missing a.wanted_is.1) is_wanted);
            };
            above = let f = a.full in let l = a.few in omega arith;
          },
        )

  -- line after line
  pub room_in_turn : b.held ≡ 0 → EachLine lines records (λ early earlier l r. HasRoomInTurn configs b.cells early earlier l r r.outcome)
  room_in_turn held_none i l r el er = by l r.outcome refl (subst (λ (x : ScriptLine). LineStep b limiter start x y.split.from r.outcome y.split.to) line y.split.step.step)
    where
      at : get_elem? records i ≡ some r
      at = to_elem records i r er

      y : Placed b limiter start lines before after records h r
      y = placed b limiter start lines before after records h i r at

      line : y.split.step.line ≡ l
      line = line_is b limiter start lines before after records h configs versions agree claims none claimed known owned i r at y l el

      keys_are : (request : RequestParts) → l ≡ check request
          → counters_named y.split.to.version.index request y.split.to.cells.moment ≡ counters_named (configs r.version) request r.moment
      keys_are request e =
          record_named configs versions agree b limiter start lines y.worker y.split.from r y.split.to y.split.step
          (to_versions b limiter start lines before after records h configs versions agree claims none claimed known owned i r at y) request (line ∙ e)

      by : (k : ScriptLine) (o : Outcome) → l ≡ k → LineStep b limiter start k y.split.from o y.split.to → HasRoomInTurn configs b.cells (take i lines) (take i records) k r o
      by (check request) (outcome.Checked answer) e s =
          room i r at y request
          (λ c some_c. step_claimed b limiter start (check request) (outcome.Checked answer) y.split.from y.split.to c s
          (subst (λ (ks : List CounterKey). 1 ≤ count c ks) (sym (keys_are request e)) some_c))
      by (check request) (outcome.Full live held wanted) e s =
          lacks i r at y request s.0.own_claims y.split.from.cells y.split.to.cells live held wanted
          (subst (λ (m : ℕ). AreCountersFull b (counters_named (configs r.version) request r.moment) y.split.to.claims.known y.split.from.cells y.split.to.cells m live held wanted)
          (s.1.1.2.moment_is ∙ sym y.split.step.at)
          (subst (λ (ks : List CounterKey). AreCountersFull b ks y.split.to.claims.known y.split.from.cells y.split.to.cells s.1.0 live held wanted)
          (keys_are request e) s.1.1.2)) held_none
      by (check request) (outcome.Spent spent wanted) e s = tt
      by (reload config) outcome.Installed e s = tt
      by (reload config) (outcome.VersionsFull versions) e s = tt
      by (tick now) (outcome.Ticked shown) e s = tt
      by (bad refused) (outcome.Bad shown) e s = tt
      by k o e s = absurd s
