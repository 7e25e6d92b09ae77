-- The claims that a worker knows when it is refused: answered checks of other workers, or earlier ones of its own, made them.
use Rattle.std.proofs.Common.{◌≡◌, ℕ, ◌+◌, ◌-◌, ◌≤◌, ◌<◌, ◌==◌, ◌⊎◌, not, List, [], ◌∷◌, length, take, map, Bool, true, false, cond, inl, inr, Some, refl, sym, ap, ◌∙◌}
use Rattle.std.proofs.Common.{subst, arith, eq-eqb, ne_eqb}
use Rattle.std.proofs.lemmas.Bool.{lt-ltb}
use Rattle.std.specs.Prelude.{slice_get, nat_lt}
use Rattle.std.specs.List.{AllByRecursion}
use native.Mathlib.Decide.{ℕ_discrete}
use mathlib.Core.List.{IsPrefix}
use mathlib.Core.Option.{some, some-injective}
use lib.ListN.{get_elem?}
use Rattle.rate_types.specs.Counters.{same_counter}
use Rattle.rate_types.specs.Sums.{total, one_if, times}
use Rattle.rate_types.proofs.Sums.{total_one, total_le}
use Rattle.rate_types.specs.declared.counter_key.CounterKey.{CounterKey}
use Rattle.window_keys.proofs.Counters.{same_is}
use Rattle.descriptor_tree.specs.Trees.{DomainTree}
use Rattle.told_list.specs.Lists.{IsOwnedOnce}
use Rattle.counter_directory.specs.Acquired.{Bounds}
use Rattle.counter_directory.specs.declared.claim.Claim.{Claim}
use Rattle.line_numbers.specs.Rising.{IsRising}
use Rattle.rate_limiter.specs.Passes.{LimiterView, PassView}
use Rattle.rate_limiter.proofs.CounterLists.{count}
use Rattle.rate_limiter.proofs.OpenClaims.{keys_in, keys_count}
use Rattle.rate_limiter.proofs.Places.{at_each, below, front_total, here, prefix_at, same_some, take_at}
use Rattle.reply_text.specs.declared.record.Record.{Record}
use Rattle.script_run.specs.ScriptLine.{ScriptLine}
use Rattle.script_run.specs.Named.{all_tried, bound_by}
use Rattle.worker_run.specs.Journal.{Journal}
use Rattle.worker_run.specs.Work.{HaveRun}
use Rattle.worker_run.proofs.Finding.{Found, found}
use Rattle.worker_run.proofs.Ledger.{prefix_on, whole, journal_claims}
use Rattle.worker_run.proofs.Ordering.{index_at, step_at}
use Rattle.worker_run.proofs.Owners.{IsMadeIn, own_made, own_before}
use Rattle.worker_run.proofs.Replying.{journal_versions}
use Rattle.worker_run.proofs.Splitting.{Placed}
use Rattle.worker_run.proofs.NamedByLines.{bound_in, tried_in, bound_among, bound_total, tried_total, from_front}

-- in a journal the lines rise
pub line_before : (rs : List Record) → IsRising (map (λ (r : Record). r.line - 1) rs) → (i j : ℕ) (e r : Record) → get_elem? rs i ≡ some e → get_elem? rs j ≡ some r → i < j
    → e.line - 1 < r.line - 1
line_before rs rising i j e r x y lt =
    let a = index_at rs i e x in
    let c = index_at rs j r y in
    let t = rising i j lt c.1 in
    omega (arith, a.0, c.0)

module _ (b : Bounds) (limiter : LimiterView) (start : ℕ) (lines : List ScriptLine) (before after : List PassView) (records : List Record)
    (h : HaveRun b limiter start lines before after records) where
  -- the journal of a worker
  pub record JournalOf (w : ℕ) (q : PassView) : Type 0 where
    pub journal : List Record
    pub there : get_elem? h.journals w ≡ some journal
    pub first : PassView
    pub first_is : get_elem? before w ≡ some first
    pub steps : Journal b limiter start w lines first journal q

  pub journal_of : (w : ℕ) (q : PassView) → get_elem? after w ≡ some q → JournalOf w q
  journal_of w q e =
      let n = below after w q e in
      let p = here before w (omega (arith, h.as_many.0)) in
      let j = here h.journals w (omega (arith, h.as_many.0, h.as_many.1)) in
      record { journal = j.0; there = j.1; first = p.0; first_is = p.1; steps = h.each w p.0 j.0 q p.1 j.1 e }

  -- what a record of a journal has, the records have
  some_record : (f : Record → ℕ) (w : ℕ) (rs : List Record) (k : ℕ) (r : Record) → get_elem? h.journals w ≡ some rs → get_elem? rs k ≡ some r → 1 ≤ f r → 1 ≤ total f records
  some_record f w rs k r there found some_f =
      let a = total_one f rs k r found in
      let c = total_one (total f) h.journals w rs there in
      let s = h.merges.sums f in
      omega arith

  module _ (configs : ℕ → List DomainTree) where
    abbrev bound_under : (ℕ → Bool) → CounterKey → Record → ℕ
    bound_under by c r = cond (by r.worker) (count c (bound_in configs lines r)) 0

    under_all : (by : ℕ → Bool) (c : CounterKey) (r : Record) → by r.worker ≡ true → bound_under by c r ≡ count c (bound_in configs lines r)
    under_all by c r e = ap (λ (t : Bool). cond t (count c (bound_in configs lines r)) 0) e

    -- a counter of an answered check of a worker that passes the test
    pub in_all : (by : ℕ → Bool) (c : CounterKey) (w : ℕ) (rs : List Record) (k : ℕ) (r : Record) → get_elem? h.journals w ≡ some rs → get_elem? rs k ≡ some r → by r.worker ≡ true
        → 1 ≤ count c (bound_in configs lines r) → 1 ≤ count c (bound_by by configs lines records)
    in_all by c w rs k r there found passes some_c =
        let u = under_all by c r passes in
        let t = some_record (bound_under by c) w rs k r there found (omega arith) in
        let e = bound_total configs lines by c 0 lines records (whole b limiter start lines before after records h) in
        omega arith

    front_is : (by : ℕ → Bool) (c : CounterKey) (i : ℕ) → count c (bound_by by configs (take i lines) (take i records)) ≡ total (bound_under by c) (take i records)
    front_is by c i = bound_total configs lines by c 0 (take i lines) (take i records) (from_front lines 0 i lines records (whole b limiter start lines before after records h))

    -- and of an earlier line
    pub in_front : (by : ℕ → Bool) (c : CounterKey) (i w : ℕ) (rs : List Record) (k : ℕ) (r : Record) → get_elem? h.journals w ≡ some rs → get_elem? rs k ≡ some r
        → by r.worker ≡ true
        → r.line < i + 1 → 1 ≤ count c (bound_in configs lines r) → 1 ≤ count c (bound_by by configs (take i lines) (take i records))
    in_front by c i w rs k r there found passes early some_c =
        let u = under_all by c r passes in
        let f : Record → ℕ = λ x. cond (nat_lt x.line (i + 1)) (bound_under by c x) 0 in
        let mine : f r ≡ bound_under by c r = ap (λ (t : Bool). cond t (bound_under by c r) 0) (lt-ltb r.line (i + 1) early) in
        let t = some_record f w rs k r there found (omega arith) in
        let g = front_total (λ (x : Record). x.line) (bound_under by c) 0 i (i + 1) records (λ j x e. let n = h.merges.numbered j x e in omega arith) (omega arith) in
        let e = front_is by c i in
        omega arith

    under_some : (by : ℕ → Bool) (c : CounterKey) (r : Record) → 1 ≤ bound_under by c r → (by r.worker ≡ true) × (1 ≤ count c (bound_in configs lines r))
    under_some by c r some_c = pick (by r.worker) refl some_c
      where
        pick : (t : Bool) → by r.worker ≡ t → 1 ≤ cond t (count c (bound_in configs lines r)) 0 → (by r.worker ≡ true) × (1 ≤ count c (bound_in configs lines r))
        pick true e le = (e, le)
        pick false e le = absurd (omega arith)

    -- an answered check with the counter, of a worker that passes the test
    pub record IsBinder (by : ℕ → Bool) (c : CounterKey) (j : ℕ) (r : Record) : Type 0 where
      pub there : get_elem? records j ≡ some r
      pub passes : by r.worker ≡ true
      pub named : 1 ≤ count c (bound_in configs lines r)

    pub binder : (by : ℕ → Bool) (c : CounterKey) → 1 ≤ count c (bound_by by configs lines records) → (j : ℕ) × (r : Record) × IsBinder by c j r
    binder by c some_c =
        let e = bound_total configs lines by c 0 lines records (whole b limiter start lines before after records h) in
        let t = found (bound_under by c) records (omega arith) in
        let u = under_some by c t.item t.has in
        (t.place, t.item, record { there = t.at; passes = u.0; named = u.1 })

    pub early_binder : (by : ℕ → Bool) (c : CounterKey) (i : ℕ) → 1 ≤ count c (bound_by by configs (take i lines) (take i records))
        → (j : ℕ) × (r : Record) × IsBinder by c j r × (j < i)
    early_binder by c i some_c =
        let e = front_is by c i in
        let t = found (bound_under by c) (take i records) (omega arith) in
        let at = take_at records i t.place t.item t.at in
        let u = under_some by c t.item t.has in
        (t.place, t.item, record { there = at.0; passes = u.0; named = u.1 }, at.1)

    -- a counter that was given a cell is one that a check names
    pub binder_named : (by : ℕ → Bool) (c : CounterKey) (j : ℕ) (r : Record) → IsBinder by c j r → 1 ≤ count c (all_tried configs lines records)
    binder_named by c j r is =
        let m = bound_among configs lines r c in
        let o = total_one (λ (x : Record). count c (tried_in configs lines x)) records j r is.there in
        let t = tried_total configs lines c 0 lines records (whole b limiter start lines before after records h) in
        let s = is.named in
        omega arith

    -- all that early checks of some workers bound, early checks bound
    pub any_worker : (by : ℕ → Bool) (c : CounterKey) (i : ℕ) → 1 ≤ count c (bound_by by configs (take i lines) (take i records))
        → 1 ≤ count c (bound_by (λ w. true) configs (take i lines) (take i records))
    any_worker by c i some_c =
        let e = front_is by c i in
        let f = front_is (λ w. true) c i in
        let l = total_le (bound_under by c) (bound_under (λ w. true) c) (take i records) (λ k r e. no_more (by r.worker) (count c (bound_in configs lines r))) in
        omega arith
      where
        no_more : (t : Bool) (m : ℕ) → cond t m 0 ≤ m
        no_more true m = omega arith
        no_more false m = omega arith

    module _ (versions : List (List DomainTree)) (agree : (n : ℕ) (c : List DomainTree) → slice_get versions n ≡ Some c → configs n ≡ c) (claims : List Claim)
        (none : AllByRecursion (λ (p : PassView). p.claims.own ≡ []) before) (claimed : AllByRecursion (λ (q : PassView). IsPrefix q.claims.known claims) after)
        (known : AllByRecursion (λ (q : PassView). IsPrefix q.version.view.known versions) after)
        (owned : (n : ℕ) → IsOwnedOnce 0 (length claims) n (total (λ (q : PassView). times n q.claims.own) after)) where
      pub claims_at : (w : ℕ) (q : PassView) → get_elem? after w ≡ some q → IsPrefix q.claims.known claims
      claims_at w q e = at_each (λ (v : PassView). IsPrefix v.claims.known claims) after w q e claimed

      pub versions_at : (w : ℕ) (q : PassView) → get_elem? after w ≡ some q → IsPrefix q.version.view.known versions
      versions_at w q e = at_each (λ (v : PassView). IsPrefix v.version.view.known versions) after w q e known

      -- the worker whose pass made a claim
      pub owner : (n : ℕ) (x : Claim) → get_elem? claims n ≡ some x → Found (λ (q : PassView). times n q.claims.own) after
      owner n x e =
          let o = (owned n).there (omega arith) (below claims n x e) in
          found (λ (q : PassView). times n q.claims.own) after (omega arith)

      -- a pass that made the claim did it at a record of its journal
      pub made_in : (n : ℕ) (x : Claim) (w : ℕ) (q : PassView) (rs : List Record) (p : PassView) → get_elem? claims n ≡ some x → get_elem? before w ≡ some p
          → Journal b limiter start w lines p rs q → IsPrefix q.claims.known claims → IsPrefix q.version.view.known versions → 1 ≤ times n q.claims.own
          → IsMadeIn configs lines x rs
      made_in n x w q rs p e first j kc kv own = pick (own_made configs versions agree b limiter start lines claims w p rs q n x j kc kv e own)
        where
          pick : (1 ≤ times n p.claims.own) ⊎ IsMadeIn configs lines x rs → IsMadeIn configs lines x rs
          pick (inl had) =
              let z : times n p.claims.own ≡ 0 = ap (times n) (at_each (λ (v : PassView). v.claims.own ≡ []) before w p first none) in
              absurd (omega arith)
          pick (inr m) = m

      module _ (i : ℕ) (r : Record) (at : get_elem? records i ≡ some r) (y : Placed b limiter start lines before after records h r) where
        pub to_claims : IsPrefix y.split.to.claims.known claims
        to_claims = prefix_on y.split.to.claims.known y.last.claims.known claims
            (journal_claims b limiter start lines y.worker y.split.to y.split.later y.last y.split.back) (claims_at y.worker y.last y.last_is)

        pub to_versions : IsPrefix y.split.to.version.view.known versions
        to_versions = prefix_on y.split.to.version.view.known y.last.version.view.known versions
            (journal_versions b limiter start lines versions y.worker y.split.to y.split.later y.last y.split.back)
            (versions_at y.worker y.last y.last_is)

        -- the record's step is that of the line at its place
        pub line_there : (l : ScriptLine) → slice_get lines i ≡ Some l → slice_get lines (r.line - 1) ≡ Some l
        line_there l e = let n = h.merges.numbered i r at in let same : r.line - 1 ≡ i = omega arith in ap (slice_get lines) same ∙ e

        pub line_is : (l : ScriptLine) → slice_get lines i ≡ Some l → y.split.step.line ≡ l
        line_is l e = same_some y.split.step.line l (sym y.split.step.there ∙ line_there l e)

        from_claims : IsPrefix y.split.from.claims.known claims
        from_claims = prefix_on y.split.from.claims.known y.split.to.claims.known claims
            (journal_claims b limiter start lines y.worker y.split.from (r ∷ []) y.split.to (y.split.to, y.split.step, refl)) to_claims

        pub from_versions : IsPrefix y.split.from.version.view.known versions
        from_versions = prefix_on y.split.from.version.view.known y.split.to.version.view.known versions
            (journal_versions b limiter start lines versions y.worker y.split.from (r ∷ []) y.split.to (y.split.to, y.split.step, refl)) to_versions

        worker_of : (w : ℕ) (p : PassView) (rs : List Record) (q : PassView) (k : ℕ) (x : Record) → Journal b limiter start w lines p rs q → get_elem? rs k ≡ some x → x.worker ≡ w
        worker_of w p rs q k x j e = let s = step_at b limiter start w lines p rs q j k x e in s.step.by_worker

        -- another worker made the claim
        by_other : (n : ℕ) (x : Claim) → get_elem? claims n ≡ some x → (w : ℕ) (q : PassView) → (w ≡ y.worker → ⊥) → get_elem? after w ≡ some q → 1 ≤ times n q.claims.own
            → 1 ≤ count x.key (bound_by (λ v. not (v == r.worker)) configs lines records)
        by_other n x there w q ne e own =
            let j = journal_of w q e in
            let m = made_in n x w q j.journal j.first there j.first_is j.steps (claims_at w q e) (versions_at w q e) own in
            let is = worker_of w j.first j.journal q m.place m.by_record j.steps m.there in
            let me = y.split.step.by_worker in
            let differs : (m.by_record.worker == r.worker) ≡ false = ne_eqb m.by_record.worker r.worker (λ same. ne (sym is ∙ same ∙ me)) in
            in_all (λ v. not (v == r.worker)) x.key w j.journal m.place m.by_record j.there m.there (ap not differs) m.named

        -- or this one did, at an earlier line
        by_itself : (n : ℕ) (x : Claim) → get_elem? claims n ≡ some x → 1 ≤ times n y.split.from.claims.own
            → 1 ≤ count x.key (bound_by (λ v. v == r.worker) configs (take i lines) (take i records))
        by_itself n x there own =
            let m = made_in n x y.worker y.split.from y.split.earlier y.first there y.first_is y.split.front from_claims from_versions own in
            let e = y.split.within m.place m.by_record m.there in
            let is = worker_of y.worker y.first y.journal y.last m.place m.by_record y.steps e.1 in
            let me = y.split.step.by_worker in
            let l = line_before y.journal (h.in_order y.worker y.journal y.there) m.place y.place m.by_record r e.1 y.found e.0 in
            let n = h.merges.numbered i r at in
            let same : (m.by_record.worker == r.worker) ≡ true = eq-eqb m.by_record.worker r.worker (is ∙ sym me) in
            in_front (λ v. v == r.worker) x.key i y.worker y.journal m.place m.by_record y.there e.1 same (omega arith) m.named

        -- ---- where the record's check made no claim

        module _ (kept : y.split.to.claims.own ≡ y.split.from.claims.own) where
          abbrev IsGiven : CounterKey → Type 0
          IsGiven c = (1 ≤ count c (bound_by (λ v. not (v == r.worker)) configs lines records))
              ⊎ (1 ≤ count c (bound_by (λ v. v == r.worker) configs (take i lines) (take i records)))

          claim_given : (n : ℕ) (x : Claim) → get_elem? y.split.to.claims.known n ≡ some x → IsGiven x.key
          claim_given n x e = pick (ℕ_discrete o.place y.worker) o.at o.has
            where
              there : get_elem? claims n ≡ some x
              there = prefix_at y.split.to.claims.known claims n x to_claims e

              o : Found (λ (q : PassView). times n q.claims.own) after
              o = owner n x there

              pick : Dec (o.place ≡ y.worker) → get_elem? after o.place ≡ some o.item → 1 ≤ times n o.item.claims.own → IsGiven x.key
              pick (yes same) e2 own =
                  let is : o.item ≡ y.last = some-injective o.item y.last (sym e2 ∙ ap (get_elem? after) same ∙ y.last_is) in
                  let mine = subst (λ (q : PassView). 1 ≤ times n q.claims.own) is own in
                  let then = own_before b limiter start lines y.worker y.split.to y.split.later y.last n y.split.back (below y.split.to.claims.known n x e) mine in
                  inr (by_itself n x there (subst (λ (l : List ℕ). 1 ≤ times n l) kept then))
              pick (no ne) e2 own = inl (by_other n x there o.place o.item ne e2 own)

          -- each counter with a claim was given it by a check of another worker, or by an earlier one of its own
          pub given : (c : CounterKey) → 1 ≤ count c (keys_in y.split.to.claims.known) → IsGiven c
          given c some_c =
              let k = keys_count c y.split.to.claims.known in
              let f = found (λ (x : Claim). one_if (same_counter x.key c)) y.split.to.claims.known (omega arith) in
              subst IsGiven (key_is f.item f.has) (claim_given f.place f.item f.at)
            where
              key_is : (x : Claim) → 1 ≤ one_if (same_counter x.key c) → x.key ≡ c
              key_is x some_x = by (same_counter x.key c) refl
                where
                  by : (y : Bool) → same_counter x.key c ≡ y → x.key ≡ c
                  by true e = same_is x.key c e
                  by false e = let o = ap one_if e in absurd (omega arith)

          -- so a check of the run names it
          pub given_named : (c : CounterKey) → 1 ≤ count c (keys_in y.split.to.claims.known) → 1 ≤ count c (all_tried configs lines records)
          given_named c some_c = pick (given c some_c)
            where
              pick : IsGiven c → 1 ≤ count c (all_tried configs lines records)
              pick (inl other) = let f = binder (λ v. not (v == r.worker)) c other in binder_named (λ v. not (v == r.worker)) c f.0 f.1 f.2
              pick (inr earlier) = let f = early_binder (λ v. v == r.worker) c i earlier in binder_named (λ v. v == r.worker) c f.0 f.1 f.2
