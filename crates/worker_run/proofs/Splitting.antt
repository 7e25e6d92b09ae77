-- A journal at one of its records: what came before it, its step, and what comes after it.
use Rattle.std.proofs.Common.{◌≡◌, ℕ, zero, suc, ◌≤◌, ◌<◌, List, [], ◌∷◌, refl, sym, ap, ◌∙◌, subst, arith}
use mathlib.Core.Option.{some, some-injective, some-ne-none}
use native.Mathlib.Decide.{dec_le}
use lib.ListN.{get_elem?}
use Rattle.counter_directory.specs.Acquired.{Bounds}
use Rattle.rate_limiter.specs.Passes.{LimiterView, PassView}
use Rattle.rate_limiter.proofs.Places.{below, here}
use Rattle.reply_text.specs.declared.record.Record.{Record}
use Rattle.reply_text.specs.declared.record.Outcome.{Outcome}
use Rattle.script_run.specs.ScriptLine.{ScriptLine}
use Rattle.worker_run.specs.LineSteps.{LineStep, IsRecordStep}
use Rattle.worker_run.specs.Journal.{Journal}
use Rattle.worker_run.specs.Work.{HaveRun}
use Rattle.worker_run.proofs.Ordering.{earlier_line}

-- a journal split at its record with this place
pub record Split (b : Bounds) (limiter : LimiterView) (start worker : ℕ) (lines : List ScriptLine) (p : PassView) (rs : List Record) (q : PassView) (k : ℕ)
    (r : Record) : Type 0 where
  pub earlier : List Record
  pub later : List Record
  pub from : PassView
  pub to : PassView
  pub front : Journal b limiter start worker lines p earlier from
  pub step : IsRecordStep b limiter start worker lines from r to
  pub back : Journal b limiter start worker lines to later q
  pub before : (i : ℕ) (e : Record) → i < k → get_elem? rs i ≡ some e → get_elem? earlier i ≡ some e
  pub within : (i : ℕ) (e : Record) → get_elem? earlier i ≡ some e → (i < k) × (get_elem? rs i ≡ some e)

module _ (b : Bounds) (limiter : LimiterView) (start worker : ℕ) (lines : List ScriptLine) where
  pub split_at : (p : PassView) (rs : List Record) (q : PassView) → Journal b limiter start worker lines p rs q → (k : ℕ) (r : Record) → get_elem? rs k ≡ some r
      → Split b limiter start worker lines p rs q k r
  split_at p [] q h k r e = absurd (some-ne-none r (sym e))
  split_at p (x ∷ xs) q h zero r e =
      subst (λ (y : Record). Split b limiter start worker lines p (x ∷ xs) q 0 y) (some-injective x r e) (record {
        earlier = [];
        later = xs;
        from = p;
        to = h.0;
        front = refl;
        step = h.1;
        back = h.2;
        before = λ i d lt f. absurd (omega arith);
        within = λ i d f. absurd (some-ne-none d (sym f));
      })
  split_at p (x ∷ xs) q h (suc k) r e =
      let s = split_at h.0 xs q h.2 k r e in
      record {
        earlier = x ∷ s.earlier;
        later = s.later;
        from = s.from;
        to = s.to;
        front = (h.0, h.1, s.front);
        step = s.step;
        back = s.back;
        before = first s;
        within = only s;
      }
    where
      first : (s : Split b limiter start worker lines h.0 xs q k r) → (i : ℕ) (d : Record) → i < suc k → get_elem? (x ∷ xs) i ≡ some d → get_elem? (x ∷ s.earlier) i ≡ some d
      first s zero d lt f = f
      first s (suc i) d lt f = s.before i d (omega arith) f

      only : (s : Split b limiter start worker lines h.0 xs q k r) → (i : ℕ) (d : Record) → get_elem? (x ∷ s.earlier) i ≡ some d → (i < suc k) × (get_elem? (x ∷ xs) i ≡ some d)
      only s zero d f = (omega arith, f)
      only s (suc i) d f = let t = s.within i d f in (omega (arith, t.0), t.1)

  -- what holds between a pass and itself, and over each step, holds over a journal
  pub related : (R : PassView → PassView → Type 0) → ((p : PassView) → R p p) → ((p m q : PassView) → R p m → R m q → R p q)
      → ((l : ScriptLine) (o : Outcome) (p q : PassView) → LineStep b limiter start l p o q → R p q)
      → (p : PassView) (rs : List Record) (q : PassView) → Journal b limiter start worker lines p rs q → R p q
  related R same on step p [] q h = subst (λ (x : PassView). R p x) (sym h) (same p)
  related R same on step p (r ∷ rs) q h = on p h.0 q (step h.1.line r.outcome p h.0 h.1.step) (related R same on step h.0 rs q h.2)

module _ (b : Bounds) (limiter : LimiterView) (start : ℕ) (lines : List ScriptLine) (before after : List PassView) (records : List Record)
    (h : HaveRun b limiter start lines before after records) where
  -- the journal of a record, and its place there
  pub record Placed (r : Record) : Type 0 where
    pub worker : ℕ
    pub journal : List Record
    pub place : ℕ
    pub first : PassView
    pub last : PassView
    pub there : get_elem? h.journals worker ≡ some journal
    pub found : get_elem? journal place ≡ some r
    pub first_is : get_elem? before worker ≡ some first
    pub last_is : get_elem? after worker ≡ some last
    pub steps : Journal b limiter start worker lines first journal last
    pub split : Split b limiter start worker lines first journal last place r

  pub placed : (i : ℕ) (r : Record) → get_elem? records i ≡ some r → Placed r
  placed i r e =
      let f = h.merges.from i r e in
      let n = below h.journals f.worker f.journal f.there in
      let p = here before f.worker (omega (arith, h.as_many.1)) in
      let q = here after f.worker (omega (arith, h.as_many.0, h.as_many.1)) in
      let j = h.each f.worker p.0 f.journal q.0 p.1 f.there q.1 in
      record {
        worker = f.worker;
        journal = f.journal;
        place = f.place;
        first = p.0;
        last = q.0;
        there = f.there;
        found = f.here;
        first_is = p.1;
        last_is = q.1;
        steps = j;
        split = split_at b limiter start f.worker lines p.0 f.journal q.0 j f.place r f.here;
      }

  -- an earlier record of the same worker is in the same journal, at an earlier place
  pub earlier_place : (j i : ℕ) (e r : Record) → j < i → get_elem? records j ≡ some e → get_elem? records i ≡ some r → e.worker ≡ r.worker → (y : Placed r)
      → (k : ℕ) × (k < y.place) × (get_elem? y.journal k ≡ some e)
  earlier_place j i e r lt ej ei same y =
      let x = placed j e ej in
      let w : x.worker ≡ y.worker = sym x.split.step.by_worker ∙ same ∙ y.split.step.by_worker in
      let js : x.journal ≡ y.journal = some-injective _ _ (sym x.there ∙ ap (get_elem? h.journals) w ∙ y.there) in
      let found : get_elem? y.journal x.place ≡ some e = ap (λ (l : List Record). get_elem? l x.place) (sym js) ∙ x.found in
      let m = h.merges.numbered j e ej in
      let n = h.merges.numbered i r ei in
      let le = earlier_line y.journal (h.in_order y.worker y.journal y.there) x.place y.place e r found y.found (omega arith) in
      (x.place, pick x.place found le (dec_le y.place x.place), found)
    where
      apart : e ≡ r → ⊥
      apart same = let m = h.merges.numbered j e ej in let n = h.merges.numbered i r ei in let l = ap (λ (x : Record). x.line) same in absurd (omega arith)

      pick : (k : ℕ) → get_elem? y.journal k ≡ some e → k ≤ y.place → Dec (y.place ≤ k) → k < y.place
      pick k found le (yes ge) =
          let at : k ≡ y.place = omega arith in
          absurd (apart (some-injective e r (sym found ∙ ap (get_elem? y.journal) at ∙ y.found)))
      pick k found le (no n) = omega arith

  -- an earlier record in order of the journal
  pub earlier_split : (j i : ℕ) (e r : Record) → j < i → get_elem? records j ≡ some e → get_elem? records i ≡ some r → e.worker ≡ r.worker → (y : Placed r)
      → (k : ℕ) × (get_elem? y.split.earlier k ≡ some e)
  earlier_split j i e r lt ej ei same y = let t = earlier_place j i e r lt ej ei same y in (t.0, y.split.before t.0 e t.1 t.2)
