-- From the journals of workers to the records in the order of their lines.
use Rattle.std.proofs.Common.{◌≡◌, ℕ, ◌-◌, ◌≤◌, ◌<◌, List, length, take, Some, sym, ap, ◌∙◌, subst, arith}
use Rattle.std.specs.Prelude.{slice_get}
use Rattle.std.specs.List.{AllByRecursion}
use mathlib.Core.Option.{some, some-injective}
use lib.ListN.{get_elem?}
use Rattle.counter_directory.specs.Acquired.{Bounds}
use Rattle.rate_limiter.specs.Passes.{LimiterView, PassView}
use Rattle.rate_limiter.proofs.Places.{all_of_each, at_each, below, here, same_some, take_at, take_length, to_elem}
use Rattle.reply_text.specs.declared.record.Record.{Record}
use Rattle.reply_text.specs.declared.record.Outcome.{Outcome}
use Rattle.reply_text.specs.declared.record.Outcome.TheVariants as outcome
use Rattle.script_run.specs.ScriptLine.{ScriptLine, check, reload, tick, bad}
use Rattle.script_run.specs.Lines.{EachLine, IsAtLeastEarlier}
use Rattle.script_run.specs.Kinds.{IsOfKind, OneRecordPerLine}
use Rattle.script_run.specs.Moments.{tick_of, ShowsItsTick}
use Rattle.worker_run.specs.LineSteps.{LineStep, IsRecordStep}
use Rattle.worker_run.specs.Journal.{Journal}
use Rattle.worker_run.specs.Work.{HaveRun}
use Rattle.worker_run.specs.Clauses.{AreInOrder}
use Rattle.worker_run.proofs.Ordering.{step_at, at_least, in_turn, earlier_line, versions_rise, moments_rise}

kind_of : (b : Bounds) (limiter : LimiterView) (start : ℕ) (l : ScriptLine) (o : Outcome) (p q : PassView) → LineStep b limiter start l p o q → IsOfKind l o
kind_of b limiter start (check request) (outcome.Checked answer) p q s = tt
kind_of b limiter start (check request) (outcome.Full live held wanted) p q s = tt
kind_of b limiter start (check request) (outcome.Spent claims wanted) p q s = tt
kind_of b limiter start (reload config) outcome.Installed p q s = tt
kind_of b limiter start (reload config) (outcome.VersionsFull versions) p q s = tt
kind_of b limiter start (tick now) (outcome.Ticked shown) p q s = tt
kind_of b limiter start (bad refused) (outcome.Bad shown) p q s = s.0
kind_of b limiter start l o p q s = absurd s

tick_shown : (b : Bounds) (limiter : LimiterView) (start : ℕ) (l : ScriptLine) (o : Outcome) (p q : PassView) → LineStep b limiter start l p o q → ShowsItsTick l o
tick_shown b limiter start (tick now) (outcome.Ticked shown) p q s = s.0
tick_shown b limiter start (check request) o p q s = tt
tick_shown b limiter start (reload config) o p q s = tt
tick_shown b limiter start (bad refused) o p q s = tt
tick_shown b limiter start l o p q s = absurd s

pub tick_least : (b : Bounds) (limiter : LimiterView) (start : ℕ) (l : ScriptLine) (o : Outcome) (p q : PassView) → LineStep b limiter start l p o q → tick_of l ≤ q.cells.moment
tick_least b limiter start (tick now) (outcome.Ticked shown) p q s = s.1.least
tick_least b limiter start (check request) o p q s = omega arith
tick_least b limiter start (reload config) o p q s = omega arith
tick_least b limiter start (bad refused) o p q s = omega arith
tick_least b limiter start l o p q s = absurd s

-- where a record comes from
record Located (b : Bounds) (limiter : LimiterView) (start : ℕ) (lines : List ScriptLine) (before : List PassView) (journals : List (List Record)) (r : Record) : Type 0 where
  pub worker : ℕ
  pub journal : List Record
  pub place : ℕ
  pub there : get_elem? journals worker ≡ some journal
  pub found : get_elem? journal place ≡ some r
  pub first : PassView
  pub last : PassView
  pub first_is : get_elem? before worker ≡ some first
  pub steps : Journal b limiter start worker lines first journal last

module _ (b : Bounds) (limiter : LimiterView) (start : ℕ) (lines : List ScriptLine) (before after : List PassView) (records : List Record)
    (h : HaveRun b limiter start lines before after records) where
  located : (i : ℕ) (r : Record) → get_elem? records i ≡ some r → Located b limiter start lines before h.journals r
  located i r e =
      let f = h.merges.from i r e in
      let n = below h.journals f.worker f.journal f.there in
      let p = here before f.worker (omega (arith, h.as_many.1)) in
      let q = here after f.worker (omega (arith, h.as_many.0, h.as_many.1)) in
      record {
        worker = f.worker;
        journal = f.journal;
        place = f.place;
        there = f.there;
        found = f.here;
        first = p.0;
        last = q.0;
        first_is = p.1;
        steps = h.each f.worker p.0 f.journal q.0 p.1 f.there q.1;
      }

  -- the step of a record is that of the line at its place
  pub line_is : (i : ℕ) (l : ScriptLine) (r : Record) → slice_get lines i ≡ Some l → get_elem? records i ≡ some r → (w : ℕ) (p q : PassView)
      → (s : IsRecordStep b limiter start w lines p r q) → s.line ≡ l
  line_is i l r el er w p q s =
      let n = h.merges.numbered i r er in
      let at : r.line - 1 ≡ i = omega arith in
      same_some s.line l (sym s.there ∙ ap (slice_get lines) at ∙ el)

  one_record : OneRecordPerLine (length before) lines records
  one_record = record {
    as_many = h.merges.as_many;
    each = λ i l r el er.
        let e = to_elem records i r er in
        let z = located i r e in
        let s = step_at b limiter start z.worker lines z.first z.journal z.last z.steps z.place r z.found in
        let low = below lines i l (to_elem lines i l el) in
        let n = h.merges.numbered i r e in
        let t = take_length lines i (omega arith) in
        let w = below before z.worker z.first z.first_is in
        let by = s.step.by_worker in
        record {
          numbered = omega arith;
          by_worker = omega arith;
          kind = subst (λ (x : ScriptLine). IsOfKind x r.outcome) (line_is i l r el e z.worker s.from s.to s.step)
              (kind_of b limiter start s.step.line r.outcome s.from s.to s.step.step);
        };
  }

  ticks_show : (i : ℕ) (l : ScriptLine) (r : Record) → slice_get lines i ≡ Some l → slice_get records i ≡ Some r → ShowsItsTick l r.outcome
  ticks_show i l r el er =
      let e = to_elem records i r er in
      let z = located i r e in
      let s = step_at b limiter start z.worker lines z.first z.journal z.last z.steps z.place r z.found in
      subst (λ (x : ScriptLine). ShowsItsTick x r.outcome) (line_is i l r el e z.worker s.from s.to s.step)
      (tick_shown b limiter start s.step.line r.outcome s.from s.to s.step.step)

  module _ (f : PassView → ℕ) (shown : Record → ℕ)
      (rises : (w : ℕ) (p : PassView) (r : Record) (q : PassView) → IsRecordStep b limiter start w lines p r q → (f p ≤ f q) × (shown r ≡ f q)) where
    same_worker : (j i : ℕ) (e r : Record) → j < i → get_elem? records j ≡ some e → get_elem? records i ≡ some r → e.worker ≡ r.worker → shown e ≤ shown r
    same_worker j i e r lt ej ei same =
        let x = located j e ej in
        let y = located i r ei in
        let s = step_at b limiter start x.worker lines x.first x.journal x.last x.steps x.place e x.found in
        let t = step_at b limiter start y.worker lines y.first y.journal y.last y.steps y.place r y.found in
        let w : x.worker ≡ y.worker = sym s.step.by_worker ∙ same ∙ t.step.by_worker in
        let js : x.journal ≡ y.journal = some-injective _ _ (sym x.there ∙ ap (get_elem? h.journals) w ∙ y.there) in
        let found : get_elem? y.journal x.place ≡ some e = ap (λ (l : List Record). get_elem? l x.place) (sym js) ∙ x.found in
        let m = h.merges.numbered j e ej in
        let n = h.merges.numbered i r ei in
        let le = earlier_line y.journal (h.in_order y.worker y.journal y.there) x.place y.place e r found y.found (omega arith) in
        in_turn b limiter start y.worker lines f shown (rises y.worker) y.first y.journal y.last y.steps x.place y.place e r found y.found le

    never_falls : EachLine lines records (λ before earlier l r. IsAtLeastEarlier shown earlier r)
    never_falls i l r el er =
        all_of_each (λ (e : Record). e.worker ≡ r.worker → shown e ≤ shown r) (take i records)
        (λ j e at same. let t = take_at records i j e at in same_worker j i e r t.1 t.0 (to_elem records i r er) same)

  least : AllByRecursion (λ (p : PassView). start ≤ p.cells.moment) before → (i : ℕ) (l : ScriptLine) (r : Record) → slice_get lines i ≡ Some l → slice_get records i ≡ Some r
      → (start ≤ r.moment) × (tick_of l ≤ r.moment)
  least started i l r el er =
      let e = to_elem records i r er in
      let z = located i r e in
      let s = step_at b limiter start z.worker lines z.first z.journal z.last z.steps z.place r z.found in
      let first = at_each (λ (p : PassView). start ≤ p.cells.moment) before z.worker z.first z.first_is started in
      let m = at_least b limiter start z.worker lines (λ (p : PassView). p.cells.moment) (λ (x : Record). x.moment)
      (λ p x q t. (moments_rise b limiter start t.line x.outcome p q t.step, t.at)) z.first z.journal z.last z.steps z.place r z.found in
      let t = tick_least b limiter start s.step.line r.outcome s.from s.to s.step.step in
      let at = s.step.at in
      let is = ap tick_of (line_is i l r el e z.worker s.from s.to s.step) in
      (omega arith, omega arith)

  pub ordered : AllByRecursion (λ (p : PassView). start ≤ p.cells.moment) before → AreInOrder (length before) start lines records
  ordered started = record {
    one_record_per_line = one_record;
    versions_never_fall = never_falls (λ (p : PassView). p.version.version) (λ (r : Record). r.version)
        (λ w p r q s. (versions_rise b limiter start s.line r.outcome p q s.step, s.by_version));
    moments_never_fall = never_falls (λ (p : PassView). p.cells.moment) (λ (r : Record). r.moment)
        (λ w p r q s. (moments_rise b limiter start s.line r.outcome p q s.step, s.at));
    moments_least = least started;
    ticks_shown = λ i l r el er. ticks_show i l r el er;
  }
