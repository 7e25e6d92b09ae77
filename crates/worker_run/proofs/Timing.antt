-- The moments of records: each has its source, and the closing moment is the greatest of the start and the ticks.
use Rattle.std.proofs.Common.{◌≡◌, ◌⊎◌, inl, inr, ⊎_elim, ℕ, zero, suc, ◌+◌, ◌-◌, ◌≤◌, ◌<◌, ◌==◌, not, nat_lt, List, [], ◌∷◌, ◌++◌, length, map, take, Some, None}
use Rattle.std.proofs.Common.{Option, Bool, true, false, cond}
use Rattle.std.proofs.Common.{refl, sym, ap, ◌∙◌, subst, arith, eq-eqb, ne_eqb}
use Rattle.std.proofs.lemmas.Bool.{lt-ltb}
use Rattle.std.proofs.lemmas.Bool.Decides.{nat_tests}
use Rattle.std.specs.Prelude.{slice_get}
use mathlib.Core.List.{IsPrefix}
use mathlib.Core.Option.{some, some-injective, some-ne-none}
use lib.ListN.{get_elem?}
use Rattle.rate_types.specs.Sums.{total}
use Rattle.rate_types.proofs.Sums.{total_one, total_none}
use Rattle.counter_cells.specs.Closing.{ticks_of, TicksAreLawful}
use Rattle.counter_cells.specs.Steps.{number_of, fresh_pass, new_passes, last_moment}
use Rattle.counter_cells.specs.Ticks.{own_offers}
use Rattle.counter_cells.specs.Views.{offered}
use Rattle.counter_cells.specs.declared.view.CellView.{CellView}
use Rattle.counter_cells.specs.declared.view.Tick.{Tick}
use Rattle.counter_directory.specs.Acquired.{Bounds}
use Rattle.rate_limiter.specs.Closing.{cells_of}
use Rattle.rate_limiter.specs.Passes.{LimiterView, PassView}
use Rattle.rate_limiter.proofs.Places.{append_at, at_each, at_map, below, front_at, here, in_either, of_elem, of_map, take_at, take_front, take_next, to_elem}
use Rattle.reply_text.specs.declared.record.Record.{Record}
use Rattle.script_run.specs.ScriptLine.{ScriptLine, check, reload, tick, bad}
use Rattle.script_run.specs.Moments.{tick_of, moment_after, offer_of, offers, MomentsNeverFall}
use Rattle.worker_run.specs.Clauses.{AreInOrder}
use Rattle.worker_run.specs.Journal.{Journal}
use Rattle.worker_run.specs.Work.{HaveRun}
use Rattle.worker_run.proofs.Clauses.{line_is, tick_least}
use Rattle.worker_run.proofs.Finding.{Found, found}
use Rattle.worker_run.proofs.Journals.{journal_push}
use Rattle.worker_run.proofs.Ordering.{index_at, moments_rise, step_at}
use Rattle.worker_run.proofs.Sources.{From, other_offers, source_of, in_pass, ticks_within, tick_at, last_of}
use Rattle.worker_run.proofs.Sourcing.{IsMade, made_by, Ticks, ticks_self, ticks_on, ticks_step}
use Rattle.worker_run.proofs.Splitting.{related, Placed, placed}

-- ---- new passes

new_at : (n start w : ℕ) (v : CellView) → get_elem? (new_passes n start) w ≡ some v → (w < n) × (v ≡ fresh_pass (n - suc w) start)
new_at zero start w v e = absurd (some-ne-none v (sym e))
new_at (suc n) start zero v e =
    let same : n ≡ suc n - 1 = omega arith in
    (omega arith, sym (some-injective (fresh_pass n start) v e) ∙ ap (λ (k : ℕ). fresh_pass k start) same)
new_at (suc n) start (suc w) v e =
    let t = new_at n start w v e in
    let same : n - suc w ≡ suc n - suc (suc w) = omega arith in
    (omega (arith, t.0), t.1 ∙ ap (λ (k : ℕ). fresh_pass k start) same)

-- ---- what lines offer

-- what a line that is there offers of a moment
abbrev pub offer_at : ℕ → Option ScriptLine → ℕ
offer_at m None = 0
offer_at m (Some l) = offer_of m l

offers_one : (by : ℕ → Bool) (m : ℕ) (ls : List ScriptLine) (rs : List Record) (k : ℕ) (l : ScriptLine) (e : Record) → get_elem? ls k ≡ some l → get_elem? rs k ≡ some e
    → by e.worker ≡ true → offer_of m l ≤ offers by m ls rs
offers_one by m [] rs k l e f g t = absurd (some-ne-none l (sym f))
offers_one by m (x ∷ xs) [] k l e f g t = absurd (some-ne-none e (sym g))
offers_one by m (x ∷ xs) (y ∷ ys) zero l e f g t =
    let a : x ≡ l = some-injective x l f in
    let b : y ≡ e = some-injective y e g in
    let mine : by y.worker ≡ true = ap (λ (z : Record). by z.worker) b ∙ t in
    let one : cond (by y.worker) (offer_of m x) 0 ≡ offer_of m l = rw mine (ap (offer_of m) a) in
    omega (arith, one)
offers_one by m (x ∷ xs) (y ∷ ys) (suc k) l e f g t = let r = offers_one by m xs ys k l e f g t in omega (arith, r)

-- a tick line that offers a moment has it as its number
pub offer_is_tick : (m : ℕ) (l : ScriptLine) → 1 ≤ offer_of m l → tick_of l ≡ m
offer_is_tick m (tick now) s = pick (now == m) refl
  where
    pick : (t : Bool) → (now == m) ≡ t → now ≡ m
    pick true e = grind (arith, nat_tests)
    pick false e = absurd (omega (arith, rw e at s))
offer_is_tick m (check request) s = absurd (omega arith)
offer_is_tick m (reload config) s = absurd (omega arith)
offer_is_tick m (bad refused) s = absurd (omega arith)

pub start_least : (start : ℕ) (ls : List ScriptLine) → start ≤ moment_after start ls
start_least start [] = omega arith
start_least start (l ∷ ls) = let r = start_least start ls in omega (arith, r)

tick_among : (start : ℕ) (ls : List ScriptLine) (k : ℕ) (l : ScriptLine) → get_elem? ls k ≡ some l → tick_of l ≤ moment_after start ls
tick_among start [] k l e = absurd (some-ne-none l (sym e))
tick_among start (x ∷ xs) zero l e = let t = ap tick_of (some-injective x l e) in omega (arith, t)
tick_among start (x ∷ xs) (suc k) l e = let r = tick_among start xs k l e in omega (arith, r)

pub all_ticks : (start most : ℕ) (ls : List ScriptLine) → start ≤ most → ((k : ℕ) (l : ScriptLine) → get_elem? ls k ≡ some l → tick_of l ≤ most) → moment_after start ls ≤ most
all_ticks start most [] s each = s
all_ticks start most (l ∷ ls) s each = let r = all_ticks start most ls s (λ k m e. each (suc k) m e) in let one = each 0 l refl in omega (arith, r, one)

-- ---- a run

module _ (b : Bounds) (limiter : LimiterView) (start : ℕ) (lines : List ScriptLine) (before after : List PassView) (records : List Record)
    (h : HaveRun b limiter start lines before after records) (new : map (λ (p : PassView). p.cells) before ≡ new_passes (length before) start)
    (moment : ℕ) (lawful : TicksAreLawful start moment (ticks_of (cells_of after))) where
  -- a record of the run for one of the journals of which a number is at least 1
  moved : (f : Record → ℕ) (w : ℕ) (rs : List Record) (k : ℕ) (e : Record) → get_elem? h.journals w ≡ some rs → get_elem? rs k ≡ some e → 1 ≤ f e → Found f records
  moved f w rs k e there at one =
      let a = total_one f rs k e at in
      let c = total_one (total f) h.journals w rs there in
      let s = h.merges.sums f in
      found f records (omega (arith, one, a, c, s))

  -- a pass as it was made
  made_new : (w : ℕ) (p : PassView) → get_elem? before w ≡ some p → (w < length before) × (p.cells ≡ fresh_pass (length before - suc w) start)
  made_new w p e =
      new_at (length before) start w p.cells (ap (λ (l : List CellView). get_elem? l w) (sym new) ∙ at_map (λ (x : PassView). x.cells) before w p e)

  -- the journal from which a tick comes
  record From_journal (w : ℕ) (x : Tick) : Type 0 where
    pub journal : List Record
    pub first : PassView
    pub last : PassView
    pub there : get_elem? h.journals w ≡ some journal
    pub steps : Journal b limiter start w lines first journal last
    pub small : w < length before
    pub made : IsMade start lines journal (length before - suc w) x

  no_tick : (n k : ℕ) (x : Tick) (p : PassView) → p.cells ≡ fresh_pass n start → get_elem? p.cells.ticks k ≡ some x → ⊥
  no_tick n k x p e f = some-ne-none x (sym f ∙ ap (λ (v : CellView). get_elem? v.ticks k) e)

  from_journal : (w : ℕ) (v : CellView) → get_elem? (cells_of after) w ≡ some v → (k : ℕ) (x : Tick) → get_elem? v.ticks k ≡ some x → From_journal w x
  from_journal w v e k x f =
      let q = of_map (λ (p : PassView). p.cells) after w v e in
      let n = below after w q.0 q.1 in
      let p = here before w (omega (arith, h.as_many.0)) in
      let rs = here h.journals w (omega (arith, h.as_many.0, h.as_many.1)) in
      let j = h.each w p.0 rs.0 q.0 p.1 rs.1 q.1 in
      let is = made_new w p.0 p.1 in
      let m = made_by b limiter start lines w p.0 rs.0 q.0 j k x (ap (λ (u : CellView). get_elem? u.ticks k) q.2 ∙ f) in
      ⊎_elim (λ d. absurd (no_tick (length before - suc w) k x p.0 is.1 d))
      (λ d. record {
        journal = rs.0;
        first = p.0;
        last = q.0;
        there = rs.1;
        steps = j;
        small = is.0;
        made = subst (λ (n : ℕ). IsMade start lines rs.0 n x) (ap number_of is.1) d;
      })
      m

  -- ticks of other passes have other numbers
  not_own : (n m w u : ℕ) (v : CellView) → w < length before → n ≡ length before - suc w → ¬ (u ≡ w) → get_elem? (cells_of after) u ≡ some v → own_offers n m v.ticks ≡ 0
  not_own n m w u v small is apart e =
      total_none (λ (x : Tick). cond (x.number == n) (offered m x) 0) v.ticks
      (λ k x f.
      let j = from_journal u v e k x f in
      let number = j.made.numbered in
      let low = j.small in
      let no : (x.number == n) ≡ false = ne_eqb x.number n (λ same. apart (omega (arith, same, number, is, low, small))) in
      rw no refl)

  others_none : (n m w : ℕ) → w < length before → n ≡ length before - suc w → total (λ (u : CellView). own_offers n m u.ticks) (take w (cells_of after)) ≡ 0
  others_none n m w small is =
      total_none (λ (u : CellView). own_offers n m u.ticks) (take w (cells_of after))
      (λ k v e. let t = take_at (cells_of after) w k v e in not_own n m w k v small is (λ same. omega (arith, same, t.1)) t.0)

  -- what a record's line offers
  abbrev line_offer : ℕ → Record → ℕ
  line_offer m e = offer_at m (slice_get lines (e.line - 1))

  there_offered : (m : ℕ) (e : Record) (l : ScriptLine) → slice_get lines (e.line - 1) ≡ Some l → 1 ≤ offer_of m l → 1 ≤ line_offer m e
  there_offered m e l at s = rw at s

  line_of : (m i : ℕ) (e : Record) → get_elem? records i ≡ some e → 1 ≤ line_offer m e → (l : ScriptLine) × (get_elem? lines i ≡ some l) × (1 ≤ offer_of m l)
  line_of m i e at s =
      let n = h.merges.numbered i e at in
      let low = below records i e at in
      let l = here lines i (omega (arith, low, h.merges.as_many)) in
      let same : e.line - 1 ≡ i = omega (arith, n) in
      (l.0, l.1, subst (λ (o : Option ScriptLine). 1 ≤ offer_at m o) (ap (slice_get lines) same ∙ of_elem lines i l.0 l.1) s)

  -- the source of a record's moment
  abbrev Source : ℕ → Record → Type 0
  Source i r = (r.moment ≡ start) ⊎ ((1 ≤ offers (λ w. not (w == r.worker)) r.moment lines records)
      ⊎ (1 ≤ offers (λ w. w == r.worker) r.moment (take (suc i) lines) (take (suc i) records)))

  -- another worker's line offered it
  by_another : (i : ℕ) (r : Record) (w : ℕ) → r.worker ≡ w → (u k : ℕ) (rs : List Record) (e : Record) (l : ScriptLine) → ¬ (u ≡ w) → get_elem? h.journals u ≡ some rs
      → get_elem? rs k ≡ some e → e.worker ≡ u → slice_get lines (e.line - 1) ≡ Some l → 1 ≤ offer_of r.moment l → Source i r
  by_another i r w is u k rs e l apart there at by line s =
      let f : Record → ℕ = λ (x : Record). cond (x.worker == r.worker) 0 (line_offer r.moment x) in
      let no : (e.worker == r.worker) ≡ false = ne_eqb e.worker r.worker (λ same. apart (omega (arith, same, by, is))) in
      let one : 1 ≤ f e = rw no (there_offered r.moment e l line s) in
      let g = moved f u rs k e there at one in
      found_there g
    where
      found_there : Found (λ (x : Record). cond (x.worker == r.worker) 0 (line_offer r.moment x)) records → Source i r
      found_there g = pick (g.item.worker == r.worker) refl
        where
          pick : (t : Bool) → (g.item.worker == r.worker) ≡ t → Source i r
          pick true t = absurd (omega (arith, rw t at g.has))
          pick false t =
              let l = line_of r.moment g.place g.item g.at (rw t at g.has) in
              let by : not (g.item.worker == r.worker) ≡ true = rw t refl in
              let o = offers_one (λ w. not (w == r.worker)) r.moment lines records g.place l.0 g.item l.1 g.at by in
              inr (inl (omega (arith, o, l.2)))

  -- an earlier line of the same worker, or this one, offered it
  by_itself : (i : ℕ) (r : Record) → get_elem? records i ≡ some r → (w k : ℕ) (rs : List Record) (e : Record) (l : ScriptLine) → get_elem? h.journals w ≡ some rs
      → get_elem? rs k ≡ some e → e.worker ≡ r.worker → e.line ≤ r.line → slice_get lines (e.line - 1) ≡ Some l → 1 ≤ offer_of r.moment l → Source i r
  by_itself i r er w k rs e l there at by le line s =
      let f : Record → ℕ = λ (x : Record). cond (x.worker == r.worker) (cond (nat_lt x.line (i + 2)) (line_offer r.moment x) 0) 0 in
      let n = h.merges.numbered i r er in
      let yes : (e.worker == r.worker) ≡ true = eq-eqb e.worker r.worker by in
      let low : nat_lt e.line (i + 2) ≡ true = lt-ltb e.line (i + 2) (omega (arith, le, n)) in
      let one : 1 ≤ f e = rw (yes, low) (there_offered r.moment e l line s) in
      found_there (moved f w rs k e there at one)
    where
      found_there : Found (λ (x : Record). cond (x.worker == r.worker) (cond (nat_lt x.line (i + 2)) (line_offer r.moment x) 0) 0) records → Source i r
      found_there g = pick (g.item.worker == r.worker) (nat_lt g.item.line (i + 2)) refl refl
        where
          pick : (t u : Bool) → (g.item.worker == r.worker) ≡ t → nat_lt g.item.line (i + 2) ≡ u → Source i r
          pick false u t v = absurd (omega (arith, rw t at g.has))
          pick true false t v = absurd (omega (arith, rw (t, v) at g.has))
          pick true true t v =
              let l = line_of r.moment g.place g.item g.at (rw (t, v) at g.has) in
              let n = h.merges.numbered g.place g.item g.at in
              let lt : g.item.line < i + 2 = grind (arith, nat_tests) in
              let early : g.place < suc i = omega (arith, n, lt) in
              let o = offers_one (λ w. w == r.worker) r.moment (take (suc i) lines) (take (suc i) records) g.place l.0 g.item
              (front_at lines (suc i) g.place l.0 l.1 early) (front_at records (suc i) g.place g.item g.at early) t in
              inr (inr (omega (arith, o, l.2)))

  -- the pass of a record's worker, with the record's step
  its_step : (r : Record) (y : Placed b limiter start lines before after records h r)
      → Journal b limiter start y.worker lines y.first (y.split.earlier ++ r ∷ []) y.split.to
  its_step r y = journal_push b limiter start y.worker lines y.first y.split.earlier y.split.from r y.split.to y.split.front y.split.step

  ticks_over : (w : ℕ) (p : PassView) (rs : List Record) (q : PassView) → Journal b limiter start w lines p rs q → Ticks start p.cells q.cells
  ticks_over w p rs q j =
      related b limiter start w lines (λ (p q : PassView). Ticks start p.cells q.cells) (λ p. ticks_self start p.cells)
      (λ p m q u v. ticks_on start p.cells m.cells q.cells u v) (λ l o p q s. ticks_step b limiter start l o p q s) p rs q j

  timed : (w : ℕ) (p : PassView) → get_elem? before w ≡ some p → p.cells.moment ≡ last_moment start p.cells.ticks
  timed w p e =
      let is = made_new w p e in
      ap (λ (v : CellView). v.moment) is.1 ∙ ap (λ (v : CellView). last_moment start v.ticks) (sym is.1)

  module _ (i : ℕ) (r : Record) (er : get_elem? records i ≡ some r) where
    y : Placed b limiter start lines before after records h r
    y = placed b limiter start lines before after records h i r er

    mine : r.worker ≡ y.worker
    mine = y.split.step.by_worker

    its : Ticks start y.first.cells y.split.to.cells
    its = ticks_over y.worker y.first (y.split.earlier ++ r ∷ []) y.split.to (its_step r y)

    later : IsPrefix y.split.to.cells.ticks y.last.cells.ticks
    later = (ticks_over y.worker y.split.to y.split.later y.last y.split.back).ticks

    is_new : (y.worker < length before) × (y.first.cells ≡ fresh_pass (length before - suc y.worker) start)
    is_new = made_new y.worker y.first y.first_is

    at_last : r.moment ≡ last_moment start y.split.to.cells.ticks
    at_last = y.split.step.at ∙ its.moment (timed y.worker y.first y.first_is)

    -- a tick of the pass up to this record offered its moment
    own_tick : (k : ℕ) (z : Tick) → get_elem? y.split.to.cells.ticks k ≡ some z → 1 ≤ offered r.moment z → Source i r
    own_tick k z f s =
        ⊎_elim (λ d. absurd (no_tick (length before - suc y.worker) k z y.first is_new.1 d)) made
        (made_by b limiter start lines y.worker y.first (y.split.earlier ++ r ∷ []) y.split.to (its_step r y) k z f)
      where
        made : IsMade start lines (y.split.earlier ++ r ∷ []) (number_of y.first.cells) z → Source i r
        made m = ⊎_elim (λ e. inl e) (λ o. ⊎_elim (earlier o) (self o) (in_either y.split.earlier (r ∷ []) m.place m.maker m.at)) (m.source r.moment s)
          where
            self : 1 ≤ offer_of r.moment m.line → (j : ℕ) × (get_elem? (r ∷ []) j ≡ some m.maker) → Source i r
            self o t = by_itself i r er y.worker y.place y.journal r m.line y.there y.found refl (omega arith) (same t.0 t.1) o
              where
                same : (j : ℕ) → get_elem? (r ∷ []) j ≡ some m.maker → slice_get lines (r.line - 1) ≡ Some m.line
                same zero e = ap (λ (x : Record). slice_get lines (x.line - 1)) (some-injective r m.maker e) ∙ m.there
                same (suc j) e = absurd (some-ne-none m.maker (sym e))

            earlier : 1 ≤ offer_of r.moment m.line → get_elem? y.split.earlier m.place ≡ some m.maker → Source i r
            earlier o e =
                let w = y.split.within m.place m.maker e in
                let st = step_at b limiter start y.worker lines y.first y.journal y.last y.steps m.place m.maker w.1 in
                let a = index_at y.journal m.place m.maker w.1 in
                let c = index_at y.journal y.place r y.found in
                let rise = h.in_order y.worker y.journal y.there m.place y.place w.0 c.1 in
                by_itself i r er y.worker m.place y.journal m.maker m.line y.there w.1 (st.step.by_worker ∙ sym mine) (omega (arith, a.0, c.0, rise)) m.there o

    -- another pass's tick offered it
    other_tick : (n : ℕ) → n ≡ length before - suc y.worker → 1 ≤ other_offers (ticks_of (cells_of after)) n r.moment → Source i r
    other_tick n is one = there (found (λ (x : Tick). cond (x.number == n) 0 (offered r.moment x)) (ticks_of (cells_of after)) one)
      where
        there : Found (λ (x : Tick). cond (x.number == n) 0 (offered r.moment x)) (ticks_of (cells_of after)) → Source i r
        there g = pick (g.item.number == n) refl
          where
            pick : (t : Bool) → (g.item.number == n) ≡ t → Source i r
            pick true t = absurd (omega (arith, rw t at g.has))
            pick false t =
                let s : 1 ≤ offered r.moment g.item = rw t at g.has in
                let p = in_pass (cells_of after) g.place g.item g.at in
                let j = from_journal p.0 p.1 p.2 p.3.0 g.item p.3.1 in
                let st = step_at b limiter start p.0 lines j.first j.journal j.last j.steps j.made.place j.made.maker j.made.at in
                let apart : ¬ (p.0 ≡ y.worker) = λ same. differ (j.made.numbered ∙ ap (λ (w : ℕ). length before - suc w) same ∙ sym is) in
                ⊎_elim (λ e. inl e)
                (λ o. by_another i r y.worker mine p.0 j.made.place j.journal j.made.maker j.made.line apart j.there j.made.at st.step.by_worker j.made.there o)
                (j.made.source r.moment s)
              where
                differ : ¬ (g.item.number ≡ n)
                differ same = let yes : (g.item.number == n) ≡ true = eq-eqb g.item.number n same in absurd (cc)

    last_tick : (ts : List Tick) → y.split.to.cells.ticks ≡ ts → Source i r
    last_tick [] e = inl (at_last ∙ ap (last_moment start) e)
    last_tick (x ∷ xs) e =
        let t = last_of start x xs in
        let at : get_elem? y.split.to.cells.ticks t.0 ≡ some t.1 = ap (λ (l : List Tick). get_elem? l t.0) e ∙ t.2 in
        let long : length y.split.to.cells.ticks ≡ suc t.0 = ap length e ∙ t.3 in
        let whole : y.split.to.cells.ticks ++ later.0 ≡ y.last.cells.ticks = later.1 in
        let there : get_elem? y.last.cells.ticks t.0 ≡ some t.1 =
        ap (λ (l : List Tick). get_elem? l t.0) (sym whole) ∙ append_at y.split.to.cells.ticks later.0 t.0 t.1 at in
        let front : take (suc t.0) y.last.cells.ticks ≡ y.split.to.cells.ticks =
        ap (λ (l : List Tick). take (suc t.0) l) (sym whole) ∙ ap (λ (n : ℕ). take n (y.split.to.cells.ticks ++ later.0)) (sym long)
        ∙ take_front y.split.to.cells.ticks later.0 in
        let mine_at = at_map (λ (p : PassView). p.cells) after y.worker y.last y.last_is in
        let m : r.moment ≡ t.1.moment = at_last ∙ ap (last_moment start) e ∙ t.4 in
        let j = from_journal y.worker y.last.cells mine_at t.0 t.1 there in
        from_tick t.1 m j.made.numbered t.0 front
        (source_of start (other_offers (ticks_of (cells_of after))) (cells_of after) lawful.sourced y.worker y.last.cells mine_at t.0 t.1 there)
      where
        from_tick : (z : Tick) → r.moment ≡ z.moment → z.number ≡ length before - suc y.worker → (k : ℕ) → take (suc k) y.last.cells.ticks ≡ y.split.to.cells.ticks
            → From start (total (λ (u : CellView). own_offers z.number z.moment u.ticks) (take y.worker (cells_of after))
            + own_offers z.number z.moment (take (suc k) y.last.cells.ticks))
            (other_offers (ticks_of (cells_of after)) z.number z.moment) z
            → Source i r
        from_tick z m is k front (inl e) = inl (m ∙ e)
        from_tick z m is k front (inr (inr o)) = other_tick z.number is (subst (λ (n : ℕ). 1 ≤ other_offers (ticks_of (cells_of after)) z.number n) (sym m) o)
        from_tick z m is k front (inr (inl o)) =
            let none = others_none z.number z.moment y.worker is_new.0 is in
            let moved = ap (own_offers z.number z.moment) front in
            let at : own_offers z.number z.moment y.split.to.cells.ticks ≡ own_offers z.number r.moment y.split.to.cells.ticks =
            ap (λ (n : ℕ). own_offers z.number n y.split.to.cells.ticks) (sym m) in
            let one : 1 ≤ own_offers z.number r.moment y.split.to.cells.ticks = omega (arith, o, none, moved, at) in
            own_found (found (λ (x : Tick). cond (x.number == z.number) (offered r.moment x) 0) y.split.to.cells.ticks one)
          where
            own_found : Found (λ (x : Tick). cond (x.number == z.number) (offered r.moment x) 0) y.split.to.cells.ticks → Source i r
            own_found g = pick (g.item.number == z.number) refl
              where
                pick : (t : Bool) → (g.item.number == z.number) ≡ t → Source i r
                pick true t = own_tick g.place g.item g.at (rw t at g.has)
                pick false t = absurd (omega (arith, rw t at g.has))

    source : Source i r
    source = last_tick y.split.to.cells.ticks refl

  -- along the records of one worker the moments never fall, and each has its source
  pub moments_never_fall : (workers : ℕ) → AreInOrder workers start lines records → MomentsNeverFall start lines records
  moments_never_fall workers o = record {
    never_fall = o.moments_never_fall;
    shown = o.ticks_shown;
    timely = λ i l r el er.
        let least = o.moments_least i l r el er in
        let e = to_elem records i r er in
        let ls = take_next lines i l (to_elem lines i l el) in
        let rs = take_next records i r e in
        record {
          least = least.0;
          ticked = least.1;
          source = ⊎_elim (λ s. inl s)
              (λ s. inr (⊎_elim (λ o. inl o)
              (λ o. inr (subst (λ (x : List Record). 1 ≤ offers (λ w. w == r.worker) r.moment (take i lines ++ l ∷ []) x) (sym rs)
              (subst (λ (x : List ScriptLine). 1 ≤ offers (λ w. w == r.worker) r.moment x (take (suc i) records)) (sym ls) o))) s)) (source i r e);
        };
  }

  -- the closing moment is the greatest of the start and the ticks
  pub closing_moment : moment ≡ moment_after start lines
  closing_moment = let a = top in let c = bottom in omega (arith, a, c)
    where
      offered_line : 1 ≤ total (offered moment) (ticks_of (cells_of after)) → moment ≤ moment_after start lines
      offered_line one =
          let g = found (offered moment) (ticks_of (cells_of after)) one in
          let p = in_pass (cells_of after) g.place g.item g.at in
          let j = from_journal p.0 p.1 p.2 p.3.0 g.item p.3.1 in
          let least = start_least start lines in
          ⊎_elim (λ e. omega (arith, e, least))
          (λ o.
          let t = offer_is_tick moment j.made.line o in
          let a = tick_among start lines (j.made.maker.line - 1) j.made.line (to_elem lines (j.made.maker.line - 1) j.made.line j.made.there) in
          omega (arith, t, a))
          (j.made.source moment g.has)

      top : moment ≤ moment_after start lines
      top = ⊎_elim (λ e. let least = start_least start lines in omega (arith, e, least)) offered_line lawful.top

      last_within : (w : ℕ) (q : PassView) → get_elem? after w ≡ some q → (ts : List Tick) → q.cells.ticks ≡ ts → q.cells.moment ≡ last_moment start q.cells.ticks
          → q.cells.moment ≤ moment
      last_within w q e [] is at = let l = lawful.least in let m = at ∙ ap (last_moment start) is in omega (arith, l, m)
      last_within w q e (x ∷ xs) is at =
          let t = last_of start x xs in
          let all = tick_at (λ (z : Tick). z.moment ≤ moment) (cells_of after) (ticks_within start moment (ticks_of (cells_of after)) lawful) w q.cells
          (at_map (λ (p : PassView). p.cells) after w q e) in
          let one = at_each (λ (z : Tick). z.moment ≤ moment) q.cells.ticks t.0 t.1 (ap (λ (l : List Tick). get_elem? l t.0) is ∙ t.2) all in
          let m = at ∙ ap (last_moment start) is ∙ t.4 in
          omega (arith, one, m)

      one_tick : (k : ℕ) (l : ScriptLine) → get_elem? lines k ≡ some l → tick_of l ≤ moment
      one_tick k l e =
          let r = here records k (let n = below lines k l e in omega (arith, n, h.merges.as_many)) in
          let z = placed b limiter start lines before after records h k r.0 r.1 in
          let is = ap tick_of (line_is b limiter start lines before after records h k l r.0 (of_elem lines k l e) r.1 z.worker z.split.from z.split.to z.split.step) in
          let t = tick_least b limiter start z.split.step.line r.0.outcome z.split.from z.split.to z.split.step.step in
          let rise = related b limiter start z.worker lines (λ (p q : PassView). p.cells.moment ≤ q.cells.moment) (λ p. omega arith) (λ p m q u v. omega (arith, u, v))
          (λ l o p q s. moments_rise b limiter start l o p q s) z.split.to z.split.later z.last z.split.back in
          let its = (ticks_over z.worker z.first z.journal z.last z.steps).moment (timed z.worker z.first z.first_is) in
          let end = last_within z.worker z.last z.last_is z.last.cells.ticks refl its in
          omega (arith, is, t, rise, end)

      bottom : moment_after start lines ≤ moment
      bottom = all_ticks start moment lines lawful.least one_tick
