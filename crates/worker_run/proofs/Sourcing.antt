-- From which lines the ticks of a pass come.
use Rattle.std.proofs.Common.{◌≡◌, ◌⊎◌, inl, inr, ⊎_elim, ℕ, suc, ◌-◌, ◌≤◌, ◌==◌, List, [], ◌∷◌, ◌++◌, Some, None, Option, Bool, true, false}
use Rattle.std.proofs.Common.{refl, sym, ap, ◌∙◌, arith, eq-eqb}
use Rattle.std.proofs.lemmas.Bool.Decides.{nat_tests}
use Rattle.std.specs.Prelude.{slice_get, IfSome}
use Rattle.std.specs.List.{AllByRecursion}
use mathlib.Core.List.{IsPrefix}
use mathlib.Core.Option.{some}
use lib.ListN.{get_elem?}
use Rattle.counter_cells.specs.Steps.{number_of, last_moment}
use Rattle.counter_cells.specs.Views.{offered, offer_is}
use Rattle.counter_cells.specs.declared.view.CellView.{CellView}
use Rattle.counter_cells.specs.declared.view.Tick.{Tick}
use Rattle.counter_directory.specs.Acquired.{Bounds}
use Rattle.rate_limiter.specs.Passes.{LimiterView, PassView}
use Rattle.rate_limiter.specs.PassStep.{HasOffered}
use Rattle.rate_limiter.proofs.Places.{append_nil, at_each, in_either}
use Rattle.reply_text.specs.declared.record.Record.{Record}
use Rattle.reply_text.specs.declared.record.Outcome.{Outcome}
use Rattle.reply_text.specs.declared.record.Outcome.TheVariants as outcome
use Rattle.script_run.specs.ScriptLine.{ScriptLine, check, reload, tick, bad}
use Rattle.script_run.specs.Moments.{offer_of}
use Rattle.worker_run.specs.LineSteps.{LineStep}
use Rattle.worker_run.specs.Journal.{Journal}
use Rattle.worker_run.proofs.Ledger.{prefix_self, prefix_on}

-- a tick offers the start, or the number of the line, or nothing
abbrev pub IsOf : ℕ → ScriptLine → Tick → Type 0
IsOf start l x = (m : ℕ) → 1 ≤ offered m x → (m ≡ start) ⊎ (1 ≤ offer_of m l)

-- the ticks that a line added to those of a pass
record HasTicked (start : ℕ) (l : ScriptLine) (v w : CellView) : Type 0 where
  pub number : number_of w ≡ number_of v
  pub added : List Tick
  pub grew : w.ticks ≡ v.ticks ++ added
  pub moment : w.moment ≡ last_moment v.moment added
  pub each : AllByRecursion (λ (x : Tick). (x.number ≡ number_of v) × IsOf start l x) added

offers_it : (now m : ℕ) → now ≡ m → 1 ≤ offer_of m (tick now)
offers_it now m e = let t : (now == m) ≡ true = eq-eqb now m e in rw t (omega arith)

-- what was offered is what a line offers
as_offered : (now m : ℕ) (o : Option ℕ) → IfSome o (λ n. n ≡ now) → 1 ≤ offer_is m o → now ≡ m
as_offered now m None h s = absurd (omega arith)
as_offered now m (Some n) h s = pick (n == m) refl
  where
    pick : (t : Bool) → (n == m) ≡ t → now ≡ m
    pick true e = let same : n ≡ now = h in grind (arith, nat_tests)
    pick false e = absurd (omega (arith, rw e at s))

of_check : (start : ℕ) (l : ScriptLine) (v : CellView) (xs : List Tick) → AllByRecursion (λ (x : Tick). (x.number ≡ number_of v) × IfSome x.offer (λ m. m ≡ start)) xs
    → AllByRecursion (λ (x : Tick). (x.number ≡ number_of v) × IsOf start l x) xs
of_check start l v [] h = tt
of_check start l v (x ∷ xs) h = ((h.0.0, λ m s. inl (sym (as_offered start m x.offer h.0.1 s))), of_check start l v xs h.1)

of_tick : (start now : ℕ) (v : CellView) (xs : List Tick) → AllByRecursion (λ (x : Tick). (x.number ≡ number_of v) × IfSome x.offer (λ m. m ≡ now)) xs
    → AllByRecursion (λ (x : Tick). (x.number ≡ number_of v) × IsOf start (tick now) x) xs
of_tick start now v [] h = tt
of_tick start now v (x ∷ xs) h = ((h.0.0, λ m s. inr (offers_it now m (as_offered now m x.offer h.0.1 s))), of_tick start now v xs h.1)

no_ticks : (start : ℕ) (l : ScriptLine) (v w : CellView) → w ≡ v → HasTicked start l v w
no_ticks start l v w e = record {
  number = ap number_of e;
  added = [];
  grew = ap (λ (x : CellView). x.ticks) e ∙ append_nil v.ticks;
  moment = ap (λ (x : CellView). x.moment) e;
  each = tt;
}

checked : (start : ℕ) (l : ScriptLine) (v w : CellView) → HasOffered start v w → HasTicked start l v w
checked start l v w h = record { number = h.number; added = h.added; grew = h.ticks; moment = h.moment; each = of_check start l v h.added h.offers }

step_ticks : (b : Bounds) (limiter : LimiterView) (start : ℕ) (l : ScriptLine) (o : Outcome) (p q : PassView) → LineStep b limiter start l p o q → HasTicked start l p.cells q.cells
step_ticks b limiter start (check request) (outcome.Checked answer) p q s = checked start (check request) p.cells q.cells s.1.ticks
step_ticks b limiter start (check request) (outcome.Full live held wanted) p q s = checked start (check request) p.cells q.cells s.0.ticks
step_ticks b limiter start (check request) (outcome.Spent claims wanted) p q s = checked start (check request) p.cells q.cells s.0.ticks
step_ticks b limiter start (reload config) outcome.Installed p q s = no_ticks start (reload config) p.cells q.cells (ap (λ (x : PassView). x.cells) s.0)
step_ticks b limiter start (reload config) (outcome.VersionsFull versions) p q s = no_ticks start (reload config) p.cells q.cells (ap (λ (x : PassView). x.cells) s.0)
step_ticks b limiter start (tick now) (outcome.Ticked shown) p q s = record {
  number = s.1.number;
  added = s.1.added;
  grew = s.1.ticks;
  moment = s.1.moment;
  each = of_tick start now p.cells s.1.added s.1.offers;
}
step_ticks b limiter start (bad refused) (outcome.Bad shown) p q s = no_ticks start (bad refused) p.cells q.cells (ap (λ (x : PassView). x.cells) s.1)
step_ticks b limiter start l o p q s = absurd s

-- ---- journals

last_on : (start : ℕ) (xs ys : List Tick) → last_moment (last_moment start xs) ys ≡ last_moment start (xs ++ ys)
last_on start [] ys = refl
last_on start (x ∷ xs) ys = last_on x.moment xs ys

-- a pass ticks on: it keeps its number and its ticks, and its moment is that of its last tick, where it was so before
pub record Ticks (start : ℕ) (v w : CellView) : Type 0 where
  pub number : number_of w ≡ number_of v
  pub ticks : IsPrefix v.ticks w.ticks
  pub moment : v.moment ≡ last_moment start v.ticks → w.moment ≡ last_moment start w.ticks

pub ticks_self : (start : ℕ) (v : CellView) → Ticks start v v
ticks_self start v = record { number = refl; ticks = prefix_self v.ticks; moment = λ h. h }

pub ticks_on : (start : ℕ) (u v w : CellView) → Ticks start u v → Ticks start v w → Ticks start u w
ticks_on start u v w a c = record {
  number = c.number ∙ a.number;
  ticks = prefix_on u.ticks v.ticks w.ticks a.ticks c.ticks;
  moment = λ h. c.moment (a.moment h);
}

pub ticks_step : (b : Bounds) (limiter : LimiterView) (start : ℕ) (l : ScriptLine) (o : Outcome) (p q : PassView) → LineStep b limiter start l p o q → Ticks start p.cells q.cells
ticks_step b limiter start l o p q s =
    let t = step_ticks b limiter start l o p q s in
    record {
      number = t.number;
      ticks = (t.added, sym t.grew);
      moment = λ h. t.moment ∙ ap (λ (m : ℕ). last_moment m t.added) h ∙ last_on start p.cells.ticks t.added ∙ ap (last_moment start) (sym t.grew);
    }

-- a record of the journal whose line offered what the tick offered, and the number of the pass
pub record IsMade (start : ℕ) (lines : List ScriptLine) (rs : List Record) (number : ℕ) (x : Tick) : Type 0 where
  pub numbered : x.number ≡ number
  pub place : ℕ
  pub maker : Record
  pub line : ScriptLine
  pub at : get_elem? rs place ≡ some maker
  pub there : slice_get lines (maker.line - 1) ≡ Some line
  pub source : IsOf start line x

module _ (b : Bounds) (limiter : LimiterView) (start : ℕ) (lines : List ScriptLine) (w : ℕ) where
  pub made_by : (p : PassView) (rs : List Record) (q : PassView) → Journal b limiter start w lines p rs q → (k : ℕ) (x : Tick) → get_elem? q.cells.ticks k ≡ some x
      → (get_elem? p.cells.ticks k ≡ some x) ⊎ IsMade start lines rs (number_of p.cells) x
  made_by p [] q h k x e = inl (ap (λ (y : PassView). get_elem? y.cells.ticks k) (sym h) ∙ e)
  made_by p (r ∷ rs) q h k x e = ⊎_elim here later (made_by h.0 rs q h.2 k x e)
    where
      t : HasTicked start h.1.line p.cells h.0.cells
      t = step_ticks b limiter start h.1.line r.outcome p h.0 h.1.step

      here : get_elem? h.0.cells.ticks k ≡ some x → (get_elem? p.cells.ticks k ≡ some x) ⊎ IsMade start lines (r ∷ rs) (number_of p.cells) x
      here f =
          ⊎_elim (λ d. inl d)
          (λ d.
          let each = at_each (λ (y : Tick). (y.number ≡ number_of p.cells) × IsOf start h.1.line y) t.added d.0 x d.1 t.each in
          inr (record { numbered = each.0; place = 0; maker = r; line = h.1.line; at = refl; there = h.1.there; source = each.1 }))
          (in_either p.cells.ticks t.added k x (ap (λ (l : List Tick). get_elem? l k) (sym t.grew) ∙ f))

      later : IsMade start lines rs (number_of h.0.cells) x → (get_elem? p.cells.ticks k ≡ some x) ⊎ IsMade start lines (r ∷ rs) (number_of p.cells) x
      later m = inr (record {
        numbered = m.numbered ∙ t.number;
        place = suc m.place;
        maker = m.maker;
        line = m.line;
        at = m.at;
        there = m.there;
        source = m.source;
      })
