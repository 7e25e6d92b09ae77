-- What a journal's steps say of the records in order.
use Rattle.std.proofs.Common.{◌≡◌, ℕ, zero, suc, ◌-◌, ◌≤◌, ◌<◌, List, [], ◌∷◌, length, map, sym, ap, subst, arith}
use Rattle.std.specs.Prelude.{slice_index}
use mathlib.Core.Option.{some, some-injective, some-ne-none}
use native.Mathlib.Decide.{dec_le}
use lib.ListN.{get_elem?}
use Rattle.counter_directory.specs.Acquired.{Bounds}
use Rattle.line_numbers.specs.Rising.{IsRising}
use Rattle.rate_limiter.specs.Passes.{LimiterView, PassView}
use Rattle.reply_text.specs.declared.record.Record.{Record}
use Rattle.reply_text.specs.declared.record.Outcome.{Outcome}
use Rattle.reply_text.specs.declared.record.Outcome.TheVariants as outcome
use Rattle.script_run.specs.ScriptLine.{ScriptLine, check, reload, tick, bad}
use Rattle.worker_run.specs.LineSteps.{LineStep, IsRecordStep}
use Rattle.worker_run.specs.Journal.{Journal}

-- a step of a journal
pub record StepAt (b : Bounds) (limiter : LimiterView) (start worker : ℕ) (lines : List ScriptLine) (r : Record) : Type 0 where
  pub from : PassView
  pub to : PassView
  pub step : IsRecordStep b limiter start worker lines from r to

module _ (b : Bounds) (limiter : LimiterView) (start worker : ℕ) (lines : List ScriptLine) where
  pub step_at : (p : PassView) (rs : List Record) (q : PassView) → Journal b limiter start worker lines p rs q → (k : ℕ) (r : Record) → get_elem? rs k ≡ some r
      → StepAt b limiter start worker lines r
  step_at p [] q h k r e = absurd (some-ne-none r (sym e))
  step_at p (x ∷ xs) q h zero r e =
      subst (λ (y : Record). StepAt b limiter start worker lines y) (some-injective x r e) (record { from = p; to = h.0; step = h.1 })
  step_at p (x ∷ xs) q h (suc k) r e = step_at h.0 xs q h.2 k r e

  module _ (f : PassView → ℕ) (shown : Record → ℕ)
      (rises : (p : PassView) (r : Record) (q : PassView) → IsRecordStep b limiter start worker lines p r q → (f p ≤ f q) × (shown r ≡ f q)) where
    pub at_least : (p : PassView) (rs : List Record) (q : PassView) → Journal b limiter start worker lines p rs q → (k : ℕ) (r : Record) → get_elem? rs k ≡ some r → f p ≤ shown r
    at_least p [] q h k r e = absurd (some-ne-none r (sym e))
    at_least p (x ∷ xs) q h zero r e =
        let s = rises p x h.0 h.1 in
        let same = ap shown (some-injective x r e) in
        omega (arith, s.0, s.1)
    at_least p (x ∷ xs) q h (suc k) r e = let a = at_least h.0 xs q h.2 k r e in let s = rises p x h.0 h.1 in omega (arith, s.0)

    pub in_turn : (p : PassView) (rs : List Record) (q : PassView) → Journal b limiter start worker lines p rs q → (i j : ℕ) (e r : Record) → get_elem? rs i ≡ some e
        → get_elem? rs j ≡ some r → i ≤ j → shown e ≤ shown r
    in_turn p [] q h i j e r x y le = absurd (some-ne-none r (sym y))
    in_turn p (z ∷ zs) q h zero zero e r x y le = let same = ap shown (some-injective z e x) in let same' = ap shown (some-injective z r y) in omega arith
    in_turn p (z ∷ zs) q h zero (suc j) e r x y le =
        let s = rises p z h.0 h.1 in
        let same = ap shown (some-injective z e x) in
        let a = at_least h.0 zs q h.2 j r y in
        omega (arith, s.1)
    in_turn p (z ∷ zs) q h (suc i) zero e r x y le = absurd (omega arith)
    in_turn p (z ∷ zs) q h (suc i) (suc j) e r x y le = in_turn h.0 zs q h.2 i j e r x y (omega arith)

-- the lines of a journal rise
pub index_at : (rs : List Record) (k : ℕ) (r : Record) → get_elem? rs k ≡ some r → (slice_index (map (λ (x : Record). x.line - 1) rs) k ≡ r.line - 1)
    × (k < length (map (λ (x : Record). x.line - 1) rs))
index_at [] k r e = absurd (some-ne-none r (sym e))
index_at (x ∷ xs) zero r e = (ap (λ (y : Record). y.line - 1) (some-injective x r e), omega arith)
index_at (x ∷ xs) (suc k) r e = let t = index_at xs k r e in (t.0, omega (arith, t.1))

pub earlier_line : (rs : List Record) → IsRising (map (λ (r : Record). r.line - 1) rs) → (i j : ℕ) (e r : Record) → get_elem? rs i ≡ some e → get_elem? rs j ≡ some r
    → e.line - 1 < r.line - 1 → i ≤ j
earlier_line rs rising i j e r x y lt = pick (dec_le i j)
  where
    pick : Dec (i ≤ j) → i ≤ j
    pick (yes h) = h
    pick (no n) =
        let a = index_at rs i e x in
        let c = index_at rs j r y in
        let t = rising j i (omega arith) a.1 in
        absurd (omega (arith, a.0, c.0))

-- no step lowers the version or the moment of a pass
pub versions_rise : (b : Bounds) (limiter : LimiterView) (start : ℕ) (l : ScriptLine) (o : Outcome) (p q : PassView) → LineStep b limiter start l p o q → p.version.version
    ≤ q.version.version
versions_rise b limiter start (check request) (outcome.Checked answer) p q s = s.1.version.rises
versions_rise b limiter start (check request) (outcome.Full live held wanted) p q s = s.0.version
versions_rise b limiter start (check request) (outcome.Spent claims wanted) p q s = s.0.version
versions_rise b limiter start (reload config) outcome.Installed p q s = let i = s.1.1 in let a = i.rises in let v = i.version in omega arith
versions_rise b limiter start (reload config) (outcome.VersionsFull versions) p q s = s.1.2.rises
versions_rise b limiter start (tick now) (outcome.Ticked shown) p q s = let e = ap (λ (x : PassView). x.version.version) s.2 in omega arith
versions_rise b limiter start (bad refused) (outcome.Bad shown) p q s = let e = ap (λ (x : PassView). x.version.version) s.1 in omega arith
versions_rise b limiter start l o p q s = absurd s

pub moments_rise : (b : Bounds) (limiter : LimiterView) (start : ℕ) (l : ScriptLine) (o : Outcome) (p q : PassView) → LineStep b limiter start l p o q → p.cells.moment
    ≤ q.cells.moment
moments_rise b limiter start (check request) (outcome.Checked answer) p q s = s.1.ticks.later
moments_rise b limiter start (check request) (outcome.Full live held wanted) p q s = s.0.ticks.later
moments_rise b limiter start (check request) (outcome.Spent claims wanted) p q s = s.0.ticks.later
moments_rise b limiter start (reload config) outcome.Installed p q s = let e = ap (λ (x : PassView). x.cells.moment) s.0 in omega arith
moments_rise b limiter start (reload config) (outcome.VersionsFull versions) p q s = let e = ap (λ (x : PassView). x.cells.moment) s.0 in omega arith
moments_rise b limiter start (tick now) (outcome.Ticked shown) p q s = s.1.later
moments_rise b limiter start (bad refused) (outcome.Bad shown) p q s = let e = ap (λ (x : PassView). x.cells.moment) s.1 in omega arith
moments_rise b limiter start l o p q s = absurd s
