-- The moments of checks never fall along a pass, and each was offered.
use Rattle.std.proofs.Common.{◌≡◌, ◌⊎◌, inl, inr, ℕ, zero, suc, ◌+◌, ◌≤◌, ◌==◌, cond, List, [], ◌∷◌, ◌++◌, length, Bool, true, false, Option, Some, None, Result, Ok, Err, refl, sym, ap, ◌∙◌, subst, arith, append_assoc, eq-eqb}
use Rattle.std.proofs.lemmas.Bool.Decides.{nat_tests}
use Rattle.std.specs.Prelude.{IfSome}
use Rattle.std.specs.List.{AllByRecursion}
use Rattle.rate_types.specs.Requests.{RequestParts}
use Rattle.rate_types.specs.Sums.{total, one_if}
use Rattle.rate_types.proofs.Sums.{total_append, total_push}
use Rattle.counter_cells.specs.Steps.{number_of, last_moment}
use Rattle.counter_cells.specs.Views.{offered, offer_is}
use Rattle.counter_cells.specs.Ticks.{Sourced, own_offers}
use Rattle.counter_cells.specs.Closing.{ticks_of, TicksAreLawful}
use Rattle.counter_cells.specs.declared.view.CellView.{CellView}
use Rattle.counter_cells.specs.declared.view.Tick.{Tick}
use Rattle.rls_core.specs.declared.fault.CheckFault.{CheckFault}
use Rattle.rls_core.specs.declared.fault.CheckFault.TheVariants.{CountersFull, ClaimsSpent, OutOfMemory}
use Rattle.rls_core.specs.declared.reply.Reply.{Reply}
use Rattle.rate_limiter.specs.Passes.{LimiterView, PassView}
use Rattle.rate_limiter.specs.PassStep.{HasOffered}
use Rattle.rate_limiter.specs.Closing.{cells_of}
use Rattle.rate_limiter.proofs.Places.{all_front, all_back, append_nil, all_both}
use Rattle.http_checks.specs.Checker.{Checker, checker, ChecksBy}
use Rattle.http_checks.specs.Deeds.{At, Deed, checked, reloaded, Does, Deeds}
use Rattle.http_checks.specs.Moments.{MomentsRise, offered_by, IsOffered, HasSource}
use Rattle.http_checks.specs.Versions.{all_deeds, DeedsEach}

-- ---- ticks

-- what was offered is what a check offers
as_offered : (now m : ℕ) (o : Option ℕ) → IfSome o (λ n. n ≡ now) → 1 ≤ offer_is m o → now ≡ m
as_offered now m None h s = absurd (omega arith)
as_offered now m (Some n) h s = pick (n == m) refl
  where
    pick : (t : Bool) → (n == m) ≡ t → now ≡ m
    pick true e = let same : n ≡ now = h in grind (arith, nat_tests)
    pick false e = absurd (omega (arith, rw e at s))

-- the ticks of a check offer what the check offers, or nothing
offers_of : (now m number : ℕ) (xs : List Tick) → AllByRecursion (λ (x : Tick). (x.number ≡ number) × IfSome x.offer (λ n. n ≡ now)) xs → 1 ≤ total (offered m) xs → now ≡ m
offers_of now m number [] h s = absurd (omega arith)
offers_of now m number (x ∷ xs) h s = pick (offered m x) refl (λ more. offers_of now m number xs h.1 more)
  where
    pick : (k : ℕ) → offered m x ≡ k → (1 ≤ total (offered m) xs → now ≡ m) → now ≡ m
    pick zero e more = more (omega arith)
    pick (suc k) e more = as_offered now m x.offer h.0.1 (omega arith)

-- what holds of the moments of ticks holds of the last
last_such : (P : ℕ → Type 0) (d : ℕ) (xs : List Tick) → 1 ≤ length xs → AllByRecursion (λ (x : Tick). P x.moment) xs → P (last_moment d xs)
last_such P d [] some h = absurd (omega arith)
last_such P d (x ∷ []) some h = h.0
last_such P d (x ∷ y ∷ xs) some h = last_such P x.moment (y ∷ xs) (omega arith) h.1

own_among : (n m : ℕ) (xs : List Tick) → own_offers n m xs ≤ total (offered m) xs
own_among n m [] = omega arith
own_among n m (x ∷ xs) =
    let r = own_among n m xs in
    let one = by (x.number == n) in
    omega (arith, r, one)
  where
    by : (t : Bool) → cond t (offered m x) 0 ≤ offered m x
    by true = omega arith
    by false = omega arith

abbrev others_in : List Tick → ℕ → ℕ → ℕ
others_in ticks i m = total (λ (x : Tick). cond (x.number == i) 0 (offered m x)) ticks

others_among : (n m : ℕ) (xs : List Tick) → others_in xs n m ≤ total (offered m) xs
others_among n m [] = omega arith
others_among n m (x ∷ xs) =
    let r = others_among n m xs in
    let one = by (x.number == n) in
    omega (arith, r, one)
  where
    by : (t : Bool) → cond t 0 (offered m x) ≤ offered m x
    by true = omega arith
    by false = omega arith

-- each tick's moment is the start, or was offered
each_offered : (start : ℕ) (ticks earlier xs : List Tick) → Sourced start (others_in ticks) earlier xs
    → ((m : ℕ) → total (offered m) earlier + total (offered m) xs ≤ total (offered m) ticks)
    → AllByRecursion (λ (x : Tick). (x.moment ≡ start) ⊎ (1 ≤ total (offered x.moment) ticks)) xs
each_offered start ticks earlier [] s all = tt
each_offered start ticks earlier (x ∷ xs) s all = (
  one s.0,
  each_offered start ticks (earlier ++ x ∷ []) xs s.1 (λ m. let a = total_push (offered m) earlier x in let b = all m in omega (arith, a, b)),
)
  where
    one : (x.moment ≡ start) ⊎ ((1 ≤ own_offers x.number x.moment (earlier ++ x ∷ [])) ⊎ (1 ≤ others_in ticks x.number x.moment))
        → (x.moment ≡ start) ⊎ (1 ≤ total (offered x.moment) ticks)
    one (inl e) = inl e
    one (inr (inl own)) =
        let a = own_among x.number x.moment (earlier ++ x ∷ []) in
        let b = total_push (offered x.moment) earlier x in
        let c = all x.moment in
        inr (omega (arith, own, a, b, c))
    one (inr (inr other)) = let a = others_among x.number x.moment ticks in inr (omega (arith, other, a))

module _ (size : ℕ) where
  check_offered : (p : Checker) (request : RequestParts) (now : ℕ) (result : Result Reply CheckFault) (q : Checker) → ChecksBy size p request now result q
      → HasOffered now p.pass.cells q.pass.cells
  check_offered p request now (Ok reply) q h = h.step.ticks
  check_offered p request now (Err OutOfMemory) q h = h.step.0.ticks
  check_offered p request now (Err (ClaimsSpent claims wanted)) q h = h.step.0.ticks
  check_offered p request now (Err (CountersFull moment live held wanted)) q h = h.step.0.ticks

  -- along a pass moments never fall
  pub all_later : (least : ℕ) (p : Checker) (deeds : List Deed) (q : Checker) → Deeds size p deeds q → least ≤ p.pass.cells.moment → MomentsRise least deeds
  all_later least p [] q h le = tt
  all_later least p (checked a at ∷ deeds) q h le =
      let mid = h.0 in
      let o = check_offered p a.request a.now a.result mid h.1.0 in
      let is = ap (λ (x : At). x.moment) h.1.1 in
      let l = o.least in
      let m = o.later in
      (omega arith, omega arith, all_later at.moment mid deeds q h.2 (omega arith))
  all_later least p (reloaded config result ∷ deeds) q h le =
      let e = ap (λ (x : PassView). x.cells.moment) h.1.rest in
      all_later least h.0 deeds q h.2 (omega arith)

  -- what a deed added to the ticks of its pass
  record HasTicked (d : Deed) (v w : CellView) : Type 0 where
    added : List Tick
    ticks : w.ticks ≡ v.ticks ++ added
    offers : (m : ℕ) → 1 ≤ total (offered m) added → 1 ≤ offered_by m d

  one_ticked : (p : Checker) (d : Deed) (q : Checker) → Does size p d q → HasTicked d p.pass.cells q.pass.cells
  one_ticked p (checked a at) q h =
      let o = check_offered p a.request a.now a.result q h.0 in
      record {
        added = o.added;
        ticks = o.ticks;
        offers = λ m s. let e = ap one_if (eq-eqb a.now m (offers_of a.now m (number_of p.pass.cells) o.added o.offers s)) in omega arith;
      }
  one_ticked p (reloaded config result) q h = record {
    added = [];
    ticks = ap (λ (x : PassView). x.cells.ticks) h.rest ∙ append_nil p.pass.cells.ticks;
    offers = λ m s. absurd (omega arith);
  }

  record HaveTicked (deeds : List Deed) (v w : CellView) : Type 0 where
    added : List Tick
    ticks : w.ticks ≡ v.ticks ++ added
    offers : (m : ℕ) → 1 ≤ total (offered m) added → 1 ≤ total (offered_by m) deeds

  all_ticked : (p : Checker) (deeds : List Deed) (q : Checker) → Deeds size p deeds q → HaveTicked deeds p.pass.cells q.pass.cells
  all_ticked p [] q h = record {
    added = [];
    ticks = ap (λ (c : Checker). c.pass.cells.ticks) h ∙ append_nil p.pass.cells.ticks;
    offers = λ m s. absurd (omega arith);
  }
  all_ticked p (d ∷ deeds) q h =
      let one = one_ticked p d h.0 h.1 in
      let more = all_ticked h.0 deeds q h.2 in
      record {
        added = one.added ++ more.added;
        ticks = more.ticks ∙ ap (λ l. l ++ more.added) one.ticks ∙ append_assoc p.pass.cells.ticks one.added more.added;
        offers = λ m s. either m one.added more.added (total (offered m) one.added) refl one.offers more.offers (total_append (offered m) one.added more.added) s;
      }
    where
      either : (m : ℕ) (xs ys : List Tick) (k : ℕ) → total (offered m) xs ≡ k → ((m : ℕ) → 1 ≤ total (offered m) xs → 1 ≤ offered_by m d)
          → ((m : ℕ) → 1 ≤ total (offered m) ys → 1 ≤ total (offered_by m) deeds) → total (offered m) (xs ++ ys) ≡ total (offered m) xs + total (offered m) ys
          → 1 ≤ total (offered m) (xs ++ ys) → 1 ≤ offered_by m d + total (offered_by m) deeds
      either m xs ys zero e f g sum s = let r = g m (omega arith) in omega arith
      either m xs ys (suc k) e f g sum s = let r = f m (omega arith) in omega arith

  -- each check of a pass has a source, where the moments of the pass's ticks have one
  all_sourced : (start : ℕ) (all : List Deed) (p : Checker) (deeds : List Deed) (q : Checker) → Deeds size p deeds q
      → AllByRecursion (λ (x : Tick). IsOffered start all x.moment) q.pass.cells.ticks → AllByRecursion (HasSource start all) deeds
  all_sourced start all p [] q h o = tt
  all_sourced start all p (checked a at ∷ deeds) q h o =
      let mid = h.0 in
      let c = check_offered p a.request a.now a.result mid h.1.0 in
      let more = all_ticked mid deeds q h.2 in
      let there = all_front (λ (x : Tick). IsOffered start all x.moment) mid.pass.cells.ticks more.added
      (subst (AllByRecursion (λ (x : Tick). IsOffered start all x.moment)) more.ticks o) in
      let mine = all_back (λ (x : Tick). IsOffered start all x.moment) p.pass.cells.ticks c.added
      (subst (AllByRecursion (λ (x : Tick). IsOffered start all x.moment)) c.ticks there) in (
        subst (λ (x : At). IsOffered start all x.moment) (sym h.1.1)
            (subst (IsOffered start all) (sym c.moment) (last_such (IsOffered start all) p.pass.cells.moment c.added c.some mine)),
        all_sourced start all mid deeds q h.2 o,
      )
  all_sourced start all p (reloaded config result ∷ deeds) q h o = (tt, all_sourced start all h.0 deeds q h.2 o)

  module _ (limiter : LimiterView) where
    -- what the ticks of all passes offered, their deeds offered
    offers_all : (m : ℕ) (before : List PassView) (deeds : List (List Deed)) (after : List PassView) → DeedsEach size limiter before deeds after
        → AllByRecursion (λ (p : PassView). p.cells.ticks ≡ []) before → 1 ≤ total (offered m) (ticks_of (cells_of after)) → 1 ≤ total (offered_by m) (all_deeds deeds)
    offers_all m [] [] [] h none s = absurd (omega arith)
    offers_all m (p ∷ ps) (xs ∷ deeds) (q ∷ qs) h none s =
        let t = all_ticked (checker limiter p) xs (checker limiter q) h.0 in
        let is : q.cells.ticks ≡ t.added = t.ticks ∙ ap (λ l. l ++ t.added) none.0 in
        let e = ap (total (offered m)) is in
        let a = total_append (offered m) q.cells.ticks (ticks_of (cells_of qs)) in
        let b = total_append (offered_by m) xs (all_deeds deeds) in
        pick (total (offered m) t.added) (total (offered m) t.added) refl (t.offers m) (λ l. offers_all m ps deeds qs h.1 none.1 l) (omega arith) b
      where
        pick : (k n : ℕ) → n ≡ k → (1 ≤ n → 1 ≤ total (offered_by m) xs)
            → (1 ≤ total (offered m) (ticks_of (cells_of qs)) → 1 ≤ total (offered_by m) (all_deeds deeds))
            → 1 ≤ n + total (offered m) (ticks_of (cells_of qs))
            → total (offered_by m) (xs ++ all_deeds deeds) ≡ total (offered_by m) xs + total (offered_by m) (all_deeds deeds)
            → 1 ≤ total (offered_by m) (xs ++ all_deeds deeds)
        pick zero n e f g s b = let r = g (omega arith) in omega arith
        pick (suc k) n e f g s b = let r = f (omega arith) in omega arith
    offers_all m before deeds after h none s = absurd h

    each_sourced : (start : ℕ) (all : List Deed) (before : List PassView) (deeds : List (List Deed)) (after : List PassView) → DeedsEach size limiter before deeds after
        → AllByRecursion (λ (x : Tick). IsOffered start all x.moment) (ticks_of (cells_of after)) → AllByRecursion (HasSource start all) (all_deeds deeds)
    each_sourced start all [] [] [] h o = tt
    each_sourced start all (p ∷ ps) (xs ∷ deeds) (q ∷ qs) h o =
        all_both (HasSource start all) xs (all_deeds deeds)
        (all_sourced start all (checker limiter p) xs (checker limiter q) h.0
        (all_front (λ (x : Tick). IsOffered start all x.moment) q.cells.ticks (ticks_of (cells_of qs)) o))
        (each_sourced start all ps deeds qs h.1 (all_back (λ (x : Tick). IsOffered start all x.moment) q.cells.ticks (ticks_of (cells_of qs)) o))
    each_sourced start all before deeds after h o = absurd h

    pub each_later : (start : ℕ) (before : List PassView) (deeds : List (List Deed)) (after : List PassView) → DeedsEach size limiter before deeds after
        → AllByRecursion (λ (p : PassView). start ≤ p.cells.moment) before → AllByRecursion (MomentsRise start) deeds
    each_later start [] [] [] h l = tt
    each_later start (p ∷ ps) (xs ∷ deeds) (q ∷ qs) h l =
        (all_later start (checker limiter p) xs (checker limiter q) h.0 l.0, each_later start ps deeds qs h.1 l.1)
    each_later start before deeds after h l = absurd h

    pub have_sources : (start moment : ℕ) (before : List PassView) (deeds : List (List Deed)) (after : List PassView) → DeedsEach size limiter before deeds after
        → AllByRecursion (λ (p : PassView). p.cells.ticks ≡ []) before → TicksAreLawful start moment (ticks_of (cells_of after))
        → AllByRecursion (HasSource start (all_deeds deeds)) (all_deeds deeds)
    have_sources start moment before deeds after h none law =
        each_sourced start (all_deeds deeds) before deeds after h
        (weaken (ticks_of (cells_of after)) (each_offered start (ticks_of (cells_of after)) [] (ticks_of (cells_of after)) law.sourced (λ m. omega arith)))
      where
        one : (x : Tick) → (x.moment ≡ start) ⊎ (1 ≤ total (offered x.moment) (ticks_of (cells_of after))) → IsOffered start (all_deeds deeds) x.moment
        one x (inl e) = inl e
        one x (inr s) = inr (offers_all x.moment before deeds after h none s)

        weaken : (xs : List Tick) → AllByRecursion (λ (x : Tick). (x.moment ≡ start) ⊎ (1 ≤ total (offered x.moment) (ticks_of (cells_of after)))) xs
            → AllByRecursion (λ (x : Tick). IsOffered start (all_deeds deeds) x.moment) xs
        weaken [] a = tt
        weaken (x ∷ xs) a = (one x a.0, weaken xs a.1)
