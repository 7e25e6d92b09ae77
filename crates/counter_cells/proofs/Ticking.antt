-- A tick keeps the rule.
use Rattle.std.proofs.Common.{◌≡◌, ◌⊎◌, ℕ, zero, suc, ◌+◌, ◌≤◌, ◌<◌, ◌==◌, max, get_or, List, [], ◌∷◌, ◌++◌, length, set, Bool, true, false, cond, refl, sym, ap, ◌∙◌, subst, arith}
use Rattle.std.proofs.Common.{⊎_elim, inl, inr, append_assoc}
use Rattle.std.proofs.lemmas.List.{append-nil}
use Rattle.std.specs.Prelude.{ltb, Option, Some, None, IfSome}
use Rattle.std.proofs.lemmas.Bool.{lt-ltb}
use native.Mathlib.Decide.{dec_lt}
use mathlib.Core.Option.{some, some-injective, some-ne-none}
use lib.ListN.{get_elem?}
use Rattle.counter_cells.specs.declared.view.Tick.{Tick}
use Rattle.counter_cells.specs.declared.view.CellView.{CellView}
use Rattle.counter_cells.specs.declared.setup.Setup.{Setup}
use Rattle.std.specs.List.{AllByRecursion}
use Rattle.rate_types.specs.Sums.{total, one_if, times}
use Rattle.counter_cells.specs.Views.{offered}
use Rattle.counter_cells.specs.Steps.{last_moment, number_of, tick_of, ticked}
use Rattle.counter_cells.specs.Lawful.{offers, other_offers, TicksFit, ClockIsGreatestOffer}
use Rattle.counter_cells.specs.Ticks.{own_offers, Sourced}
use Rattle.rate_types.proofs.Sums.{total_set, total_push, total_same, total_eq, total_none, total_two, each_set, cond_yes, cond_no}
use Rattle.counter_cells.proofs.Sums.{each_push, each_map}
use Rattle.counter_cells.proofs.Looking.{one_le}

last_push : (m : ℕ) (xs : List Tick) (y : Tick) → last_moment m (xs ++ y ∷ []) ≡ y.moment
last_push m [] y = refl
last_push m (x ∷ xs) y = last_push x.moment xs y

sourced_push : (start : ℕ) (other : ℕ → ℕ → ℕ) (before xs : List Tick) (y : Tick) → Sourced start other before xs → (y.moment ≡ start)
    ⊎ ((1 ≤ own_offers y.number y.moment ((before ++ xs) ++ y ∷ [])) ⊎ (1 ≤ other y.number y.moment)) → Sourced start other before (xs ++ y ∷ [])
sourced_push start other before [] y s h =
    (subst (λ (l : List Tick). (y.moment ≡ start) ⊎ ((1 ≤ own_offers y.number y.moment (l ++ y ∷ [])) ⊎ (1 ≤ other y.number y.moment))) (append-nil before) h, tt)
sourced_push start other before (x ∷ xs) y s h = (
  s.0,
  sourced_push start other (before ++ x ∷ []) xs y s.1 (subst
      (λ (l : List Tick). (y.moment ≡ start) ⊎ ((1 ≤ own_offers y.number y.moment (l ++ y ∷ [])) ⊎ (1 ≤ other y.number y.moment))) (sym (append_assoc before (x ∷ []) xs)) h),
)

-- an offer stays below a later clock
offer_up : (c c' : ℕ) (o : Option ℕ) → c ≤ c' → IfSome o (λ m. m ≤ c) → IfSome o (λ m. m ≤ c')
offer_up c c' None l h = tt
offer_up c c' (Some m) l h = omega arith

pub sourced_more : (start : ℕ) (other other' : ℕ → ℕ → ℕ) (before xs : List Tick) → ((i m : ℕ) → other i m ≤ other' i m) → Sourced start other before xs
    → Sourced start other' before xs
sourced_more start other other' before [] le s = tt
sourced_more start other other' before (x ∷ xs) le s =
    (⊎_elim inl (λ q. inr (⊎_elim inl (λ o. inr (let l = le x.number x.moment in omega arith)) q)) s.0, sourced_more start other other' (before ++ x ∷ []) xs le s.1)

-- each offer is of the pass or of another
parts : (i m : ℕ) (ts : List Tick) → total (λ (x : Tick). offered m x) ts ≡ own_offers i m ts + total (λ (x : Tick). cond (x.number == i) 0 (offered m x)) ts
parts i m [] = refl
parts i m (x ∷ xs) = keep (x.number == i) (offered m x) (parts i m xs)
  where
    keep : (b : Bool) (n : ℕ) → total (λ (y : Tick). offered m y) xs ≡ own_offers i m xs + total (λ (y : Tick). cond (y.number == i) 0 (offered m y)) xs
        → n + total (λ (y : Tick). offered m y) xs ≡ (cond b n 0 + own_offers i m xs) + (cond b 0 n + total (λ (y : Tick). cond (y.number == i) 0 (offered m y)) xs)
    keep true n r = omega arith
    keep false n r = omega arith

-- a view without the number has no tick of it
none_of : (i m : ℕ) (ns : List ℕ) (ts : List Tick) → times i ns ≡ 0 → AllByRecursion (λ (x : Tick). 1 ≤ times x.number ns) ts → own_offers i m ts ≡ 0
none_of i m ns [] z h = refl
none_of i m ns (x ∷ xs) z h =
    let y = cond_no x.number i (offered m x) 0 (λ e. let o = h.0 in let z' : times x.number ns ≡ 0 = subst (λ n. times n ns ≡ 0) (sym e) z in omega arith) in
    let r = none_of i m ns xs z h.1 in
    omega arith

first_in : (ns : List ℕ) → 1 ≤ length ns → 1 ≤ times (get_or ns 0 0) ns
first_in [] h = absurd (omega arith)
first_in (n ∷ ns) h = let y = cond_yes n n 1 0 refl in omega arith

total_sum : {A : Type 0} (f g : A → ℕ) (xs : List A) → total (λ x. f x + g x) xs ≡ total f xs + total g xs
total_sum f g [] = refl
total_sum f g (x ∷ xs) = let r = total_sum f g xs in omega arith

module _ (a : Setup) (clock clock' now : ℕ) (views : List CellView) (c : ClockIsGreatestOffer a clock views) (id : ℕ) (v : CellView) (at : get_elem? views id ≡ some v)
    (live : 1 ≤ length v.numbers) (is : clock' ≡ max clock now) (low : now ≤ 1000000000000) where
  abbrev W : CellView
  W = ticked (max clock now) now v

  abbrev N : Tick
  N = tick_of (max clock now) now v

  mine : TicksFit a.start clock (λ i m. total (other_offers i m) views) v
  mine = c.each id v at

  number : 1 ≤ times (number_of v) v.numbers
  number = first_in v.numbers live

  -- where the clock stands, for this pass
  clock_source : (clock ≡ a.start) ⊎ ((1 ≤ own_offers (number_of v) clock v.ticks) ⊎ (1 ≤ total (other_offers (number_of v) clock) views))
  clock_source = ⊎_elim inl (λ o. inr (pick o (dec_lt 0 (total (other_offers (number_of v) clock) views)))) c.top
    where
      alone : (j : ℕ) (u : CellView) → (j ≡ id → ⊥) → get_elem? views j ≡ some u → own_offers (number_of v) clock u.ticks ≡ 0
      alone j u n e =
          let two = total_two (λ (x : CellView). times (number_of v) x.numbers + one_if (ltb (number_of v) x.unmade)) views id j v u n at e in
          let one = c.numbers (number_of v) in
          let most = one_le (ltb (number_of v) a.passes) in
          let o = number in
          none_of (number_of v) clock u.numbers u.ticks (omega arith) (c.each j u e).numbers

      pick : 1 ≤ total (offers clock) views → Dec (0 < total (other_offers (number_of v) clock) views) → (1 ≤ own_offers (number_of v) clock v.ticks)
          ⊎ (1 ≤ total (other_offers (number_of v) clock) views)
      pick o (yes d) = inr (omega arith)
      pick o (no n) =
          let e = total_eq (offers clock) (λ (x : CellView). own_offers (number_of v) clock x.ticks + other_offers (number_of v) clock x) views
          (λ j x _. parts (number_of v) clock x.ticks) in
          let s = total_sum (λ (x : CellView). own_offers (number_of v) clock x.ticks) (other_offers (number_of v) clock) views in
          let f = total_only (λ (x : CellView). own_offers (number_of v) clock x.ticks) views id v at alone in
          inl (omega arith)
        where
          total_only : (f : CellView → ℕ) (xs : List CellView) (k : ℕ) (x : CellView) → get_elem? xs k ≡ some x
              → ((j : ℕ) (u : CellView) → (j ≡ k → ⊥) → get_elem? xs j ≡ some u → f u ≡ 0) → total f xs ≡ f x
          total_only f [] k x e h = absurd (some-ne-none x (sym e))
          total_only f (y ∷ ys) zero x e h =
              let a : f y ≡ f x = ap f (some-injective _ _ e) in let b = total_none f ys (λ j u d. h (suc j) u (λ q. absurd (omega arith)) d) in omega arith
          total_only f (y ∷ ys) (suc k) x e h =
              let a = h 0 y (λ q. absurd (omega arith)) refl in let b = total_only f ys k x e (λ j u n d. h (suc j) u (λ q. n (omega arith)) d) in omega arith

  -- offers only grow
  others_more : (i m : ℕ) → total (other_offers i m) views ≤ total (other_offers i m) (set views id W)
  others_more i m = omega (arith, total_set (other_offers i m) views id v W at, total_push (λ (x : Tick). cond (x.number == i) 0 (offered m x)) v.ticks N)

  offers_more : (m : ℕ) → total (offers m) (set views id W) ≡ total (offers m) views + offered m N
  offers_more m = omega (arith, total_set (offers m) views id v W at, total_push (λ (x : Tick). offered m x) v.ticks N)

  own_more : (i m : ℕ) → own_offers i m (v.ticks ++ N ∷ []) ≡ own_offers i m v.ticks + cond (number_of v == i) (offered m N) 0
  own_more i m = total_push (λ (x : Tick). cond (x.number == i) (offered m x) 0) v.ticks N

  -- a tick at a later moment than the view's own offers it
  new_offer : (m : ℕ) → v.moment < now → offered m N ≡ one_if (now == m)
  new_offer m h = rw (lt-ltb v.moment now h)

  top_now : (clock' ≡ a.start) ⊎ (1 ≤ total (offers clock') (set views id W))
  top_now = pick (dec_lt clock now) (dec_lt v.moment now)
    where
      pick : Dec (clock < now) → Dec (v.moment < now) → (clock' ≡ a.start) ⊎ (1 ≤ total (offers clock') (set views id W))
      pick (yes d) e = let m = mine.moment in let y = offers_more clock' in let x = new_offer clock' (omega arith) in let z = cond_yes now clock' 1 0 (omega arith) in
          inr (omega arith)
      pick (no n) e = let same : clock' ≡ clock = omega arith in ⊎_elim (λ s. inl (same ∙ s))
          (λ o. inr (let o' : 1 ≤ total (offers clock') views = subst (λ i. 1 ≤ total (offers i) views) (sym same) o in let y = offers_more clock' in omega arith)) c.top

  new_source : (max clock now ≡ a.start) ⊎ ((1 ≤ own_offers (number_of v) (max clock now) (v.ticks ++ N ∷ []))
      ⊎ (1 ≤ total (other_offers (number_of v) (max clock now)) (set views id W)))
  new_source = pick (dec_lt clock now)
    where
      pick : Dec (clock < now) → (max clock now ≡ a.start) ⊎ ((1 ≤ own_offers (number_of v) (max clock now) (v.ticks ++ N ∷ []))
          ⊎ (1 ≤ total (other_offers (number_of v) (max clock now)) (set views id W)))
      pick (yes d) =
          let m = mine.moment in
          let y = own_more (number_of v) (max clock now) in
          let w = cond_yes (number_of v) (number_of v) (offered (max clock now) N) 0 refl in
          let x = new_offer (max clock now) (omega arith) in
          let z = cond_yes now (max clock now) 1 0 (omega arith) in
          inr (inl (omega arith))
      pick (no n) =
          let same : clock ≡ max clock now = omega arith in
          subst (λ m. (m ≡ a.start) ⊎ ((1 ≤ own_offers (number_of v) m (v.ticks ++ N ∷ [])) ⊎ (1 ≤ total (other_offers (number_of v) m) (set views id W)))) same
          (⊎_elim inl (λ q. inr (⊎_elim (λ o. inl (let y = own_more (number_of v) clock in omega arith)) (λ o. inr (let y = others_more (number_of v) clock in omega arith)) q))
          clock_source)

  view_old : (j : ℕ) (u : CellView) → get_elem? views j ≡ some u → TicksFit a.start clock' (λ i m. total (other_offers i m) (set views id W)) u
  view_old j u e =
      let f = c.each j u e in
      record {
        moment = let m = f.moment in omega arith;
        last = f.last;
        offers = each_map (λ (x : Tick). IfSome x.offer (λ m. m ≤ clock)) (λ (x : Tick). IfSome x.offer (λ m. m ≤ clock')) u.ticks
            (λ x l. offer_up clock clock' x.offer (omega arith) l) f.offers;
        numbers = f.numbers;
        sourced = sourced_more a.start (λ i m. total (other_offers i m) views) (λ i m. total (other_offers i m) (set views id W)) [] u.ticks others_more f.sourced;
      }

  offer_low : IfSome (cond (ltb v.moment now) (Some now) None) (λ m. m ≤ clock')
  offer_low = pick (ltb v.moment now)
    where
      pick : (b : Bool) → IfSome (cond b (Some now) None) (λ m. m ≤ clock')
      pick true = omega arith
      pick false = tt

  pub tick_clock : ClockIsGreatestOffer a clock' (set views id W)
  tick_clock =
      let f = view_old id v at in
      record {
        least = let l = c.least in omega arith;
        top = top_now;
        most = let m = c.most in omega arith;
        each = each_set (TicksFit a.start clock' (λ i m. total (other_offers i m) (set views id W))) views id W (λ j x _ e. view_old j x e)
            (record {
              moment = omega arith;
              last = λ _. sym (last_push a.start v.ticks N);
              offers = each_push (λ (x : Tick). IfSome x.offer (λ m. m ≤ clock')) v.ticks N f.offers offer_low;
              numbers = each_push (λ (x : Tick). 1 ≤ times x.number v.numbers) v.ticks N f.numbers number;
              sourced = sourced_push a.start (λ i m. total (other_offers i m) (set views id W)) [] v.ticks N f.sourced new_source;
            });
        numbers = λ i. let o = c.numbers i in let s = total_same (λ (x : CellView). times i x.numbers + one_if (ltb i x.unmade)) views id v W at refl in omega arith;
      }

-- the clock of a step that leaves ticks, numbers and moments
pub clock_same : (a : Setup) (clock : ℕ) (views : List CellView) → ClockIsGreatestOffer a clock views → (id : ℕ) (v w : CellView) → get_elem? views id ≡ some v
    → (w.ticks ≡ v.ticks) × (w.numbers ≡ v.numbers) × (w.moment ≡ v.moment) × (w.unmade ≡ v.unmade) × (w.claimer ≡ v.claimer) → ClockIsGreatestOffer a clock (set views id w)
clock_same a clock views c id v w at same =
    let ts = λ (f : List Tick → ℕ). total_same (λ (x : CellView). f x.ticks) views id v w at (ap f same.0) in
    let fit = λ (j : ℕ) (u : CellView) (e : get_elem? views j ≡ some u). c.each j u e in
    record {
      least = c.least;
      most = c.most;
      top = ⊎_elim inl (λ o. inr (let s = ts (total (λ (x : Tick). offered clock x)) in omega arith)) c.top;
      each = each_set (TicksFit a.start clock (λ i m. total (other_offers i m) (set views id w))) views id w (λ j x _ e. old j x e)
          (let f = old id v at in record {
            moment = (let m = f.moment in let e = same.2 in omega arith);
            last = λ l. same.2 ∙ f.last (let e = ap (length {A = ℕ}) same.1 in let d : one_if w.claimer ≡ one_if v.claimer = ap one_if same.4 in omega arith)
                ∙ sym (ap (last_moment a.start) same.0);
            offers = subst (AllByRecursion (λ (x : Tick). IfSome x.offer (λ m. m ≤ clock))) (sym same.0) f.offers;
            numbers = subst (λ (y : List Tick × List ℕ). AllByRecursion (λ (x : Tick). 1 ≤ times x.number y.1) y.0) (λ i. (sym same.0 i, sym same.1 i)) f.numbers;
            sourced = subst (Sourced a.start (λ i m. total (other_offers i m) (set views id w)) []) (sym same.0) f.sourced;
          });
      numbers = λ i. let o = c.numbers i in let s = total_same (λ (x : CellView). times i x.numbers + one_if (ltb i x.unmade)) views id v w at
          (let x = ap (times i) same.1 in let y = ap (λ n. one_if (ltb i n)) same.3 in omega arith) in omega arith;
    }
  where
    old : (j : ℕ) (u : CellView) → get_elem? views j ≡ some u → TicksFit a.start clock (λ i m. total (other_offers i m) (set views id w)) u
    old j u e =
        let f = c.each j u e in
        record {
          moment = f.moment;
          last = f.last;
          offers = f.offers;
          numbers = f.numbers;
          sourced = sourced_more a.start (λ i m. total (other_offers i m) views) (λ i m. total (other_offers i m) (set views id w)) [] u.ticks
              (λ i m. let s = total_same (λ (x : CellView). total (λ (y : Tick). cond (y.number == i) 0 (offered m y)) x.ticks) views id v w at
              (ap (total (λ (y : Tick). cond (y.number == i) 0 (offered m y))) same.0) in omega arith) f.sourced;
        }
