-- Where the moments of ticks come from, pass by pass, and that none is later than the closing moment.
use Rattle.std.proofs.Common.{◌≡◌, ◌⊎◌, inl, inr, ⊎_elim, ℕ, zero, suc, ◌+◌, ◌≤◌, ◌==◌, List, [], ◌∷◌, ◌++◌, length, take, Some, None, Option, Bool, true, false, cond}
use Rattle.std.proofs.Common.{refl, sym, ap, ◌∙◌, subst, arith}
use Rattle.std.proofs.lemmas.Bool.Decides.{nat_tests}
use Rattle.std.specs.Prelude.{IfSome}
use Rattle.std.specs.List.{AllByRecursion}
use mathlib.Core.Option.{some, some-injective, some-ne-none}
use lib.ListN.{get_elem?}
use Rattle.rate_types.specs.Sums.{total}
use Rattle.rate_types.proofs.Sums.{total_append, total_push}
use Rattle.counter_cells.specs.Closing.{ticks_of, TicksAreLawful}
use Rattle.counter_cells.specs.Steps.{last_moment}
use Rattle.counter_cells.specs.Ticks.{own_offers, Sourced}
use Rattle.counter_cells.specs.Views.{offered, offer_is}
use Rattle.counter_cells.specs.declared.view.CellView.{CellView}
use Rattle.counter_cells.specs.declared.view.Tick.{Tick}
use Rattle.rate_limiter.proofs.Places.{all_back, all_front, append_nil, at_each, in_either}
use Rattle.worker_run.proofs.Finding.{found}

-- where the moment of a tick comes from: so many offers of its pass before some ticks, some more, and so many of other passes
abbrev pub From : ℕ → ℕ → ℕ → Tick → Type 0
From start own others x = (x.moment ≡ start) ⊎ ((1 ≤ own) ⊎ (1 ≤ others))

from_moved : (start a b c : ℕ) (x : Tick) → a ≡ b → From start a c x → From start b c x
from_moved start a b c x e h = subst (λ (n : ℕ). From start n c x) e h

-- the source of a tick at a place
sourced_at : (start : ℕ) (others : ℕ → ℕ → ℕ) (earlier xs : List Tick) → Sourced start others earlier xs → (k : ℕ) (x : Tick) → get_elem? xs k ≡ some x
    → From start (own_offers x.number x.moment earlier + own_offers x.number x.moment (take (suc k) xs)) (others x.number x.moment) x
sourced_at start others earlier [] h k x e = absurd (some-ne-none x (sym e))
sourced_at start others earlier (y ∷ ys) h zero x e =
    subst (λ (z : Tick). From start (own_offers z.number z.moment earlier + own_offers z.number z.moment (y ∷ [])) (others z.number z.moment) z) (some-injective y x e)
    (from_moved start (own_offers y.number y.moment (earlier ++ y ∷ [])) _ (others y.number y.moment) y
    (total_append (λ (z : Tick). cond (z.number == y.number) (offered y.moment z) 0) earlier (y ∷ [])) h.0)
sourced_at start others earlier (y ∷ ys) h (suc k) x e =
    let f : Tick → ℕ = λ (z : Tick). cond (z.number == x.number) (offered x.moment z) 0 in
    let a = total_push f earlier y in
    from_moved start (own_offers x.number x.moment (earlier ++ y ∷ []) + own_offers x.number x.moment (take (suc k) ys)) _ (others x.number x.moment) x (omega (arith, a))
    (sourced_at start others (earlier ++ y ∷ []) ys h.1 k x e)

sourced_on : (start : ℕ) (others : ℕ → ℕ → ℕ) (earlier xs ys : List Tick) → Sourced start others earlier (xs ++ ys) → Sourced start others (earlier ++ xs) ys
sourced_on start others earlier [] ys h = subst (λ (l : List Tick). Sourced start others l ys) (append_nil earlier) h
sourced_on start others earlier (x ∷ xs) ys h =
    subst (λ (l : List Tick). Sourced start others l ys) (pushed earlier x xs) (sourced_on start others (earlier ++ x ∷ []) xs ys h.1)
  where
    pushed : (l : List Tick) (y : Tick) (r : List Tick) → (l ++ y ∷ []) ++ r ≡ l ++ (y ∷ r)
    pushed [] y r = refl
    pushed (z ∷ zs) y r = ap (λ (m : List Tick). z ∷ m) (pushed zs y r)

sourced_front : (start : ℕ) (others : ℕ → ℕ → ℕ) (earlier xs ys : List Tick) → Sourced start others earlier (xs ++ ys) → Sourced start others earlier xs
sourced_front start others earlier [] ys h = tt
sourced_front start others earlier (x ∷ xs) ys h = (h.0, sourced_front start others (earlier ++ x ∷ []) xs ys h.1)

-- the source of a tick of a pass: offers of the passes before it under its number, those of the pass up to the tick, and others
source_from : (start : ℕ) (others : ℕ → ℕ → ℕ) (earlier : List Tick) (vs : List CellView) → Sourced start others earlier (ticks_of vs) → (w : ℕ) (v : CellView)
    → get_elem? vs w ≡ some v
    → (k : ℕ) (x : Tick) → get_elem? v.ticks k ≡ some x
    → From start (own_offers x.number x.moment earlier + total (λ (u : CellView). own_offers x.number x.moment u.ticks) (take w vs)
    + own_offers x.number x.moment (take (suc k) v.ticks)) (others x.number x.moment) x
source_from start others earlier [] h w v e k x f = absurd (some-ne-none v (sym e))
source_from start others earlier (u ∷ us) h zero v e k x f =
    let same : u ≡ v = some-injective u v e in
    let g : get_elem? u.ticks k ≡ some x = ap (λ (y : CellView). get_elem? y.ticks k) same ∙ f in
    let s = sourced_at start others earlier u.ticks (sourced_front start others earlier u.ticks (ticks_of us) h) k x g in
    let t = ap (λ (y : CellView). own_offers x.number x.moment (take (suc k) y.ticks)) same in
    from_moved start (own_offers x.number x.moment earlier + own_offers x.number x.moment (take (suc k) u.ticks)) _ (others x.number x.moment) x (omega (arith, t)) s
source_from start others earlier (u ∷ us) h (suc w) v e k x f =
    let a = total_append (λ (z : Tick). cond (z.number == x.number) (offered x.moment z) 0) earlier u.ticks in
    from_moved start (own_offers x.number x.moment (earlier ++ u.ticks) + total (λ (y : CellView). own_offers x.number x.moment y.ticks) (take w us)
    + own_offers x.number x.moment (take (suc k) v.ticks)) _ (others x.number x.moment) x (omega (arith, a))
    (source_from start others (earlier ++ u.ticks) us (sourced_on start others earlier u.ticks (ticks_of us) h) w v e k x f)

-- offers of other passes
abbrev pub other_offers : List Tick → ℕ → ℕ → ℕ
other_offers ticks i m = total (λ (x : Tick). cond (x.number == i) 0 (offered m x)) ticks

pub source_of : (start : ℕ) (others : ℕ → ℕ → ℕ) (vs : List CellView) → Sourced start others [] (ticks_of vs) → (w : ℕ) (v : CellView) → get_elem? vs w ≡ some v
    → (k : ℕ) (x : Tick) → get_elem? v.ticks k ≡ some x
    → From start (total (λ (u : CellView). own_offers x.number x.moment u.ticks) (take w vs) + own_offers x.number x.moment (take (suc k) v.ticks)) (others x.number x.moment) x
source_of start others vs h w v e k x f = from_moved start _ _ (others x.number x.moment) x (omega arith) (source_from start others [] vs h w v e k x f)

-- an item of all ticks is one of a pass
pub in_pass : (vs : List CellView) (k : ℕ) (x : Tick) → get_elem? (ticks_of vs) k ≡ some x
    → (w : ℕ) × (v : CellView) × (get_elem? vs w ≡ some v) × ((j : ℕ) × (get_elem? v.ticks j ≡ some x))
in_pass [] k x e = absurd (some-ne-none x (sym e))
in_pass (u ∷ us) k x e =
    ⊎_elim (λ f. (0, u, refl, (k, f))) (λ g. let t = in_pass us g.0 x g.1 in (suc t.0, t.1, t.2, t.3)) (in_either u.ticks (ticks_of us) k x e)

-- ---- the closing moment

own_among : (n m : ℕ) (xs : List Tick) → own_offers n m xs ≤ total (offered m) xs
own_among n m [] = omega arith
own_among n m (x ∷ xs) =
    let r = own_among n m xs in
    let one = by (x.number == n) in
    omega (arith, r, one)
  where
    by : (t : Bool) → cond t (offered m x) 0 ≤ offered m x
    by true = omega arith
    by false = omega arith

pub others_among : (n m : ℕ) (xs : List Tick) → other_offers xs n m ≤ total (offered m) xs
others_among n m [] = omega arith
others_among n m (x ∷ xs) =
    let r = others_among n m xs in
    let one = by (x.number == n) in
    omega (arith, r, one)
  where
    by : (t : Bool) → cond t 0 (offered m x) ≤ offered m x
    by true = omega arith
    by false = omega arith

module _ (start moment : ℕ) (ticks : List Tick) (h : TicksAreLawful start moment ticks) where
  -- what was offered is no later than the closing moment
  pub offer_within : (m : ℕ) → 1 ≤ total (offered m) ticks → m ≤ moment
  offer_within m one =
      let f = found (offered m) ticks one in
      let each = at_each (λ (x : Tick). IfSome x.offer (λ n. n ≤ moment)) ticks f.place f.item f.at h.offers in
      by f.item.offer each f.has
    where
      by : (o : Option ℕ) → IfSome o (λ n. n ≤ moment) → 1 ≤ offer_is m o → m ≤ moment
      by None a s = absurd (omega arith)
      by (Some n) a s = pick (n == m) refl
        where
          pick : (t : Bool) → (n == m) ≡ t → m ≤ moment
          pick true e = let le : n ≤ moment = a in let same : n ≡ m = grind (arith, nat_tests) in omega (arith, le, same)
          pick false e = absurd (omega (arith, rw e at s))

  each_within : (earlier xs : List Tick) → Sourced start (other_offers ticks) earlier xs → ((m : ℕ) → total (offered m) earlier + total (offered m) xs ≤ total (offered m) ticks)
      → AllByRecursion (λ (x : Tick). x.moment ≤ moment) xs
  each_within earlier [] s all = tt
  each_within earlier (x ∷ xs) s all = (
    one s.0,
    each_within (earlier ++ x ∷ []) xs s.1 (λ m. let a = total_push (offered m) earlier x in let b = all m in omega (arith, a, b)),
  )
    where
      one : (x.moment ≡ start) ⊎ ((1 ≤ own_offers x.number x.moment (earlier ++ x ∷ [])) ⊎ (1 ≤ other_offers ticks x.number x.moment)) → x.moment ≤ moment
      one (inl e) = let l = h.least in omega arith
      one (inr (inl own)) =
          let a = own_among x.number x.moment (earlier ++ x ∷ []) in
          let b = total_push (offered x.moment) earlier x in
          let c = all x.moment in
          offer_within x.moment (omega (arith, own, a, b, c))
      one (inr (inr other)) = let a = others_among x.number x.moment ticks in offer_within x.moment (omega (arith, other, a))

  -- no tick is later than the closing moment
  pub ticks_within : AllByRecursion (λ (x : Tick). x.moment ≤ moment) ticks
  ticks_within = each_within [] ticks h.sourced (λ m. omega arith)

pub tick_at : (P : Tick → Type 0) (vs : List CellView) → AllByRecursion P (ticks_of vs) → (w : ℕ) (v : CellView) → get_elem? vs w ≡ some v → AllByRecursion P v.ticks
tick_at P [] h w v e = absurd (some-ne-none v (sym e))
tick_at P (u ∷ us) h zero v e = subst (λ (y : CellView). AllByRecursion P y.ticks) (some-injective u v e) (all_front P u.ticks (ticks_of us) h)
tick_at P (u ∷ us) h (suc w) v e = tick_at P us (all_back P u.ticks (ticks_of us) h) w v e

-- the last of ticks, and its moment
pub last_of : (start : ℕ) (x : Tick) (xs : List Tick) → (k : ℕ) × (y : Tick) × (get_elem? (x ∷ xs) k ≡ some y) × (length (x ∷ xs) ≡ suc k) × (last_moment start (x ∷ xs) ≡ y.moment)
last_of start x [] = (0, x, refl, refl, refl)
last_of start x (y ∷ ys) = let t = last_of x.moment y ys in (suc t.0, t.1, t.2, ap suc t.3, t.4)
