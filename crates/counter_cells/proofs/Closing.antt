-- What the views tell when all passes are joined.
use Rattle.std.proofs.Common.{◌≡◌, ℕ, zero, suc, ◌+◌, ◌≤◌, ◌==◌, List, [], ◌∷◌, ◌++◌, length, Bool, true, false, cond, refl, sym, ap, ◌∙◌, subst, arith, ⊎_elim, inl, inr}
use Rattle.std.proofs.Common.{append_assoc}
use Rattle.std.specs.Prelude.{ltb, IfSome}
use Rattle.std.specs.List.{AllByRecursion}
use Rattle.std.proofs.lemmas.List.{append-nil}
use mathlib.Core.Option.{some, some-ne-none, some-injective}
use lib.ListN.{get_elem?}
use Rattle.atomic_table.specs.Table.{State, Final, Seen}
use Rattle.rate_types.specs.Ledger.{IsLawfulLedger, IsLawfulSight, charged_total}
use Rattle.counter_cells.specs.declared.view.Tick.{Tick}
use Rattle.counter_cells.specs.declared.view.Charge.{Charge}
use Rattle.counter_cells.specs.declared.view.Cell.{Cell}
use Rattle.counter_cells.specs.declared.view.OtherGate.{OtherGate}
use Rattle.counter_cells.specs.declared.view.CellView.{CellView}
use Rattle.counter_cells.specs.declared.setup.Setup.{Setup}
use Rattle.rate_types.specs.Sums.{total, one_if, times}
use Rattle.counter_cells.specs.WordIndex.{count_of, clock_of}
use Rattle.counter_cells.specs.Views.{offered, noted_on, held_on}
use Rattle.counter_cells.specs.Counting.{pins_of}
use Rattle.counter_cells.specs.InnerSteps.{joined}
use Rattle.counter_cells.specs.Ledgers.{ledger_of, sights_of}
use Rattle.counter_cells.specs.Lawful.{AreLawful, other_offers}
use Rattle.counter_cells.specs.Ticks.{Sourced}
use Rattle.counter_cells.specs.Seats.{IsClaimer}
use Rattle.counter_cells.specs.Closing.{ticks_of, TicksAreLawful, AreHeldByPasses}
use Rattle.counter_cells.specs.InnerSteps.{all_joined}
use Rattle.counter_cells.proofs.Kept.{hits_below, ViewLawful, Holds}
use Rattle.rate_types.proofs.Sums.{total_append, total_two, total_none}
use Rattle.counter_cells.proofs.Sums.{each_map, each_left, each_right}
use Rattle.counter_cells.proofs.Ledgers.{total_is, ledger_from, sights_from}
use Rattle.counter_cells.proofs.Regrouping.{final_as}
use Rattle.counter_cells.proofs.Ticking.{sourced_more}

-- passes joined, one at a time
pub joined_snoc : (v : CellView) (xs : List CellView) (w : CellView) → all_joined v (xs ++ w ∷ []) ≡ joined (all_joined v xs) w
joined_snoc v [] w = refl
joined_snoc v (x ∷ xs) w = joined_snoc (joined v x) xs w

pub joined_keeps : (v : CellView) (xs : List CellView) → ((all_joined v xs).claimer ≡ v.claimer) × (pins_of (all_joined v xs) ≡ pins_of v) × ((all_joined v xs).cells ≡ v.cells)
    × ((all_joined v xs).heard ≡ v.heard)
joined_keeps v [] = (refl, refl, refl, refl)
joined_keeps v (x ∷ xs) = joined_keeps (joined v x) xs

joined_charges : (f : Charge → ℕ) (v : CellView) (ws : List CellView) → total f (all_joined v ws).charges ≡ total f v.charges + total (λ (w : CellView). total f w.charges) ws
joined_charges f v [] = omega arith
joined_charges f v (w ∷ ws) = let r = joined_charges f (joined v w) ws in let a = total_append f v.charges w.charges in omega arith

joined_notes : (k : ℕ) (v : CellView) (ws : List CellView) → noted_on k (all_joined v ws) ≡ noted_on k v + total (noted_on k) ws
joined_notes k v [] = omega arith
joined_notes k v (w ∷ ws) =
    let r = joined_notes k (joined v w) ws in
    let p = total_append (λ (y : ℕ × ℕ). one_if (y.0 == k)) v.pairs w.pairs in
    let o = total_append (λ (y : OtherGate). one_if (y.cell == k)) v.others w.others in
    omega arith

joined_held : (k : ℕ) (v : CellView) (ws : List CellView) → held_on k (all_joined v ws) ≡ held_on k v + total (held_on k) ws
joined_held k v [] = omega arith
joined_held k v (w ∷ ws) = let r = joined_held k (joined v w) ws in let p = total_append (λ (y : ℕ × ℕ). one_if (y.0 == k)) v.held w.held in omega arith

joined_ticks : (v : CellView) (ws : List CellView) → (all_joined v ws).ticks ≡ v.ticks ++ ticks_of ws
joined_ticks v [] = sym (append-nil v.ticks)
joined_ticks v (w ∷ ws) = joined_ticks (joined v w) ws ∙ append_assoc v.ticks w.ticks (ticks_of ws)

each_charges : (P : Charge → Type 0) (v : CellView) (ws : List CellView) → AllByRecursion P (all_joined v ws).charges → AllByRecursion P v.charges
    × ((j : ℕ) (w : CellView) → get_elem? ws j ≡ some w → AllByRecursion P w.charges)
each_charges P v [] h = (h, λ j w e. absurd (some-ne-none w (sym e)))
each_charges P v (w ∷ ws) h = let r = each_charges P (joined v w) ws h in (each_left P v.charges w.charges r.0, pick r.0 r.1)
  where
    pick : AllByRecursion P (v.charges ++ w.charges) → ((j : ℕ) (u : CellView) → get_elem? ws j ≡ some u → AllByRecursion P u.charges) → (j : ℕ) (u : CellView)
        → get_elem? (w ∷ ws) j ≡ some u → AllByRecursion P u.charges
    pick one others zero u e = subst (λ (x : CellView). AllByRecursion P x.charges) (some-injective _ _ e) (each_right P v.charges w.charges one)
    pick one others (suc j) u e = others j u e

each_looks : (P : ℕ × ℕ → Type 0) (v : CellView) (ws : List CellView) → AllByRecursion P (all_joined v ws).looks → AllByRecursion P v.looks
    × ((j : ℕ) (w : CellView) → get_elem? ws j ≡ some w → AllByRecursion P w.looks)
each_looks P v [] h = (h, λ j w e. absurd (some-ne-none w (sym e)))
each_looks P v (w ∷ ws) h = let r = each_looks P (joined v w) ws h in (each_left P v.looks w.looks r.0, pick r.0 r.1)
  where
    pick : AllByRecursion P (v.looks ++ w.looks) → ((j : ℕ) (u : CellView) → get_elem? ws j ≡ some u → AllByRecursion P u.looks) → (j : ℕ) (u : CellView)
        → get_elem? (w ∷ ws) j ≡ some u → AllByRecursion P u.looks
    pick one others zero u e = subst (λ (x : CellView). AllByRecursion P x.looks) (some-injective _ _ e) (each_right P v.looks w.looks one)
    pick one others (suc j) u e = others j u e

total_only : {A : Type 0} (f : A → ℕ) (xs : List A) (k : ℕ) (x : A) → get_elem? xs k ≡ some x → ((j : ℕ) (u : A) → (j ≡ k → ⊥) → get_elem? xs j ≡ some u → f u ≡ 0)
    → total f xs ≡ f x
total_only f [] k x e h = absurd (some-ne-none x (sym e))
total_only f (y ∷ ys) zero x e h = let a : f y ≡ f x = ap f (some-injective _ _ e) in let b = total_none f ys (λ j u d. h (suc j) u (λ q. absurd (omega arith)) d) in omega arith
total_only f (y ∷ ys) (suc k) x e h =
    let a = h 0 y (λ q. absurd (omega arith)) refl in let b = total_only f ys k x e (λ j u n d. h (suc j) u (λ q. n (omega arith)) d) in omega arith

is_false : (b : Bool) → one_if b ≡ 0 → b ≡ false
is_false true e = absurd (omega arith)
is_false false e = refl

-- a view without numbers has no ticks
no_ticks : (ns : List ℕ) (ts : List Tick) → length ns ≡ 0 → AllByRecursion (λ (x : Tick). 1 ≤ times x.number ns) ts → ts ≡ []
no_ticks ns [] z h = refl
no_ticks [] (t ∷ ts) z h = absurd (let o = h.0 in omega arith)
no_ticks (n ∷ ns) (t ∷ ts) z h = absurd (omega arith)

module _ (a : Setup) (s : State ℕ CellView) (hold : Holds a s) (id : ℕ) (v : CellView) (at : get_elem? s.views id ≡ some v) (role : v.claimer ≡ true)
    (all : length v.numbers ≡ a.passes) where
  -- who isn't the claimer has no number left
  idle : (j : ℕ) (u : CellView) → (j ≡ id → ⊥) → get_elem? s.views j ≡ some u → (u.charges ≡ []) × (u.looks ≡ []) × (u.ticks ≡ [])
  idle j u n e =
      let two = total_two (λ (x : CellView). length x.numbers + x.unmade) s.views id j v u n at e in
      let one = total_two (λ (x : CellView). one_if x.claimer) s.views id j v u n at e in
      let r : one_if v.claimer ≡ 1 = ap one_if role in
      let none : length u.numbers ≡ 0 = omega (arith, hold.3.parts) in
      let i = (hold.3.each j u e).idle (is_false u.claimer (omega (arith, hold.3.claimer))) none in
      (i.0, i.1, no_ticks u.numbers u.ticks none (hold.4.each j u e).numbers)

  -- nor has it noted a pin
  pub alone_notes : (k : ℕ) → total (noted_on k) s.views ≡ noted_on k v
  alone_notes k = total_only (noted_on k) s.views id v at (λ j u n e.
      let two = total_two (λ (x : CellView). length x.numbers + x.unmade) s.views id j v u n at e in
      let one = total_two (λ (x : CellView). one_if x.claimer) s.views id j v u n at e in
      let r : one_if v.claimer ≡ 1 = ap one_if role in
      let none : length u.numbers ≡ 0 = omega (arith, hold.3.parts) in
      let i = hold.5.idle j u e (is_false u.claimer (omega (arith, hold.3.claimer))) none in
      let p : total (λ (y : ℕ × ℕ). one_if (y.0 == k)) u.pairs ≡ 0 = ap (total (λ (y : ℕ × ℕ). one_if (y.0 == k))) i.0 in
      let o : total (λ (y : OtherGate). one_if (y.cell == k)) u.others ≡ 0 = ap (total (λ (y : OtherGate). one_if (y.cell == k))) i.1 in
      omega arith)

  pub alone : (f : Charge → ℕ) → total (λ (x : CellView). total f x.charges) s.views ≡ total f v.charges
  alone f = total_only (λ (x : CellView). total f x.charges) s.views id v at (λ j u n e. ap (total f) (idle j u n e).0)

  pub alone_ticks : (f : Tick → ℕ) → total (λ (x : CellView). total f x.ticks) s.views ≡ total f v.ticks
  alone_ticks f = total_only (λ (x : CellView). total f x.ticks) s.views id v at (λ j u n e. ap (total f) (idle j u n e).2)

module _ (a : Setup) (s : State ℕ CellView) (hold : Holds a s) (id : ℕ) (c : CellView) (passes : List CellView) (claimer : IsClaimer a c)
    (at : get_elem? s.views id ≡ some (all_joined c passes)) (all : length (all_joined c passes).numbers ≡ a.passes) where
  role : (all_joined c passes).claimer ≡ true
  role = (joined_keeps c passes).0 ∙ claimer.role

  -- a sum over the charges of all views is that over those of the passes
  sums : (f : Charge → ℕ) → total (λ (x : CellView). total f x.charges) s.views ≡ total (λ (x : CellView). total f x.charges) passes
  sums f = let x = alone a s hold id (all_joined c passes) at role all f in let y = joined_charges f c passes in let z : total f c.charges ≡ 0 = ap (total f) claimer.charges.0 in
      omega arith

  below : (claim bound : ℕ) → total (hits_below claim bound) s.views ≡ total (hits_below claim bound) passes
  below claim bound = sums (λ (y : Charge). cond (y.claim == claim) (cond (ltb y.before bound) y.hits 0) 0)

  laws : (j : ℕ) (w : CellView) → get_elem? passes j ≡ some w → ViewLawful passes w
  laws j w e =
      let l = hold.3.lawful id (all_joined c passes) at in
      record {
        charges = each_map (λ (x : Charge). (1 ≤ x.hits) × (x.before ≡ total (hits_below x.claim x.before) s.views))
            (λ (x : Charge). (1 ≤ x.hits) × (x.before ≡ total (hits_below x.claim x.before) passes)) w.charges
            (λ x h. (h.0, h.1 ∙ below x.claim x.before)) ((each_charges
            (λ (x : Charge). (1 ≤ x.hits) × (x.before ≡ total (hits_below x.claim x.before) s.views)) c passes l.charges).1 j w e);
        looks = each_map (λ (p : ℕ × ℕ). p.1 ≡ total (hits_below p.0 p.1) s.views) (λ (p : ℕ × ℕ). p.1 ≡ total (hits_below p.0 p.1) passes) w.looks
            (λ p h. h ∙ below p.0 p.1) ((each_looks (λ (p : ℕ × ℕ). p.1 ≡ total (hits_below p.0 p.1) s.views) c passes l.looks).1 j w e);
      }

  pub ledger_is : IsLawfulLedger ◌==◌ (ledger_of passes)
  ledger_is = ledger_from passes laws (λ claim b. let x = sums (λ (y : Charge). cond (y.claim == claim) (one_if (y.before == b)) 0) in let o = hold.3.once claim b in omega arith)

  pub sights_are : AllByRecursion (IsLawfulSight ◌==◌ (ledger_of passes)) (sights_of passes)
  sights_are = sights_from passes laws

  pub counts_are : (k : ℕ) (st : Cell) → get_elem? c.cells k ≡ some st → st.is_open ≡ true → count_of s.words k ≡ charged_total ◌==◌ st.claim (ledger_of passes)
  counts_are k st e o =
      let cells = sym ((hold.3.each id (all_joined c passes) at).claimer role).0 ∙ (joined_keeps c passes).2 in
      (hold.3.cells k st (ap (λ l. get_elem? l k) cells ∙ e)).sum o ∙ sums (λ (y : Charge). cond (y.claim == st.claim) y.hits 0) ∙ sym (total_is st.claim passes)

  ticks_is : (all_joined c passes).ticks ≡ ticks_of passes
  ticks_is = joined_ticks c passes ∙ ap (λ l. l ++ ticks_of passes) claimer.ticks.0

  tick_sums : (f : Tick → ℕ) → total (λ (x : CellView). total f x.ticks) s.views ≡ total f (ticks_of passes)
  tick_sums f = alone_ticks a s hold id (all_joined c passes) at role all f ∙ ap (total f) ticks_is

  pub ticks_are : TicksAreLawful a.start (clock_of s.words) (ticks_of passes)
  ticks_are =
      let t = hold.4.each id (all_joined c passes) at in
      record {
        least = hold.4.least;
        top = ⊎_elim inl (λ o. inr (let x = tick_sums (offered (clock_of s.words)) in omega arith)) hold.4.top;
        offers = subst (AllByRecursion (λ (x : Tick). IfSome x.offer (λ m. m ≤ clock_of s.words))) ticks_is t.offers;
        sourced = subst (Sourced a.start (λ i m. total (λ (x : Tick). cond (x.number == i) 0 (offered m x)) (ticks_of passes)) []) ticks_is
            (sourced_more a.start (λ i m. total (other_offers i m) s.views) (λ i m. total (λ (x : Tick). cond (x.number == i) 0 (offered m x)) (ticks_of passes)) []
            (all_joined c passes).ticks
            (λ i m. let x = tick_sums (λ (y : Tick). cond (y.number == i) 0 (offered m y)) in omega arith) t.sourced);
      }

  pub held_are : AreHeldByPasses a.cells c passes
  held_are k o =
      let h = hold.5.held id (all_joined c passes) at k (let e = joined_held k c passes in omega arith) in
      let l = alone_notes a s hold id (all_joined c passes) at role all k in
      let j = joined_notes k c passes in
      let p : total (λ (y : ℕ × ℕ). one_if (y.0 == k)) c.pairs ≡ 0 = ap (total (λ (y : ℕ × ℕ). one_if (y.0 == k))) claimer.noted.0 in
      let q : total (λ (y : OtherGate). one_if (y.cell == k)) c.others ≡ 0 = ap (total (λ (y : OtherGate). one_if (y.cell == k))) claimer.noted.1 in
      (h.0, (let m = h.1 in omega arith))

  pub heard_is : c.heard ≤ clock_of s.words
  heard_is = let h = hold.5.heard id (all_joined c passes) at in let e = (joined_keeps c passes).3 in omega arith

-- what the closing state tells
pub record Ends (a : Setup) (c : CellView) (passes : List CellView) (ws : List ℕ) : Type 0 where
  pub ledger : IsLawfulLedger ◌==◌ (ledger_of passes)
  pub sights : AllByRecursion (IsLawfulSight ◌==◌ (ledger_of passes)) (sights_of passes)
  pub counts : (k : ℕ) (st : Cell) → get_elem? c.cells k ≡ some st → st.is_open ≡ true → count_of ws k ≡ charged_total ◌==◌ st.claim (ledger_of passes)
  pub ticks : TicksAreLawful a.start (clock_of ws) (ticks_of passes)
  pub low : clock_of ws ≤ 1000000000000
  pub held : AreHeldByPasses a.cells c passes
  pub heard : c.heard ≤ clock_of ws

ends : (a : Setup) (id : ℕ) (c : CellView) (passes : List CellView) (ws xs : List ℕ) → IsClaimer a c → length (all_joined c passes).numbers ≡ a.passes
    → Final (Seen (AreLawful a) id (all_joined c passes)) ws xs → Ends a c passes ws
ends a id c passes ws xs cl all last =
    let f = final_as a id (all_joined c passes) ws xs last in
    let s = f.0 in
    let hold = f.1.0 in
    let at = f.1.1 in
    subst (Ends a c passes) f.2 (record {
      ledger = ledger_is a s hold id c passes cl at all;
      sights = sights_are a s hold id c passes cl at all;
      counts = counts_are a s hold id c passes cl at all;
      ticks = ticks_are a s hold id c passes cl at all;
      low = hold.4.most;
      held = held_are a s hold id c passes cl at all;
      heard = heard_is a s hold id c passes cl at all;
    })

-- the same, of the claimer as it was given
pub closes : (key a : Setup) → key ≡ a → (id : ℕ) (c v claimer : CellView) (passes : List CellView) (ws xs : List ℕ) → v ≡ all_joined c passes → c ≡ claimer → IsClaimer a claimer
    → length v.numbers ≡ length passes → length passes ≡ a.passes → Final (Seen (AreLawful key) id v) ws xs → Ends a claimer passes ws
closes key a same id c v claimer passes ws xs joins from cl numbers all last =
    let is = joins ∙ ap (λ (y : CellView). all_joined y passes) from in
    ends a id claimer passes ws xs cl (ap (λ (y : CellView). length y.numbers) (sym is) ∙ numbers ∙ all)
    (subst (λ (x : Setup × CellView). Final (Seen (AreLawful x.0) id x.1) ws xs) (λ i. (same i, is i)) last)
