-- A pass joined keeps the rule.
use Rattle.std.proofs.Common.{◌≡◌, ◌⊎◌, ℕ, ◌+◌, ◌≤◌, ◌<◌, ◌==◌, ◌&&◌, List, [], ◌∷◌, ◌++◌, length, set, false, true≢false, cond, refl, sym, ap, ◌∙◌, subst, arith, ⊎_elim, inl, inr}
use Rattle.std.proofs.Common.{append_assoc, length-append}
use Rattle.std.proofs.lemmas.List.{append-nil}
use Rattle.std.specs.Prelude.{ltb, slice_index, IfSome}
use native.Mathlib.Decide.{dec_lt}
use mathlib.Core.Option.{some}
use lib.ListN.{get_elem?}
use Rattle.atomic_table.specs.Table.{Joins}
use Rattle.atomic_table.proofs.Lists.{set_else}
use Rattle.counter_cells.specs.declared.view.Tick.{Tick}
use Rattle.counter_cells.specs.declared.view.Charge.{Charge}
use Rattle.counter_cells.specs.declared.view.OtherGate.{OtherGate}
use Rattle.counter_cells.specs.declared.view.CellView.{CellView}
use Rattle.counter_cells.specs.declared.setup.Setup.{Setup}
use Rattle.rate_types.specs.Sums.{total, one_if, times}
use Rattle.counter_cells.specs.WordIndex.{gate_of, count_of}
use Rattle.counter_cells.specs.Views.{offered, good_on, small_on, noted_on, held_on}
use Rattle.counter_cells.specs.Counting.{pins_on, pins_of, pair_at, charges_of, looks_of}
use Rattle.counter_cells.specs.Steps.{last_moment, empty_view}
use Rattle.counter_cells.specs.InnerSteps.{joined}
use Rattle.counter_cells.specs.Lawful.{offers, other_offers, TicksFit, ClockIsGreatestOffer, FindingsHaveCauses}
use Rattle.counter_cells.specs.Ticks.{own_offers, Sourced}
use Rattle.counter_cells.proofs.Kept.{hits_below, ViewFits, ViewLawful, Rule, Holds}
use Rattle.rate_types.proofs.Sums.{total_set, total_append, each_set, below_no}
use Rattle.counter_cells.proofs.Sums.{each_append, each_map}
use Rattle.counter_cells.proofs.Ticking.{sourced_more}
use Rattle.counter_cells.proofs.SameSums.{lawful_as, rule_as}
use Rattle.counter_cells.proofs.Gates.{pins_le}

own_append : (i m : ℕ) (xs ys : List Tick) → own_offers i m (xs ++ ys) ≡ own_offers i m xs + own_offers i m ys
own_append i m xs ys = total_append (λ (x : Tick). cond (x.number == i) (offered m x) 0) xs ys

-- the ticks of a second view come behind those of the first
sourced_behind : (start : ℕ) (other : ℕ → ℕ → ℕ) (pre before xs : List Tick) → Sourced start other before xs → Sourced start other (pre ++ before) xs
sourced_behind start other pre before [] s = tt
sourced_behind start other pre before (x ∷ xs) s = (
  ⊎_elim inl (λ q. inr (⊎_elim (λ o. inl (subst (λ (l : List Tick). 1 ≤ own_offers x.number x.moment l) (sym (append_assoc pre before (x ∷ [])))
      (let y = own_append x.number x.moment pre (before ++ x ∷ []) in omega arith))) inr q)) s.0,
  subst (λ (l : List Tick). Sourced start other l xs) (sym (append_assoc pre before (x ∷ []))) (sourced_behind start other pre (before ++ x ∷ []) xs s.1),
)

sourced_append : (start : ℕ) (other : ℕ → ℕ → ℕ) (before xs ys : List Tick) → Sourced start other before xs → Sourced start other (before ++ xs) ys
    → Sourced start other before (xs ++ ys)
sourced_append start other before [] ys s u = subst (λ (l : List Tick). Sourced start other l ys) (append-nil before) u
sourced_append start other before (x ∷ xs) ys s u =
    (s.0, sourced_append start other (before ++ x ∷ []) xs ys s.1 (subst (λ (l : List Tick). Sourced start other l ys) (sym (append_assoc before (x ∷ []) xs)) u))

last_append : (m : ℕ) (xs ys : List Tick) → last_moment m (xs ++ ys) ≡ last_moment (last_moment m xs) ys
last_append m [] ys = refl
last_append m (x ∷ xs) ys = last_append x.moment xs ys

last_low : (m k : ℕ) (ts : List Tick) (c : ℕ) → m ≤ c → last_moment k ts ≤ c → last_moment m ts ≤ c
last_low m k [] c a b = a
last_low m k (x ∷ xs) c a b = b

module _ (a : Setup) (id other : ℕ) (v w : CellView) where
  pub joins : (pins_of v ≡ 0) × (pins_of w ≡ 0) → w.claimer ≡ false → w.unmade ≡ 0 → (1 ≤ length v.numbers + one_if v.claimer) × (1 ≤ length w.numbers)
      → Joins (Holds a) id v other w (joined v w) empty_view
  joins bare role none live s hold at apart there = (hold.0, hold.1, hold.2, rule, clock, found)
    where
      both : CellView
      both = joined v w

      Now : List CellView
      Now = set (set s.views id (joined v w)) other empty_view

      was : get_elem? s.views other ≡ some w
      was = sym (set_else s.views id other (joined v w) apart) ∙ there

      gone : (k : ℕ) → (good_on k v ≡ 0) × (pins_on k v ≡ 0) × (good_on k w ≡ 0) × (pins_on k w ≡ 0)
      gone k = let x = pins_le k v in let y = pins_le k w in (omega arith, omega arith, omega arith, omega arith)

      sum : (f : CellView → ℕ) → f (joined v w) ≡ f v + f w → f empty_view ≡ 0 → total f (set (set s.views id (joined v w)) other empty_view) ≡ total f s.views
      sum f same nil = omega (arith, total_set f s.views id v (joined v w) at, total_set f (set s.views id (joined v w)) other w empty_view there)

      sum_le : (f : CellView → ℕ) → f (joined v w) ≤ f v + f w → f empty_view ≡ 0 → total f (set (set s.views id (joined v w)) other empty_view) ≤ total f s.views
      sum_le f same nil = omega (arith, total_set f s.views id v (joined v w) at, total_set f (set s.views id (joined v w)) other w empty_view there)

      pins : (j : ℕ) → total (pins_on j) (set (set s.views id (joined v w)) other empty_view) ≡ total (pins_on j) s.views
      pins j = let g = gone j in sum (pins_on j) (omega arith) refl

      small : (j : ℕ) → total (small_on j) (set (set s.views id (joined v w)) other empty_view) ≤ total (small_on j) s.views
      small j = sum_le (small_on j) (omega arith) refl

      charges : (f : Charge → ℕ) → total (λ (x : CellView). total f x.charges) (set (set s.views id (joined v w)) other empty_view) ≡ total
          (λ (x : CellView). total f x.charges) s.views
      charges f = sum (λ (x : CellView). total f x.charges) (total_append f v.charges w.charges) refl

      looks : (f : (ℕ × ℕ) → ℕ) → total (λ (x : CellView). total f x.looks) (set (set s.views id (joined v w)) other empty_view) ≡ total
          (λ (x : CellView). total f x.looks) s.views
      looks f = sum (λ (x : CellView). total f x.looks) (total_append f v.looks w.looks) refl

      pairs : (f : (ℕ × ℕ) → ℕ) → total (λ (x : CellView). total f x.pairs) (set (set s.views id (joined v w)) other empty_view) ≡ total
          (λ (x : CellView). total f x.pairs) s.views
      pairs f = sum (λ (x : CellView). total f x.pairs) (total_append f v.pairs w.pairs) refl

      law : (x : CellView) → ViewLawful s.views x → ViewLawful (set (set s.views id (joined v w)) other empty_view) x
      law = lawful_as a hold.0 (gate_of s.words) (count_of s.words) s.views (set (set s.views id (joined v w)) other empty_view) hold.3 pins small charges looks pairs

      either_one : (m n : ℕ) → 1 ≤ m + n → (1 ≤ m) ⊎ (1 ≤ n)
      either_one m n h = pick (dec_lt 0 m)
        where
          pick : Dec (0 < m) → (1 ≤ m) ⊎ (1 ≤ n)
          pick (yes d) = inl (omega arith)
          pick (no d) = inr (omega arith)

      fits_both : ViewFits hold.0 (count_of s.words) (joined v w)
      fits_both =
          let f = hold.3.each id v at in
          let g = hold.3.each other w was in
          record {
            pins = (let b = bare.0 in omega arith, let b = bare.0 in omega arith);
            good = λ k c o. let x = f.good k c o in (
              x.0,
              x.1,
              x.2,
              x.3,
              (let p = x.4 in let q = total_append (λ (y : ℕ × ℕ). one_if ((y.0 == k) && (y.1 == c))) v.pairs w.pairs in omega arith),
            );
            under = λ k o. absurd (omega arith);
            once = λ k. (omega arith, omega arith);
            past = λ k c o. ⊎_elim (f.past k c) (g.past k c) (either_one (pair_at k c v) (pair_at k c w)
                (let q = total_append (λ (y : ℕ × ℕ). one_if ((y.0 == k) && (y.1 == c))) v.pairs w.pairs in omega arith));
            charges = λ c o. ⊎_elim (f.charges c) (g.charges c) (either_one (charges_of c v) (charges_of c w)
                (let q = total_append (λ (y : Charge). one_if (y.claim == c)) v.charges w.charges in omega arith));
            looks = λ c o. ⊎_elim (f.looks c) (g.looks c) (either_one (looks_of c v) (looks_of c w)
                (let q = total_append (λ (y : ℕ × ℕ). one_if (y.0 == c)) v.looks w.looks in omega arith));
            idle = λ _ z. absurd (let l = live.1 in let x = length-append v.numbers w.numbers in omega arith);
            claimer = f.claimer;
            caps = λ k u e o.
                let p = f.caps k u e o in
                let q = g.caps k u e o in
                record {
                  charges = each_append (λ (y : Charge). y.claim ≡ u.claim → y.before + y.hits ≤ count_of s.words k) v.charges w.charges p.charges q.charges;
                  looks = each_append (λ (y : ℕ × ℕ). y.0 ≡ u.claim → y.1 ≤ count_of s.words k) v.looks w.looks p.looks q.looks;
                };
          }

      fits_none : ViewFits hold.0 (count_of s.words) empty_view
      fits_none = record {
        pins = (omega arith, omega arith);
        good = λ k c o. absurd (omega arith);
        under = λ k o. absurd (omega arith);
        once = λ k. (omega arith, omega arith);
        past = λ k c o. absurd (omega arith);
        charges = λ c o. absurd (omega arith);
        looks = λ c o. absurd (omega arith);
        idle = λ _ z. (refl, refl);
        claimer = λ e. absurd (true≢false (sym e));
        caps = λ i u d o. record { charges = tt; looks = tt };
      }

      law_both : ViewLawful (set (set s.views id (joined v w)) other empty_view) (joined v w)
      law_both =
          let p = law v (hold.3.lawful id v at) in
          let q = law w (hold.3.lawful other w was) in
          record {
            charges = each_append (λ (y : Charge). (1 ≤ y.hits) × (y.before ≡ total (hits_below y.claim y.before) (set (set s.views id (joined v w)) other empty_view))) v.charges
                w.charges p.charges q.charges;
            looks = each_append (λ (y : ℕ × ℕ). y.1 ≡ total (hits_below y.0 y.1) (set (set s.views id (joined v w)) other empty_view)) v.looks w.looks p.looks q.looks;
          }

      rule : Rule a hold.0 (gate_of s.words) (count_of s.words) (set (set s.views id (joined v w)) other empty_view)
      rule = rule_as a hold.0 (gate_of s.words) (count_of s.words) s.views (set (set s.views id (joined v w)) other empty_view) hold.3 pins small charges looks pairs
          (each_set (λ x. ViewFits hold.0 (count_of s.words) x × ViewLawful (set (set s.views id (joined v w)) other empty_view) x) (set s.views id (joined v w)) other empty_view
          (λ j x _ e. each_set (λ x'. ViewFits hold.0 (count_of s.words) x' × ViewLawful (set (set s.views id (joined v w)) other empty_view) x') s.views id (joined v w)
          (λ j' x' _ e'. (hold.3.each j' x' e', law x' (hold.3.lawful j' x' e'))) (fits_both, law_both) j x e)
          (fits_none, record { charges = tt; looks = tt }))
          (sum (λ x. one_if x.claimer) (let r : one_if w.claimer ≡ 0 = ap one_if role in omega arith) refl)
          (sum (λ x. length x.numbers + x.unmade) (let l = length-append v.numbers w.numbers in omega arith) refl)

      other_sum : (i m : ℕ) → total (other_offers i m) (set (set s.views id (joined v w)) other empty_view) ≡ total (other_offers i m) s.views
      other_sum i m = sum (other_offers i m) (total_append (λ (x : Tick). cond (x.number == i) 0 (offered m x)) v.ticks w.ticks) refl

      old : (j : ℕ) (u : CellView) → get_elem? s.views j ≡ some u → TicksFit a.start (slice_index s.words 0)
          (λ i m. total (other_offers i m) (set (set s.views id (joined v w)) other empty_view)) u
      old j u e =
          let f = hold.4.each j u e in
          record {
            moment = f.moment;
            last = f.last;
            offers = f.offers;
            numbers = f.numbers;
            sourced = sourced_more a.start (λ i m. total (other_offers i m) s.views)
                (λ i m. total (other_offers i m) (set (set s.views id (joined v w)) other empty_view)) [] u.ticks (λ i m. let x = other_sum i m in omega arith) f.sourced;
          }

      clock_both : TicksFit a.start (slice_index s.words 0) (λ i m. total (other_offers i m) (set (set s.views id (joined v w)) other empty_view)) (joined v w)
      clock_both =
          let f = old id v at in
          let g = old other w was in
          let c = hold.4.least in
          let clk = slice_index s.words 0 in
          record {
            moment = last_low v.moment a.start w.ticks (slice_index s.words 0) f.moment (let m = g.moment in let l = g.last (omega arith) in omega arith);
            last = λ _. ap (λ m. last_moment m w.ticks) (f.last live.0) ∙ sym (last_append a.start v.ticks w.ticks);
            offers = each_append (λ (x : Tick). IfSome x.offer (λ m. m ≤ slice_index s.words 0)) v.ticks w.ticks f.offers g.offers;
            numbers = each_append (λ (x : Tick). 1 ≤ times x.number (v.numbers ++ w.numbers)) v.ticks w.ticks
                (each_map (λ (x : Tick). 1 ≤ times x.number v.numbers) (λ (x : Tick). 1 ≤ times x.number (v.numbers ++ w.numbers)) v.ticks
                (λ x o. let y = total_append (λ (n : ℕ). one_if (n == x.number)) v.numbers w.numbers in omega arith) f.numbers)
                (each_map (λ (x : Tick). 1 ≤ times x.number w.numbers) (λ (x : Tick). 1 ≤ times x.number (v.numbers ++ w.numbers)) w.ticks
                (λ x o. let y = total_append (λ (n : ℕ). one_if (n == x.number)) v.numbers w.numbers in omega arith) g.numbers);
            sourced = sourced_append a.start (λ i m. total (other_offers i m) (set (set s.views id (joined v w)) other empty_view)) [] v.ticks w.ticks f.sourced
                (subst (λ (l : List Tick). Sourced a.start (λ i m. total (other_offers i m) (set (set s.views id (joined v w)) other empty_view)) l w.ticks) (append-nil v.ticks)
                (sourced_behind a.start (λ i m. total (other_offers i m) (set (set s.views id (joined v w)) other empty_view)) v.ticks [] w.ticks g.sourced));
          }

      clock : ClockIsGreatestOffer a (slice_index s.words 0) (set (set s.views id (joined v w)) other empty_view)
      clock =
          let c = hold.4 in
          record {
            least = c.least;
            most = c.most;
            top = ⊎_elim inl (λ o. inr (let x = sum (offers (slice_index s.words 0)) (total_append (λ (x : Tick). offered (slice_index s.words 0) x) v.ticks w.ticks) refl in
                omega arith)) c.top;
            each = each_set (TicksFit a.start (slice_index s.words 0) (λ i m. total (other_offers i m) (set (set s.views id (joined v w)) other empty_view)))
                (set s.views id (joined v w)) other empty_view
                (λ j x _ e. each_set (TicksFit a.start (slice_index s.words 0) (λ i m. total (other_offers i m) (set (set s.views id (joined v w)) other empty_view))) s.views id
                (joined v w) (λ j' x' _ e'. old j' x' e') clock_both j x e)
                (record { moment = omega arith; last = λ z. absurd (omega arith); offers = tt; numbers = tt; sourced = tt });
            numbers = λ i.
                let o = c.numbers i in
                let z : one_if (ltb i w.unmade) ≡ 0 = ap (λ n. one_if (ltb i n)) none ∙ below_no i 0 1 0 (omega arith) in
                let z' = below_no i 0 1 0 (omega arith) in
                let x = sum (λ (x : CellView). times i x.numbers + one_if (ltb i x.unmade)) (let y = total_append (λ (n : ℕ). one_if (n == i)) v.numbers w.numbers in omega arith)
                (omega arith) in
                omega arith;
          }

      notes : (k : ℕ) → noted_on k (joined v w) ≡ noted_on k v + noted_on k w
      notes k =
          let p = total_append (λ (y : ℕ × ℕ). one_if (y.0 == k)) v.pairs w.pairs in
          let o = total_append (λ (y : OtherGate). one_if (y.cell == k)) v.others w.others in
          omega arith

      more : (k : ℕ) → (k < a.cells) × (1 ≤ total (noted_on k) s.views)
          → (k < a.cells) × (1 ≤ total (noted_on k) (set (set s.views id (joined v w)) other empty_view))
      more k h = (h.0, (let m = h.1 in let x = sum (noted_on k) (notes k) refl in omega arith))

      found : FindingsHaveCauses a (slice_index s.words 0) (set (set s.views id (joined v w)) other empty_view)
      found =
          let f = hold.5 in
          record {
            noted = each_set (λ x. (k : ℕ) → 1 ≤ pins_on k x → 1 ≤ noted_on k x) (set s.views id (joined v w)) other empty_view
                (λ j x _ e. each_set (λ x'. (k : ℕ) → 1 ≤ pins_on k x' → 1 ≤ noted_on k x') s.views id (joined v w) (λ j' x' _ e'. f.noted j' x' e')
                (λ k o. let n = notes k in let m = f.noted id v at k o in omega arith) j x e)
                (λ k o. absurd (omega arith));
            held = each_set (λ x. (k : ℕ) → 1 ≤ held_on k x → (k < a.cells) × (1 ≤ total (noted_on k) (set (set s.views id (joined v w)) other empty_view)))
                (set s.views id (joined v w)) other empty_view
                (λ j x _ e. each_set (λ x'. (k : ℕ) → 1 ≤ held_on k x' → (k < a.cells) × (1 ≤ total (noted_on k) (set (set s.views id (joined v w)) other empty_view))) s.views id
                (joined v w) (λ j' x' _ e' k o. more k (f.held j' x' e' k o))
                (λ k o. more k (⊎_elim (f.held id v at k) (f.held other w was k) (either_one (held_on k v) (held_on k w)
                (let q = total_append (λ (y : ℕ × ℕ). one_if (y.0 == k)) v.held w.held in omega arith)))) j x e)
                (λ k o. absurd (omega arith));
            heard = each_set (λ x. x.heard ≤ slice_index s.words 0) (set s.views id (joined v w)) other empty_view
                (λ j x _ e. each_set (λ x'. x'.heard ≤ slice_index s.words 0) s.views id (joined v w) (λ j' x' _ e'. f.heard j' x' e') (f.heard id v at) j x e)
                (omega arith);
            idle = each_set (λ x. x.claimer ≡ false → length x.numbers ≡ 0 → (x.pairs ≡ []) × (x.others ≡ [])) (set s.views id (joined v w)) other empty_view
                (λ j x _ e. each_set (λ x'. x'.claimer ≡ false → length x'.numbers ≡ 0 → (x'.pairs ≡ []) × (x'.others ≡ [])) s.views id (joined v w) (λ j' x' _ e'. f.idle j' x' e')
                (λ _ z. absurd (let l = live.1 in let n = length-append v.numbers w.numbers in omega arith)) j x e)
                (λ _ z. (refl, refl));
          }
