-- A Held answer of the claimer's that becomes a pass's keeps the rule.
use Rattle.std.proofs.Common.{◌≡◌, ◌⊎◌, ℕ, ◌+◌, ◌≤◌, ◌<◌, ◌==◌, List, [], ◌∷◌, ◌++◌, length, set, false, true≢false, refl, sym, ap, ◌∙◌, arith, ⊎_elim, inl, inr}
use Rattle.std.specs.Prelude.{ltb, slice_index}
use native.Mathlib.Decide.{dec_lt}
use mathlib.Core.Option.{some}
use lib.ListN.{get_elem?}
use Rattle.atomic_table.specs.Table.{Splits, Joins}
use Rattle.atomic_table.proofs.Lists.{set_else}
use Rattle.counter_cells.specs.declared.view.CellView.{CellView}
use Rattle.counter_cells.specs.declared.setup.Setup.{Setup}
use Rattle.rate_types.specs.Sums.{total, one_if, times}
use Rattle.counter_cells.specs.WordIndex.{gate_of, count_of}
use Rattle.counter_cells.specs.Views.{small_on, noted_on, held_on}
use Rattle.counter_cells.specs.Counting.{pins_on}
use Rattle.counter_cells.specs.Steps.{empty_view, held_by}
use Rattle.counter_cells.specs.InnerSteps.{but_last, last_alone, older, newest, without_newest, held_note, told_held}
use Rattle.counter_cells.specs.Lawful.{offers, other_offers, TicksFit, ClockIsGreatestOffer, FindingsHaveCauses}
use Rattle.counter_cells.proofs.Kept.{ViewFits, ViewLawful, Rule, Holds}
use Rattle.rate_types.proofs.Sums.{total_set, total_push, total_append, each_set, below_no}
use Rattle.counter_cells.proofs.Ticking.{sourced_more}
use Rattle.counter_cells.proofs.SameSums.{lawful_as, rule_as}
use Rattle.counter_cells.proofs.Splitting.{each_snoc}

older_from : (x : ℕ × ℕ) (xs : List (ℕ × ℕ)) (p : ℕ × ℕ) → but_last x (xs ++ p ∷ []) ≡ x ∷ xs
older_from x [] p = refl
older_from x (y ∷ ys) p = ap (λ (l : List (ℕ × ℕ)). x ∷ l) (older_from y ys p)

newest_from : (x : ℕ × ℕ) (xs : List (ℕ × ℕ)) (p : ℕ × ℕ) → last_alone x (xs ++ p ∷ []) ≡ p ∷ []
newest_from x [] p = refl
newest_from x (y ∷ ys) p = newest_from y ys p

-- the newest of one more is that one
pub older_of : (xs : List (ℕ × ℕ)) (p : ℕ × ℕ) → older (xs ++ p ∷ []) ≡ xs
older_of [] p = refl
older_of (x ∷ xs) p = older_from x xs p

pub newest_of : (xs : List (ℕ × ℕ)) (p : ℕ × ℕ) → newest (xs ++ p ∷ []) ≡ p ∷ []
newest_of [] p = refl
newest_of (x ∷ xs) p = newest_from x xs p

parts_from : (f : ℕ × ℕ → ℕ) (x : ℕ × ℕ) (xs : List (ℕ × ℕ)) → total f (but_last x xs) + total f (last_alone x xs) ≡ f x + total f xs
parts_from f x [] = omega arith
parts_from f x (y ∷ ys) = let r = parts_from f y ys in omega arith

parts : (f : ℕ × ℕ → ℕ) (xs : List (ℕ × ℕ)) → total f (older xs) + total f (newest xs) ≡ total f xs
parts f [] = refl
parts f (x ∷ xs) = parts_from f x xs

-- the claimer is as it was before its answer, and the pass has it
pub told_back : (v w x : CellView) (k pins : ℕ) → w ≡ held_by k pins v → x ≡ without_newest w → x ≡ v
told_back v w x k pins is e = e ∙ ap without_newest is ∙ ap (λ (l : List (ℕ × ℕ)). record v { held = l }) (older_of v.held (k, pins))

pub told_on : (v w p q : CellView) (k pins : ℕ) → w ≡ held_by k pins v → q ≡ record p { held = p.held ++ newest w.held } → q ≡ held_by k pins p
told_on v w p q k pins is e =
    e ∙ ap (λ (u : CellView). record p { held = p.held ++ newest u.held }) is ∙ ap (λ (l : List (ℕ × ℕ)). record p { held = p.held ++ l }) (newest_of v.held (k, pins))

module _ (a : Setup) (id : ℕ) (v : CellView) where
  pub splits_held : Splits (Holds a) id v (without_newest v) (held_note v)
  splits_held s hold at = (hold.0, hold.1, hold.2, rule, clock, found)
    where
      sum : (f : CellView → ℕ) → f (without_newest v) + f (held_note v) ≡ f v → total f (set s.views id (without_newest v) ++ held_note v ∷ []) ≡ total f s.views
      sum f same = omega (arith, total_push f (set s.views id (without_newest v)) (held_note v), total_set f s.views id v (without_newest v) at)

      mine : ViewFits hold.0 (count_of s.words) (without_newest v)
      mine =
          let f = hold.3.each id v at in
          record {
            pins = f.pins;
            good = f.good;
            under = f.under;
            once = f.once;
            past = f.past;
            charges = f.charges;
            looks = f.looks;
            idle = f.idle;
            claimer = f.claimer;
            caps = λ i u d o. let p = f.caps i u d o in record { charges = p.charges; looks = p.looks };
          }

      new : ViewFits hold.0 (count_of s.words) (held_note v)
      new = record {
        pins = (omega arith, omega arith);
        good = λ k c o. absurd (omega arith);
        under = λ k o. absurd (omega arith);
        once = λ k. (omega arith, omega arith);
        past = λ k c o. absurd (omega arith);
        charges = λ c o. absurd (omega arith);
        looks = λ c o. absurd (omega arith);
        idle = λ _ z. (refl, refl);
        claimer = λ e. absurd (true≢false (sym e));
        caps = λ i u d o. record { charges = tt; looks = tt };
      }

      law : (x : CellView) → ViewLawful s.views x → ViewLawful (set s.views id (without_newest v) ++ held_note v ∷ []) x
      law = lawful_as a hold.0 (gate_of s.words) (count_of s.words) s.views (set s.views id (without_newest v) ++ held_note v ∷ []) hold.3 (λ j. sum (pins_on j) (omega arith))
          (λ j. let x = sum (small_on j) (omega arith) in omega arith) (λ f. sum (λ (x : CellView). total f x.charges) (omega arith))
          (λ f. sum (λ (x : CellView). total f x.looks) (omega arith)) (λ f. sum (λ (x : CellView). total f x.pairs) (omega arith))

      rule : Rule a hold.0 (gate_of s.words) (count_of s.words) (set s.views id (without_newest v) ++ held_note v ∷ [])
      rule = rule_as a hold.0 (gate_of s.words) (count_of s.words) s.views (set s.views id (without_newest v) ++ held_note v ∷ []) hold.3 (λ j. sum (pins_on j) (omega arith))
          (λ j. let x = sum (small_on j) (omega arith) in omega arith) (λ f. sum (λ (x : CellView). total f x.charges) (omega arith))
          (λ f. sum (λ (x : CellView). total f x.looks) (omega arith)) (λ f. sum (λ (x : CellView). total f x.pairs) (omega arith))
          (each_snoc (λ x. ViewFits hold.0 (count_of s.words) x × ViewLawful (set s.views id (without_newest v) ++ held_note v ∷ []) x) (set s.views id (without_newest v))
          (held_note v)
          (each_set (λ x. ViewFits hold.0 (count_of s.words) x × ViewLawful (set s.views id (without_newest v) ++ held_note v ∷ []) x) s.views id (without_newest v)
          (λ j x _ e. (hold.3.each j x e, law x (hold.3.lawful j x e)))
          (mine, (let l = law v (hold.3.lawful id v at) in record { charges = l.charges; looks = l.looks })))
          (new, record { charges = tt; looks = tt }))
          (sum (λ x. one_if x.claimer) (omega arith))
          (sum (λ x. length x.numbers + x.unmade) (omega arith))

      clock : ClockIsGreatestOffer a (slice_index s.words 0) (set s.views id (without_newest v) ++ held_note v ∷ [])
      clock =
          let c = hold.4 in
          record {
            least = c.least;
            most = c.most;
            top = ⊎_elim inl (λ o. inr (let x = sum (offers (slice_index s.words 0)) (omega arith) in omega arith)) c.top;
            each = each_snoc (TicksFit a.start (slice_index s.words 0) (λ i m. total (other_offers i m) (set s.views id (without_newest v) ++ held_note v ∷ [])))
                (set s.views id (without_newest v)) (held_note v)
                (each_set (TicksFit a.start (slice_index s.words 0) (λ i m. total (other_offers i m) (set s.views id (without_newest v) ++ held_note v ∷ []))) s.views id
                (without_newest v)
                (λ j x _ e. old j x e)
                (let f = old id v at in record { moment = f.moment; last = f.last; offers = f.offers; numbers = f.numbers; sourced = f.sourced }))
                (record { moment = omega arith; last = λ z. absurd (omega arith); offers = tt; numbers = tt; sourced = tt });
            numbers = λ i. let o = c.numbers i in let q = below_no i 0 1 0 (omega arith) in
                let x = sum (λ (x : CellView). times i x.numbers + one_if (ltb i x.unmade)) (omega arith) in omega arith;
          }
        where
          old : (j : ℕ) (u : CellView) → get_elem? s.views j ≡ some u → TicksFit a.start (slice_index s.words 0) (λ i m. total (other_offers i m) (set s.views id
              (without_newest v) ++ held_note v ∷ [])) u
          old j u e =
              let f = hold.4.each j u e in
              record {
                moment = f.moment;
                last = f.last;
                offers = f.offers;
                numbers = f.numbers;
                sourced = sourced_more a.start (λ i m. total (other_offers i m) s.views) (λ i m. total (other_offers i m) (set s.views id
                    (without_newest v) ++ held_note v ∷ [])) [] u.ticks
                    (λ i m. let x = sum (other_offers i m) (omega arith) in omega arith) f.sourced;
              }

      more : (k : ℕ) → (k < a.cells) × (1 ≤ total (noted_on k) s.views) → (k < a.cells) × (1 ≤ total (noted_on k) (set s.views id (without_newest v) ++ held_note v ∷ []))
      more k h = (h.0, (let m = h.1 in let x = sum (noted_on k) (omega arith) in omega arith))

      found : FindingsHaveCauses a (slice_index s.words 0) (set s.views id (without_newest v) ++ held_note v ∷ [])
      found =
          let f = hold.5 in
          let p = λ (k : ℕ). parts (λ (y : ℕ × ℕ). one_if (y.0 == k)) v.held in
          record {
            noted = each_snoc (λ x. (k : ℕ) → 1 ≤ pins_on k x → 1 ≤ noted_on k x) (set s.views id (without_newest v)) (held_note v)
                (each_set (λ x. (k : ℕ) → 1 ≤ pins_on k x → 1 ≤ noted_on k x) s.views id (without_newest v) (λ j x _ e. f.noted j x e) (f.noted id v at))
                (λ k o. absurd (omega arith));
            held = each_snoc (λ x. (k : ℕ) → 1 ≤ held_on k x → (k < a.cells) × (1 ≤ total (noted_on k) (set s.views id (without_newest v) ++ held_note v ∷ [])))
                (set s.views id (without_newest v)) (held_note v)
                (each_set (λ x. (k : ℕ) → 1 ≤ held_on k x → (k < a.cells) × (1 ≤ total (noted_on k) (set s.views id (without_newest v) ++ held_note v ∷ []))) s.views id
                (without_newest v)
                (λ j x _ e k o. more k (f.held j x e k o)) (λ k o. more k (f.held id v at k (let q = p k in omega arith))))
                (λ k o. more k (f.held id v at k (let q = p k in omega arith)));
            heard = each_snoc (λ x. x.heard ≤ slice_index s.words 0) (set s.views id (without_newest v)) (held_note v)
                (each_set (λ x. x.heard ≤ slice_index s.words 0) s.views id (without_newest v) (λ j x _ e. f.heard j x e) (f.heard id v at)) (omega arith);
            idle = each_snoc (λ x. x.claimer ≡ false → length x.numbers ≡ 0 → (x.pairs ≡ []) × (x.others ≡ [])) (set s.views id (without_newest v)) (held_note v)
                (each_set (λ x. x.claimer ≡ false → length x.numbers ≡ 0 → (x.pairs ≡ []) × (x.others ≡ [])) s.views id (without_newest v) (λ j x _ e. f.idle j x e)
                (f.idle id v at))
                (λ _ z. (refl, refl));
          }

module _ (a : Setup) (id other : ℕ) (v : CellView) (h : List (ℕ × ℕ)) where
  abbrev w : CellView
  w = record empty_view { held = h }

  pub joins_held : Joins (Holds a) id v other (record empty_view { held = h }) (told_held v (record empty_view { held = h })) empty_view
  joins_held s hold at apart there = (hold.0, hold.1, hold.2, rule, clock, found)
    where
      was : get_elem? s.views other ≡ some w
      was = sym (set_else s.views id other (told_held v w) apart) ∙ there

      sum : (f : CellView → ℕ) → f (told_held v w) ≡ f v + f w → f empty_view ≡ 0 → total f (set (set s.views id (told_held v w)) other empty_view) ≡ total f s.views
      sum f same nil = omega (arith, total_set f s.views id v (told_held v w) at, total_set f (set s.views id (told_held v w)) other w empty_view there)

      fits_mine : ViewFits hold.0 (count_of s.words) (told_held v w)
      fits_mine =
          let f = hold.3.each id v at in
          record {
            pins = f.pins;
            good = f.good;
            under = f.under;
            once = f.once;
            past = f.past;
            charges = f.charges;
            looks = f.looks;
            idle = f.idle;
            claimer = f.claimer;
            caps = λ i u d o. let p = f.caps i u d o in record { charges = p.charges; looks = p.looks };
          }

      fits_none : ViewFits hold.0 (count_of s.words) empty_view
      fits_none = record {
        pins = (omega arith, omega arith);
        good = λ k c o. absurd (omega arith);
        under = λ k o. absurd (omega arith);
        once = λ k. (omega arith, omega arith);
        past = λ k c o. absurd (omega arith);
        charges = λ c o. absurd (omega arith);
        looks = λ c o. absurd (omega arith);
        idle = λ _ z. (refl, refl);
        claimer = λ e. absurd (true≢false (sym e));
        caps = λ i u d o. record { charges = tt; looks = tt };
      }

      law : (x : CellView) → ViewLawful s.views x → ViewLawful (set (set s.views id (told_held v w)) other empty_view) x
      law = lawful_as a hold.0 (gate_of s.words) (count_of s.words) s.views (set (set s.views id (told_held v w)) other empty_view) hold.3 (λ j. sum (pins_on j) (omega arith) refl)
          (λ j. let x = sum (small_on j) (omega arith) refl in omega arith) (λ f. sum (λ (x : CellView). total f x.charges) (omega arith) refl)
          (λ f. sum (λ (x : CellView). total f x.looks) (omega arith) refl) (λ f. sum (λ (x : CellView). total f x.pairs) (omega arith) refl)

      rule : Rule a hold.0 (gate_of s.words) (count_of s.words) (set (set s.views id (told_held v w)) other empty_view)
      rule = rule_as a hold.0 (gate_of s.words) (count_of s.words) s.views (set (set s.views id (told_held v w)) other empty_view) hold.3 (λ j. sum (pins_on j) (omega arith) refl)
          (λ j. let x = sum (small_on j) (omega arith) refl in omega arith) (λ f. sum (λ (x : CellView). total f x.charges) (omega arith) refl)
          (λ f. sum (λ (x : CellView). total f x.looks) (omega arith) refl) (λ f. sum (λ (x : CellView). total f x.pairs) (omega arith) refl)
          (each_set (λ x. ViewFits hold.0 (count_of s.words) x × ViewLawful (set (set s.views id (told_held v w)) other empty_view) x) (set s.views id
          (told_held v w)) other empty_view
          (λ j x _ e. each_set (λ x'. ViewFits hold.0 (count_of s.words) x' × ViewLawful (set (set s.views id (told_held v w)) other empty_view) x') s.views id (told_held v w)
          (λ j' x' _ e'. (hold.3.each j' x' e', law x' (hold.3.lawful j' x' e')))
          (fits_mine, (let l = law v (hold.3.lawful id v at) in record { charges = l.charges; looks = l.looks })) j x e)
          (fits_none, record { charges = tt; looks = tt }))
          (sum (λ x. one_if x.claimer) (omega arith) refl)
          (sum (λ x. length x.numbers + x.unmade) (omega arith) refl)

      old : (j : ℕ) (u : CellView) → get_elem? s.views j ≡ some u → TicksFit a.start (slice_index s.words 0) (λ i m. total (other_offers i m) (set (set s.views id
          (told_held v w)) other empty_view)) u
      old j u e =
          let f = hold.4.each j u e in
          record {
            moment = f.moment;
            last = f.last;
            offers = f.offers;
            numbers = f.numbers;
            sourced = sourced_more a.start (λ i m. total (other_offers i m) s.views) (λ i m. total (other_offers i m) (set (set s.views id
                (told_held v w)) other empty_view)) [] u.ticks
                (λ i m. let x = sum (other_offers i m) (omega arith) refl in omega arith) f.sourced;
          }

      clock : ClockIsGreatestOffer a (slice_index s.words 0) (set (set s.views id (told_held v w)) other empty_view)
      clock =
          let c = hold.4 in
          record {
            least = c.least;
            most = c.most;
            top = ⊎_elim inl (λ o. inr (let x = sum (offers (slice_index s.words 0)) (omega arith) refl in omega arith)) c.top;
            each = each_set (TicksFit a.start (slice_index s.words 0) (λ i m. total (other_offers i m) (set (set s.views id (told_held v w)) other empty_view)))
                (set s.views id (told_held v w)) other empty_view
                (λ j x _ e. each_set (TicksFit a.start (slice_index s.words 0) (λ i m. total (other_offers i m) (set (set s.views id
                (told_held v w)) other empty_view))) s.views id (told_held v w) (λ j' x' _ e'. old j' x' e')
                (let f = old id v at in record { moment = f.moment; last = f.last; offers = f.offers; numbers = f.numbers; sourced = f.sourced }) j x e)
                (record { moment = omega arith; last = λ z. absurd (omega arith); offers = tt; numbers = tt; sourced = tt });
            numbers = λ i. let o = c.numbers i in let q = below_no i 0 1 0 (omega arith) in
                let x = sum (λ (x : CellView). times i x.numbers + one_if (ltb i x.unmade)) (omega arith) (omega arith) in omega arith;
          }

      more : (k : ℕ) → (k < a.cells) × (1 ≤ total (noted_on k) s.views) → (k < a.cells) × (1 ≤ total (noted_on k) (set (set s.views id (told_held v w)) other empty_view))
      more k g = (g.0, (let m = g.1 in let x = sum (noted_on k) (omega arith) refl in omega arith))

      either_one : (m n : ℕ) → 1 ≤ m + n → (1 ≤ m) ⊎ (1 ≤ n)
      either_one m n o = pick (dec_lt 0 m)
        where
          pick : Dec (0 < m) → (1 ≤ m) ⊎ (1 ≤ n)
          pick (yes d) = inl (omega arith)
          pick (no d) = inr (omega arith)

      found : FindingsHaveCauses a (slice_index s.words 0) (set (set s.views id (told_held v w)) other empty_view)
      found =
          let f = hold.5 in
          record {
            noted = each_set (λ x. (k : ℕ) → 1 ≤ pins_on k x → 1 ≤ noted_on k x) (set s.views id (told_held v w)) other empty_view
                (λ j x _ e. each_set (λ x'. (k : ℕ) → 1 ≤ pins_on k x' → 1 ≤ noted_on k x') s.views id (told_held v w) (λ j' x' _ e'. f.noted j' x' e') (f.noted id v at) j x e)
                (λ k o. absurd (omega arith));
            held = each_set (λ x. (k : ℕ) → 1 ≤ held_on k x → (k < a.cells) × (1 ≤ total (noted_on k) (set (set s.views id (told_held v w)) other empty_view)))
                (set s.views id (told_held v w)) other empty_view
                (λ j x _ e. each_set (λ x'. (k : ℕ) → 1 ≤ held_on k x' → (k < a.cells) × (1 ≤ total (noted_on k) (set (set s.views id
                (told_held v w)) other empty_view))) s.views id (told_held v w)
                (λ j' x' _ e' k o. more k (f.held j' x' e' k o))
                (λ k o. more k (⊎_elim (f.held id v at k) (f.held other w was k) (either_one (held_on k v) (held_on k w)
                (let q = total_append (λ (y : ℕ × ℕ). one_if (y.0 == k)) v.held h in omega arith)))) j x e)
                (λ k o. absurd (omega arith));
            heard = each_set (λ x. x.heard ≤ slice_index s.words 0) (set s.views id (told_held v w)) other empty_view
                (λ j x _ e. each_set (λ x'. x'.heard ≤ slice_index s.words 0) s.views id (told_held v w) (λ j' x' _ e'. f.heard j' x' e') (f.heard id v at) j x e)
                (omega arith);
            idle = each_set (λ x. x.claimer ≡ false → length x.numbers ≡ 0 → (x.pairs ≡ []) × (x.others ≡ [])) (set s.views id (told_held v w)) other empty_view
                (λ j x _ e. each_set (λ x'. x'.claimer ≡ false → length x'.numbers ≡ 0 → (x'.pairs ≡ []) × (x'.others ≡ [])) s.views id (told_held v w)
                (λ j' x' _ e'. f.idle j' x' e') (f.idle id v at) j x e)
                (λ _ z. (refl, refl));
          }
