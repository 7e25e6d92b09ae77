-- A pass split off keeps the rule.
use Rattle.std.proofs.Common.{◌≡◌, ℕ, ◌+◌, ◌-◌, ◌≤◌, ◌<◌, ◌==◌, List, [], ◌∷◌, ◌++◌, length, set, true, false, true≢false, sym, subst, arith, ⊎_elim, inl, inr}
use Rattle.std.specs.Prelude.{ltb, slice_index}
use native.Mathlib.Decide.{ℕ_discrete, dec_lt}
use mathlib.Core.Option.{some}
use lib.ListN.{get_elem?}
use Rattle.atomic_table.specs.Table.{Splits}
use Rattle.atomic_table.proofs.Lists.{at_snoc}
use Rattle.counter_cells.specs.declared.view.CellView.{CellView}
use Rattle.counter_cells.specs.declared.setup.Setup.{Setup}
use Rattle.rate_types.specs.Sums.{total, one_if, times}
use Rattle.counter_cells.specs.WordIndex.{gate_of, count_of}
use Rattle.counter_cells.specs.Views.{small_on, noted_on, held_on}
use Rattle.counter_cells.specs.Counting.{pins_on}
use Rattle.counter_cells.specs.InnerSteps.{one_less, new_pass}
use Rattle.counter_cells.specs.Lawful.{offers, other_offers, TicksFit, ClockIsGreatestOffer, FindingsHaveCauses}
use Rattle.counter_cells.proofs.Kept.{ViewFits, ViewLawful, Rule, Holds}
use Rattle.rate_types.proofs.Sums.{total_set, total_push, each_set, cond_yes, cond_no, below_yes, below_no}
use Rattle.counter_cells.proofs.Ticking.{sourced_more}
use Rattle.counter_cells.proofs.SameSums.{lawful_as, rule_as}

pub each_snoc : {A : Type 0} (P : A → Type 0) (views : List A) (w : A) → ((j : ℕ) (u : A) → get_elem? views j ≡ some u → P u) → P w → (j : ℕ) (u : A)
    → get_elem? (views ++ w ∷ []) j ≡ some u → P u
each_snoc P views w others mine j u e = ⊎_elim (λ x. others j u x) (λ (x : w ≡ u). subst P x mine) (at_snoc views w u j e)

module _ (a : Setup) (id : ℕ) (v : CellView) where
  pub splits : 1 ≤ v.unmade → v.claimer ≡ true → v.moment ≡ a.start → Splits (Holds a) id v (one_less v) (new_pass v)
  splits some_left role moment s hold at =
      (hold.0, hold.1, hold.2, rule, clock, found)
    where
      sum : (f : CellView → ℕ) → f (one_less v) + f (new_pass v) ≡ f v → total f (set s.views id (one_less v) ++ new_pass v ∷ []) ≡ total f s.views
      sum f same = omega (arith, total_push f (set s.views id (one_less v)) (new_pass v), total_set f s.views id v (one_less v) at)

      mine : ViewFits hold.0 (count_of s.words) (one_less v)
      mine =
          let f = hold.3.each id v at in
          record {
            pins = f.pins;
            good = f.good;
            under = f.under;
            once = f.once;
            past = f.past;
            charges = f.charges;
            looks = f.looks;
            idle = f.idle;
            claimer = f.claimer;
            caps = λ i u d o. let p = f.caps i u d o in record { charges = p.charges; looks = p.looks };
          }

      new : ViewFits hold.0 (count_of s.words) (new_pass v)
      new = record {
        pins = (omega arith, omega arith);
        good = λ k c o. absurd (omega arith);
        under = λ k o. absurd (omega arith);
        once = λ k. (omega arith, omega arith);
        past = λ k c o. absurd (omega arith);
        charges = λ c o. absurd (omega arith);
        looks = λ c o. absurd (omega arith);
        idle = λ _ z. absurd (omega arith);
        claimer = λ e. absurd (true≢false (sym e));
        caps = λ i u d o. record { charges = tt; looks = tt };
      }

      law : (x : CellView) → ViewLawful s.views x → ViewLawful (set s.views id (one_less v) ++ new_pass v ∷ []) x
      law = lawful_as a hold.0 (gate_of s.words) (count_of s.words) s.views (set s.views id (one_less v) ++ new_pass v ∷ []) hold.3 (λ j. sum (pins_on j) (omega arith))
          (λ j. let x = sum (small_on j) (omega arith) in omega arith) (λ f. sum (λ (x : CellView). total f x.charges) (omega arith))
          (λ f. sum (λ (x : CellView). total f x.looks) (omega arith)) (λ f. sum (λ (x : CellView). total f x.pairs) (omega arith))

      rule : Rule a hold.0 (gate_of s.words) (count_of s.words) (set s.views id (one_less v) ++ new_pass v ∷ [])
      rule = rule_as a hold.0 (gate_of s.words) (count_of s.words) s.views (set s.views id (one_less v) ++ new_pass v ∷ []) hold.3 (λ j. sum (pins_on j) (omega arith))
          (λ j. let x = sum (small_on j) (omega arith) in omega arith) (λ f. sum (λ (x : CellView). total f x.charges) (omega arith))
          (λ f. sum (λ (x : CellView). total f x.looks) (omega arith)) (λ f. sum (λ (x : CellView). total f x.pairs) (omega arith))
          (each_snoc (λ x. ViewFits hold.0 (count_of s.words) x × ViewLawful (set s.views id (one_less v) ++ new_pass v ∷ []) x) (set s.views id (one_less v)) (new_pass v)
          (each_set (λ x. ViewFits hold.0 (count_of s.words) x × ViewLawful (set s.views id (one_less v) ++ new_pass v ∷ []) x) s.views id (one_less v)
          (λ j x _ e. (hold.3.each j x e, law x (hold.3.lawful j x e)))
          (mine, (let l = law v (hold.3.lawful id v at) in record { charges = l.charges; looks = l.looks })))
          (new, record { charges = tt; looks = tt }))
          (sum (λ x. one_if x.claimer) (omega arith))
          (sum (λ x. length x.numbers + x.unmade) (omega arith))

      below : (i u : ℕ) → 1 ≤ u → one_if (ltb i (u - 1)) + one_if ((u - 1) == i) ≡ one_if (ltb i u)
      below i u one = pick (dec_lt i (u - 1)) (ℕ_discrete (u - 1) i)
        where
          pick : Dec (i < u - 1) → Dec (u - 1 ≡ i) → one_if (ltb i (u - 1)) + one_if ((u - 1) == i) ≡ one_if (ltb i u)
          pick (yes d) e = let x = below_yes i (u - 1) 1 0 d in let y = cond_no (u - 1) i 1 0 (λ q. absurd (omega arith)) in let z = below_yes i u 1 0 (omega arith) in
              omega arith
          pick (no n) (yes e) = let x = below_no i (u - 1) 1 0 (omega arith) in let y = cond_yes (u - 1) i 1 0 e in let z = below_yes i u 1 0 (omega arith) in omega arith
          pick (no n) (no m) = let x = below_no i (u - 1) 1 0 (omega arith) in let y = cond_no (u - 1) i 1 0 m in let z = below_no i u 1 0 (omega arith) in omega arith

      clock : ClockIsGreatestOffer a (slice_index s.words 0) (set s.views id (one_less v) ++ new_pass v ∷ [])
      clock =
          let c = hold.4 in
          record {
            least = c.least;
            most = c.most;
            top = ⊎_elim inl (λ o. inr (let x = sum (offers (slice_index s.words 0)) (omega arith) in omega arith)) c.top;
            each = each_snoc (TicksFit a.start (slice_index s.words 0) (λ i m. total (other_offers i m) (set s.views id (one_less v) ++ new_pass v ∷ [])))
                (set s.views id (one_less v)) (new_pass v)
                (each_set (TicksFit a.start (slice_index s.words 0) (λ i m. total (other_offers i m) (set s.views id (one_less v) ++ new_pass v ∷ []))) s.views id (one_less v)
                (λ j x _ e. old j x e)
                (let f = old id v at in record { moment = f.moment; last = f.last; offers = f.offers; numbers = f.numbers; sourced = f.sourced }))
                (record { moment = (let l = c.least in omega arith); last = λ _. moment; offers = tt; numbers = tt; sourced = tt });
            numbers = λ i. let o = c.numbers i in let b = below i v.unmade some_left in let q = below_no i 0 1 0 (omega arith) in
                let x = sum (λ (x : CellView). times i x.numbers + one_if (ltb i x.unmade)) (omega arith) in omega arith;
          }
        where
          old : (j : ℕ) (u : CellView) → get_elem? s.views j ≡ some u
              → TicksFit a.start (slice_index s.words 0) (λ i m. total (other_offers i m) (set s.views id (one_less v) ++ new_pass v ∷ [])) u
          old j u e =
              let f = hold.4.each j u e in
              record {
                moment = f.moment;
                last = f.last;
                offers = f.offers;
                numbers = f.numbers;
                sourced = sourced_more a.start (λ i m. total (other_offers i m) s.views)
                    (λ i m. total (other_offers i m) (set s.views id (one_less v) ++ new_pass v ∷ [])) [] u.ticks
                    (λ i m. let x = sum (other_offers i m) (omega arith) in omega arith) f.sourced;
              }

      found : FindingsHaveCauses a (slice_index s.words 0) (set s.views id (one_less v) ++ new_pass v ∷ [])
      found =
          let f = hold.5 in
          record {
            noted = each_snoc (λ x. (k : ℕ) → 1 ≤ pins_on k x → 1 ≤ noted_on k x) (set s.views id (one_less v)) (new_pass v)
                (each_set (λ x. (k : ℕ) → 1 ≤ pins_on k x → 1 ≤ noted_on k x) s.views id (one_less v) (λ j x _ e. f.noted j x e) (f.noted id v at))
                (λ k o. absurd (omega arith));
            held = each_snoc (λ x. (k : ℕ) → 1 ≤ held_on k x → (k < a.cells) × (1 ≤ total (noted_on k) (set s.views id (one_less v) ++ new_pass v ∷ [])))
                (set s.views id (one_less v)) (new_pass v)
                (each_set (λ x. (k : ℕ) → 1 ≤ held_on k x → (k < a.cells) × (1 ≤ total (noted_on k) (set s.views id (one_less v) ++ new_pass v ∷ []))) s.views id (one_less v)
                (λ j x _ e k o. more k (f.held j x e k o)) (λ k o. more k (f.held id v at k o)))
                (λ k o. absurd (omega arith));
            heard = each_snoc (λ x. x.heard ≤ slice_index s.words 0) (set s.views id (one_less v)) (new_pass v)
                (each_set (λ x. x.heard ≤ slice_index s.words 0) s.views id (one_less v) (λ j x _ e. f.heard j x e) (f.heard id v at)) (omega arith);
            idle = each_snoc (λ x. x.claimer ≡ false → length x.numbers ≡ 0 → (x.pairs ≡ []) × (x.others ≡ [])) (set s.views id (one_less v)) (new_pass v)
                (each_set (λ x. x.claimer ≡ false → length x.numbers ≡ 0 → (x.pairs ≡ []) × (x.others ≡ [])) s.views id (one_less v) (λ j x _ e. f.idle j x e) (f.idle id v at))
                (λ _ z. absurd (omega arith));
          }
        where
          more : (k : ℕ) → (k < a.cells) × (1 ≤ total (noted_on k) s.views) → (k < a.cells) × (1 ≤ total (noted_on k) (set s.views id (one_less v) ++ new_pass v ∷ []))
          more k h = (h.0, (let m = h.1 in let x = sum (noted_on k) (omega arith) in omega arith))
