-- Each step keeps the rule.
use Rattle.std.proofs.Common.{◌≡◌, ℕ, ◌+◌, ◌%◌, ◌^◌, ◌≤◌, ◌<◌, ◌==◌, List, [], ◌∷◌, ◌++◌, set, refl, sym, ap, ◌∙◌, subst, inl, inr, ⊎_elim, arith, min}
use Rattle.std.specs.Prelude.{slice_index, slice_set}
use mathlib.Core.Option.{some, some-ne-none}
use native.Mathlib.Decide.{dec_lt}
use lib.ListN.{get_elem?}
use Rattle.atomic_table.specs.Table.{State, Me, Act, Valid, Allows, Enters, Splits, Joins, keeps, stepped, carried_after}
use Rattle.atomic_table.proofs.Lists.{at_snoc, set_else}
use Rattle.rate_types.specs.Sums.{total, one_if, times}
use Rattle.rate_types.proofs.Sums.{total_set, total_same, total_append, total_le, each_set}
use Rattle.line_numbers.specs.declared.rule.Setup.{Setup}
use Rattle.line_numbers.specs.declared.rule.DrawerView.{DrawerView}
use Rattle.line_numbers.specs.Rising.{IsDrawnOnce}
use Rattle.line_numbers.specs.Rule.{idle_view, empty_view, drew, told_end, one_less, one_drawer, joined, Drew, Fits, IsLawful}
use Rattle.line_numbers.proofs.Rising.{times_append, once_more}

each_snoc : (P : DrawerView → Type 0) (views : List DrawerView) (w : DrawerView) → ((j : ℕ) (u : DrawerView) → get_elem? views j ≡ some u → P u) → P w → (j : ℕ) (u : DrawerView)
    → get_elem? (views ++ w ∷ []) j ≡ some u → P u
each_snoc P views w others mine j u e = ⊎_elim (λ x. others j u x) (λ (x : w ≡ u). subst P x mine) (at_snoc views w u j e)

abbrev ends_of : DrawerView → ℕ
ends_of v = v.ends

abbrev count_of : DrawerView → ℕ
count_of v = v.drawers

abbrev drawn_of : ℕ → DrawerView → ℕ
drawn_of n v = times n v.drawn

module _ (o : Setup) where
  -- one number more was asked for
  later : (asked : ℕ) (v : DrawerView) → Fits o asked v → Fits o (asked + 1) v
  later asked v fit = record {
    lines = fit.lines;
    least = let a = fit.least in omega arith;
    ended = λ h. let a = fit.ended h in omega arith;
    few = fit.few;
    bare = fit.bare;
  }

  -- there are no more answers of the end than drawers
  few_ends : (s : State ℕ DrawerView) → IsLawful o s → total ends_of s.views ≤ o.drawers
  few_ends s h = let a = total_le ends_of count_of s.views (λ k v e. (h.each k v e).few) in let b = h.drawers in omega arith

  module _ (slots id : ℕ) (me : Me ℕ DrawerView) where
    abbrev Steps : State ℕ DrawerView → Type 0
    Steps s = (w : DrawerView) × (a : Act ℕ) × Valid s.homes me.1 a × IsLawful o (stepped s 0 ((slice_index s.words 0 + 1) % 2 ^ 64) id me.1 w a)
        × (Drew me.0 (slice_index s.words 0) w × (carried_after me.1 a ≡ me.1))

    abbrev counted : (s : State ℕ DrawerView) (asked : ℕ) → s.words ≡ asked ∷ [] → asked + 1 < 2 ^ 64
        → slice_set s.words 0 ((slice_index s.words 0 + 1) % 2 ^ 64) ≡ (asked + 1) ∷ []
    counted s asked e small =
        let wraps : (asked + 1) % 2 ^ 64 ≡ asked + 1 = omega arith in
        ap (λ (ws : List ℕ). slice_set ws 0 ((slice_index ws 0 + 1) % 2 ^ 64)) e ∙ ap (λ (n : ℕ). n ∷ []) wraps

    draws_one : (s : State ℕ DrawerView) (h : IsLawful o s) → get_elem? s.views id ≡ some me.0 → 1 ≤ me.0.drawers → h.asked < o.lines → Steps s
    draws_one s h at one d =
        let v = me.0 in
        let fit = h.each id v at in
        let found : slice_index s.words 0 ≡ h.asked = ap (λ (ws : List ℕ). slice_index ws 0) h.words in
        let w = drew (slice_index s.words 0) v in
        let lines = fit.lines one in
        let least = fit.least in
        let small = h.small in (
          w,
          keeps,
          tt,
          record {
            asked = h.asked + 1;
            words = counted s h.asked h.words (omega arith);
            bound = let b = total_same ends_of s.views id v w at refl in omega arith;
            small = small;
            each = each_set (Fits o (h.asked + 1)) s.views id w (λ j u _ x. later h.asked u (h.each j u x)) (record {
              lines = fit.lines;
              least = omega arith;
              ended = λ e. let a = fit.ended e in omega arith;
              few = fit.few;
              bare = λ none. absurd (omega arith);
            });
            drawers = total_same count_of s.views id v w at refl ∙ h.drawers;
            once = λ n.
                let t = total_set (drawn_of n) s.views id v w at in
                let a = times_append n v.drawn (slice_index s.words 0 ∷ []) in
                let b : one_if (slice_index s.words 0 == n) ≡ one_if (h.asked == n) = ap (λ (x : ℕ). one_if (x == n)) found in
                subst (λ (x : ℕ). IsDrawnOnce (min (h.asked + 1) o.lines) n x)
                (omega arith)
                (once_more h.asked o.lines n (total (drawn_of n) s.views) (h.asked == n) refl d (h.once n));
          },
          (inl (omega arith, omega arith, refl), refl),
        )

    draws_none : (s : State ℕ DrawerView) (h : IsLawful o s) → get_elem? s.views id ≡ some me.0 → 1 ≤ me.0.drawers → me.0.ends ≡ 0 → o.lines ≤ h.asked → Steps s
    draws_none s h at one none d =
        let v = me.0 in
        let fit = h.each id v at in
        let found : slice_index s.words 0 ≡ h.asked = ap (λ (ws : List ℕ). slice_index ws 0) h.words in
        let w = told_end v in
        let lines = fit.lines one in
        let few = few_ends s h in
        let small = h.small in
        let bound = h.bound in (
          w,
          keeps,
          tt,
          record {
            asked = h.asked + 1;
            words = counted s h.asked h.words (omega arith);
            bound = let b = total_set ends_of s.views id v w at in omega arith;
            small = small;
            each = each_set (Fits o (h.asked + 1)) s.views id w (λ j u _ x. later h.asked u (h.each j u x)) (record {
              lines = fit.lines;
              least = let a = fit.least in omega arith;
              ended = λ e. omega arith;
              few = omega arith;
              bare = fit.bare;
            });
            drawers = total_same count_of s.views id v w at refl ∙ h.drawers;
            once = λ n.
                let t = total_same (drawn_of n) s.views id v w at refl in
                let same : min (h.asked + 1) o.lines ≡ min h.asked o.lines = omega arith in
                subst (λ (x : ℕ). IsDrawnOnce (min (h.asked + 1) o.lines) n x) (sym t)
                (subst (λ (x : ℕ). IsDrawnOnce x n (total (drawn_of n) s.views)) (sym same) (h.once n));
          },
          (inr (omega arith, refl), refl),
        )

    pub draws : 1 ≤ me.0.drawers → me.0.ends ≡ 0 → Allows (IsLawful o) slots id me 0 (λ n. (n + 1) % 2 ^ 64) (λ n w. Drew me.0 n w.0 × (w.1 ≡ me.1))
    draws one none s h here at small = split (dec_lt h.asked o.lines)
      where
        split : Dec (h.asked < o.lines) → Steps s
        split (yes d) = draws_one s h at one d
        split (no d) = draws_none s h at one none (omega arith)

  nothing : (asked : ℕ) → Fits o asked empty_view
  nothing asked = record { lines = λ h. absurd (omega arith); least = omega arith; ended = λ h. absurd (omega arith); few = omega arith; bare = λ _. refl }

  -- a seat that stands for no drawer enters
  pub enters : (slots : ℕ) → Enters (IsLawful o) slots 0 (λ n w. ◌≡◌ {A = Me ℕ DrawerView} (w, []) (empty_view, []))
  enters slots s h here small = (
    empty_view,
    record {
      asked = h.asked;
      words = h.words;
      bound = let b = h.bound in let t = total_append ends_of s.views (empty_view ∷ []) in omega arith;
      small = h.small;
      each = each_snoc (Fits o h.asked) s.views empty_view h.each (nothing h.asked);
      drawers = let b = h.drawers in let t = total_append count_of s.views (empty_view ∷ []) in omega arith;
      once = λ n. let t = total_append (drawn_of n) s.views (empty_view ∷ []) in subst (λ (x : ℕ). IsDrawnOnce (min h.asked o.lines) n x) (omega arith) (h.once n);
    },
    refl,
  )

  -- an idle view gives one of its drawers a view of its own
  pub splits : (id : ℕ) (v : DrawerView) → v ≡ idle_view v.lines v.drawers → 1 ≤ v.drawers → Splits (IsLawful o) id v (one_less v) (one_drawer v)
  splits id v idle some_drawer s h at =
      let fit = h.each id v at in
      let left = one_less v in
      let right = one_drawer v in
      let mid = set s.views id left in
      let ends : v.ends ≡ 0 = ap (λ (u : DrawerView). u.ends) idle in
      record {
        asked = h.asked;
        words = h.words;
        bound = let b = h.bound in let t = total_append ends_of mid (right ∷ []) in let u = total_same ends_of s.views id v left at refl in omega arith;
        small = h.small;
        each = each_snoc (Fits o h.asked) mid right
            (each_set (Fits o h.asked) s.views id left (λ j u _ x. h.each j u x) (record {
              lines = λ _. fit.lines some_drawer;
              least = fit.least;
              ended = fit.ended;
              few = omega arith;
              bare = λ _. ap (λ (u : DrawerView). u.drawn) idle;
            }))
            (record { lines = λ _. fit.lines some_drawer; least = omega arith; ended = λ h. absurd (omega arith); few = omega arith; bare = λ _. refl });
        drawers = let b = h.drawers in let t = total_append count_of mid (right ∷ []) in let u = total_set count_of s.views id v left at in omega arith;
        once = λ n.
            let t = total_append (drawn_of n) mid (right ∷ []) in
            let u = total_same (drawn_of n) s.views id v left at refl in
            subst (λ (x : ℕ). IsDrawnOnce (min h.asked o.lines) n x) (omega arith) (h.once n);
      }

  -- one view takes in another's drawers
  pub joins : (id : ℕ) (v : DrawerView) (other : ℕ) (w : DrawerView) → 1 ≤ w.drawers → Joins (IsLawful o) id v other w (joined v w) empty_view
  joins id v other w some_drawer s h at apart there =
      let both = joined v w in
      let was : get_elem? s.views other ≡ some w = sym (set_else s.views id other both apart) ∙ there in
      let fit = h.each id v at in
      let fit' = h.each other w was in
      let mid = set s.views id both in
      record {
        asked = h.asked;
        words = h.words;
        bound =
            let b = h.bound in
            let t = total_set ends_of s.views id v both at in
            let u = total_set ends_of mid other w empty_view there in
            omega arith;
        small = h.small;
        each =
            each_set (Fits o h.asked) mid other empty_view
            (λ j u _ e. each_set (Fits o h.asked) s.views id both (λ j' u' _ e'. h.each j' u' e')
            (record {
              lines = λ _. fit'.lines some_drawer;
              least = fit.least;
              ended = λ e. ended_in (fit.ended) (fit'.ended) e;
              few = let a = fit.few in let b = fit'.few in omega arith;
              bare = λ none. absurd (omega arith);
            }) j u e)
            (nothing h.asked);
        drawers =
            let b = h.drawers in
            let t = total_set count_of s.views id v both at in
            let u = total_set count_of mid other w empty_view there in
            omega arith;
        once = λ n.
            let t = total_set (drawn_of n) s.views id v both at in
            let u = total_set (drawn_of n) mid other w empty_view there in
            let a = times_append n v.drawn w.drawn in
            subst (λ (x : ℕ). IsDrawnOnce (min h.asked o.lines) n x) (omega arith) (h.once n);
      }
    where
      ended_in : (1 ≤ v.ends → o.lines ≤ h.asked) → (1 ≤ w.ends → o.lines ≤ h.asked) → 1 ≤ v.ends + w.ends → o.lines ≤ h.asked
      ended_in a b e = split (dec_lt 0 v.ends)
        where
          split : Dec (0 < v.ends) → o.lines ≤ h.asked
          split (yes d) = a (omega arith)
          split (no d) = b (omega arith)

  pub starts : o.lines + o.drawers + 1 < 2 ^ 64 → IsLawful o (record { words = 0 ∷ []; homes = []; views = idle_view o.lines o.drawers ∷ [] })
  starts few = record {
    asked = 0;
    words = refl;
    bound = omega arith;
    small = few;
    each = λ j u e. each_snoc (Fits o 0) [] (idle_view o.lines o.drawers) (λ i x y. absurd (some-ne-none x (sym y)))
        (record { lines = λ _. refl; least = omega arith; ended = λ h. absurd (omega arith); few = omega arith; bare = λ _. refl }) j u e;
    drawers = omega arith;
    once = λ n. record { drawn = λ h. absurd (omega arith); left = λ h. refl };
  }
