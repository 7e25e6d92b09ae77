-- Each step keeps the rule.
use Rattle.std.proofs.Common.{◌≡◌, ◌≢◌, ℕ, zero, suc, ◌+◌, ◌*◌, ◌%◌, ◌^◌, ◌≤◌, ◌<◌, List, [], ◌∷◌, ◌++◌, set, replicate, refl, sym, ap, ◌∙◌, subst, ⊎_elim, arith}
use Rattle.std.proofs.lemmas.List.{get_or-set_same, get_or-set_other}
use Rattle.std.specs.Prelude.{slice_index, slice_set}
use mathlib.Core.Option.{some, some-ne-none}
use native.Mathlib.Decide.{ℕ_discrete}
use lib.ListN.{get_elem?, length-set, length-replicate}
use lib.Seq.{set-get_or}
use Rattle.atomic_table.specs.Table.{State, Me, Allows, Enters, Splits, Joins, opening, keeps}
use Rattle.atomic_table.proofs.Lists.{at_snoc, set_else}
use Rattle.rate_types.specs.Sums.{total}
use Rattle.rate_types.proofs.Sums.{total_set, total_same, total_append, total_le, total_one, each_set, cond_yes, cond_no}
use Rattle.shared_stats.specs.declared.rule.Setup.{Setup}
use Rattle.shared_stats.specs.declared.rule.AdderView.{AdderView}
use Rattle.shared_stats.specs.Rule.{amount_at, added_to, greatest_at, idle_view, adding, finding, one_less, joined, Fits, IsLawful}
use Rattle.shared_stats.proofs.Amounts.{added_here, added_else, greatest_append, total_times}

each_snoc : (P : AdderView → Type 0) (views : List AdderView) (w : AdderView) → ((j : ℕ) (u : AdderView) → get_elem? views j ≡ some u → P u) → P w → (j : ℕ) (u : AdderView)
    → get_elem? (views ++ w ∷ []) j ≡ some u → P u
each_snoc P views w others mine j u e = ⊎_elim (λ x. others j u x) (λ (x : w ≡ u). subst P x mine) (at_snoc views w u j e)

abbrev added_of : ℕ → AdderView → ℕ
added_of word v = added_to word v.added

abbrev passes_of : AdderView → ℕ
passes_of v = v.passes

-- words that only grew have what was found in them
grown : (words more : List ℕ) → ((word : ℕ) → slice_index words word ≤ slice_index more word) → (v : AdderView) → Fits words v → Fits more v
grown words more grows v fit = record { few = fit.few; found = λ word. let a = fit.found word in let b = grows word in omega arith }

idle : (words : List ℕ) (passes : ℕ) → Fits words (idle_view passes)
idle words passes = record { few = λ word. omega arith; found = λ word. omega arith }

module _ (o : Setup) where
  -- no sum comes near the end of a word
  word_small : (s : State ℕ AdderView) → IsLawful o s → (word : ℕ) → slice_index s.words word ≤ 64 * 2 ^ 57
  word_small s h word =
      let a = total_le (added_of word) (λ v. v.passes * 2 ^ 57) s.views (λ k v e. (h.each k v e).few word) in
      let b = total_times passes_of (2 ^ 57) s.views in
      let c = h.passes in
      let d = h.small in
      let e = h.sums word in
      omega arith

  module _ (slots id i : ℕ) (me : Me ℕ AdderView) where
    module _ (s : State ℕ AdderView) (h : IsLawful o s) (at : get_elem? s.views id ≡ some me.0) (k x : ℕ) (is : x ≡ slice_index s.words i + k)
        (within : i < o.words) (room : added_to i me.0.added + k ≤ me.0.passes * 2 ^ 57) where
      abbrev view : AdderView
      view = adding i k me.0

      here : slice_index (slice_set s.words i x) i ≡ x
      here = get_or-set_same s.words i x 0 (let c = h.count in omega arith)

      other : (word : ℕ) → word ≢ i → slice_index (slice_set s.words i x) word ≡ slice_index s.words word
      other word apart = get_or-set_other s.words i word x 0 apart

      sums_after : (word : ℕ) → Dec (word ≡ i) → slice_index (slice_set s.words i x) word ≡ total (added_of word) (set s.views id view)
      sums_after word (yes e) =
          let a : slice_index (slice_set s.words i x) word ≡ x = ap (slice_index (slice_set s.words i x)) e ∙ here in
          let b = total_set (added_of word) s.views id me.0 view at in
          let c : added_to word (view).added ≡ added_to word me.0.added + k =
          subst (λ (at : ℕ). added_to word (me.0.added ++ record { word = at; amount = k } ∷ []) ≡ added_to word me.0.added + k) e (added_here word k me.0.added) in
          let d = h.sums word in
          let f : slice_index s.words word ≡ slice_index s.words i = ap (slice_index s.words) e in
          omega arith
      sums_after word (no apart) =
          other word apart ∙ h.sums word
          ∙ sym (total_same (added_of word) s.views id me.0 view at (added_else word i k me.0.added (λ e. apart (sym e))))

      grows : (word : ℕ) → Dec (word ≡ i) → slice_index s.words word ≤ slice_index (slice_set s.words i x) word
      grows word (yes e) =
          let a : slice_index (slice_set s.words i x) word ≡ x = ap (slice_index (slice_set s.words i x)) e ∙ here in
          let f : slice_index s.words word ≡ slice_index s.words i = ap (slice_index s.words) e in
          omega arith
      grows word (no apart) = let a = other word apart in omega arith

      few_after : (word : ℕ) → Dec (word ≡ i) → added_to word (view).added ≤ me.0.passes * 2 ^ 57
      few_after word (yes e) =
          let c : added_to word (view).added ≡ added_to word me.0.added + k =
          subst (λ (at : ℕ). added_to word (me.0.added ++ record { word = at; amount = k } ∷ []) ≡ added_to word me.0.added + k) e (added_here word k me.0.added) in
          let d : added_to word me.0.added ≡ added_to i me.0.added = ap (λ (n : ℕ). added_to n me.0.added) e in
          omega arith
      few_after word (no apart) =
          let c = added_else word i k me.0.added (λ e. apart (sym e)) in
          let d = (h.each id me.0 at).few word in
          omega arith

      adds_lawful : IsLawful o (record { words = slice_set s.words i x; homes = s.homes; views = set s.views id view })
      adds_lawful = record {
        count = length-set s.words i x ∙ h.count;
        sums = λ word. sums_after word (ℕ_discrete word i);
        each = each_set (Fits (slice_set s.words i x)) s.views id view
            (λ j u _ e. grown s.words (slice_set s.words i x) (λ word. grows word (ℕ_discrete word i)) u (h.each j u e))
            (record {
              few = λ word. few_after word (ℕ_discrete word i);
              found = λ word. let a = (h.each id me.0 at).found word in let b = grows word (ℕ_discrete word i) in omega arith;
            });
        passes = total_same passes_of s.views id me.0 view at refl ∙ h.passes;
        small = h.small;
      }

    pub adds : (k : ℕ) → i < o.words → added_to i me.0.added + k ≤ me.0.passes * 2 ^ 57 → me.0.passes ≡ 1
        → Allows (IsLawful o) slots id me i (λ n. (n + k) % 2 ^ 64) (λ n w. w ≡ (adding i k me.0, me.1))
    adds k within room one s h slots_are at small =
        let a = word_small s h i in
        let fits : (slice_index s.words i + k) % 2 ^ 64 ≡ slice_index s.words i + k = omega arith in
        (adding i k me.0, keeps, tt, adds_lawful s h at k _ fits within room, refl)

    module _ (s : State ℕ AdderView) (h : IsLawful o s) (at : get_elem? s.views id ≡ some me.0) where
      abbrev number : ℕ
      number = slice_index s.words i

      abbrev looked : AdderView
      looked = finding i number me.0

      found_after : (word : ℕ) → Dec (i ≡ word) → greatest_at word (looked).found ≤ slice_index s.words word
      found_after word (yes e) =
          let a = greatest_append word me.0.found (record { word = i; amount = number } ∷ []) in
          let b = cond_yes i word number 0 e in
          let c = (h.each id me.0 at).found word in
          let d : slice_index s.words i ≡ slice_index s.words word = ap (slice_index s.words) e in
          omega arith
      found_after word (no apart) =
          let a = greatest_append word me.0.found (record { word = i; amount = number } ∷ []) in
          let b = cond_no i word number 0 apart in
          let c = (h.each id me.0 at).found word in
          omega arith

      finds_lawful : IsLawful o (record { words = s.words; homes = s.homes; views = set s.views id looked })
      finds_lawful = record {
        count = h.count;
        sums = λ word. h.sums word ∙ sym (total_same (added_of word) s.views id me.0 looked at refl);
        each = each_set (Fits s.words) s.views id looked (λ j u _ e. h.each j u e)
            (record { few = (h.each id me.0 at).few; found = λ word. found_after word (ℕ_discrete i word) });
        passes = total_same passes_of s.views id me.0 looked at refl ∙ h.passes;
        small = h.small;
      }

    pub finds : Allows (IsLawful o) slots id me i (λ n. n) (λ n w. (w ≡ (finding i n me.0, me.1)) × (added_to i me.0.added ≤ n))
    finds s h slots_are at small =
        let v = finding i (slice_index s.words i) me.0 in
        let same = set-get_or s.words i 0 in (
          v,
          keeps,
          tt,
          subst (λ (ws : List ℕ). IsLawful o (record { words = ws; homes = s.homes; views = set s.views id v })) (sym same) (finds_lawful s h at),
          (refl, let a = total_one (added_of i) s.views id me.0 at in let b = h.sums i in omega arith),
        )

  -- a seat that stands for no pass enters
  pub enters : (slots i : ℕ) → Enters (IsLawful o) slots i (λ n w. ◌≡◌ {A = Me ℕ AdderView} (w, []) (idle_view 0, []))
  enters slots i s h here small = (
    idle_view 0,
    record {
      count = h.count;
      sums = λ word. let t = total_append (added_of word) s.views (idle_view 0 ∷ []) in let b = h.sums word in omega arith;
      each = each_snoc (Fits s.words) s.views (idle_view 0) h.each (idle s.words 0);
      passes = let b = h.passes in let t = total_append passes_of s.views (idle_view 0 ∷ []) in omega arith;
      small = h.small;
    },
    refl,
  )

  -- a view that has done nothing gives one of its passes a view of its own
  pub splits : (id : ℕ) (v : AdderView) → v ≡ idle_view v.passes → 1 ≤ v.passes → Splits (IsLawful o) id v (one_less v) (idle_view 1)
  splits id v bare some_pass s h at =
      let left = one_less v in
      let mid = set s.views id left in
      let none : v.added ≡ [] = ap (λ (u : AdderView). u.added) bare in
      record {
        count = h.count;
        sums = λ word.
            let t = total_append (added_of word) mid (idle_view 1 ∷ []) in
            let u = total_same (added_of word) s.views id v left at refl in
            let b = h.sums word in
            omega arith;
        each = each_snoc (Fits s.words) mid (idle_view 1)
            (each_set (Fits s.words) s.views id left (λ j u _ e. h.each j u e) (record {
              few = λ word. let a : added_to word v.added ≡ 0 = ap (added_to word) none in omega arith;
              found = (h.each id v at).found;
            }))
            (idle s.words 1);
        passes =
            let b = h.passes in
            let t = total_append passes_of mid (idle_view 1 ∷ []) in
            let u = total_set passes_of s.views id v left at in
            omega arith;
        small = h.small;
      }

  -- one view takes in another's passes
  pub joins : (id : ℕ) (v : AdderView) (other : ℕ) (w : AdderView) → Joins (IsLawful o) id v other w (joined v w) (idle_view 0)
  joins id v other w s h at apart there =
      let both = joined v w in
      let was : get_elem? s.views other ≡ some w = sym (set_else s.views id other both apart) ∙ there in
      let mid = set s.views id both in
      record {
        count = h.count;
        sums = λ word.
            let t = total_set (added_of word) s.views id v both at in
            let u = total_set (added_of word) mid other w (idle_view 0) there in
            let a = total_append (amount_at word) v.added w.added in
            let b = h.sums word in
            omega arith;
        each = each_set (Fits s.words) mid other (idle_view 0)
            (λ j u _ e. each_set (Fits s.words) s.views id both (λ j' u' _ e'. h.each j' u' e') (record {
              few = λ word.
                  let a = total_append (amount_at word) v.added w.added in
                  let b = (h.each id v at).few word in
                  let c = (h.each other w was).few word in
                  omega arith;
              found = λ word.
                  let a = greatest_append word v.found w.found in
                  let b = (h.each id v at).found word in
                  let c = (h.each other w was).found word in
                  omega arith;
            }) j u e)
            (idle s.words 0);
        passes =
            let b = h.passes in
            let t = total_set passes_of s.views id v both at in
            let u = total_set passes_of mid other w (idle_view 0) there in
            omega arith;
        small = h.small;
      }

  zero_at : (n word : ℕ) → slice_index (replicate n 0) word ≡ 0
  zero_at zero word = refl
  zero_at (suc n) zero = refl
  zero_at (suc n) (suc word) = zero_at n word

  pub starts : o.passes ≤ 64 → IsLawful o (opening (replicate o.words 0) [] (idle_view o.passes))
  starts few = record {
    count = length-replicate o.words 0;
    sums = λ word. zero_at o.words word;
    each = λ j u e. each_snoc (Fits (replicate o.words 0)) [] (idle_view o.passes) (λ k x y. absurd (some-ne-none x (sym y))) (idle (replicate o.words 0) o.passes) j u e;
    passes = omega arith;
    small = few;
  }
