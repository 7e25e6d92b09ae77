-- Each step keeps the rule.
use Rattle.std.proofs.Common.{◌≡◌, ◌≢◌, ℕ, zero, suc, ◌+◌, ◌%◌, ◌^◌, ◌≤◌, ◌<◌, ◌==◌, List, [], ◌∷◌, ◌++◌, length, set, Bool, true, false, true≢false, refl, sym, ap, ◌∙◌, subst}
use Rattle.std.proofs.Common.{⊎_elim, inl, inr, arith, length-append, eq-eqb, ne_eqb}
use Rattle.std.specs.Prelude.{slice_index, slice_set, Some, None}
use Rattle.std.specs.declared.option.Option.{Option}
use mathlib.Core.Option.{some, some-ne-none}
use mathlib.Core.List.{IsPrefix}
use mathlib.Core.Logic.{dite}
use native.Mathlib.Decide.{ℕ_discrete}
use prog.Atomic.{either}
use lib.ListN.{get_elem?}
use Rattle.atomic_table.specs.Table.{State, Me, Allows, Enters, Splits, Joins, Act, Valid, keeps, takes, gives, stepped, put_back, carried_after, rest}
use Rattle.atomic_table.proofs.Lists.{at_snoc, set_else}
use Rattle.told_list.specs.declared.rule.Setup.{Setup}
use Rattle.told_list.specs.declared.rule.TokenView.{TokenView}
use Rattle.rate_types.specs.Sums.{total, one_if, times}
use Rattle.told_list.specs.Lists.{count_from, IsOwnedOnce}
use Rattle.told_list.specs.Rule.{first_view, loaded, Loaded, slot_taken, begun, added, ended, one_less, one_token, joined, empty_view, Fits, Began, ValueState, free, taken}
use Rattle.told_list.specs.Rule.{awaited, IsLast, IsLawful, Justifies}
use Rattle.rate_types.proofs.Sums.{total_set, total_same, total_append, total_one, total_two, total_all, each_set}
use Rattle.told_list.proofs.Sums.{prefix_self, prefix_more, prefix_length, each_snoc, one_true}
use Rattle.told_list.proofs.Sums.{true_one, false_none, times_from, times_append, owned_more}

same_words : (ws : List ℕ) (i a b : ℕ) → i ≤ 1 → ws ≡ a ∷ b ∷ [] → slice_set ws i (slice_index ws i) ≡ ws
same_words ws zero a b le e = subst (λ (xs : List ℕ). slice_set xs 0 (slice_index xs 0) ≡ xs) (sym e) refl
same_words ws (suc zero) a b le e = subst (λ (xs : List ℕ). slice_set xs 1 (slice_index xs 1) ≡ xs) (sym e) refl
same_words ws (suc (suc i)) a b le e = absurd (omega arith)

one_home : {A : Type 0} (hs : List A) (y : A) → length hs ≡ 1 → slice_set hs 0 y ≡ y ∷ []
one_home [] y e = absurd (omega arith)
one_home (x ∷ []) y e = refl
one_home (x ∷ z ∷ zs) y e = absurd (omega arith)

not_both : (b : Bool) → b ≡ false → b ≡ true → ⊥
not_both b off on = true≢false (sym on ∙ off)

no_item : {A : Type 0} (i : ℕ) (x : A) → get_elem? [] i ≡ some x → ⊥
no_item i x e = some-ne-none x (sym e)

module _ {K T F : Type 0} (items : K → List T) (fixed : K → F) (most : ℕ) (o : Setup K) where
  abbrev Law : State (Option K) (TokenView T) → Type 0
  Law s = IsLawful items fixed most o s

  abbrev holding : List (TokenView T) → ℕ
  holding vs = total (λ u. one_if u.holds) vs

  abbrev awaiting : List (TokenView T) → ℕ
  awaiting vs = total (λ u. one_if u.unfilled) vs

  abbrev Located : List T → ℕ → ℕ → ℕ → State (Option K) (TokenView T) → Type 0
  Located log g h p s = ValueState items fixed o.kept log g h p s

  place_same : (log : List T) (g h p h' p' : ℕ) (s s' : State (Option K) (TokenView T)) → s'.homes ≡ s.homes → h' ≡ h → p' ≡ p → Located log g h p s → Located log g h' p' s'
  place_same log g h p h' p' s s' e a b (free x y z k at is same) = free x (a ∙ y) (b ∙ z) k (e ∙ at) is same
  place_same log g h p h' p' s s' e a b (taken x y z) = taken x (a ∙ y) (b ∙ z)
  place_same log g h p h' p' s s' e a b (awaited x y z at) = awaited x (a ∙ y) (b ∙ z) (e ∙ at)

  -- while one view has its turn
  in_turn : (log : List T) (g h p : ℕ) (s : State (Option K) (TokenView T)) → 1 ≤ h → Located log g h p s → (g ≡ 1) × (h ≡ 1) × (p ≡ 0)
  in_turn log g h p s le (free x y z k at is same) = absurd (omega arith)
  in_turn log g h p s le (taken x y z) = (x, y, z)
  in_turn log g h p s le (awaited x y z at) = absurd (omega arith)

  -- before the value lies in the table
  in_wait : (log : List T) (g h p : ℕ) (s : State (Option K) (TokenView T)) → 1 ≤ p → Located log g h p s → (h ≡ 0) × (p ≡ 1) × (s.homes ≡ some None ∷ [])
  in_wait log g h p s le (free x y z k at is same) = absurd (omega arith)
  in_wait log g h p s le (taken x y z) = absurd (omega arith)
  in_wait log g h p s le (awaited x y z at) = (y, z, at)

  -- while no view has its turn
  at_rest : (log : List T) (g h p : ℕ) (s : State (Option K) (TokenView T)) → h ≡ 0 → p ≡ 0 → Located log g h p s → g ≡ 0
  at_rest log g h p s a b (free x y z k at is same) = x
  at_rest log g h p s a b (taken x y z) = absurd (omega arith)
  at_rest log g h p s a b (awaited x y z at) = absurd (omega arith)

  owned_same : (log : List T) (vs : List (TokenView T)) (id : ℕ) (v w : TokenView T) → get_elem? vs id ≡ some v → w.own ≡ v.own
      → ((p : ℕ) → IsOwnedOnce (length (items o.kept)) (length log) p (total (λ u. times p u.own) vs)) → (p : ℕ)
      → IsOwnedOnce (length (items o.kept)) (length log) p (total (λ u. times p u.own) (set vs id w))
  owned_same log vs id v w at e h p =
      subst (λ (n : ℕ). IsOwnedOnce (length (items o.kept)) (length log) p n)
      (sym (total_same (λ (u : TokenView T). times p u.own) vs id v w at (ap (λ (l : List ℕ). times p l) e))) (h p)

  -- a view changes, and neither the words nor the value
  unmoved : (s : State (Option K) (TokenView T)) (h : Law s) (id : ℕ) (v w : TokenView T) (ws : List ℕ) → get_elem? s.views id ≡ some v → Fits h.log w → w.holds ≡ v.holds
      → w.unfilled ≡ v.unfilled → w.tokens ≡ v.tokens → w.own ≡ v.own → ws ≡ s.words → Law (record { words = ws; homes = s.homes; views = set s.views id w })
  unmoved s h id v w ws at fit a b c d e = record {
    log = h.log;
    lock = h.lock;
    words = e ∙ h.words;
    few = h.few;
    begins = h.begins;
    each = each_set (Fits h.log) s.views id w (λ j u _ x. h.each j u x) fit;
    place = place_same h.log h.lock _ _ _ _ s _ refl (total_same (λ (u : TokenView T). one_if u.holds) s.views id v w at (ap one_if a))
        (total_same (λ (u : TokenView T). one_if u.unfilled) s.views id v w at (ap one_if b)) h.place;
    tokens = total_same (λ (u : TokenView T). u.tokens) s.views id v w at c ∙ h.tokens;
    places = owned_same h.log s.views id v w at d h.places;
  }

  pub loads_length : (slots id : ℕ) (me : Me (Option K) (TokenView T)) → Allows Law slots id me 0 (λ n. n) (λ n w. Loaded most me.0 n w.0 × (w.1 ≡ me.1))
  loads_length slots id me s h here at small =
      let v = me.0 in
      let n = slice_index s.words 0 in
      let is : n ≡ length h.log = ap (λ (ws : List ℕ). slice_index ws 0) h.words in
      let fit = h.each id v at in (
        loaded v n,
        keeps,
        tt,
        unmoved s h id v (loaded v n) _ at (record {
          known = fit.known;
          shown = omega (arith, is);
          start = fit.start;
          whole = fit.whole;
          joined_lists = fit.joined_lists;
          bare = fit.bare;
        }) refl refl refl refl (same_words s.words 0 _ _ (omega arith) h.words),
        ((refl, omega (arith, prefix_length v.known h.log fit.known), omega (arith, h.few)), refl),
      )

  pub unfilled : (slots id : ℕ) (me : Me (Option K) (TokenView T)) → me.1 ≡ [] → me.0.unfilled ≡ true
      → Allows Law slots id me 1 (λ _. 1) (λ _ w. w ≡ (slot_taken me.0, (0, None) ∷ []))
  unfilled slots id me bare on s h here at small =
      let v = me.0 in
      let w = slot_taken v in
      let fit = h.each id v at in
      let one : one_if v.unfilled ≡ 1 = true_one v.unfilled on in
      let p = in_wait h.log h.lock _ _ s (omega (arith, total_one (λ (u : TokenView T). one_if u.unfilled) s.views id v at)) h.place in
      let idle : one_if v.holds ≡ 0 = omega (arith, total_one (λ (u : TokenView T). one_if u.holds) s.views id v at) in (
        w,
        takes 0 None,
        ap (λ hs. get_elem? hs 0) p.2,
        record {
          log = h.log;
          lock = 1;
          words = ap (λ (ws : List ℕ). slice_set ws 1 1) h.words;
          few = h.few;
          begins = h.begins;
          each = each_set (Fits h.log) s.views id w (λ j u _ x. h.each j u x)
              (record {
                known = fit.known;
                shown = fit.shown;
                start = λ _. fit.start on;
                whole = λ _. fit.start on;
                joined_lists = fit.joined_lists;
                bare = λ none. absurd (not_both v.unfilled (fit.bare none).2 on);
              });
          place = taken refl (omega (arith, total_set (λ (u : TokenView T). one_if u.holds) s.views id v w at))
              (omega (arith, total_set (λ (u : TokenView T). one_if u.unfilled) s.views id v w at));
          tokens = total_same (λ (u : TokenView T). u.tokens) s.views id v w at refl ∙ h.tokens;
          places = owned_same h.log s.views id v w at refl h.places;
        },
        ap (λ (c : List (ℕ × Option K)). (w, (0, None) ∷ c)) bare,
      )

  module _ (slots id : ℕ) (me : Me (Option K) (TokenView T)) (fact : K → Type 0) (busy : Type 0) where
    abbrev Steps : State (Option K) (TokenView T) → Type 0
    Steps s = (w : TokenView T) × (a : Act (Option K)) × Valid s.homes me.1 a × Law (stepped s 1 (either (slice_index s.words 1 == 0) 1 (slice_index s.words 1)) id me.1 w a)
        × Began items fixed fact busy me (slice_index s.words 1) (w, carried_after me.1 a)

    found_free : (s : State (Option K) (TokenView T)) (h : Law s) → me.1 ≡ [] → 1 ≤ me.0.tokens → Justifies items fixed most o id me.0 fact busy → get_elem? s.views id ≡ some me.0
        → slice_index s.words 1 ≡ 0 → Located h.log h.lock (holding s.views) (awaiting s.views) s → Steps s
    found_free s h bare some_token justified at hit (free g a b k there is same) =
        let v = me.0 in
        let w = begun (items k) v in
        let fit = h.each id v at in
        let x = slice_index s.words 1 in
        let idle : one_if v.holds ≡ 0 = omega (arith, total_one (λ (u : TokenView T). one_if u.holds) s.views id v at) in (
          w,
          takes 0 (Some k),
          ap (λ hs. get_elem? hs 0) there,
          subst (λ b. Law (stepped s 1 (either b 1 x) id me.1 w (takes 0 (Some k)))) (sym (eq-eqb x 0 hit))
              (record {
                log = h.log;
                lock = 1;
                words = ap (λ (ws : List ℕ). slice_set ws 1 1) h.words;
                few = h.few;
                begins = h.begins;
                each = each_set (Fits h.log) s.views id w (λ j u _ y. h.each j u y)
                    (record {
                      known = subst (λ (l : List T). IsPrefix (items k) l) is (prefix_self (items k));
                      shown = fit.shown;
                      start = λ _. is;
                      whole = λ _. is;
                      joined_lists = fit.joined_lists;
                      bare = λ none. absurd (omega arith);
                    });
                place = taken refl (omega (arith, total_set (λ (u : TokenView T). one_if u.holds) s.views id v w at))
                    (omega (arith, total_set (λ (u : TokenView T). one_if u.unfilled) s.views id v w at));
                tokens = total_same (λ (u : TokenView T). u.tokens) s.views id v w at refl ∙ h.tokens;
                places = owned_same h.log s.views id v w at refl h.places;
              }),
          inl (
            hit,
            k,
            ap (λ (c : List (ℕ × Option K)). (w, (0, Some k) ∷ c)) bare,
            subst (λ (l : List T). IsPrefix v.known l) (sym is) fit.known,
            subst (λ (l : List T). v.shown ≤ length l) (sym is) fit.shown,
            justified.found s h at k is same,
          ),
        )
    found_free s h bare some_token justified at hit (taken g a b) = let e : slice_index s.words 1 ≡ h.lock = ap (λ (ws : List ℕ). slice_index ws 1) h.words in absurd (omega arith)
    found_free s h bare some_token justified at hit (awaited g a b there) =
        let e : slice_index s.words 1 ≡ h.lock = ap (λ (ws : List ℕ). slice_index ws 1) h.words in absurd (omega arith)

    found_going : (s : State (Option K) (TokenView T)) (h : Law s) → Justifies items fixed most o id me.0 fact busy → get_elem? s.views id ≡ some me.0 → slice_index s.words 1 ≢ 0
        → Steps s
    found_going s h justified at miss =
        let x = slice_index s.words 1 in
        let e : x ≡ h.lock = ap (λ (ws : List ℕ). slice_index ws 1) h.words in (
          me.0,
          keeps,
          tt,
          subst (λ b. Law (stepped s 1 (either b 1 x) id me.1 me.0 keeps)) (sym (ne_eqb x 0 miss))
              (unmoved s h id me.0 me.0 _ at (h.each id me.0 at) refl refl refl refl (same_words s.words 1 _ _ (omega arith) h.words)),
          inr (miss, refl, justified.going s h at (λ none. miss (e ∙ none))),
        )

    pub begins : me.1 ≡ [] → 1 ≤ me.0.tokens → Justifies items fixed most o id me.0 fact busy → Allows Law slots id me 1 (λ n. either (n == 0) 1 n) (Began items fixed fact busy me)
    begins bare some_token justified s h here at small =
        dite (ℕ_discrete (slice_index s.words 1) 0) (λ hit. found_free s h bare some_token justified at hit h.place) (λ miss. found_going s h justified at miss)

  pub adds : (slots id k : ℕ) (xs : List T) (me : Me (Option K) (TokenView T)) → me.0.holds ≡ true → length xs ≡ k → length me.0.known + k ≤ most → length me.0.known + k < 2 ^ 64
      → Allows Law slots id me 0 (λ n. (n + k) % 2 ^ 64) (λ n w. w ≡ (added xs me.0, me.1))
  adds slots id k xs me on count room small_enough s h here at small =
      let v = me.0 in
      let log = h.log in
      let w = added xs v in
      let now : List T = log ++ xs in
      let fit = h.each id v at in
      let whole : v.known ≡ log = fit.whole on in
      let len : length v.known ≡ length log = ap length whole in
      let longer : length now ≡ length log + k = omega (arith, length-append log xs) in
      let wraps : (length log + k) % 2 ^ 64 ≡ length now = omega arith in
      let one : one_if v.holds ≡ 1 = true_one v.holds on in
      let t = in_turn log h.lock _ _ s (omega (arith, total_one (λ (u : TokenView T). one_if u.holds) s.views id v at)) h.place in
      let same : v.known ++ xs ≡ now = ap (λ (l : List T). l ++ xs) whole in (
        w,
        keeps,
        tt,
        record {
          log = now;
          lock = h.lock;
          words = ap (λ (ws : List ℕ). slice_set ws 0 ((slice_index ws 0 + k) % 2 ^ 64)) h.words ∙ ap (λ (n : ℕ). n ∷ h.lock ∷ []) wraps;
          few = omega arith;
          begins = let b = h.begins in omega arith;
          each =
              each_set (Fits now) s.views id w
              (λ j u apart e.
              let f = h.each j u e in
              let rests : u.holds ≡ false = one_true u.holds (let two = total_two (λ (x : TokenView T). one_if x.holds) s.views id j v u apart at e in omega arith) in
              let done : u.unfilled ≡ false = one_true u.unfilled (let b = total_one (λ (x : TokenView T). one_if x.unfilled) s.views j u e in omega arith) in
              record {
                known = prefix_more u.known log xs f.known;
                shown = let b = f.shown in omega arith;
                start = λ y. absurd (not_both u.unfilled done y);
                whole = λ y. absurd (not_both u.holds rests y);
                joined_lists = λ i ys y. prefix_more ys log xs (f.joined_lists i ys y);
                bare = f.bare;
              })
              (record {
                known = subst (λ (l : List T). IsPrefix (v.known ++ xs) l) same (prefix_self (v.known ++ xs));
                shown = let b = fit.shown in omega arith;
                start = λ _. same;
                whole = λ _. same;
                joined_lists = λ i ys y. prefix_more ys log xs (fit.joined_lists i ys y);
                bare = λ none. absurd (not_both v.holds (fit.bare none).1 on);
              });
          place = taken t.0 (total_same (λ (u : TokenView T). one_if u.holds) s.views id v w at refl ∙ t.1)
              (total_same (λ (u : TokenView T). one_if u.unfilled) s.views id v w at refl ∙ t.2);
          tokens = total_same (λ (u : TokenView T). u.tokens) s.views id v w at refl ∙ h.tokens;
          places = λ p.
              let new = times_from p (length v.known) (length xs) in
              let ts = total_set (λ (u : TokenView T). times p u.own) s.views id v w at in
              let ta = times_append p v.own (count_from (length v.known) (length xs)) in
              owned_more (length (items o.kept)) (length log) (length now) p _ _ _ (length xs) (h.places p)
              (subst (λ n. IsOwnedOnce n (n + length xs) p (times p (count_from (length v.known) (length xs)))) len new) (omega arith) (omega arith) h.begins;
        },
        refl,
      )

  pub ends : (slots id : ℕ) (k : K) (me : Me (Option K) (TokenView T)) → slots ≡ 1 → me.0.holds ≡ true → me.1 ≡ (0, Some k) ∷ [] → items k ≡ me.0.known → fixed k ≡ fixed o.kept
      → Allows Law slots id me 1 (λ _. 0) (λ _ w. w ≡ (ended me.0, []))
  ends slots id k me single on has is same s h here at small =
      let v = me.0 in
      let w = ended v in
      let fit = h.each id v at in
      let one : one_if v.holds ≡ 1 = true_one v.holds on in
      let t = in_turn h.log h.lock _ _ s (omega (arith, total_one (λ (u : TokenView T). one_if u.holds) s.views id v at)) h.place in (
        w,
        gives,
        tt,
        record {
          log = h.log;
          lock = 0;
          words = ap (λ (ws : List ℕ). slice_set ws 1 0) h.words;
          few = h.few;
          begins = h.begins;
          each = each_set (Fits h.log) s.views id w (λ j u _ y. h.each j u y)
              (record {
                known = fit.known;
                shown = fit.shown;
                start = fit.start;
                whole = λ _. fit.whole on;
                joined_lists = fit.joined_lists;
                bare = λ none. absurd (not_both v.holds (fit.bare none).1 on);
              });
          place = free refl (let ts = total_set (λ (u : TokenView T). one_if u.holds) s.views id v w at in omega arith)
              (total_same (λ (u : TokenView T). one_if u.unfilled) s.views id v w at refl ∙ t.2) k (ap (put_back s.homes) has ∙ one_home s.homes (some (Some k)) (here ∙ single))
              (is ∙ fit.whole on) same;
          tokens = total_same (λ (u : TokenView T). u.tokens) s.views id v w at refl ∙ h.tokens;
          places = owned_same h.log s.views id v w at refl h.places;
        },
        ap (λ (c : List (ℕ × Option K)). (w, carried_after c gives)) has,
      )

  pub splits : (id : ℕ) (v : TokenView T) → v.holds ≡ false → v.unfilled ≡ false → v.own ≡ [] → 1 ≤ v.tokens → Splits Law id v (one_less v) (one_token v)
  splits id v rests done bare some_token s h at =
      let log = h.log in
      let fit = h.each id v at in
      let left = one_less v in
      let right = one_token v in
      let mid = set s.views id left in
      record {
        log = log;
        lock = h.lock;
        words = h.words;
        few = h.few;
        begins = h.begins;
        each =
            each_snoc (Fits log) mid right
            (each_set (Fits log) s.views id left (λ j u _ e. h.each j u e)
            (record { known = fit.known; shown = fit.shown; start = fit.start; whole = fit.whole; joined_lists = fit.joined_lists; bare = λ _. (bare, rests, done) }))
            (record {
              known = fit.known;
              shown = omega arith;
              start = λ y. absurd (true≢false (sym y));
              whole = λ y. absurd (true≢false (sym y));
              joined_lists = λ i ys y. absurd (no_item i ys y);
              bare = λ y. absurd (omega arith);
            });
        place =
            place_same log h.lock _ _ _ _ s _ refl
            (omega (arith, total_append (λ (u : TokenView T). one_if u.holds) mid (right ∷ []), total_same (λ (u : TokenView T). one_if u.holds) s.views id v left at refl))
            (omega (arith, total_append (λ (u : TokenView T). one_if u.unfilled) mid (right ∷ []), total_same (λ (u : TokenView T). one_if u.unfilled) s.views id v left at refl))
            h.place;
        tokens = omega (arith, total_append (λ (u : TokenView T). u.tokens) mid (right ∷ []), total_set (λ (u : TokenView T). u.tokens) s.views id v left at, h.tokens);
        places = λ p. subst (λ (n : ℕ). IsOwnedOnce (length (items o.kept)) (length log) p n)
            (omega (arith, total_append (λ (u : TokenView T). times p u.own) mid (right ∷ []), total_same (λ (u : TokenView T). times p u.own) s.views id v left at refl))
            (h.places p);
      }

  pub joins : (id : ℕ) (v : TokenView T) (other : ℕ) (w : TokenView T) → w.holds ≡ false → w.unfilled ≡ false → Joins Law id v other w (joined v w) empty_view
  joins id v other w rests done s h at apart there =
      let log = h.log in
      let both = joined v w in
      let was : get_elem? s.views other ≡ some w = sym (set_else s.views id other both apart) ∙ there in
      let fit = h.each id v at in
      let fit' = h.each other w was in
      let mid = set s.views id both in
      let off : one_if w.holds ≡ 0 = false_none w.holds rests in
      let off' : one_if w.unfilled ≡ 0 = false_none w.unfilled done in
      record {
        log = log;
        lock = h.lock;
        words = h.words;
        few = h.few;
        begins = h.begins;
        each =
            each_set (Fits log) mid other empty_view
            (λ j u _ e. each_set (Fits log) s.views id both (λ j' u' _ e'. h.each j' u' e')
            (record {
              known = fit.known;
              shown = fit.shown;
              start = fit.start;
              whole = fit.whole;
              joined_lists = λ i ys y. ⊎_elim (λ a. fit.joined_lists i ys a) (λ (a : w.known ≡ ys). subst (λ (l : List T). IsPrefix l log) a fit'.known)
                  (at_snoc v.joined_lists w.known ys i y);
              bare = λ none. let a = fit.bare (omega arith) in let b = fit'.bare (omega arith) in (ap (λ (l : List ℕ). l ++ w.own) a.0 ∙ b.0, a.1, a.2);
            }) j u e)
            (record {
              known = (log, refl);
              shown = omega arith;
              start = λ y. absurd (true≢false (sym y));
              whole = λ y. absurd (true≢false (sym y));
              joined_lists = λ i ys y. absurd (no_item i ys y);
              bare = λ _. (refl, refl, refl);
            });
        place =
            place_same log h.lock _ _ _ _ s _ refl
            (omega (
              arith,
              total_same (λ (u : TokenView T). one_if u.holds) s.views id v both at refl,
              total_set (λ (u : TokenView T). one_if u.holds) mid other w empty_view there,
            ))
            (omega (
              arith,
              total_same (λ (u : TokenView T). one_if u.unfilled) s.views id v both at refl,
              total_set (λ (u : TokenView T). one_if u.unfilled) mid other w empty_view there,
            )) h.place;
        tokens = omega (arith, total_set (λ (u : TokenView T). u.tokens) s.views id v both at, total_set (λ (u : TokenView T). u.tokens) mid other w empty_view there, h.tokens);
        places = λ p.
            let a = total_set (λ (u : TokenView T). times p u.own) s.views id v both at in
            let b = total_set (λ (u : TokenView T). times p u.own) mid other w empty_view there in
            let c = times_append p v.own w.own in
            subst (λ (n : ℕ). IsOwnedOnce (length (items o.kept)) (length log) p n) (omega arith) (h.places p);
      }

  pub starts : length (items o.kept) ≤ most → 1 ≤ o.tokens → Law (record {
    words = length (items o.kept) ∷ 2 ∷ [];
    homes = some None ∷ [];
    views = first_view (items o.kept) o.tokens ∷ [];
  })
  starts few some_token = record {
    log = items o.kept;
    lock = 2;
    words = refl;
    few = few;
    begins = omega arith;
    each = λ j u e. each_snoc (Fits (items o.kept)) [] (first_view (items o.kept) o.tokens) (λ i x y. absurd (no_item i x y))
        (record {
          known = prefix_self (items o.kept);
          shown = omega arith;
          start = λ _. refl;
          whole = λ _. refl;
          joined_lists = λ i ys y. absurd (no_item i ys y);
          bare = λ none. absurd (omega arith);
        }) j u e;
    place = awaited refl refl refl refl;
    tokens = omega arith;
    places = λ p. record { early = λ _. refl; there = λ a b. absurd (omega arith); late = λ _. refl };
  }

  -- a seat that stands for no token enters
  pub enters : (slots : ℕ) → Enters Law slots 0 (λ n w. ◌≡◌ {A = Me (Option K) (TokenView T)} (w, []) (empty_view, []))
  enters slots s h here small =
      let none = empty_view in (
        none,
        record {
          log = h.log;
          lock = h.lock;
          words = h.words;
          few = h.few;
          begins = h.begins;
          each = each_snoc (Fits h.log) s.views none h.each (record {
            known = (h.log, refl);
            shown = omega arith;
            start = λ y. absurd (true≢false (sym y));
            whole = λ y. absurd (true≢false (sym y));
            joined_lists = λ i ys y. absurd (no_item i ys y);
            bare = λ _. (refl, refl, refl);
          });
          place = place_same h.log h.lock _ _ _ _ s _ refl (omega (arith, total_append (λ (u : TokenView T). one_if u.holds) s.views (none ∷ [])))
              (omega (arith, total_append (λ (u : TokenView T). one_if u.unfilled) s.views (none ∷ []))) h.place;
          tokens = omega (arith, total_append (λ (u : TokenView T). u.tokens) s.views (none ∷ []), h.tokens);
          places = λ p. subst (λ (n : ℕ). IsOwnedOnce (length (items o.kept)) (length h.log) p n)
              (omega (arith, total_append (λ (u : TokenView T). times p u.own) s.views (none ∷ []))) (h.places p);
        },
        refl,
      )

  -- what the rule proves for a view that stands for all tokens
  pub justified_last : (id : ℕ) (v : TokenView T) → v.holds ≡ false → v.unfilled ≡ false → v.tokens ≡ o.tokens → Justifies items fixed most o id v (IsLast items fixed o.kept v) ⊥
  justified_last id v rests done every = record {
    found = λ s h at k is same. record {
      joined_lists = λ i ys y. subst (λ (l : List T). IsPrefix ys l) (sym is) ((h.each id v at).joined_lists i ys y);
      owned = λ p.
          let all : total (λ (u : TokenView T). times p u.own) s.views ≡ times p v.own = total_all (λ (u : TokenView T). times p u.own) (λ (u : TokenView T). u.tokens) s.views id v
          (λ j u y none. ap (times p) ((h.each j u y).bare none).0) at (h.tokens ∙ sym every) in
          subst (λ (n : ℕ). IsOwnedOnce (length (items o.kept)) (length (items k)) p n) all
          (subst (λ (l : List T). IsOwnedOnce (length (items o.kept)) (length l) p (total (λ (u : TokenView T). times p u.own) s.views)) (sym is) (h.places p));
      stays = same;
    };
    going = λ s h at going.
        going
        (at_rest h.log h.lock _ _ s
        (total_all (λ (u : TokenView T). one_if u.holds) (λ (u : TokenView T). u.tokens) s.views id v (λ j u y none. false_none u.holds ((h.each j u y).bare none).1) at
        (h.tokens ∙ sym every) ∙ false_none v.holds rests)
        (total_all (λ (u : TokenView T). one_if u.unfilled) (λ (u : TokenView T). u.tokens) s.views id v (λ j u y none. false_none u.unfilled ((h.each j u y).bare none).2) at
        (h.tokens ∙ sym every) ∙ false_none v.unfilled done)
        h.place);
  }

-- one slot is carried
pub one_carried : {A : Type 0} (c : List (ℕ × A)) (y : ℕ × A) → c ≡ y ∷ [] → c ≡ y ∷ rest c
one_carried c y e = subst (λ (l : List (ℕ × _)). l ≡ y ∷ rest l) (sym e) refl
