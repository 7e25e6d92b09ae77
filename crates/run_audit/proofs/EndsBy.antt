-- The ends of the windows of a run's counters, in their order.
use Rattle.std.proofs.Common.{◌≡◌, ℕ, zero, suc, ◌+◌, ◌≤◌, ◌<◌, ◌==◌, ◌||◌, ◌&&◌, nat_lt, nat_le, count_by, List, [], ◌∷◌, length, drop, get_or, map}
use Rattle.std.proofs.Common.{Bool, true, false, cond, Option, Some, None, refl, sym, ap, ap₂, ◌∙◌, subst, arith}
use Rattle.std.proofs.Common.{Ordering, Less, is_eq}
use Rattle.std.specs.Bool.{Decides}
use Rattle.std.specs.Ordering.{nat_cmp, ordering_then, eq_by_cmp}
use Rattle.std.specs.List.{AllByRecursion, IsDistinct}
use Rattle.std.specs.List.Sorted.{IsNonDecreasingBy, IsStrictlySortedBy}
use Rattle.std.specs.Map.{keys_of}
use Rattle.std.proofs.lemmas.Bool.Decides.{nat_tests}
use Rattle.std.proofs.lemmas.List.{get_or-map, length-map}
use Rattle.std.proofs.lemmas.List.Sums.{sum_by-cons}
use Rattle.std.proofs.lemmas.List.Sorted.{IsNonDecreasingBy-from_default, IsNonDecreasingBy-short}
use Rattle.std.proofs.lemmas.Map.Keys.{IsDistinct-from_sorted, Less-from_sorted}
use Rattle.rate_types.specs.Counters.{key_cmp, same_counter}
use Rattle.rate_types.specs.Sums.{one_if}
use Rattle.rate_types.specs.declared.counter_key.CounterKey.{CounterKey}
use Rattle.window_keys.specs.Counter.{window_end_of}
use Rattle.window_keys.proofs.Counters.{same_is}
use Rattle.descriptor_tree.specs.Trees.{DomainTree}
use Rattle.reply_text.specs.declared.record.Record.{Record}
use Rattle.script_run.specs.ScriptLine.{ScriptLine}
use Rattle.script_run.specs.Named.{AreThere, is_among, is_open_at}
use Rattle.run_audit.specs.Asked.{is_asked, is_told, is_told_at}
use Rattle.run_audit.specs.ByEnd.{AreEnds, Binders, binder_at, ended, is_asked_at, is_asked_of}
use Rattle.run_audit.specs.EndOrder.{end_cmp}
use Rattle.run_audit.specs.declared.asked.Asked.{Asked}
use Rattle.run_audit.specs.declared.binder.Binder.{Binder}
use Rattle.run_audit.specs.declared.by_end.Ended.{Ended}
use Rattle.run_audit.specs.declared.counter_by_end.CounterByEnd.{CounterByEnd}
use Rattle.run_audit.proofs.EndOrder.{same_end}
use Rattle.run_audit.proofs.Gates.{open_false}
use Rattle.run_audit.proofs.Numbers.{as_these}

false_true : false ≡ true → ⊥
false_true e = cc

-- ---- the order

no_greater : (m n : ℕ) (o : Ordering) → ordering_then (nat_cmp m n) o ≡ Less → m ≤ n
no_greater m n o e = grind (arith, nat_tests)

module _ (e : CounterByEnd × Binder) (binders : Binders) (sorted : IsStrictlySortedBy end_cmp (keys_of (e ∷ binders))) where
  abbrev at : ℕ → CounterByEnd × Binder
  at i = get_or (e ∷ binders) i e

  end_at : (i : ℕ) → i < length (e ∷ binders) → (get_or (map ended (e ∷ binders)) i (ended e)).end ≡ (at i).0.end
  end_at i within = ap (λ (x : Ended). x.end) (get_or-map ended (e ∷ binders) i e (ended e) within)

  key_at : (i : ℕ) → i < length (e ∷ binders) → get_or (keys_of (e ∷ binders)) i e.0 ≡ (at i).0
  key_at i within = get_or-map (λ (x : CounterByEnd × Binder). x.0) (e ∷ binders) i e e.0 within

  rising_at : (i j : ℕ) → i < j → j < length (e ∷ binders) → (at i).0.end ≤ (at j).0.end
  rising_at i j less within =
      let keys : j < length (keys_of (e ∷ binders)) = omega (arith, length-map (e ∷ binders) (λ (x : CounterByEnd × Binder). x.0), within) in
      no_greater (at i).0.end (at j).0.end (key_cmp (at i).0.counter (at j).0.counter)
      (sym (ap₂ end_cmp (key_at i (omega (arith, less, within))) (key_at j within)) ∙ Less-from_sorted end_cmp (keys_of (e ∷ binders)) i j e.0 sorted less keys)

  rising_more : IsNonDecreasingBy (λ (x : Ended). x.end) (map ended (e ∷ binders))
  rising_more = IsNonDecreasingBy-from_default (λ (x : Ended). x.end) (map ended (e ∷ binders)) (ended e) (λ i j up below.
      let within : j < length (e ∷ binders) = omega (arith, length-map (e ∷ binders) ended, below) in
      by i j (i == j) refl up within)
    where
      by : (i j : ℕ) (b : Bool) → (i == j) ≡ b → i ≤ j → j < length (e ∷ binders)
          → (get_or (map ended (e ∷ binders)) i (ended e)).end ≤ (get_or (map ended (e ∷ binders)) j (ended e)).end
      by i j true same up within =
          let is : i ≡ j = grind (arith, nat_tests) in
          let ends = ap (λ (k : ℕ). (get_or (map ended (e ∷ binders)) k (ended e)).end) is in
          omega (arith, ends)
      by i j false differ up within =
          let less : i < j = grind (arith, nat_tests) in
          omega (arith, end_at i (omega (arith, less, within)), end_at j within, rising_at i j less within)

rising : (binders : Binders) → IsStrictlySortedBy end_cmp (keys_of binders) → IsNonDecreasingBy (λ (x : Ended). x.end) (map ended binders)
rising [] sorted = IsNonDecreasingBy-short (λ (x : Ended). x.end) [] (omega arith)
rising (e ∷ binders) sorted = rising_more e binders sorted

-- ---- the counters that are asked for

module _ (asked : Asked) (m : ℕ) where
  abbrev passes : CounterByEnd × Binder → Bool
  passes e = is_asked_at asked m (ended e)

  abbrev kept : Binders → List CounterKey
  kept [] = []
  kept (e ∷ binders) = cond (passes e) (e.0.counter ∷ kept binders) (kept binders)

  abbrev Differ : CounterByEnd → Binders → Type 0
  Differ k binders = AllByRecursion (λ y. is_eq (end_cmp k y) ≡ false) (keys_of binders)

  absent : (k : CounterByEnd) (binders : Binders) → Differ k binders → binder_at binders k.counter ≡ None
  absent k [] h = refl
  absent k (e ∷ binders) h =
      ap (λ (b : Bool). cond b (Some e.1) (binder_at binders k.counter)) (sym (same_end k e.0) ∙ h.0) ∙ absent k binders h.1

  kept_differ : (k : CounterByEnd) (binders : Binders) → Differ k binders → AllByRecursion (λ y. same_counter k.counter y ≡ false) (kept binders)
  kept_differ k [] h = tt
  kept_differ k (e ∷ binders) h = by (passes e) (kept_differ k binders h.1)
    where
      by : (b : Bool) → AllByRecursion (λ y. same_counter k.counter y ≡ false) (kept binders)
          → AllByRecursion (λ y. same_counter k.counter y ≡ false) (cond b (e.0.counter ∷ kept binders) (kept binders))
      by true more = (sym (same_end k e.0) ∙ h.0, more)
      by false more = more

  kept_apart : (binders : Binders) → IsDistinct (eq_by_cmp end_cmp) (keys_of binders) → IsDistinct same_counter (kept binders)
  unfolding IsDistinct
  kept_apart [] h = tt
  kept_apart (e ∷ binders) h = by (passes e) (kept_apart binders h.1)
    where
      by : (b : Bool) → IsDistinct same_counter (kept binders) → IsDistinct same_counter (cond b (e.0.counter ∷ kept binders) (kept binders))
      by true more = (kept_differ e.0 binders h.0, more)
      by false more = more

  kept_long : (binders : Binders) → length (kept binders) ≡ count_by (is_asked_at asked m) (map ended binders)
  kept_long [] = refl
  kept_long (e ∷ binders) =
      by (passes e) (kept_long binders) ∙ sym (sum_by-cons (λ (x : Ended). cond (is_asked_at asked m x) 1 0) (ended e) (map ended binders))
    where
      by : (b : Bool) → length (kept binders) ≡ count_by (is_asked_at asked m) (map ended binders)
          → length (cond b (e.0.counter ∷ kept binders) (kept binders)) ≡ cond b 1 0 + count_by (is_asked_at asked m) (map ended binders)
      by true more = omega (arith, more)
      by false more = omega (arith, more)

  among_cond : (b : Bool) (x : CounterKey) (xs : List CounterKey) (c : CounterKey)
      → is_among (cond b (x ∷ xs) xs) c ≡ cond b (same_counter c x || is_among xs c) (is_among xs c)
  among_cond true x xs c = refl
  among_cond false x xs c = refl

  first : (p s r : Bool) → s ≡ true → r ≡ false → cond p (s || r) r ≡ p
  first true s r e none = ap (λ (b : Bool). b || r) e
  first false s r e none = none

  behind : (p s r : Bool) → s ≡ false → cond p (s || r) r ≡ r
  behind true s r e = ap (λ (b : Bool). b || r) e
  behind false s r e = refl

  kept_all : (binders : Binders) (c : CounterKey) → IsDistinct (eq_by_cmp end_cmp) (keys_of binders)
      → is_among (kept binders) c ≡ (is_open_at m c && is_asked_of asked (binder_at binders c))
  unfolding IsDistinct
  kept_all [] c h = sym (open_false (is_open_at m c))
  kept_all (e ∷ binders) c h =
      among_cond (passes e) e.0.counter (kept binders) c ∙ by (same_counter c e.0.counter) refl (kept_all binders c h.1)
    where
      by : (s : Bool) → same_counter c e.0.counter ≡ s
          → is_among (kept binders) c ≡ (is_open_at m c && is_asked_of asked (binder_at binders c))
          → cond (passes e) (same_counter c e.0.counter || is_among (kept binders) c) (is_among (kept binders) c)
          ≡ (is_open_at m c && is_asked_of asked (cond (same_counter c e.0.counter) (Some e.1) (binder_at binders c)))
      by true s more =
          let none : binder_at binders c ≡ None = ap (binder_at binders) (same_is c e.0.counter s) ∙ absent e.0 binders h.0 in
          let gone = more ∙ ap (λ (o : Option Binder). is_open_at m c && is_asked_of asked o) none ∙ open_false (is_open_at m c) in
          first (passes e) (same_counter c e.0.counter) (is_among (kept binders) c) s gone
          ∙ ap (λ (n : ℕ). nat_lt m n && is_asked asked e.1) (e.0.is ∙ ap window_end_of (sym (same_is c e.0.counter s)))
          ∙ ap (λ (b : Bool). is_open_at m c && is_asked_of asked (cond b (Some e.1) (binder_at binders c))) (sym s)
      by false s more =
          behind (passes e) (same_counter c e.0.counter) (is_among (kept binders) c) s ∙ more
          ∙ ap (λ (b : Bool). is_open_at m c && is_asked_of asked (cond b (Some e.1) (binder_at binders c))) (sym s)

-- ---- a run

pub are_ends : (configs : ℕ → List DomainTree) (lines : List ScriptLine) (records : List Record) (binders : Binders) (ends : List Ended)
    → ends ≡ map ended binders → IsStrictlySortedBy end_cmp (keys_of binders)
    → ((asked : Asked) (c : CounterKey) → is_asked_of asked (binder_at binders c) ≡ is_told asked configs lines records c)
    → AreEnds configs lines records ends
are_ends configs lines records binders ends is sorted told =
    let apart = IsDistinct-from_sorted end_cmp (keys_of binders) sorted in
    subst (λ (es : List Ended). AreEnds configs lines records es) (sym is) (record {
      rising = rising binders sorted;
      counted = λ asked m k. subst (λ (n : ℕ). Decides (nat_le k n) (AreThere (is_told_at asked configs lines records m) k))
          (kept_long asked m binders)
          (as_these (is_told_at asked configs lines records m) (kept asked m binders) (kept_apart asked m binders apart)
          (λ c. kept_all asked m binders c apart ∙ ap (λ (b : Bool). is_open_at m c && b) (told asked c)) k);
    })

-- ---- windows that are over

pub none_over : (asked : Asked) (m n : ℕ) (ends : List Ended) → n ≤ length ends → ((k : ℕ) (d : Ended) → k < n → (get_or ends k d).end ≤ m)
    → count_by (is_asked_at asked m) (drop n ends) ≡ count_by (is_asked_at asked m) ends
none_over asked m zero ends within over = refl
none_over asked m (suc n) [] within over = absurd (omega arith)
none_over asked m (suc n) (x ∷ ends) within over =
    let rest = none_over asked m n ends (omega arith) (λ k d h. over (suc k) d (omega arith)) in
    let none = ap one_if (ap (λ (b : Bool). b && is_asked asked x.binder) (closed (over 0 x (omega arith)))) in
    let sum = sum_by-cons (λ (y : Ended). cond (is_asked_at asked m y) 1 0) x ends in
    omega (arith, rest, none, sum)
  where
    closed : x.end ≤ m → nat_lt m x.end ≡ false
    closed h = grind (arith, nat_tests)
