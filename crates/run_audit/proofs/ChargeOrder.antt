-- The order of charges: by their counters, by the counts before them, and by their hits.
use Rattle.std.proofs.Common.{◌≡◌, ℕ, suc, subst, ◌+◌, ◌≤◌, Bool, true, false, List, [], ◌∷◌, get_or, Ordering, Less, Equal, Greater, is_eq, refl, sym, ap, ◌∙◌, arith}
use Rattle.std.specs.Ordering.{nat_cmp, ordering_then, ordering_reverse, is_lt, is_gt}
use Rattle.std.specs.Bool.{Decides}
use Rattle.std.specs.Cmp.{IsTotalOrder, IsStrictWeakOrder}
use Rattle.std.specs.List.{AllByRecursion}
use Rattle.std.specs.List.Sorted.{IsPermutation, IsSorted, IsSortedBy}
use Rattle.std.proofs.lemmas.Bool.Decides.{nat_tests}
use Rattle.std.proofs.lemmas.Cmp.{tied_back, then_total, on_total, nat_cmp_total}
use Rattle.std.proofs.lemmas.List.Elements.{recursion_from_All}
use Rattle.std.proofs.lemmas.List.Sorted.{ranks_by, sorted_far, IsPermutation-sym}
use Rattle.rate_types.specs.Counters.{key_cmp, same_counter}
use Rattle.rate_types.specs.Ledger.{Charge}
use Rattle.rate_types.specs.declared.counter_key.CounterKey.{CounterKey}
use Rattle.rate_types.specs.contracts.counter_key.CounterKeyOrd.TheImpl.Laws.{total-law, matches_eq-law}
use Rattle.rate_types.specs.contracts.counter_key.CounterKeyEq.TheImpl.Laws.{laws-law}
use Rattle.run_audit.specs.Chain.{charge_cmp, is_chain, IsChain}
use Rattle.run_audit.proofs.Chains.{IsUpTo, InOrder, chain_decides, chain_permuted}

false_true : false ≡ true → ⊥
false_true e = cc

-- a counter isn't after another in key order
abbrev pub Up : CounterKey → CounterKey → Type 0
Up a b = is_gt (key_cmp a b) ≡ false

equal_from : (o : Ordering) → is_eq o ≡ true → o ≡ Equal
equal_from Less e = absurd (false_true e)
equal_from Equal e = refl
equal_from Greater e = absurd (false_true e)

pub tied : (a b : CounterKey) → same_counter a b ≡ true → key_cmp a b ≡ Equal
tied a b e = equal_from (key_cmp a b) (sym (matches_eq-law a b) ∙ e)

pub between : (a b d : CounterKey) → Up a b → Up b d → same_counter a d ≡ true → same_counter a b ≡ true
between a b d up_ab up_bd same = by (key_cmp a b) refl
  where
    by : (o : Ordering) → key_cmp a b ≡ o → same_counter a b ≡ true
    by Less e =
        let db : key_cmp d b ≡ Less = sym (total-law.congr a d b (tied a d same)) ∙ e in
        let bd : key_cmp b d ≡ Greater = total-law.antisymm b d ∙ ap ordering_reverse db in
        absurd (false_true (sym up_bd ∙ ap is_gt bd))
    by Equal e = matches_eq-law a b ∙ ap is_eq e
    by Greater e = absurd (false_true (sym up_ab ∙ ap is_gt e))

pub still : (a : CounterKey) → Up a a
still a = by (key_cmp a a) refl
  where
    by : (o : Ordering) → key_cmp a a ≡ o → Up a a
    by Less e = ap is_gt e
    by Equal e = ap is_gt e
    by Greater e =
        let back : key_cmp a a ≡ Less = total-law.antisymm a a ∙ ap ordering_reverse e in
        absurd (false_true (sym (ap is_gt back) ∙ ap is_gt e))

charge_total : IsTotalOrder charge_cmp
charge_total = then_total (on_total (λ (c : Charge CounterKey). c.counter) total-law)
    (then_total (on_total (λ (c : Charge CounterKey). c.before) nat_cmp_total) (on_total (λ (c : Charge CounterKey). c.hits) nat_cmp_total))

-- the parts of an answer of `charge_cmp`
first_part : (o p : Ordering) → is_lt (ordering_then o p) ≡ false → is_gt (ordering_reverse o) ≡ false
first_part Less p e = absurd (false_true (sym e))
first_part Equal p e = refl
first_part Greater p e = refl

later_part : (o p : Ordering) → o ≡ Equal → is_lt (ordering_then o p) ≡ false → is_lt p ≡ false
later_part o p q e = sym (ap (λ o. is_lt (ordering_then o p)) q) ∙ e

number : (a b : ℕ) (p : Ordering) → is_lt (ordering_then (nat_cmp a b) p) ≡ false → b ≤ a
number a b p e = grind (arith, nat_tests)

number_last : (a b : ℕ) → is_lt (nat_cmp a b) ≡ false → b ≤ a
number_last a b e = grind (arith, nat_tests)

number_tied : (a b : ℕ) (p : Ordering) → b ≡ a → is_lt (ordering_then (nat_cmp a b) p) ≡ false → is_lt p ≡ false
number_tied a b p same e = later_part (nat_cmp a b) p (grind (arith, nat_tests)) e

up_to : (x y : Charge CounterKey) → is_lt (charge_cmp y x) ≡ false → IsUpTo same_counter Up x y
up_to x y h = record {
  counters = ap is_gt (total-law.antisymm x.counter y.counter) ∙ first_part (key_cmp y.counter x.counter) rest h;
  least = λ e. number y.before x.before (nat_cmp y.hits x.hits) (within e);
  tied = λ e b. number_last y.hits x.hits (number_tied y.before x.before (nat_cmp y.hits x.hits) b (within e));
}
  where
    rest : Ordering
    rest = ordering_then (nat_cmp y.before x.before) (nat_cmp y.hits x.hits)

    within : same_counter x.counter y.counter ≡ true → is_lt rest ≡ false
    within e = later_part (key_cmp y.counter x.counter) rest (tied_back total-law x.counter y.counter (tied x.counter y.counter e)) h

charge_order : IsStrictWeakOrder (λ x y. is_lt (charge_cmp x y))
charge_order = ranks_by charge_total (λ (x : Charge CounterKey). x)

-- the first of a sorted list isn't after the others
first_up_to : (x : Charge CounterKey) (xs : List (Charge CounterKey)) → IsSortedBy (λ x y. is_lt (charge_cmp x y)) (x ∷ xs)
    → AllByRecursion (IsUpTo same_counter Up x) xs
first_up_to x xs sorted = recursion_from_All (IsUpTo same_counter Up x) xs
    (λ k d within. up_to x (get_or xs k d)
    (sorted_far (λ x y. is_lt (charge_cmp x y)) charge_order (x ∷ xs) sorted 0 (suc k) d (omega arith) (omega arith)))

tail_sorted : {X : Type 0} (lt : X → X → Bool) (x : X) (xs : List X) → IsSortedBy lt (x ∷ xs) → IsSortedBy lt xs
tail_sorted lt x xs sorted k d low high =
    let place : suc k + 1 ≡ suc (k + 1) = omega arith in
    subst (λ j. lt (get_or (x ∷ xs) j d) (get_or xs k d) ≡ false) place (sorted (suc k) d (omega arith) (omega arith))

pub in_order : (xs : List (Charge CounterKey)) → IsSorted charge_cmp xs → InOrder same_counter Up xs
in_order [] sorted = tt
in_order (x ∷ xs) sorted = (first_up_to x xs sorted, in_order xs (tail_sorted (λ x y. is_lt (charge_cmp x y)) x xs sorted))

-- whether charges are a chain, by the test of the sorted ones
pub sorted_chain : (xs ys : List (Charge CounterKey)) (b : Bool) → IsPermutation xs ys → IsSorted charge_cmp ys → b ≡ is_chain same_counter ys
    → Decides b (IsChain same_counter xs)
sorted_chain xs ys b moved sorted is =
    let d = chain_decides same_counter laws-law Up between still ys (in_order ys sorted) in (
      λ h. chain_permuted same_counter laws-law Up between ys xs (IsPermutation-sym xs ys moved) (d.0 (sym is ∙ h)),
      λ k. is ∙ d.1 (chain_permuted same_counter laws-law Up between xs ys moved k),
    )
