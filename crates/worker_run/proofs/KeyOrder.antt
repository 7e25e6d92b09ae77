-- The counters of a list in key order, each once.
use Rattle.std.proofs.Common.{◌≡◌, suc, ◌+◌, ◌≤◌, ◌||◌, List, [], ◌∷◌, length, Bool, true, false, Ordering, Less, Equal, Greater, is_eq, refl, sym, ap, ◌∙◌, arith, true≢false}
use Rattle.std.specs.Prelude.{nat_lt}
use Rattle.std.specs.List.{AllByRecursion}
use Rattle.std.specs.List.Sorted.{IsStrictlySortedBy}
use Rattle.std.specs.Ordering.{match_ordering, ordering_reverse}
use Rattle.rate_types.specs.Counters.{key_cmp, same_counter}
use Rattle.rate_types.specs.Sums.{one_if}
use Rattle.rate_types.specs.declared.counter_key.CounterKey.{CounterKey}
use Rattle.rate_types.specs.contracts.counter_key.CounterKeyOrd.TheImpl.Laws.{total-law, matches_eq-law}
use Rattle.window_keys.proofs.Counters.{same_is, same_itself, same_either}
use Rattle.rate_limiter.proofs.CounterLists.{count, Differ, among, among_count}

-- a counter at its place in key order, where it isn't there yet
abbrev put : CounterKey → List CounterKey → List CounterKey
put k [] = k ∷ []
put k (x ∷ xs) = match_ordering (key_cmp k x) (k ∷ x ∷ xs) (x ∷ xs) (x ∷ put k xs)

-- the counters of a list in key order
abbrev pub in_order : List CounterKey → List CounterKey
in_order [] = []
in_order (x ∷ xs) = put x (in_order xs)

pick : (P : List CounterKey → Type 0) (o : Ordering) (a b c : List CounterKey) → (o ≡ Less → P a) → (o ≡ Equal → P b) → (o ≡ Greater → P c) → P (match_ordering o a b c)
pick P Less a b c p q r = p refl
pick P Equal a b c p q r = q refl
pick P Greater a b c p q r = r refl

all_put : (P : CounterKey → Type 0) (k : CounterKey) (xs : List CounterKey) → P k → AllByRecursion P xs → AllByRecursion P (put k xs)
all_put P k [] p h = (p, tt)
all_put P k (x ∷ xs) p h = let more = all_put P k xs p h.1 in pick (AllByRecursion P) (key_cmp k x) _ _ _ (λ e. (p, h)) (λ e. h) (λ e. (h.0, more))

all_below : (k x : CounterKey) (xs : List CounterKey) → key_cmp k x ≡ Less → AllByRecursion (λ y. key_cmp x y ≡ Less) xs → AllByRecursion (λ y. key_cmp k y ≡ Less) xs
all_below k x [] e h = tt
all_below k x (y ∷ ys) e h = (total-law.trans k x y e h.0, all_below k x ys e h.1)

sorted_put : (k : CounterKey) (xs : List CounterKey) → IsStrictlySortedBy key_cmp xs → IsStrictlySortedBy key_cmp (put k xs)
unfolding IsStrictlySortedBy
sorted_put k [] h = (tt, tt)
sorted_put k (x ∷ xs) h =
    let more = sorted_put k xs h.1 in
    pick (IsStrictlySortedBy key_cmp) (key_cmp k x) _ _ _ (λ e. ((e, all_below k x xs e h.0), h)) (λ e. h)
    (λ e. (all_put (λ y. key_cmp x y ≡ Less) k xs (total-law.antisymm x k ∙ ap ordering_reverse e) h.0, more))

pub sorted : (xs : List CounterKey) → IsStrictlySortedBy key_cmp (in_order xs)
unfolding IsStrictlySortedBy
sorted [] = tt
sorted (x ∷ xs) = sorted_put x (in_order xs) (sorted xs)

either : (a b d : Bool) → (a || (b || d)) ≡ (b || (a || d))
either true true d = refl
either true false d = refl
either false b d = refl

twice : (a d : Bool) → (a || d) ≡ (a || (a || d))
twice true d = refl
twice false d = refl

among_put : (c k : CounterKey) (xs : List CounterKey) → among (put k xs) c ≡ (same_counter c k || among xs c)
among_put c k [] = refl
among_put c k (x ∷ xs) =
    let more = among_put c k xs in
    pick (λ l. among l c ≡ (same_counter c k || (same_counter c x || among xs c))) (key_cmp k x) _ _ _ (λ e. refl)
    (λ e.
    let is : k ≡ x = same_is k x (matches_eq-law k x ∙ ap is_eq e) in
    twice (same_counter c x) (among xs c) ∙ ap (λ y. same_counter c y || (same_counter c x || among xs c)) (sym is))
    (λ e. ap (λ b. same_counter c x || b) more ∙ either (same_counter c x) (same_counter c k) (among xs c))

pub among_in_order : (xs : List CounterKey) (c : CounterKey) → among (in_order xs) c ≡ among xs c
among_in_order [] c = refl
among_in_order (x ∷ xs) c = among_put c x (in_order xs) ∙ ap (λ b. same_counter c x || b) (among_in_order xs c)

neither : (a b : Bool) → (a || b) ≡ false → (a ≡ false) × (b ≡ false)
neither true b h = absurd (true≢false h)
neither false b h = (refl, h)

put_length : (k : CounterKey) (xs : List CounterKey) → among xs k ≡ false → length (put k xs) ≡ suc (length xs)
put_length k [] h = refl
put_length k (x ∷ xs) h =
    let n = neither (same_counter k x) (among xs k) h in
    let more = put_length k xs n.1 in
    pick (λ l. length l ≡ suc (suc (length xs))) (key_cmp k x) _ _ _ (λ e. refl)
    (λ e. absurd (true≢false (sym (ap is_eq e) ∙ sym (matches_eq-law k x) ∙ n.0)))
    (λ e. ap suc more)

-- where none is twice, none is lost
pub length_in_order : (xs : List CounterKey) → Differ xs → length (in_order xs) ≡ length xs
length_in_order [] h = refl
length_in_order (x ∷ xs) h =
    let me = ap one_if (same_itself x) in
    let first = h x in
    let none : count x xs ≡ 0 = omega arith in
    let out : among (in_order xs) x ≡ false = among_in_order xs x ∙ among_count xs x ∙ ap (nat_lt 0) none in
    put_length x (in_order xs) out ∙ ap suc (length_in_order xs (λ c. let n = h c in omega arith))

none_above : (x : CounterKey) (xs : List CounterKey) → AllByRecursion (λ y. key_cmp x y ≡ Less) xs → count x xs ≡ 0
none_above x [] h = refl
none_above x (y ∷ ys) h =
    let not : same_counter y x ≡ false = same_either y x ∙ matches_eq-law x y ∙ ap is_eq h.0 in
    let o = ap one_if not in
    let more = none_above x ys h.1 in
    omega arith

pub differ_sorted : (xs : List CounterKey) → IsStrictlySortedBy key_cmp xs → Differ xs
unfolding IsStrictlySortedBy
differ_sorted [] h c = omega arith
differ_sorted (x ∷ xs) h c = by (same_counter x c) refl (differ_sorted xs h.1 c)
  where
    by : (b : Bool) → same_counter x c ≡ b → count c xs ≤ 1 → one_if (same_counter x c) + count c xs ≤ 1
    by true e more =
        let is = same_is x c e in
        let none : count c xs ≡ 0 = ap (λ k. count k xs) (sym is) ∙ none_above x xs h.0 in
        let o = ap one_if e in
        omega arith
    by false e more = let o = ap one_if e in omega arith
