-- Lists without a counter twice, as numbers of counters.
use Rattle.std.proofs.Common.{◌≡◌, ℕ, zero, suc, ◌+◌, ◌≤◌, ◌&&◌, List, ◌++◌, length, filter, Bool, true, false, cond, refl, sym, ap, ◌∙◌, arith, true≢false, length-append}
use Rattle.std.specs.Prelude.{nat_lt}
use Rattle.rate_types.specs.Counters.{same_counter}
use Rattle.rate_types.specs.Sums.{one_if}
use Rattle.rate_types.proofs.Sums.{total_append}
use Rattle.rate_types.specs.declared.counter_key.CounterKey.{CounterKey}
use Rattle.rls_core.specs.Sequential.{IsNumberOf}
use Rattle.rate_limiter.proofs.CounterLists.{count, Differ, among, among_count, among_from_count, no_longer, filter_count}
use Rattle.worker_run.proofs.KeyOrder.{in_order, sorted, among_in_order, length_in_order, differ_sorted}

-- so many as a list without one twice has
pub number_of : (test : CounterKey → Bool) (xs : List CounterKey) → Differ xs → ((c : CounterKey) → among xs c ≡ test c) → IsNumberOf test (length xs)
number_of test xs differ is = record { counters = in_order xs; differ = sorted xs; all = λ c. among_in_order xs c ∙ is c; count = length_in_order xs differ }

-- as many as there are
pub number_in : (test : CounterKey → Bool) (xs : List CounterKey) → ((c : CounterKey) → among xs c ≡ test c) → IsNumberOf test (length (in_order xs))
number_in test xs is = record { counters = in_order xs; differ = sorted xs; all = λ c. among_in_order xs c ∙ is c; count = refl }

-- those of a list that pass a test
pub among_filter : (t : CounterKey → Bool) (xs : List CounterKey) (c : CounterKey) → among (filter t xs) c ≡ (t c && among xs c)
among_filter t xs c = among_count (filter t xs) c ∙ ap (nat_lt 0) (filter_count t xs c) ∙ by (t c) ∙ ap (λ b. t c && b) (sym (among_count xs c))
  where
    by : (b : Bool) → nat_lt 0 (cond b (count c xs) 0) ≡ (b && nat_lt 0 (count c xs))
    by true = refl
    by false = refl

-- two numbers of counters of which none passes both tests are together at most the length of a list that has them all
pub numbers_fit : (s t : CounterKey → Bool) (m n : ℕ) (ys : List CounterKey) → IsNumberOf s m → IsNumberOf t n → ((c : CounterKey) → s c ≡ true → t c ≡ false)
    → ((c : CounterKey) → s c ≡ true → 1 ≤ count c ys) → ((c : CounterKey) → t c ≡ true → 1 ≤ count c ys) → m + n ≤ length ys
numbers_fit s t m n ys a b apart first second =
    let l = no_longer (a.counters ++ b.counters) ys each in
    let e = length-append a.counters b.counters in
    let x = a.count in
    let y = b.count in
    omega arith
  where
    each : (c : CounterKey) → count c (a.counters ++ b.counters) ≤ count c ys
    each c = pick (count c a.counters) (count c b.counters) refl refl
      where
        passes_a : 1 ≤ count c a.counters → s c ≡ true
        passes_a h = sym (a.all c) ∙ among_from_count a.counters c h

        passes_b : 1 ≤ count c b.counters → t c ≡ true
        passes_b h = sym (b.all c) ∙ among_from_count b.counters c h

        both : count c (a.counters ++ b.counters) ≡ count c a.counters + count c b.counters
        both = total_append (λ (k : CounterKey). one_if (same_counter k c)) a.counters b.counters

        pick : (i j : ℕ) → count c a.counters ≡ i → count c b.counters ≡ j → count c (a.counters ++ b.counters) ≤ count c ys
        pick zero zero x y = let e = both in omega arith
        pick zero (suc j) x y =
            let e = both in
            let d = differ_sorted b.counters b.differ c in
            let g = second c (passes_b (omega arith)) in
            omega arith
        pick (suc i) zero x y =
            let e = both in
            let d = differ_sorted a.counters a.differ c in
            let g = first c (passes_a (omega arith)) in
            omega arith
        pick (suc i) (suc j) x y = absurd (true≢false (sym (passes_b (omega arith)) ∙ apart c (passes_a (omega arith))))
