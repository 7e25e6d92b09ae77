-- Totals of counters that differ, once they are sorted by their counters.
use Rattle.std.proofs.Common.{◌≡◌, ℕ, zero, suc, ◌≤◌, ◌<◌, Bool, true, false, true≢false, List, [], ◌∷◌, length, map, get_or, All}
use Rattle.std.proofs.Common.{Ordering, Less, Equal, Greater, is_eq, refl, sym, ap, ◌∙◌, arith}
use Rattle.std.specs.Ordering.{is_lt, ordering_reverse}
use Rattle.std.specs.List.{AllByRecursion}
use Rattle.std.specs.List.Sorted.{IsPermutation, IsSortedBy, IsStrictlySortedBy}
use Rattle.std.proofs.lemmas.Cmp.{tied_itself}
use Rattle.std.proofs.lemmas.List.Elements.{All-from_recursion, recursion_from_All}
use Rattle.std.proofs.lemmas.List.Recursion.{is_sum_by}
use Rattle.std.proofs.lemmas.List.Sorted.{ranks_by, sorted_far, All-permutation, sum_by-IsPermutation, list_any-IsPermutation}
use Rattle.rate_types.specs.Counters.{key_cmp, same_counter}
use Rattle.rate_types.specs.Sums.{one_if}
use Rattle.rate_types.specs.declared.counter_key.CounterKey.{CounterKey}
use Rattle.rate_types.specs.contracts.counter_key.CounterKeyOrd.TheImpl.Laws.{total-law, matches_eq-law}
use Rattle.window_keys.specs.Counter.{window_end_of}
use Rattle.rls_core.specs.declared.totals.Total.{Total}
use Rattle.rls_core.specs.Totals.{totals_on, HaveTotals, AreTotals}

-- whether the counter of x is below that of y
abbrev pub is_below : Total → Total → Bool
is_below x y = is_lt (key_cmp x.key y.key)

-- a counter that is neither below another nor the same is above it
is_above : (a b : CounterKey) → is_lt (key_cmp b a) ≡ false → same_counter b a ≡ false → key_cmp a b ≡ Less
is_above a b low other = by (key_cmp b a) refl
  where
    by : (o : Ordering) → key_cmp b a ≡ o → key_cmp a b ≡ Less
    by Less e = absurd (true≢false (sym (ap is_lt e) ∙ low))
    by Equal e = absurd (true≢false (sym (ap is_eq e) ∙ sym (matches_eq-law b a) ∙ other))
    by Greater e = total-law.antisymm a b ∙ ap ordering_reverse e

no : (b : Bool) → one_if b ≡ 0 → b ≡ false
no true e = absurd (omega arith)
no false e = refl

-- no later one is below an earlier one
abbrev NoneFalls : List Total → Type 0
NoneFalls ts = (i j : ℕ) (d : Total) → i < j → j < length ts → is_below (get_or ts j d) (get_or ts i d) ≡ false

all_above : (t : Total) (ts : List Total) → All (λ y. is_below y t ≡ false) ts → totals_on t.key ts ≡ 0
    → AllByRecursion (λ k. key_cmp t.key k ≡ Less) (map (λ (y : Total). y.key) ts)
all_above t [] low none = tt
all_above t (y ∷ ts) low none =
    let first : one_if (same_counter y.key t.key) ≡ 0 = omega (arith, none) in
    let rest : totals_on t.key ts ≡ 0 = omega (arith, none) in (
      is_above t.key y.key (low 0 y (omega arith)) (no (same_counter y.key t.key) first),
      all_above t ts (λ j d inside. low (suc j) d (omega arith)) rest,
    )

in_order : (ts : List Total) → NoneFalls ts → ((c : CounterKey) → totals_on c ts ≤ 1) → IsStrictlySortedBy key_cmp (map (λ (y : Total). y.key) ts)
unfolding IsStrictlySortedBy
in_order [] up once = tt
in_order (t ∷ ts) up once =
    let own = ap one_if (matches_eq-law t.key t.key ∙ ap is_eq (tied_itself total-law t.key)) in
    let most = once t.key in (
      all_above t ts (λ j d inside. up zero (suc j) d (omega arith) (omega arith)) (omega (arith, own, most)),
      in_order ts (λ i j d lt inside. up (suc i) (suc j) d (omega arith) (omega arith)) (λ c. let o = once c in omega (arith, o)),
    )

module _ (ts us : List Total) (moved : IsPermutation ts us) where
  same_number : (c : CounterKey) → totals_on c us ≡ totals_on c ts
  same_number c =
      let f : Total → ℕ = λ t. one_if (same_counter t.key c) in
      is_sum_by (totals_on c) f refl (λ x xs. refl) us ∙ sum_by-IsPermutation f ts us moved ∙ sym (is_sum_by (totals_on c) f refl (λ x xs. refl) ts)

  -- sorted, totals of counters that differ are in key order
  pub are_totals : IsSortedBy is_below us → (charged : CounterKey → ℕ) (moment : ℕ) → HaveTotals charged moment ts → AreTotals charged moment us
  are_totals up charged moment have =
      let P : Total → Type 0 = λ t. (t.charged ≡ charged t.key) × (0 < t.charged) × (moment < window_end_of t.key) in
      record {
        in_order = in_order us (λ i j d lt inside. sorted_far is_below (ranks_by total-law (λ (t : Total). t.key)) us up i j d (omega arith) inside)
            (λ c. let same = same_number c in let o = have.once c in omega (arith, same, o));
        sums = recursion_from_All P us (All-permutation P ts us moved (All-from_recursion P ts have.sums));
        complete = λ c more later. sym (list_any-IsPermutation (λ t. same_counter c t.key) ts us moved) ∙ have.complete c more later;
      }
