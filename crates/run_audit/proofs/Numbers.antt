-- How many different counters a list has.
use Rattle.std.proofs.Common.{◌≡◌, ℕ, zero, suc, ◌≤◌, ◌==◌, ◌||◌, nat_le, List, [], ◌∷◌, length, take, Bool, true, false, cond, Some, Option, is_some, refl, sym, ap}
use Rattle.std.proofs.Common.{◌∙◌, subst, arith}
use Rattle.std.specs.Prelude.{count_by}
use Rattle.std.specs.Bool.{Decides}
use Rattle.std.specs.BTreeMap.{is_at}
use Rattle.std.specs.List.{AllByRecursion, IsDistinct, list_any}
use Rattle.std.specs.List.Sorted.{IsStrictlySortedBy}
use Rattle.std.specs.Map.{lookup, keys_of}
use Rattle.std.specs.Ordering.{eq_by_cmp}
use Rattle.std.proofs.lemmas.Bool.{leb-true, le-leb}
use Rattle.std.proofs.lemmas.Bool.Decides.{Decides-eqb}
use Rattle.std.proofs.lemmas.List.{length-map}
use Rattle.std.proofs.lemmas.List.Sums.{sum_by-cons}
use Rattle.std.proofs.lemmas.Map.Keys.{IsDistinct-from_sorted}
use Rattle.std.proofs.lemmas.Map.Made.{is_some-lookup, length-le_from_is_member, length-from_same_keys}
use Rattle.rate_types.specs.Counters.{key_cmp, same_counter}
use Rattle.rate_types.specs.Sums.{one_if}
use Rattle.rate_types.specs.declared.counter_key.CounterKey.{CounterKey}
use Rattle.rate_types.specs.contracts.counter_key.CounterKeyOrd.TheImpl.Laws.{matches_eq-law}
use Rattle.rate_types.specs.contracts.counter_key.CounterKeyEq.TheImpl.Laws.{laws-law}
use Rattle.window_keys.proofs.Counters.{same_is, same_itself, same_either}
use Rattle.rls_core.specs.Sums.{Sums, has_sum}
use Rattle.rls_core.specs.Sequential.{IsNumberOf}
use Rattle.script_run.specs.Named.{AreThere, is_among}
use mathlib.Core.Path.{fun_ext}
use Rattle.run_audit.proofs.Tests.{false_true}

-- ---- lists without a counter twice

differ_by_order : (xs : List CounterKey) → IsStrictlySortedBy key_cmp xs → IsDistinct same_counter xs
differ_by_order xs h =
    let same : eq_by_cmp key_cmp ≡ same_counter = fun_ext (λ a. fun_ext (λ b. sym (matches_eq-law a b))) in
    subst (λ (e : CounterKey → CounterKey → Bool). IsDistinct e xs) same (IsDistinct-from_sorted key_cmp xs h)

abbrev count : CounterKey → List CounterKey → ℕ
count c xs = count_by (λ k. same_counter c k) xs

never : (c : CounterKey) (xs : List CounterKey) → AllByRecursion (λ y. same_counter c y ≡ false) xs → count c xs ≡ 0
never c [] h = refl
never c (x ∷ xs) h =
    let s = sum_by-cons (λ (k : CounterKey). cond (same_counter c k) 1 0) x xs in
    let e = ap one_if h.0 in
    let r = never c xs h.1 in
    omega arith

none_in : (c : CounterKey) (xs : List CounterKey) → count c xs ≡ 0 → AllByRecursion (λ y. same_counter c y ≡ false) xs
none_in c [] h = tt
none_in c (x ∷ xs) h = by (same_counter c x) refl (λ m. none_in c xs m)
  where
    by : (b : Bool) → same_counter c x ≡ b → (count c xs ≡ 0 → AllByRecursion (λ y. same_counter c y ≡ false) xs)
        → (same_counter c x ≡ false) × AllByRecursion (λ y. same_counter c y ≡ false) xs
    by true e more =
        let s = sum_by-cons (λ (k : CounterKey). cond (same_counter c k) 1 0) x xs in
        let one = ap one_if e in
        absurd (omega arith)
    by false e more =
        let s = sum_by-cons (λ (k : CounterKey). cond (same_counter c k) 1 0) x xs in
        let no = ap one_if e in
        (e, more (omega arith))

pub once : (xs : List CounterKey) → IsDistinct same_counter xs → (c : CounterKey) → count c xs ≤ 1
unfolding IsDistinct
once [] h c = omega arith
once (x ∷ xs) h c = by (same_counter c x) refl (once xs h.1 c)
  where
    by : (b : Bool) → same_counter c x ≡ b → count c xs ≤ 1 → count c (x ∷ xs) ≤ 1
    by true e r =
        let s = sum_by-cons (λ (k : CounterKey). cond (same_counter c k) 1 0) x xs in
        let is : x ≡ c = sym (same_is c x e) in
        let none = never c xs (subst (λ k. AllByRecursion (λ y. same_counter k y ≡ false) xs) is h.0) in
        let one = ap one_if e in
        omega arith
    by false e r =
        let s = sum_by-cons (λ (k : CounterKey). cond (same_counter c k) 1 0) x xs in
        let no = ap one_if e in
        omega arith

pub distinct : (xs : List CounterKey) → ((c : CounterKey) → count c xs ≤ 1) → IsDistinct same_counter xs
unfolding IsDistinct
distinct [] h = tt
distinct (x ∷ xs) h =
    let s = sum_by-cons (λ (k : CounterKey). cond (same_counter x k) 1 0) x xs in
    let one = ap one_if (same_itself x) in
    let first = h x in (
      none_in x xs (omega arith),
      distinct xs (λ c. let t = sum_by-cons (λ (k : CounterKey). cond (same_counter c k) 1 0) x xs in let r = h c in omega arith),
    )

front_count : (n : ℕ) (xs : List CounterKey) (c : CounterKey) → count c (take n xs) ≤ count c xs
front_count zero xs c = omega arith
front_count (suc n) [] c = omega arith
front_count (suc n) (x ∷ xs) c =
    let s = sum_by-cons (λ (k : CounterKey). cond (same_counter c k) 1 0) x xs in
    let t = sum_by-cons (λ (k : CounterKey). cond (same_counter c k) 1 0) x (take n xs) in
    let r = front_count n xs c in
    omega arith

front_long : (n : ℕ) (xs : List CounterKey) → n ≤ length xs → length (take n xs) ≡ n
front_long zero xs h = refl
front_long (suc n) [] h = absurd (omega arith)
front_long (suc n) (x ∷ xs) h = ap suc (front_long n xs (omega arith))

-- ---- tests of counters

all_among : (P : CounterKey → Type 0) (xs : List CounterKey) (c : CounterKey) → AllByRecursion P xs → is_among xs c ≡ true → P c
all_among P [] c h e = absurd (false_true e)
all_among P (x ∷ xs) c h e = by (same_counter c x) refl (λ m. all_among P xs c h.1 m)
  where
    by : (b : Bool) → same_counter c x ≡ b → (is_among xs c ≡ true → P c) → P c
    by true s more = subst P (sym (same_is c x s)) h.0
    by false s more = more (sym (ap (λ b. b || is_among xs c) s) ∙ e)

is_either : (a b : Bool) → b ≡ true → (a || b) ≡ true
is_either true b h = refl
is_either false b h = h

first_among : (P : CounterKey → Type 0) (xs ys : List CounterKey) → ((c : CounterKey) → is_among xs c ≡ true → P c) → AllByRecursion P xs
first_among P [] ys h = tt
first_among P (x ∷ xs) ys h =
    (h x (ap (λ b. b || is_among xs x) (same_itself x)), first_among P xs ys (λ c e. h c (is_either (same_counter c x) (is_among xs c) e)))

all_front : (P : CounterKey → Type 0) (n : ℕ) (xs : List CounterKey) → AllByRecursion P xs → AllByRecursion P (take n xs)
all_front P zero xs h = tt
all_front P (suc n) [] h = tt
all_front P (suc n) (x ∷ xs) h = (h.0, all_front P n xs h.1)

module _ (test : CounterKey → Bool) (ks : List CounterKey) (apart : IsDistinct same_counter ks) (all : (c : CounterKey) → is_among ks c ≡ test c) where
  no_more : (k : ℕ) → AreThere test k → k ≤ length ks
  no_more k a =
      let l = length-le_from_is_member laws-law a.counters ks (distinct a.counters a.differ)
      (λ q e. all q ∙ all_among (λ c. test c ≡ true) a.counters q a.pass e) in
      omega (arith, l, a.count)

  so_many : (k : ℕ) → k ≤ length ks → AreThere test k
  so_many k h = record {
    counters = take k ks;
    differ = λ c. let f = front_count k ks c in let o = once ks apart c in omega arith;
    pass = all_front (λ c. test c ≡ true) k ks (first_among (λ c. test c ≡ true) ks [] (λ c e. sym (all c) ∙ e));
    count = front_long k ks h;
  }

  -- there are as many as these, and no more
  pub as_these : (k : ℕ) → Decides (nat_le k (length ks)) (AreThere test k)
  as_these k = (λ h. so_many k (leb-true k (length ks) h), λ a. le-leb k (length ks) (no_more k a))

module _ (test : CounterKey → Bool) (n : ℕ) (is : IsNumberOf test n) where
  same_number : (k : ℕ) → IsNumberOf test k → k ≡ n
  same_number k a =
      let l = length-from_same_keys laws-law a.counters is.counters (differ_by_order a.counters a.differ) (differ_by_order is.counters is.differ)
      (λ q. a.all q ∙ sym (is.all q)) in
      omega (arith, l, a.count, is.count)

  pub at_most : (k : ℕ) → Decides (nat_le k n) (AreThere test k)
  at_most k = subst (λ (m : ℕ). Decides (nat_le k m) (AreThere test k)) is.count (as_these test is.counters (differ_by_order is.counters is.differ) is.all k)

  pub just : (k : ℕ) → Decides (k == n) (IsNumberOf test k)
  just k =
      let d = Decides-eqb k n in
      (λ h. subst (λ m. IsNumberOf test m) (sym (d.0 h)) is, λ a. d.1 (same_number k a))

-- ---- a test that more counters pass

all_pass : (p t : CounterKey → Bool) → ((c : CounterKey) → t c ≡ true → p c ≡ true) → (xs : List CounterKey)
    → AllByRecursion (λ k. t k ≡ true) xs → AllByRecursion (λ k. p k ≡ true) xs
all_pass p t more [] h = tt
all_pass p t more (x ∷ xs) h = (more x h.0, all_pass p t more xs h.1)

pub weaker : (p t : CounterKey → Bool) (k : ℕ) → ((c : CounterKey) → t c ≡ true → p c ≡ true) → AreThere t k → AreThere p k
weaker p t k more a = record { counters = a.counters; differ = a.differ; pass = all_pass p t more a.counters a.pass; count = a.count }

-- ---- the sums of counters

pub among_keys : (ks : List CounterKey) (c : CounterKey) → list_any (is_at (key_cmp c)) ks ≡ is_among ks c
among_keys [] c = refl
among_keys (k ∷ ks) c =
    ap (λ b. b || list_any (is_at (key_cmp c)) ks) (sym (matches_eq-law c k)) ∙ ap (λ b. same_counter c k || b) (among_keys ks c)

pub keyed : (sums : Sums) (c : CounterKey) → has_sum sums c ≡ is_among (keys_of sums) c
keyed [] c = refl
keyed (e ∷ sums) c = is_some-lookup (is_at (key_cmp c)) (e ∷ sums) ∙ among_keys (keys_of (e ∷ sums)) c

pub number_of : (sums : Sums) (counters : List CounterKey) (n : ℕ) → n ≡ length sums → IsStrictlySortedBy key_cmp (keys_of sums)
    → ((c : CounterKey) → has_sum sums c ≡ is_among counters c) → IsNumberOf (is_among counters) n
number_of sums counters n is sorted same = record {
  counters = keys_of sums;
  differ = sorted;
  all = λ c. sym (keyed sums c) ∙ same c;
  count = length-map sums (λ e. e.0) ∙ sym is;
}

-- one more counter with a sum
picked : (a b d : Bool) → ((b || (a || d)) ≡ (a || (b || d)))
picked true true d = refl
picked true false d = refl
picked false b d = refl

has_more : (b : Bool) (n : ℕ) (o : Option ℕ) → is_some (cond b (Some n) o) ≡ (b || is_some o)
has_more true n o = refl
has_more false n o = refl

pub has_put : (old new : Sums) (counter c : CounterKey)
    → lookup (is_at (key_cmp c)) new ≡ cond (same_counter counter c) (Some 0) (lookup (is_at (key_cmp c)) old)
    → has_sum new c ≡ (same_counter c counter || has_sum old c)
has_put old new counter c found =
    ap is_some found ∙ has_more (same_counter counter c) 0 (lookup (is_at (key_cmp c)) old)
    ∙ ap (λ b. b || has_sum old c) (same_either counter c)

pub one_more_sum : (old new : Sums) (counter c : CounterKey) (rest : List CounterKey)
    → lookup (is_at (key_cmp c)) new ≡ cond (same_counter counter c) (Some 0) (lookup (is_at (key_cmp c)) old)
    → (has_sum new c || is_among rest c) ≡ (has_sum old c || is_among (counter ∷ rest) c)
one_more_sum old new counter c rest found =
    ap (λ b. b || is_among rest c) (has_put old new counter c found)
    ∙ either (same_counter c counter) (has_sum old c) (is_among rest c)
  where
    either : (a b d : Bool) → ((a || b) || d) ≡ (b || (a || d))
    either true true d = refl
    either true false d = refl
    either false b d = refl
