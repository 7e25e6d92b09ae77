-- The totals that sorted charges of a lawful ledger give are those of its open windows, and no others are.
use Rattle.std.proofs.Common.{◌≡◌, ℕ, ◌+◌, ◌<◌, ◌≤◌, ◌==◌, ◌&&◌, ◌||◌, not, nat_lt, Bool, true, false, cond, List, [], ◌∷◌, map, refl, sym, ap, ◌∙◌, subst, arith, inl, inr}
use Rattle.std.proofs.Common.{Ordering, Less, Equal, Greater, is_eq}
use Rattle.std.specs.Bool.{Decides}
use Rattle.std.specs.List.{AllByRecursion, list_any}
use Rattle.std.specs.List.Sorted.{IsPermutation, IsSorted, IsStrictlySortedBy}
use Rattle.std.specs.Ordering.{is_gt}
use Rattle.std.proofs.Common.{ltb-true, lt-ltb}
use Rattle.std.proofs.lemmas.Bool.{cases_lt}
use Rattle.std.proofs.lemmas.Bool.Decides.{Decides-eqb}
use Rattle.std.proofs.lemmas.List.Elements.{All-from_recursion, recursion_from_All}
use Rattle.std.proofs.lemmas.List.Sorted.{All-permutation, sum_by-IsPermutation}
use Rattle.std.proofs.lemmas.Cmp.{tied_itself}
use Rattle.std.proofs.lemmas.List.Sums.{sum_by-cons}
use Rattle.rate_types.specs.Counters.{key_cmp, same_counter}
use Rattle.rate_types.specs.Ledger.{Charge, charged_total, IsLawfulLedger}
use Rattle.rate_types.specs.declared.counter_key.CounterKey.{CounterKey}
use Rattle.rate_types.specs.contracts.counter_key.CounterKeyEq.TheImpl.Laws.{laws-law}
use Rattle.rate_types.specs.contracts.counter_key.CounterKeyOrd.TheImpl.Laws.{total-law, matches_eq-law}
use Rattle.window_keys.specs.Counter.{window_end_of}
use Rattle.window_keys.proofs.Counters.{same_is, is_same}
use Rattle.rls_core.specs.declared.totals.Total.{Total}
use Rattle.rls_core.specs.Totals.{AreTotals}
use Rattle.script_run.specs.Charges.{charged_in}
use Rattle.run_audit.specs.Chain.{charge_cmp, due_after, follow, is_chain}
use Rattle.run_audit.specs.Closing.{first_of, is_none, give_totals}
use Rattle.run_audit.proofs.Chains.{IsUpTo, InOrder, all_step, chain_decides, chain_permuted}
use Rattle.run_audit.proofs.ChargeOrder.{Up, between, still, in_order}
use Rattle.run_audit.proofs.Ledgers.{chain_of_ledger}
use Rattle.run_audit.proofs.Tests.{both, renamed}

false_true : false ≡ true → ⊥
false_true e = cc

less_equal : Less ≡ Equal → ⊥
less_equal e = cc

abbrev Keys : List Total → List CounterKey
Keys ts = map (λ t. t.key) ts

abbrev Has : CounterKey → List Total → Type 0
Has c ts = list_any (λ t. same_counter c t.key) ts ≡ true

-- a counter that has a total among these is one after which no counter comes first
abbrev After : CounterKey → List CounterKey → Type 0
After c ks = AllByRecursion (λ k. key_cmp c k ≡ Less) ks

not_itself : (c k : CounterKey) → key_cmp c k ≡ Less → same_counter c k ≡ true → ⊥
not_itself c k less same = less_equal (sym less ∙ ap (key_cmp c) (sym (same_is c k same)) ∙ tied_itself total-law c)

has_none : (c : CounterKey) (ts : List Total) → After c (Keys ts) → Has c ts → ⊥
has_none c [] after has = false_true has
has_none c (t ∷ ts) after has = by (same_counter c t.key) refl has (has_none c ts after.1)
  where
    by : (b : Bool) → same_counter c t.key ≡ b → (b || list_any (λ t. same_counter c t.key) ts) ≡ true
        → (list_any (λ t. same_counter c t.key) ts ≡ true → ⊥) → ⊥
    by true e h more = not_itself c t.key after.0 e
    by false e h more = more h

not_same_after : (c k : CounterKey) → key_cmp c k ≡ Less → same_counter c k ≡ false
not_same_after c k less = by (same_counter c k) refl
  where
    by : (b : Bool) → same_counter c k ≡ b → b ≡ false
    by true e = absurd (not_itself c k less e)
    by false e = refl

-- ---- totals of one function, and of another

pub agree : (f g : CounterKey → ℕ) (m : ℕ) (ts : List Total) → ((k : CounterKey) → m < window_end_of k → f k ≡ g k) → AreTotals f m ts
    → AreTotals g m ts
agree f g m ts same a = record {
  in_order = a.in_order;
  sums = all_step (λ t. (t.charged ≡ f t.key) × (0 < t.charged) × (m < window_end_of t.key))
      (λ t. (t.charged ≡ f t.key) × (0 < t.charged) × (m < window_end_of t.key))
      (λ t. (t.charged ≡ g t.key) × (0 < t.charged) × (m < window_end_of t.key)) (λ t h u. (h.0 ∙ same t.key h.2, h.1, h.2)) ts a.sums a.sums;
  complete = λ k more lasts. a.complete k (subst (λ n. 0 < n) (sym (same k lasts)) more) lasts;
}

like : (f g : CounterKey → ℕ) (m : ℕ) (ts : List Total) (b : Bool) → ((k : CounterKey) → m < window_end_of k → f k ≡ g k)
    → Decides b (AreTotals g m ts) → Decides b (AreTotals f m ts)
like f g m ts b same d =
    (λ e. agree g f m ts (λ k lasts. sym (same k lasts)) (d.0 e), λ a. d.1 (agree f g m ts same a))

no_totals : (f : CounterKey → ℕ) (m : ℕ) (ts : List Total) → ((k : CounterKey) → f k ≡ 0) → Decides (is_none ts) (AreTotals f m ts)
unfolding IsStrictlySortedBy
no_totals f m [] zero = (
  λ e. record { in_order = tt; sums = tt; complete = λ k more lasts. absurd (omega (arith, zero k, more)) },
  λ a. refl,
)
no_totals f m (t ∷ ts) zero = (
  λ e. absurd (false_true e),
  λ a. absurd (omega (arith, zero t.key, a.sums.0.0, a.sums.0.1)),
)

-- ---- the first total

module _ (f g : CounterKey → ℕ) (m n : ℕ) (c : CounterKey) (others : (k : CounterKey) → same_counter c k ≡ false → f k ≡ g k)
    (here : f c ≡ n) (some : 0 < n) (later : (k : CounterKey) → 0 < g k → key_cmp c k ≡ Less) (lasts : m < window_end_of c) where
  abbrev IsSum : (CounterKey → ℕ) → Total → Type 0
  IsSum h t = (t.charged ≡ h t.key) × (0 < t.charged) × (m < window_end_of t.key)

  sum_after : (t : Total) → IsSum g t → key_cmp c t.key ≡ Less
  sum_after t h = later t.key (subst (λ n. 0 < n) h.0 h.1)

  after_keys : (ts : List Total) → AllByRecursion (IsSum g) ts → After c (Keys ts)
  after_keys [] h = tt
  after_keys (t ∷ ts) h = (sum_after t h.0, after_keys ts h.1)

  sums_g : (ts : List Total) → After c (Keys ts) → AllByRecursion (IsSum f) ts → AllByRecursion (IsSum g) ts
  sums_g [] after h = tt
  sums_g (t ∷ ts) after h = ((h.0.0 ∙ others t.key (not_same_after c t.key after.0), h.0.1, h.0.2), sums_g ts after.1 h.1)

  sums_f : (ts : List Total) → AllByRecursion (IsSum g) ts → AllByRecursion (IsSum f) ts
  sums_f [] h = tt
  sums_f (t ∷ ts) h = ((h.0.0 ∙ sym (others t.key (not_same_after c t.key (sum_after t h.0))), h.0.1, h.0.2), sums_f ts h.1)

  further : (a : CounterKey) (ks : List CounterKey) → key_cmp c a ≡ Less → After a ks → After c ks
  further a [] e h = tt
  further a (k ∷ ks) e h = (total-law.trans c a k e h.0, further a ks e h.1)

  has_more : (k : CounterKey) (t : Total) (ts : List Total) → same_counter k t.key ≡ false → Has k (t ∷ ts) → Has k ts
  has_more k t ts differ has = sym (ap (λ b. b || list_any (λ t. same_counter k t.key) ts) differ) ∙ has

  has_first : (k : CounterKey) (t : Total) (ts : List Total) → same_counter k t.key ≡ true → Has k (t ∷ ts)
  has_first k t ts same = ap (λ b. b || list_any (λ t. same_counter k t.key) ts) same

  has_later : (k : CounterKey) (t : Total) (ts : List Total) → Has k ts → Has k (t ∷ ts)
  has_later k t ts has = by (same_counter k t.key)
    where
      by : (b : Bool) → (b || list_any (λ t. same_counter k t.key) ts) ≡ true
      by true = refl
      by false = has

  joined : (t : Total) (ts : List Total) → same_counter c t.key ≡ true → t.charged ≡ n → AreTotals g m ts → AreTotals f m (t ∷ ts)
  unfolding IsStrictlySortedBy
  joined t ts same sum a = record {
    in_order = (subst (λ k. After k (Keys ts)) is (after_keys ts a.sums), a.in_order);
    sums = ((sum ∙ sym here ∙ ap f is, subst (λ n. 0 < n) (sym sum) some, subst (λ k. m < window_end_of k) is lasts), sums_f ts a.sums);
    complete = λ k more open_k. by k (same_counter c k) refl more open_k;
  }
    where
      is : c ≡ t.key
      is = same_is c t.key same

      by : (k : CounterKey) (b : Bool) → same_counter c k ≡ b → 0 < f k → m < window_end_of k → Has k (t ∷ ts)
      by k true e more open_k = has_first k t ts (is_same k t.key (sym (same_is c k e) ∙ is))
      by k false e more open_k = has_later k t ts (a.complete k (subst (λ n. 0 < n) (others k e) more) open_k)

  first_same : (t : Total) (ts : List Total) → AreTotals f m (t ∷ ts) → same_counter c t.key ≡ true
  unfolding IsStrictlySortedBy
  first_same t ts a = by (same_counter c t.key) refl
    where
      by : (b : Bool) → same_counter c t.key ≡ b → b ≡ true
      by true e = refl
      by false e =
          let first : key_cmp c t.key ≡ Less = later t.key (subst (λ n. 0 < n) (a.sums.0.0 ∙ others t.key e) a.sums.0.1) in
          let has : Has c (t ∷ ts) = a.complete c (subst (λ n. 0 < n) (sym here) some) lasts in
          absurd (has_none c (t ∷ ts) (first, further t.key (Keys ts) first a.in_order.0) has)

  rest_of : (t : Total) (ts : List Total) → AreTotals f m (t ∷ ts) → AreTotals g m ts
  unfolding IsStrictlySortedBy
  rest_of t ts a = record {
    in_order = a.in_order.1;
    sums = sums_g ts after a.sums.1;
    complete = λ k more open_k.
        let less : key_cmp c k ≡ Less = later k more in
        let has : Has k (t ∷ ts) = a.complete k (subst (λ n. 0 < n) (sym (others k (not_same_after c k less))) more) open_k in
        has_more k t ts (differ k less) has;
  }
    where
      is : c ≡ t.key
      is = same_is c t.key (first_same t ts a)

      after : After c (Keys ts)
      after = subst (λ k. After k (Keys ts)) (sym is) a.in_order.0

      differ : (k : CounterKey) → key_cmp c k ≡ Less → same_counter k t.key ≡ false
      differ k less = by (same_counter k t.key) refl
        where
          by : (b : Bool) → same_counter k t.key ≡ b → b ≡ false
          by true e = absurd (not_itself c k less (is_same c k (is ∙ sym (same_is k t.key e))))
          by false e = refl

  pub first_decides : (x : Charge CounterKey) (rest : List Total → Bool) (ts : List Total) → x.counter ≡ c → x.before + x.hits ≡ n
      → ((us : List Total) → Decides (rest us) (AreTotals g m us)) → Decides (first_of x rest ts) (AreTotals f m ts)
  first_decides x rest [] is_c is_n d = (
    λ e. absurd (false_true e),
    λ a. absurd (false_true (a.complete c (subst (λ n. 0 < n) (sym here) some) lasts)),
  )
  first_decides x rest (t ∷ ts) is_c is_n d =
      let own : Decides (same_counter x.counter t.key) (same_counter x.counter t.key ≡ true) = (λ e. e, λ e. e) in
      let all = both (same_counter x.counter t.key && (t.charged == x.before + x.hits)) (rest ts)
      (both (same_counter x.counter t.key) (t.charged == x.before + x.hits) own (Decides-eqb t.charged (x.before + x.hits))) (d ts) in (
        λ e. let h = all.0 e in joined t ts (subst (λ k. same_counter k t.key ≡ true) is_c h.0.0) (h.0.1 ∙ is_n) h.1,
        λ a. let same = first_same t ts a in
            all.1 (
              (
                subst (λ k. same_counter k t.key ≡ true) (sym is_c) same,
                a.sums.0.0 ∙ ap f (sym (same_is c t.key same)) ∙ here ∙ sym is_n,
              ),
              rest_of t ts a,
            ),
      )

-- ---- along sorted charges

total_cons : (k : CounterKey) (x : Charge CounterKey) (xs : List (Charge CounterKey))
    → charged_total same_counter k (x ∷ xs) ≡ cond (same_counter x.counter k) x.hits 0 + charged_total same_counter k xs
total_cons k x xs = sum_by-cons (λ y. cond (same_counter y.counter k) y.hits 0) x xs

-- what is on a counter, where the first one stands for all up to it
abbrev On : Charge CounterKey → List (Charge CounterKey) → CounterKey → ℕ
On x xs k = cond (same_counter x.counter k) (x.before + x.hits) 0 + charged_total same_counter k xs

abbrev Later : CounterKey → List (Charge CounterKey) → Type 0
Later c xs = AllByRecursion (λ z. key_cmp c z.counter ≡ Less) xs

charged_later : (c k : CounterKey) (xs : List (Charge CounterKey)) → Later c xs → 0 < charged_total same_counter k xs → key_cmp c k ≡ Less
charged_later c k [] later some = absurd (omega arith)
charged_later c k (x ∷ xs) later some = by (same_counter x.counter k) refl (total_cons k x xs) (charged_later c k xs later.1)
  where
    by : (b : Bool) → same_counter x.counter k ≡ b
        → charged_total same_counter k (x ∷ xs) ≡ cond b x.hits 0 + charged_total same_counter k xs
        → (0 < charged_total same_counter k xs → key_cmp c k ≡ Less) → key_cmp c k ≡ Less
    by true e sum more = subst (λ j. key_cmp c j ≡ Less) (same_is x.counter k e) later.0
    by false e sum more = more (omega (arith, sum, some))

none_on : (c : CounterKey) (xs : List (Charge CounterKey)) → Later c xs → charged_total same_counter c xs ≡ 0
none_on c xs later = elim (cases_lt 0 (charged_total same_counter c xs)) [
  | inl some ↦ absurd (less_equal (sym (charged_later c c xs later some) ∙ tied_itself total-law c))
  | inr none ↦ omega arith
]

less_from : (o : Ordering) → is_gt o ≡ false → is_eq o ≡ false → o ≡ Less
less_from Less e f = refl
less_from Equal e f = absurd (false_true (sym f))
less_from Greater e f = absurd (false_true (sym e))

later_one : (x z : Charge CounterKey) → Up x.counter z.counter → same_counter x.counter z.counter ≡ false → key_cmp x.counter z.counter ≡ Less
later_one x z up differ = less_from (key_cmp x.counter z.counter) up (sym (matches_eq-law x.counter z.counter) ∙ differ)

-- after a charge on another counter all are on later ones
later_all : (x y : Charge CounterKey) (ys : List (Charge CounterKey)) → InOrder same_counter Up (x ∷ y ∷ ys)
    → same_counter x.counter y.counter ≡ false → Later x.counter (y ∷ ys)
later_all x y ys order differ = (
  later_one x y order.0.0.counters differ,
  all_step (IsUpTo same_counter Up x) (IsUpTo same_counter Up y) (λ z. key_cmp x.counter z.counter ≡ Less)
      (λ z u v. later_one x z u.counters (by z v.counters (same_counter x.counter z.counter) refl)) ys order.0.1 order.1.0,
)
  where
    by : (z : Charge CounterKey) → Up y.counter z.counter → (b : Bool) → same_counter x.counter z.counter ≡ b → b ≡ false
    by z up true e = absurd (false_true (sym differ ∙ between x.counter y.counter z.counter order.0.0.counters up e))
    by z up false e = refl

-- a charge that is the last on its counter, where these are the later ones
last_decides : (m : ℕ) (x : Charge CounterKey) (xs : List (Charge CounterKey)) (rest : List Total → Bool) → 1 ≤ x.hits → Later x.counter xs
    → ((us : List Total) → Decides (rest us) (AreTotals (λ k. charged_total same_counter k xs) m us)) → (ts : List Total)
    → Decides (cond (nat_lt m (window_end_of x.counter)) (first_of x rest ts) (rest ts)) (AreTotals (On x xs) m ts)
last_decides m x xs rest some later d ts = by (nat_lt m (window_end_of x.counter)) refl
  where
    elsewhere : (k : CounterKey) → same_counter x.counter k ≡ false → On x xs k ≡ charged_total same_counter k xs
    elsewhere k e = let none = ap (λ b. cond b (x.before + x.hits) 0) e in omega (arith, none)

    here : On x xs x.counter ≡ x.before + x.hits
    here =
        let all = ap (λ b. cond b (x.before + x.hits) 0) (is_same x.counter x.counter refl) in
        omega (arith, all, none_on x.counter xs later)

    by : (b : Bool) → nat_lt m (window_end_of x.counter) ≡ b → Decides (cond b (first_of x rest ts) (rest ts)) (AreTotals (On x xs) m ts)
    by true e =
        first_decides (On x xs) (λ k. charged_total same_counter k xs) m (x.before + x.hits) x.counter elsewhere here (omega (arith, some))
        (λ k more. charged_later x.counter k xs later more) (ltb-true m (window_end_of x.counter) e) x rest ts refl refl d
    by false e = like (On x xs) (λ k. charged_total same_counter k xs) m ts (rest ts)
        (λ k lasts. elsewhere k (apart k lasts (same_counter x.counter k) refl)) (d ts)
      where
        apart : (k : CounterKey) → m < window_end_of k → (b : Bool) → same_counter x.counter k ≡ b → b ≡ false
        apart k lasts false s = refl
        apart k lasts true s =
            let over : m < window_end_of x.counter = subst (λ j. m < window_end_of j) (sym (same_is x.counter k s)) lasts in
            absurd (false_true (sym e ∙ lt-ltb m (window_end_of x.counter) over))

-- the sums of two charges on one counter
merged : (x y : Charge CounterKey) (ys : List (Charge CounterKey)) → y.before ≡ x.before + x.hits → same_counter x.counter y.counter ≡ true
    → (k : CounterKey) → On x (y ∷ ys) k ≡ On y ys k
merged x y ys next same k =
    by (same_counter y.counter k) (ap (λ c. same_counter c k) (same_is x.counter y.counter same)) (total_cons k y ys)
  where
    by : (b : Bool) → same_counter x.counter k ≡ b
        → charged_total same_counter k (y ∷ ys) ≡ cond b y.hits 0 + charged_total same_counter k ys
        → On x (y ∷ ys) k ≡ cond b (y.before + y.hits) 0 + charged_total same_counter k ys
    by true e sum = let all = ap (λ b. cond b (x.before + x.hits) 0) e in omega (arith, all, sum, next)
    by false e sum = let all = ap (λ b. cond b (x.before + x.hits) 0) e in omega (arith, all, sum)

-- where nothing is charged before the first one
begun : (y : Charge CounterKey) (ys : List (Charge CounterKey)) → y.before ≡ 0 → (k : CounterKey)
    → charged_total same_counter k (y ∷ ys) ≡ On y ys k
begun y ys none k = total_cons k y ys ∙ ap (λ n. cond (same_counter y.counter k) n 0 + charged_total same_counter k ys) (omega (arith, none))

both_from : (a b : Bool) → (a && b) ≡ true → (a ≡ true) × (b ≡ true)
both_from true b e = (refl, e)
both_from false b e = absurd (false_true e)

pub along : (m : ℕ) (x : Charge CounterKey) (xs : List (Charge CounterKey)) → InOrder same_counter Up (x ∷ xs)
    → AllByRecursion (λ x. 1 ≤ x.hits) (x ∷ xs) → follow same_counter (x ∷ xs) ≡ true → (ts : List Total)
    → Decides (give_totals m (x ∷ xs) ts) (AreTotals (On x xs) m ts)
along m x [] order hits chain ts =
    last_decides m x [] (give_totals m []) hits.0 tt (λ us. no_totals (λ k. 0) m us (λ k. refl)) ts
along m x (y ∷ ys) order hits chain ts =
    by (same_counter x.counter y.counter) refl (both_from (y.before == due_after same_counter x y) (follow same_counter (y ∷ ys)) chain)
    (λ e. along m y ys order.1 hits.1 e)
  where
    by : (s : Bool) → same_counter x.counter y.counter ≡ s
        → ((y.before == due_after same_counter x y) ≡ true) × (follow same_counter (y ∷ ys) ≡ true)
        → (follow same_counter (y ∷ ys) ≡ true → (us : List Total) → Decides (give_totals m (y ∷ ys) us) (AreTotals (On y ys) m us))
        → Decides (cond (not s && nat_lt m (window_end_of x.counter)) (first_of x (give_totals m (y ∷ ys)) ts) (give_totals m (y ∷ ys) ts))
        (AreTotals (On x (y ∷ ys)) m ts)
    by true s h more =
        let due = (Decides-eqb y.before (due_after same_counter x y)).0 h.0 ∙ ap (λ b. cond b (x.before + x.hits) 0) s in
        like (On x (y ∷ ys)) (On y ys) m ts (give_totals m (y ∷ ys) ts) (λ k lasts. merged x y ys due s k) (more h.1 ts)
    by false s h more =
        let due : y.before ≡ 0 = (Decides-eqb y.before (due_after same_counter x y)).0 h.0 ∙ ap (λ b. cond b (x.before + x.hits) 0) s in
        last_decides m x (y ∷ ys) (give_totals m (y ∷ ys)) hits.0 (later_all x y ys order s)
        (λ us. like (λ k. charged_total same_counter k (y ∷ ys)) (On y ys) m us (give_totals m (y ∷ ys) us) (λ k lasts. begun y ys due k)
        (more h.1 us)) ts

pub chain_totals : (m : ℕ) (xs : List (Charge CounterKey)) → InOrder same_counter Up xs → AllByRecursion (λ x. 1 ≤ x.hits) xs
    → is_chain same_counter xs ≡ true → (ts : List Total)
    → Decides (give_totals m xs ts) (AreTotals (λ k. charged_total same_counter k xs) m ts)
chain_totals m [] order hits chain ts = no_totals (λ k. 0) m ts (λ k. refl)
chain_totals m (x ∷ xs) order hits chain ts =
    let h = both_from (x.before == 0) (follow same_counter (x ∷ xs)) chain in
    like (λ k. charged_total same_counter k (x ∷ xs)) (On x xs) m ts (give_totals m (x ∷ xs) ts)
    (λ k lasts. begun x xs ((Decides-eqb x.before 0).0 h.0) k) (along m x xs order hits h.1 ts)

-- the totals of a lawful ledger, by its sorted charges
pub totals_by : (m : ℕ) (xs ys : List (Charge CounterKey)) (ts : List Total) (b : Bool) → IsPermutation xs ys → IsSorted charge_cmp ys
    → IsLawfulLedger same_counter xs → b ≡ give_totals m ys ts → Decides b (AreTotals (charged_in xs) m ts)
totals_by m xs ys ts b moved sorted ledger is =
    let order = in_order ys sorted in
    let chain = (chain_decides same_counter laws-law Up between still ys order).1
    (chain_permuted same_counter laws-law Up between xs ys moved (chain_of_ledger same_counter xs ledger)) in
    let hits = recursion_from_All (λ (x : Charge CounterKey). 1 ≤ x.hits) ys (All-permutation (λ (x : Charge CounterKey). 1 ≤ x.hits) xs ys moved
    (All-from_recursion (λ (x : Charge CounterKey). 1 ≤ x.hits) xs ledger.hits)) in
    renamed b (give_totals m ys ts) is (like (charged_in xs) (λ k. charged_total same_counter k ys) m ts (give_totals m ys ts)
    (λ k lasts. sym (sum_by-IsPermutation (λ y. cond (same_counter y.counter k) y.hits 0) xs ys moved)) (chain_totals m ys order hits chain ts))
