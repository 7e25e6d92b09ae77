-- Charges in order: each has what is due after the one before it just where each count is the sum of those below it.
use Rattle.std.proofs.Common.{◌≡◌, ℕ, ◌+◌, ◌<◌, ◌≤◌, ◌==◌, ◌&&◌, nat_lt, Bool, true, false, cond, List, [], ◌∷◌, refl, sym, ap, ◌∙◌, arith, inl, inr}
use Rattle.std.specs.Bool.{Decides}
use Rattle.std.specs.Cmp.{IsEquivalence}
use Rattle.std.specs.List.{AllByRecursion}
use Rattle.std.proofs.lemmas.Bool.{cases_lt}
use Rattle.std.proofs.lemmas.Bool.Decides.{nat_tests, Decides-eqb, Decides-and}
use Rattle.std.proofs.lemmas.List.Sums.{sum_by-cons}
use Rattle.std.specs.List.Sorted.{IsPermutation}
use Rattle.std.proofs.lemmas.List.Elements.{All-from_recursion, recursion_from_All}
use Rattle.std.proofs.lemmas.List.Sorted.{All-permutation, sum_by-IsPermutation}
use Rattle.rate_types.specs.Ledger.{Charge, charged_below}
use Rattle.run_audit.specs.Chain.{charged_at, IsChain, follow, is_chain}

pub all_step : {X : Type 0} (P Q R : X → Type 0) → ((y : X) → P y → Q y → R y) → (xs : List X) → AllByRecursion P xs → AllByRecursion Q xs
    → AllByRecursion R xs
all_step P Q R f [] p q = tt
all_step P Q R f (x ∷ xs) p q = (f x p.0 q.0, all_step P Q R f xs p.1 q.1)

pub all_of : {X : Type 0} (P : X → Type 0) → ((y : X) → P y) → (xs : List X) → AllByRecursion P xs
all_of P f [] = tt
all_of P f (x ∷ xs) = (f x, all_of P f xs)

false_true : false ≡ true → ⊥
false_true e = cc

-- ---- one later charge, by numbers

fwd : (xy cx cy : Bool) (n xb xh yb s : ℕ) → (xy ≡ true → cx ≡ cy) → (xy ≡ false → cy ≡ false) → xb ≡ cond cx n 0
    → (xy ≡ true → xb ≤ yb) → (xy ≡ true → xb ≡ yb → xh ≡ 0)
    → yb ≡ cond cy n 0 + (cond (xy && nat_lt xb yb) xh 0 + s) → yb ≡ cond xy (xb + xh) 0 + s
fwd xy cx cy n xb xh yb s p q first up tie e = grind (arith, nat_tests)

bwd : (xy cx cy : Bool) (n xb xh yb s : ℕ) → (xy ≡ true → cx ≡ cy) → (xy ≡ false → cy ≡ false) → xb ≡ cond cx n 0
    → yb ≡ cond xy (xb + xh) 0 + s → yb ≡ cond cy n 0 + (cond (xy && nat_lt xb yb) xh 0 + s)
bwd xy cx cy n xb xh yb s p q first e = grind (arith, nat_tests)

-- a charge isn't after another in their order
pub record IsUpTo {C : Type 0} (same : C → C → Bool) (Up : C → C → Type 0) (x y : Charge C) : Type 0 where
  pub counters : Up x.counter y.counter
  pub least : same x.counter y.counter ≡ true → x.before ≤ y.before
  pub tied : same x.counter y.counter ≡ true → x.before ≡ y.before → x.hits ≤ y.hits

abbrev pub InOrder : {C : Type 0} → (C → C → Bool) → (C → C → Type 0) → List (Charge C) → Type 0
InOrder same Up [] = Unit {0}
InOrder same Up (x ∷ xs) = AllByRecursion (IsUpTo same Up x) xs × InOrder same Up xs

module _ {C : Type 0} (same : C → C → Bool) (laws : IsEquivalence same) (Up : C → C → Type 0)
    (between : (a b d : C) → Up a b → Up b d → same a d ≡ true → same a b ≡ true) where
  same_to : (a b d : C) → same a b ≡ true → same d a ≡ same d b
  same_to a b d e = laws.symm d a ∙ laws.congr a b d e ∙ laws.symm b d

  flipped : (a b : C) (t : Bool) → same a b ≡ t → same b a ≡ t
  flipped a b t e = laws.symm b a ∙ e

  -- what is charged on the counter where so much is up to now charged on counter c
  abbrev due : C → ℕ → Charge C → ℕ
  due c n x = cond (same c x.counter) n 0

  -- the counts of charges after those of which the last is on counter c, and after which it has n
  pub record After (c : C) (n : ℕ) (xs : List (Charge C)) : Type 0 where
    pub sums : AllByRecursion (λ x. x.before ≡ due c n x + charged_below same x.counter x.before xs) xs
    pub apart : (k : C) (b : ℕ) → charged_at same k b xs ≤ 1

  below_cons : (k : C) (b : ℕ) (x : Charge C) (xs : List (Charge C))
      → charged_below same k b (x ∷ xs) ≡ cond (same x.counter k && nat_lt x.before b) x.hits 0 + charged_below same k b xs
  below_cons k b x xs = sum_by-cons (λ y. cond (same y.counter k && nat_lt y.before b) y.hits 0) x xs

  at_cons : (k : C) (b : ℕ) (x : Charge C) (xs : List (Charge C))
      → charged_at same k b (x ∷ xs) ≡ cond (same x.counter k && ((x.before == b) && nat_lt 0 x.hits)) 1 0 + charged_at same k b xs
  at_cons k b x xs = sum_by-cons (λ y. cond (same y.counter k && ((y.before == b) && nat_lt 0 y.hits)) 1 0) x xs

  -- no charge on it has less before it
  none_below : (k : C) (b : ℕ) (xs : List (Charge C)) → AllByRecursion (λ y. same y.counter k ≡ true → b ≤ y.before) xs
      → charged_below same k b xs ≡ 0
  none_below k b [] h = refl
  none_below k b (y ∷ ys) h = by (same y.counter k) (h.0) (below_cons k b y ys) (none_below k b ys h.1)
    where
      by : (t : Bool) → (t ≡ true → b ≤ y.before) → charged_below same k b (y ∷ ys) ≡ cond (t && nat_lt y.before b) y.hits 0 + charged_below same k b ys
          → charged_below same k b ys ≡ 0 → charged_below same k b (y ∷ ys) ≡ 0
      by t low e more = grind (arith, nat_tests)

  abbrev IsElsewhere : C → ℕ → Charge C → Type 0
  IsElsewhere k b y = same y.counter k ≡ true → y.before ≡ b → y.hits ≡ 0

  none_at : (k : C) (b : ℕ) (xs : List (Charge C)) → AllByRecursion (IsElsewhere k b) xs → charged_at same k b xs ≡ 0
  none_at k b [] h = refl
  none_at k b (y ∷ ys) h = by (same y.counter k) h.0 (at_cons k b y ys) (none_at k b ys h.1)
    where
      by : (t : Bool) → (t ≡ true → y.before ≡ b → y.hits ≡ 0)
          → charged_at same k b (y ∷ ys) ≡ cond (t && ((y.before == b) && nat_lt 0 y.hits)) 1 0 + charged_at same k b ys
          → charged_at same k b ys ≡ 0 → charged_at same k b (y ∷ ys) ≡ 0
      by t other e more = grind (arith, nat_tests)

  all_elsewhere : (k : C) (b : ℕ) (xs : List (Charge C)) → charged_at same k b xs ≡ 0 → AllByRecursion (IsElsewhere k b) xs
  all_elsewhere k b [] h = tt
  all_elsewhere k b (y ∷ ys) h =
      (by (same y.counter k) (at_cons k b y ys), all_elsewhere k b ys (omega (arith, at_cons k b y ys, h)))
    where
      by : (t : Bool) → charged_at same k b (y ∷ ys) ≡ cond (t && ((y.before == b) && nat_lt 0 y.hits)) 1 0 + charged_at same k b ys
          → t ≡ true → y.before ≡ b → y.hits ≡ 0
      by t e on same_before = grind (arith, nat_tests, h)

  apart_tail : (k : C) (b : ℕ) (x : Charge C) (xs : List (Charge C)) → charged_at same k b (x ∷ xs) ≤ 1 → charged_at same k b xs ≤ 1
  apart_tail k b x xs h = omega (arith, at_cons k b x xs, h)

  -- a later charge is on no counter but the next one where the next one isn't on it
  passed : (c : C) (x y : Charge C) → Up c x.counter → IsUpTo same Up x y → same x.counter y.counter ≡ false → same c y.counter ≡ false
  passed c x y up order differ = by (same c y.counter) refl
    where
      by : (t : Bool) → same c y.counter ≡ t → t ≡ false
      by false e = refl
      by true e =
          let first : same c x.counter ≡ true = between c x.counter y.counter up order.counters e in
          absurd (false_true (sym differ ∙ (laws.symm x.counter y.counter ∙ sym (same_to c x.counter y.counter first) ∙ flipped c y.counter true e)))

  nothing_below : (x : Charge C) (xs : List (Charge C)) → AllByRecursion (IsUpTo same Up x) xs → charged_below same x.counter x.before (x ∷ xs) ≡ 0
  nothing_below x xs order = none_below x.counter x.before (x ∷ xs) (
    λ e. omega arith,
    all_step (IsUpTo same Up x) (IsUpTo same Up x) (λ y. same y.counter x.counter ≡ true → x.before ≤ y.before)
        (λ y u v e. u.least (flipped y.counter x.counter true e)) xs order order,
  )

  -- a later charge with as much before it has no hits where this one has some
  abbrev Tie : Charge C → Charge C → Type 0
  Tie x y = 0 < x.hits → IsElsewhere x.counter x.before y

  ties : (x : Charge C) (xs : List (Charge C)) → charged_at same x.counter x.before (x ∷ xs) ≤ 1 → AllByRecursion (Tie x) xs
  ties x xs h = elim (cases_lt 0 x.hits) [
    | inl some ↦ all_step (IsElsewhere x.counter x.before) (IsElsewhere x.counter x.before) (Tie x) (λ y e f more. e) xs (rest some) (rest some)
    | inr none ↦ all_of (Tie x) (λ y more. absurd (omega arith)) xs
  ]
    where
      rest : 0 < x.hits → AllByRecursion (IsElsewhere x.counter x.before) xs
      rest some =
          let own : same x.counter x.counter ≡ true = laws.refl x.counter in
          let count : charged_at same x.counter x.before (x ∷ xs) ≡ cond (true && ((x.before == x.before) && nat_lt 0 x.hits)) 1 0 + charged_at same x.counter x.before xs =
          at_cons x.counter x.before x xs ∙ ap (λ t. cond (t && ((x.before == x.before) && nat_lt 0 x.hits)) 1 0 + charged_at same x.counter x.before xs) own in
          all_elsewhere x.counter x.before xs (grind (arith, nat_tests))

  pub next : (c : C) (n : ℕ) (x : Charge C) (xs : List (Charge C)) → Up c x.counter → InOrder same Up (x ∷ xs) → After c n (x ∷ xs)
      → (x.before ≡ due c n x) × After x.counter (x.before + x.hits) xs
  next c n x xs up order h = (
    first,
    record {
      sums = all_step (λ y. IsUpTo same Up x y × Tie x y) (λ y. y.before ≡ due c n y + charged_below same y.counter y.before (x ∷ xs))
          (λ y. y.before ≡ due x.counter (x.before + x.hits) y + charged_below same y.counter y.before xs) one xs
          (all_step (IsUpTo same Up x) (Tie x) (λ y. IsUpTo same Up x y × Tie x y) (λ y u t. (u, t)) xs order.0 (ties x xs (h.apart x.counter x.before))) h.sums.1;
      apart = λ k b. apart_tail k b x xs (h.apart k b);
    },
  )
    where
      first : x.before ≡ due c n x
      first = omega (arith, h.sums.0, nothing_below x xs order.0)

      one : (y : Charge C) → IsUpTo same Up x y × Tie x y → y.before ≡ due c n y + charged_below same y.counter y.before (x ∷ xs)
          → y.before ≡ due x.counter (x.before + x.hits) y + charged_below same y.counter y.before xs
      one y u e = fwd (same x.counter y.counter) (same c x.counter) (same c y.counter) n x.before x.hits y.before
          (charged_below same y.counter y.before xs) (λ t. same_to x.counter y.counter c t) (λ t. passed c x y up u.0 t) first u.0.least
          (λ t b. tie_hits (u.1) t b) (e ∙ ap (λ (m : ℕ). due c n y + m) (below_cons y.counter y.before x xs))
        where
          tie_hits : Tie x y → same x.counter y.counter ≡ true → x.before ≡ y.before → x.hits ≡ 0
          tie_hits t s b = elim (cases_lt 0 x.hits) [
            | inl some ↦
                let none : y.hits ≡ 0 = t some (flipped x.counter y.counter true s) (sym b) in
                let most : x.hits ≤ y.hits = u.0.tied s b in
                omega (arith, none, most)
            | inr none ↦ omega arith
          ]

  pub before : (c : C) (n : ℕ) (x : Charge C) (xs : List (Charge C)) → Up c x.counter → InOrder same Up (x ∷ xs)
      → (x.before ≡ due c n x) × After x.counter (x.before + x.hits) xs → After c n (x ∷ xs)
  before c n x xs up order h = record {
    sums = (
      omega (arith, h.0, nothing_below x xs order.0),
      all_step (IsUpTo same Up x) (λ y. y.before ≡ due x.counter (x.before + x.hits) y + charged_below same y.counter y.before xs)
          (λ y. y.before ≡ due c n y + charged_below same y.counter y.before (x ∷ xs)) one xs order.0 h.1.sums,
    );
    apart = λ k b. by k b (same x.counter k) refl (at_cons k b x xs) (h.1.apart k b);
  }
    where
      one : (y : Charge C) → IsUpTo same Up x y → y.before ≡ due x.counter (x.before + x.hits) y + charged_below same y.counter y.before xs
          → y.before ≡ due c n y + charged_below same y.counter y.before (x ∷ xs)
      one y u e = bwd (same x.counter y.counter) (same c x.counter) (same c y.counter) n x.before x.hits y.before
          (charged_below same y.counter y.before xs) (λ t. same_to x.counter y.counter c t) (λ t. passed c x y up u t) h.0 e
          ∙ sym (ap (λ (m : ℕ). due c n y + m) (below_cons y.counter y.before x xs))

      later : (y : Charge C) → y.before ≡ due x.counter (x.before + x.hits) y + charged_below same y.counter y.before xs
          → same y.counter x.counter ≡ true → x.before + x.hits ≤ y.before
      later y e s =
          let due_all : due x.counter (x.before + x.hits) y ≡ x.before + x.hits = ap (λ t. cond t (x.before + x.hits) 0) (flipped y.counter x.counter true s) in
          omega (arith, e, due_all)

      by : (k : C) (b : ℕ) (t : Bool) → same x.counter k ≡ t
          → charged_at same k b (x ∷ xs) ≡ cond (same x.counter k && ((x.before == b) && nat_lt 0 x.hits)) 1 0 + charged_at same k b xs
          → charged_at same k b xs ≤ 1 → charged_at same k b (x ∷ xs) ≤ 1
      by k b false s e few = let e2 = e ∙ ap (λ u. cond (u && ((x.before == b) && nat_lt 0 x.hits)) 1 0 + charged_at same k b xs) s in omega (arith, e2, few)
      by k b true s e few =
          let e2 = e ∙ ap (λ u. cond (u && ((x.before == b) && nat_lt 0 x.hits)) 1 0 + charged_at same k b xs) s in
          here ((x.before == b) && nat_lt 0 x.hits) refl e2
        where
          same_on : (y : Charge C) → same y.counter k ≡ true → same y.counter x.counter ≡ true
          same_on y on = same_to x.counter k y.counter s ∙ on

          here : (u : Bool) → ((x.before == b) && nat_lt 0 x.hits) ≡ u
              → charged_at same k b (x ∷ xs) ≡ cond (true && ((x.before == b) && nat_lt 0 x.hits)) 1 0 + charged_at same k b xs
              → charged_at same k b (x ∷ xs) ≤ 1
          here false w e3 = let e4 = e3 ∙ ap (λ u. cond (true && u) 1 0 + charged_at same k b xs) w in omega (arith, e4, few)
          here true w e3 =
              let e4 = e3 ∙ ap (λ u. cond (true && u) 1 0 + charged_at same k b xs) w in
              let at : x.before ≡ b = grind (arith, nat_tests) in
              let some : 0 < x.hits = grind (arith, nat_tests) in
              let rest = none_at k b xs (all_step (λ y. y.before ≡ due x.counter (x.before + x.hits) y + charged_below same y.counter y.before xs)
              (λ y. y.before ≡ due x.counter (x.before + x.hits) y + charged_below same y.counter y.before xs) (IsElsewhere k b)
              (λ y f g on same_before. absurd (omega (arith, later y f (same_on y on), same_before, at, some))) xs h.1.sums h.1.sums) in
              omega (arith, e4, rest)

  -- ---- along a list

  pub follow_decides : (x : Charge C) (xs : List (Charge C)) → InOrder same Up (x ∷ xs)
      → Decides (follow same (x ∷ xs)) (After x.counter (x.before + x.hits) xs)
  follow_decides x [] order = (λ e. record { sums = tt; apart = λ k b. omega arith }, λ h. refl)
  follow_decides x (y ∷ ys) order =
      let both = Decides-and (y.before == due x.counter (x.before + x.hits) y) (follow same (y ∷ ys)) (Decides-eqb y.before (due x.counter (x.before + x.hits) y))
      (follow_decides y ys order.1) in
      let up : Up x.counter y.counter = order.0.0.counters in
      (λ e. before x.counter (x.before + x.hits) y ys up order.1 (both.0 e), λ h. both.1 (next x.counter (x.before + x.hits) y ys up order.1 h))

  due_none : (t : Bool) → ◌≡◌ {A = ℕ} (cond t 0 0) 0
  due_none true = refl
  due_none false = refl

  pub chain_decides : ((a : C) → Up a a) → (xs : List (Charge C)) → InOrder same Up xs → Decides (is_chain same xs) (IsChain same xs)
  chain_decides still [] order = (λ e. record { sums = tt; apart = λ k b. omega arith }, λ h. refl)
  chain_decides still (x ∷ xs) order =
      let d = Decides-and (x.before == 0) (follow same (x ∷ xs)) (Decides-eqb x.before 0) (follow_decides x xs order) in
      let none : due x.counter 0 x ≡ 0 = due_none (same x.counter x.counter) in (
        λ e. let first = (d.0 e).0 in
            let a = before x.counter 0 x xs (still x.counter) order (omega (arith, first, none), (d.0 e).1) in
            record {
              sums = all_step (λ y. y.before ≡ due x.counter 0 y + charged_below same y.counter y.before (x ∷ xs))
                  (λ y. y.before ≡ due x.counter 0 y + charged_below same y.counter y.before (x ∷ xs))
                  (λ y. y.before ≡ charged_below same y.counter y.before (x ∷ xs))
                  (λ y h g. omega (arith, h, due_none (same x.counter y.counter))) (x ∷ xs) a.sums a.sums;
              apart = a.apart;
            },
        λ h. let n = next x.counter 0 x xs (still x.counter) order (record {
          sums = all_step (λ y. y.before ≡ charged_below same y.counter y.before (x ∷ xs))
              (λ y. y.before ≡ charged_below same y.counter y.before (x ∷ xs))
              (λ y. y.before ≡ due x.counter 0 y + charged_below same y.counter y.before (x ∷ xs))
              (λ y g f. omega (arith, g, due_none (same x.counter y.counter))) (x ∷ xs) h.sums h.sums;
          apart = h.apart;
        }) in
            d.1 (omega (arith, n.0, none), n.1),
      )

  -- ---- the order of the list doesn't matter

  pub chain_permuted : (xs ys : List (Charge C)) → IsPermutation xs ys → IsChain same xs → IsChain same ys
  chain_permuted xs ys moved h = record {
    sums =
        let all = All-permutation (λ x. x.before ≡ charged_below same x.counter x.before xs) xs ys moved
        (All-from_recursion (λ x. x.before ≡ charged_below same x.counter x.before xs) xs h.sums) in
        all_step (λ x. x.before ≡ charged_below same x.counter x.before xs) (λ x. x.before ≡ charged_below same x.counter x.before xs)
        (λ x. x.before ≡ charged_below same x.counter x.before ys)
        (λ x e f. e ∙ sym (sum_by-IsPermutation (λ y. cond (same y.counter x.counter && nat_lt y.before x.before) y.hits 0) xs ys moved)) ys
        (recursion_from_All (λ x. x.before ≡ charged_below same x.counter x.before xs) ys all)
        (recursion_from_All (λ x. x.before ≡ charged_below same x.counter x.before xs) ys all);
    apart = λ k b. omega (
      arith,
      h.apart k b,
      sum_by-IsPermutation (λ y. cond (same y.counter k && ((y.before == b) && nat_lt 0 y.hits)) 1 0) xs ys moved,
    );
  }
