-- Lists read at their places, and sums over them.
use Rattle.std.proofs.Common.{◌≡◌, ℕ, zero, suc, ◌+◌, ◌≤◌, ◌<◌, ◌==◌, ◌⊎◌, List, [], ◌∷◌, ◌++◌, length, map, take, Bool, true, false, cond, inl, inr, Some, None}
use Rattle.std.proofs.Common.{Option, refl, sym, ap, ◌∙◌, subst, arith, eqb-true, length-append}
use Rattle.std.proofs.lemmas.Bool.{lt-ltb, le-ltb}
use Rattle.std.specs.Prelude.{slice_get, nat_lt}
use Rattle.std.specs.List.{AllByRecursion}
use mathlib.Core.List.{IsPrefix}
use mathlib.Core.Option.{some, some-injective, some-ne-none}
use lib.ListN.{get_elem?}
use Rattle.rate_types.specs.Sums.{total, one_if, times}
use Rattle.rate_types.proofs.Sums.{total_append}
use Rattle.told_list.specs.Lists.{count_from}

module _ {A : Type 0} where
  pub none_some : (y : A) → ◌≡◌ {A = Option A} None (Some y) → ⊥
  none_some y h = cc

  pub same_some : (x y : A) → ◌≡◌ {A = Option A} (Some x) (Some y) → x ≡ y
  same_some x y h = cc

  pub to_elem : (xs : List A) (i : ℕ) (x : A) → slice_get xs i ≡ Some x → get_elem? xs i ≡ some x
  to_elem [] i x e = absurd (none_some x e)
  to_elem (y ∷ ys) zero x e = ap some (same_some y x e)
  to_elem (y ∷ ys) (suc i) x e = to_elem ys i x e

  pub of_elem : (xs : List A) (i : ℕ) (x : A) → get_elem? xs i ≡ some x → slice_get xs i ≡ Some x
  of_elem [] i x e = absurd (some-ne-none x (sym e))
  of_elem (y ∷ ys) zero x e = ap Some (some-injective y x e)
  of_elem (y ∷ ys) (suc i) x e = of_elem ys i x e

  pub below : (xs : List A) (i : ℕ) (x : A) → get_elem? xs i ≡ some x → i < length xs
  below [] i x e = absurd (some-ne-none x (sym e))
  below (y ∷ ys) zero x e = omega arith
  below (y ∷ ys) (suc i) x e = let r = below ys i x e in omega arith

  pub here : (xs : List A) (i : ℕ) → i < length xs → (x : A) × (get_elem? xs i ≡ some x)
  here [] i h = absurd (omega arith)
  here (x ∷ xs) zero h = (x, refl)
  here (x ∷ xs) (suc i) h = here xs i (omega arith)

  pub at_each : (P : A → Type 0) (xs : List A) (i : ℕ) (x : A) → get_elem? xs i ≡ some x → AllByRecursion P xs → P x
  at_each P [] i x e h = absurd (some-ne-none x (sym e))
  at_each P (y ∷ ys) zero x e h = subst P (some-injective y x e) h.0
  at_each P (y ∷ ys) (suc i) x e h = at_each P ys i x e h.1

  -- ---- what holds of each item

  pub all_of_each : (P : A → Type 0) (xs : List A) → ((i : ℕ) (x : A) → get_elem? xs i ≡ some x → P x) → AllByRecursion P xs
  all_of_each P [] h = tt
  all_of_each P (x ∷ xs) h = (h 0 x refl, all_of_each P xs (λ i y e. h (suc i) y e))

  pub all_weaker : (P Q : A → Type 0) → ((x : A) → P x → Q x) → (xs : List A) → AllByRecursion P xs → AllByRecursion Q xs
  all_weaker P Q f [] h = tt
  all_weaker P Q f (x ∷ xs) h = (f x h.0, all_weaker P Q f xs h.1)

  pub all_front : (P : A → Type 0) (xs ys : List A) → AllByRecursion P (xs ++ ys) → AllByRecursion P xs
  all_front P [] ys h = tt
  all_front P (x ∷ xs) ys h = (h.0, all_front P xs ys h.1)

  pub all_back : (P : A → Type 0) (xs ys : List A) → AllByRecursion P (xs ++ ys) → AllByRecursion P ys
  all_back P [] ys h = h
  all_back P (x ∷ xs) ys h = all_back P xs ys h.1

  pub all_both : (P : A → Type 0) (xs ys : List A) → AllByRecursion P xs → AllByRecursion P ys → AllByRecursion P (xs ++ ys)
  all_both P [] ys h k = k
  all_both P (x ∷ xs) ys h k = (h.0, all_both P xs ys h.1 k)

  -- ---- the front of a list

  pub append_nil : (xs : List A) → xs ≡ xs ++ []
  append_nil [] = refl
  append_nil (x ∷ xs) = ap (λ (l : List A). x ∷ l) (append_nil xs)

  pub take_length : (xs : List A) (i : ℕ) → i ≤ length xs → length (take i xs) ≡ i
  take_length xs zero h = refl
  take_length [] (suc i) h = absurd (omega arith)
  take_length (x ∷ xs) (suc i) h = ap suc (take_length xs i (omega arith))

  pub take_front : (xs ys : List A) → take (length xs) (xs ++ ys) ≡ xs
  take_front [] ys = refl
  take_front (x ∷ xs) ys = ap (λ (l : List A). x ∷ l) (take_front xs ys)

  -- the items up to a place
  pub take_next : (xs : List A) (i : ℕ) (x : A) → get_elem? xs i ≡ some x → take i xs ++ x ∷ [] ≡ take (suc i) xs
  take_next [] i x e = absurd (some-ne-none x (sym e))
  take_next (y ∷ ys) zero x e = ap (λ (z : A). z ∷ []) (sym (some-injective y x e))
  take_next (y ∷ ys) (suc i) x e = ap (λ (l : List A). y ∷ l) (take_next ys i x e)

  -- an item of two lists one after the other is in one of them
  pub in_either : (xs ys : List A) (k : ℕ) (x : A) → get_elem? (xs ++ ys) k ≡ some x → (get_elem? xs k ≡ some x) ⊎ ((j : ℕ) × (get_elem? ys j ≡ some x))
  in_either [] ys k x e = inr (k, e)
  in_either (y ∷ xs) ys zero x e = inl e
  in_either (y ∷ xs) ys (suc k) x e = in_either xs ys k x e

  pub take_at : (xs : List A) (i j : ℕ) (x : A) → get_elem? (take i xs) j ≡ some x → (get_elem? xs j ≡ some x) × (j < i)
  take_at xs zero j x e = absurd (some-ne-none x (sym e))
  take_at [] (suc i) j x e = absurd (some-ne-none x (sym e))
  take_at (y ∷ ys) (suc i) zero x e = (e, omega arith)
  take_at (y ∷ ys) (suc i) (suc j) x e = let r = take_at ys i j x e in (r.0, omega (arith, r.1))

  pub front_at : (xs : List A) (i j : ℕ) (x : A) → get_elem? xs j ≡ some x → j < i → get_elem? (take i xs) j ≡ some x
  front_at xs zero j x e h = absurd (omega arith)
  front_at [] (suc i) j x e h = absurd (some-ne-none x (sym e))
  front_at (y ∷ ys) (suc i) zero x e h = e
  front_at (y ∷ ys) (suc i) (suc j) x e h = front_at ys i j x e (omega arith)

  pub append_at : (xs ys : List A) (n : ℕ) (x : A) → get_elem? xs n ≡ some x → get_elem? (xs ++ ys) n ≡ some x
  append_at [] ys n x e = absurd (some-ne-none x (sym e))
  append_at (y ∷ xs) ys zero x e = e
  append_at (y ∷ xs) ys (suc n) x e = append_at xs ys n x e

  pub back_at : (xs ys : List A) (n : ℕ) (x : A) → get_elem? ys n ≡ some x → get_elem? (xs ++ ys) (length xs + n) ≡ some x
  back_at [] ys n x e = let z : n ≡ 0 + n = omega arith in subst (λ (k : ℕ). get_elem? ys k ≡ some x) z e
  back_at (y ∷ xs) ys n x e =
      let z : suc (length xs + n) ≡ suc (length xs) + n = omega arith in
      subst (λ (k : ℕ). get_elem? (y ∷ xs ++ ys) k ≡ some x) z (back_at xs ys n x e)

  pub prefix_at : (xs ys : List A) (n : ℕ) (x : A) → IsPrefix xs ys → get_elem? xs n ≡ some x → get_elem? ys n ≡ some x
  prefix_at xs ys n x p e = ap (λ l. get_elem? l n) (sym p.1) ∙ append_at xs p.0 n x e

  append_get : (xs ys : List A) (n : ℕ) (x : A) → slice_get xs n ≡ Some x → slice_get (xs ++ ys) n ≡ Some x
  append_get [] ys n x e = absurd (none_some x e)
  append_get (y ∷ xs) ys zero x e = e
  append_get (y ∷ xs) ys (suc n) x e = append_get xs ys n x e

  pub prefix_get : (xs ys : List A) (n : ℕ) (x : A) → IsPrefix xs ys → slice_get xs n ≡ Some x → slice_get ys n ≡ Some x
  prefix_get xs ys n x p e = ap (λ l. slice_get l n) (sym p.1) ∙ append_get xs p.0 n x e

  pub prefix_length : (xs ys : List A) → IsPrefix xs ys → length xs ≤ length ys
  prefix_length xs ys p = let a = ap length p.1 in let l = length-append xs p.0 in omega arith

  -- ---- sums

  -- a sum that is something has an item that is something
  pub total_there : (f : A → ℕ) (xs : List A) → 1 ≤ total f xs → (k : ℕ) × (x : A) × (get_elem? xs k ≡ some x) × (1 ≤ f x)
  total_there f [] h = absurd (omega arith)
  total_there f (x ∷ xs) h = pick (f x) refl (λ m. total_there f xs m)
    where
      pick : (n : ℕ) → f x ≡ n → (1 ≤ total f xs → (k : ℕ) × (y : A) × (get_elem? xs k ≡ some y) × (1 ≤ f y)) → (k : ℕ) × (y : A) × (get_elem? (x ∷ xs) k ≡ some y) × (1 ≤ f y)
      pick zero e more = let r = more (omega arith) in (suc r.0, r.1, r.2, r.3)
      pick (suc n) e more = (zero, x, refl, omega arith)

  -- over numbered items, a sum of those below a number is that of the front
  pub front_total : (number f : A → ℕ) (n i m : ℕ) (xs : List A) → ((j : ℕ) (x : A) → get_elem? xs j ≡ some x → number x ≡ n + j + 1) → m ≡ n + i + 1
      → total (λ x. cond (nat_lt (number x) m) (f x) 0) xs ≡ total f (take i xs)
  front_total number f n zero m [] h e = refl
  front_total number f n (suc i) m [] h e = refl
  front_total number f n zero m (x ∷ xs) h e =
      let a = h 0 x refl in
      let out : cond (nat_lt (number x) m) (f x) 0 ≡ 0 = ap (λ (b : Bool). cond b (f x) 0) (le-ltb (number x) m (omega arith)) in
      let r = beyond (suc n) xs (λ j y g. let c = h (suc j) y g in omega arith) (omega arith) in
      omega arith
    where
      beyond : (k : ℕ) (ys : List A) → ((j : ℕ) (y : A) → get_elem? ys j ≡ some y → number y ≡ k + j + 1) → m ≤ k + 1 → total (λ y. cond (nat_lt (number y) m) (f y) 0) ys ≡ 0
      beyond k [] g l = refl
      beyond k (y ∷ ys) g l =
          let c = g 0 y refl in
          let out : cond (nat_lt (number y) m) (f y) 0 ≡ 0 = ap (λ (b : Bool). cond b (f y) 0) (le-ltb (number y) m (omega arith)) in
          let r = beyond (suc k) ys (λ j z e. let d = g (suc j) z e in omega arith) (omega arith) in
          omega arith
  front_total number f n (suc i) m (x ∷ xs) h e =
      let a = h 0 x refl in
      let within : cond (nat_lt (number x) m) (f x) 0 ≡ f x = ap (λ (b : Bool). cond b (f x) 0) (lt-ltb (number x) m (omega arith)) in
      let r = front_total number f (suc n) i m xs (λ j y g. let c = h (suc j) y g in omega arith) (omega arith) in
      omega arith

module _ {A B : Type 0} (f : A → B) where
  pub at_map : (xs : List A) (k : ℕ) (x : A) → get_elem? xs k ≡ some x → get_elem? (map f xs) k ≡ some (f x)
  at_map [] k x e = absurd (some-ne-none x (sym e))
  at_map (y ∷ ys) zero x e = ap (λ (z : A). some (f z)) (some-injective y x e)
  at_map (y ∷ ys) (suc k) x e = at_map ys k x e

  pub of_map : (xs : List A) (k : ℕ) (v : B) → get_elem? (map f xs) k ≡ some v → (x : A) × (get_elem? xs k ≡ some x) × (f x ≡ v)
  of_map [] k v e = absurd (some-ne-none v (sym e))
  of_map (y ∷ ys) zero v e = (y, refl, some-injective (f y) v e)
  of_map (y ∷ ys) (suc k) v e = of_map ys k v e

pub times_from : (n a k : ℕ) → 1 ≤ times n (count_from a k) → (a ≤ n) × (n < a + k)
times_from n a zero h = absurd (omega arith)
times_from n a (suc k) h = by (a == n) refl (λ m. times_from n (suc a) k m)
  where
    by : (b : Bool) → (a == n) ≡ b → (1 ≤ times n (count_from (suc a) k) → (suc a ≤ n) × (n < suc a + k)) → (a ≤ n) × (n < a + suc k)
    by true e more = let same = eqb-true a n e in (omega arith, omega arith)
    by false e more = let o = ap one_if e in let r = more (omega arith) in (omega (arith, r.0), omega (arith, r.1))

pub times_either : (n : ℕ) (xs ys : List ℕ) → 1 ≤ times n (xs ++ ys) → (1 ≤ times n xs) ⊎ (1 ≤ times n ys)
times_either n xs ys h = pick (times n xs) refl
  where
    pick : (k : ℕ) → times n xs ≡ k → (1 ≤ times n xs) ⊎ (1 ≤ times n ys)
    pick zero e = let a = total_append (λ (x : ℕ). one_if (x == n)) xs ys in inr (omega arith)
    pick (suc k) e = inl (omega arith)
