-- Laws of sums over lists.
use Rattle.std.proofs.Common.{◌≡◌, ℕ, zero, suc, ◌+◌, ◌≤◌, ◌<◌, ◌==◌, List, [], ◌∷◌, ◌++◌, set, cond, refl, sym, ap, subst, arith}
use Rattle.std.proofs.lemmas.Bool.{ne_eqb, eq-eqb, lt-ltb, le-ltb}
use Rattle.std.specs.Prelude.{ltb}
use Rattle.std.specs.List.{AllByRecursion}
use mathlib.Core.Option.{some, some-ne-none, some-injective}
use lib.ListN.{get_elem?}
use Rattle.rate_types.specs.Sums.{total}

module _ {A : Type 0} where
  pub total_set : (f : A → ℕ) (views : List A) (k : ℕ) (v w : A) → get_elem? views k ≡ some v → total f (set views k w) + f v ≡ total f views + f w
  total_set f [] k v w e = absurd (some-ne-none v (sym e))
  total_set f (x ∷ xs) zero v w e = let s : f x ≡ f v = ap f (some-injective _ _ e) in omega arith
  total_set f (x ∷ xs) (suc k) v w e = let r = total_set f xs k v w e in omega arith

  pub total_same : (f : A → ℕ) (views : List A) (k : ℕ) (v w : A) → get_elem? views k ≡ some v → f w ≡ f v → total f (set views k w) ≡ total f views
  total_same f views k v w e same = let t = total_set f views k v w e in omega arith

  pub total_append : (f : A → ℕ) (xs ys : List A) → total f (xs ++ ys) ≡ total f xs + total f ys
  total_append f [] ys = omega arith
  total_append f (x ∷ xs) ys = let r = total_append f xs ys in omega arith

  pub total_push : (f : A → ℕ) (xs : List A) (y : A) → total f (xs ++ y ∷ []) ≡ total f xs + f y
  total_push f xs y = let r = total_append f xs (y ∷ []) in omega arith

  pub total_one : (f : A → ℕ) (views : List A) (k : ℕ) (v : A) → get_elem? views k ≡ some v → f v ≤ total f views
  total_one f [] k v e = absurd (some-ne-none v (sym e))
  total_one f (x ∷ xs) zero v e = let s : f x ≡ f v = ap f (some-injective _ _ e) in omega arith
  total_one f (x ∷ xs) (suc k) v e = let r = total_one f xs k v e in omega arith

  pub total_two : (f : A → ℕ) (views : List A) (k j : ℕ) (v u : A) → ¬ (j ≡ k) → get_elem? views k ≡ some v → get_elem? views j ≡ some u → f v + f u ≤ total f views
  total_two f [] k j v u n e d = absurd (some-ne-none v (sym e))
  total_two f (x ∷ xs) zero zero v u n e d = absurd (n refl)
  total_two f (x ∷ xs) zero (suc j) v u n e d = let s : f x ≡ f v = ap f (some-injective _ _ e) in let r = total_one f xs j u d in omega arith
  total_two f (x ∷ xs) (suc k) zero v u n e d = let s : f x ≡ f u = ap f (some-injective _ _ d) in let r = total_one f xs k v e in omega arith
  total_two f (x ∷ xs) (suc k) (suc j) v u n e d = let r = total_two f xs k j v u (λ h. n (ap suc h)) e d in omega arith

  -- a sum is at most another, where each part is
  pub total_le : (f g : A → ℕ) (views : List A) → ((k : ℕ) (v : A) → get_elem? views k ≡ some v → f v ≤ g v) → total f views ≤ total g views
  total_le f g [] h = omega arith
  total_le f g (x ∷ xs) h = let a = h 0 x refl in let r = total_le f g xs (λ k v e. h (suc k) v e) in omega arith

  pub total_each : (f g : A → ℕ) (xs : List A) → AllByRecursion (λ x. f x ≡ g x) xs → total f xs ≡ total g xs
  total_each f g [] h = refl
  total_each f g (x ∷ xs) h = let a = h.0 in let r = total_each f g xs h.1 in omega arith

  pub total_eq : (f g : A → ℕ) (views : List A) → ((k : ℕ) (v : A) → get_elem? views k ≡ some v → f v ≡ g v) → total f views ≡ total g views
  total_eq f g [] h = refl
  total_eq f g (x ∷ xs) h = let a = h 0 x refl in let r = total_eq f g xs (λ k v e. h (suc k) v e) in omega arith

  pub total_none : (f : A → ℕ) (views : List A) → ((k : ℕ) (v : A) → get_elem? views k ≡ some v → f v ≡ 0) → total f views ≡ 0
  total_none f [] h = refl
  total_none f (x ∷ xs) h = let a = h 0 x refl in let r = total_none f xs (λ k v e. h (suc k) v e) in omega arith

  pub total_bare : (f g : A → ℕ) (views : List A) → ((j : ℕ) (u : A) → get_elem? views j ≡ some u → g u ≡ 0 → f u ≡ 0) → total g views ≡ 0 → total f views ≡ 0
  total_bare f g [] bare e = refl
  total_bare f g (x ∷ xs) bare e =
      let a : f x ≡ 0 = bare 0 x refl (omega arith) in
      let b : total f xs ≡ 0 = total_bare f g xs (λ j u at. bare (suc j) u at) (omega arith) in
      omega arith

  -- where one view has all of g, and f is nothing where g is nothing, it has all of f
  pub total_all : (f g : A → ℕ) (views : List A) (k : ℕ) (v : A) → ((j : ℕ) (u : A) → get_elem? views j ≡ some u → g u ≡ 0 → f u ≡ 0) → get_elem? views k ≡ some v
      → total g views ≡ g v → total f views ≡ f v
  total_all f g [] k v bare e all = absurd (some-ne-none v (sym e))
  total_all f g (x ∷ xs) zero v bare e all =
      let s : x ≡ v = some-injective _ _ e in
      let sf : f x ≡ f v = ap f s in
      let sg : g x ≡ g v = ap g s in
      let b : total f xs ≡ 0 = total_bare f g xs (λ j u at. bare (suc j) u at) (omega arith) in
      omega arith
  total_all f g (x ∷ xs) (suc k) v bare e all =
      let le : g v ≤ total g xs = total_one g xs k v e in
      let a : f x ≡ 0 = bare 0 x refl (omega arith) in
      let r : total f xs ≡ f v = total_all f g xs k v (λ j u at. bare (suc j) u at) e (omega arith) in
      omega arith

  -- what holds of each item holds after a change of one
  pub each_set : (P : A → Type 0) (xs : List A) (k : ℕ) (w : A) → ((j : ℕ) (u : A) → ¬ (j ≡ k) → get_elem? xs j ≡ some u → P u) → P w
      → (j : ℕ) (u : A) → get_elem? (set xs k w) j ≡ some u → P u
  each_set P [] k w others mine j u e = absurd (some-ne-none u (sym e))
  each_set P (x ∷ xs) zero w others mine zero u e = subst P (some-injective _ _ e) mine
  each_set P (x ∷ xs) zero w others mine (suc j) u e = others (suc j) u (λ h. omega arith) e
  each_set P (x ∷ xs) (suc k) w others mine zero u e = others zero u (λ h. omega arith) e
  each_set P (x ∷ xs) (suc k) w others mine (suc j) u e = each_set P xs k w (λ i v n. others (suc i) v (λ h. n (omega arith))) mine j u e

pub cond_yes : (a b x y : ℕ) → a ≡ b → cond (a == b) x y ≡ x
cond_yes a b x y e = rw (eq-eqb a b e)

pub cond_no : (a b x y : ℕ) → (a ≡ b → ⊥) → cond (a == b) x y ≡ y
cond_no a b x y ne = rw (ne_eqb a b ne)

pub below_yes : (a b x y : ℕ) → a < b → cond (ltb a b) x y ≡ x
below_yes a b x y h = rw (lt-ltb a b h)

pub below_no : (a b x y : ℕ) → b ≤ a → cond (ltb a b) x y ≡ y
below_no a b x y h = rw (le-ltb a b h)
