-- Places of a list.
use Rattle.std.proofs.Common.{◌≡◌, ◌≢◌, ◌⊎◌, ℕ, zero, suc, ◌<◌, ◌+◌, List, [], ◌∷◌, ◌++◌, length, set, get_or, ◌-◌, length-append, sym, refl, ap, ◌∙◌, inl, inr, ⊎_elim, arith}
use mathlib.Core.Option.{some, some-injective, some-ne-none}
use lib.ListN.{get_elem?}

module _ {A : Type 0} where
  pub at_set : (l : List A) (i j : ℕ) (a b : A) → get_elem? (set l i a) j ≡ some b → ((j ≡ i) × (a ≡ b)) ⊎ ((j ≢ i) × (get_elem? l j ≡ some b))
  at_set [] i j a b e = absurd (some-ne-none b (sym e))
  at_set (x ∷ xs) zero zero a b e = inl (refl, some-injective a b e)
  at_set (x ∷ xs) zero (suc j) a b e = inr ((λ h. omega arith), e)
  at_set (x ∷ xs) (suc i) zero a b e = inr ((λ h. omega arith), e)
  at_set (x ∷ xs) (suc i) (suc j) a b e = ⊎_elim (λ t. inl (ap suc t.0, t.1)) (λ t. let n = t.0 in inr ((λ h. n (omega arith)), t.1)) (at_set xs i j a b e)

  pub at_index : (l : List A) (i : ℕ) (a : A) → i < length l → a ≡ get_or l i a → get_elem? l i ≡ some a
  at_index [] i a h e = absurd (omega arith)
  at_index (x ∷ xs) zero a h e = ap some (sym e)
  at_index (x ∷ xs) (suc i) a h e = at_index xs i a (omega arith) e

  pub at_longer : (l m : List A) (i : ℕ) (a : A) → get_elem? l i ≡ some a → get_elem? (l ++ m) i ≡ some a
  at_longer [] m i a e = absurd (some-ne-none a (sym e))
  at_longer (x ∷ xs) m zero a e = e
  at_longer (x ∷ xs) m (suc i) a e = at_longer xs m i a e

  pub at_last : (l : List A) (a : A) (n : ℕ) → length l ≡ n → get_elem? (l ++ a ∷ []) n ≡ some a
  at_last [] a zero e = refl
  at_last [] a (suc n) e = absurd (omega arith)
  at_last (x ∷ xs) a zero e = absurd (omega arith)
  at_last (x ∷ xs) a (suc n) e = at_last xs a n (omega arith)

  pub at_snoc : (l : List A) (a b : A) (j : ℕ) → get_elem? (l ++ a ∷ []) j ≡ some b → (get_elem? l j ≡ some b) ⊎ (a ≡ b)
  at_snoc [] a b zero e = inr (some-injective a b e)
  at_snoc [] a b (suc j) e = absurd (some-ne-none b (sym e))
  at_snoc (x ∷ xs) a b zero e = inl e
  at_snoc (x ∷ xs) a b (suc j) e = at_snoc xs a b j e

  -- the last item, or one before
  pub at_cut : (l : List A) (a b : A) (j : ℕ) → get_elem? (l ++ a ∷ []) j ≡ some b → ((j < length l) × (get_elem? l j ≡ some b)) ⊎ ((j ≡ length l) × (a ≡ b))
  at_cut [] a b zero e = inr (refl, some-injective a b e)
  at_cut [] a b (suc j) e = absurd (some-ne-none b (sym e))
  at_cut (x ∷ xs) a b zero e = inl (omega arith, e)
  at_cut (x ∷ xs) a b (suc j) e = ⊎_elim (λ t. let l = t.0 in inl (omega arith, t.1)) (λ t. inr (ap suc t.0, t.1)) (at_cut xs a b j e)

  pub at_within : (l : List A) (i : ℕ) (a : A) → get_elem? l i ≡ some a → i < length l
  at_within [] i a e = absurd (some-ne-none a (sym e))
  at_within (x ∷ xs) zero a e = omega arith
  at_within (x ∷ xs) (suc i) a e = let r = at_within xs i a e in omega arith

  pub some_at : (l : List A) (i : ℕ) → i < length l → (a : A) × (get_elem? l i ≡ some a)
  some_at [] i h = absurd (omega arith)
  some_at (x ∷ xs) zero h = (x, refl)
  some_at (x ∷ xs) (suc i) h = some_at xs i (omega arith)

  pub empty : (xs : List A) → length xs ≡ 0 → xs ≡ []
  empty [] e = refl
  empty (x ∷ xs) e = absurd (omega arith)

  -- the last item, by its index
  pub last_is : (front : List A) (k d : A) → get_or (front ++ k ∷ []) (length (front ++ k ∷ []) - 1) d ≡ k
  last_is [] k d = refl
  last_is (x ∷ xs) k d = ap (λ n. get_or (x ∷ (xs ++ k ∷ [])) n d) (len xs) ∙ last_is xs k d
    where
      len : (xs : List A) → length (x ∷ (xs ++ k ∷ [])) - 1 ≡ suc (length (xs ++ k ∷ []) - 1)
      len xs = let e : length (xs ++ k ∷ []) ≡ length xs + 1 = length-append xs (k ∷ []) in omega arith

  pub last_expired : (xs front : List A) (k d cell : A) (n : ℕ) → xs ≡ front ++ k ∷ [] → n ≡ length xs → cell ≡ get_or xs (n - 1) d → cell ≡ k
  last_expired xs front k d cell n e l is = is ∙ ap (λ m. get_or xs (m - 1) d) l ∙ ap (λ (ys : List A). get_or ys (length ys - 1) d) e ∙ last_is front k d

  -- what stands at an index reads the same whatever is read beyond the end
  pub at_read : (xs : List A) (i : ℕ) (d : A) → i < length xs → get_elem? xs i ≡ some (get_or xs i d)
  at_read [] i d h = absurd (omega arith)
  at_read (x ∷ xs) zero d h = refl
  at_read (x ∷ xs) (suc i) d h = at_read xs i d (omega arith)
