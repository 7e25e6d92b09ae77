-- What holds of all items of a list, and of a part of each.
use Rattle.std.proofs.Common.{◌≡◌, ℕ, zero, suc, ◌+◌, ◌<◌, List, [], ◌∷◌, ◌++◌, length, map, All, refl, ap, subst, arith, length-append}
use Rattle.std.proofs.lemmas.List.{length-map}
use Rattle.std.specs.Prelude.{slice_index_or, slice_get, Some}
use mathlib.Core.List.{IsPrefix}
use Rattle.rate_types.specs.Sums.{total}
use Rattle.told_list.specs.Lists.{IsOwnedOnce}

module _ {A B : Type 0} (f : A → B) where
  index_map : (xs : List A) (k : ℕ) (d : A) → slice_index_or (map f xs) k (f d) ≡ f (slice_index_or xs k d)
  index_map [] k d = refl
  index_map (x ∷ xs) zero d = refl
  index_map (x ∷ xs) (suc k) d = index_map xs k d

  -- what holds of the part of each item
  pub all_parts : (P : B → Type 0) (xs : List A) → All P (map f xs) → All (λ x. P (f x)) xs
  all_parts P xs all k d h = subst P (index_map xs k d) (all k (f d) (omega (arith, length-map xs f)))

  pub all_of_parts : (P : B → Type 0) (xs : List A) → All (λ x. P (f x)) xs → All P (map f xs)
  all_of_parts P [] all k d h = absurd (omega arith)
  all_of_parts P (x ∷ xs) all zero d h = all 0 x (omega arith)
  all_of_parts P (x ∷ xs) all (suc k) d h = all_of_parts P xs (λ j e y. all (suc j) e (omega arith)) k d (omega arith)

  pub total_map : (g : B → ℕ) (xs : List A) → total g (map f xs) ≡ total (λ x. g (f x)) xs
  total_map g [] = refl
  total_map g (x ∷ xs) = ap (λ n. g (f x) + n) (total_map g xs)

module _ {A : Type 0} where
  -- a place that has an item is below the length, also of a list that begins so
  pub place_below : (xs : List A) (n : ℕ) (x : A) → slice_get xs n ≡ Some x → n < length xs
  place_below [] n x e = cc
  place_below (y ∷ ys) zero x e = omega arith
  place_below (y ∷ ys) (suc n) x e = let r = place_below ys n x e in omega arith

  pub below_prefix : (xs ys : List A) (n : ℕ) (x : A) → slice_get xs n ≡ Some x → IsPrefix xs ys → n < length ys
  below_prefix xs ys n x e p =
      let b = place_below xs n x e in
      let l : length (xs ++ p.0) ≡ length ys = ap (λ (zs : List A). length zs) p.1 in
      omega (arith, b, l, length-append xs p.0)

  pub all_rest : (P : A → Type 0) (x : A) (xs : List A) → All P (x ∷ xs) → All P xs
  all_rest P x xs all k d h = all (suc k) d (omega arith)

  pub all_left : (P Q : A → Type 0) (xs : List A) → All (λ x. P x × Q x) xs → All P xs
  all_left P Q xs all k d h = (all k d h).0

  -- what holds of each in two ways
  pub all_both : (P Q : A → Type 0) (xs : List A) → All P xs → All Q xs → All (λ x. P x × Q x) xs
  all_both P Q xs p q k d h = (p k d h, q k d h)

pub owned_as : (a a' b b' p n n' : ℕ) → a ≡ a' → b ≡ b' → n ≡ n' → IsOwnedOnce a b p n → IsOwnedOnce a' b' p n'
owned_as a a' b b' p n n' d e f h = subst (λ m. IsOwnedOnce a' b' p m) f (subst (λ m. IsOwnedOnce a' m p n) e (subst (λ m. IsOwnedOnce m b p n) d h))
