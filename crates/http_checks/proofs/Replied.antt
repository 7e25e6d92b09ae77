-- Where a limiter has one version alone, each reply is that of the version's configuration.
use Rattle.std.proofs.Common.{◌≡◌, ℕ, zero, suc, ◌≤◌, List, [], ◌∷◌, ◌++◌, length, Some, refl, sym, ap, ◌∙◌, arith}
use Rattle.std.specs.Prelude.{slice_get}
use mathlib.Core.List.{IsPrefix}
use Rattle.told_list.specs.Lists.{IsOwnedOnce}
use Rattle.rate_limiter.proofs.Places.{none_some, same_some}

module _ {A : Type 0} where
  -- the item behind a list
  pub last_at : (xs : List A) (y : A) → slice_get (xs ++ y ∷ []) (length xs) ≡ Some y
  last_at [] y = refl
  last_at (x ∷ xs) y = last_at xs y

  same_head : (x y : A) (xs ys : List A) → x ∷ xs ≡ y ∷ ys → x ≡ y
  same_head x y xs ys h = cc

  -- of a list whose one item is this one, the item and its place
  pub only_get : (c : A) (xs : List A) (n : ℕ) (x : A) → IsPrefix xs (c ∷ []) → slice_get xs n ≡ Some x → (n ≡ 0) × (x ≡ c)
  only_get c [] n x p e = absurd (none_some x e)
  only_get c (y ∷ ys) zero x p e = (refl, sym (same_some y x e) ∙ same_head y c (ys ++ p.0) [] p.1)
  only_get c (y ∷ []) (suc n) x p e = absurd (none_some x e)
  only_get c (y ∷ z ∷ ys) (suc n) x p e = let l = ap length p.1 in absurd (omega arith)

-- where nobody owns a place of a list past its first item, it has no other
pub nobody_owns : (len owned : ℕ) → owned ≡ 0 → IsOwnedOnce 1 len 1 owned → len ≤ 1
nobody_owns len owned none h = pick len refl
  where
    pick : (n : ℕ) → len ≡ n → len ≤ 1
    pick zero e = omega arith
    pick (suc zero) e = omega arith
    pick (suc (suc n)) e = let one = h.there (omega arith) (omega arith) in absurd (omega arith)
