-- Sums over lists.
use Rattle.std.proofs.Common.{◌≡◌, ℕ, zero, suc, ◌<◌, List, [], ◌∷◌, ◌++◌, length, get_or, All, refl, sym, ap, ◌∙◌, subst, arith}
use Rattle.std.proofs.Common.{length-append}
use mathlib.Core.Option.{some, some-ne-none, some-injective}
use lib.ListN.{get_elem?}
use Rattle.std.specs.List.{AllByRecursion}

module _ {A : Type 0} where
  pub each_push : (P : A → Type 0) (xs : List A) (y : A) → AllByRecursion P xs → P y → AllByRecursion P (xs ++ y ∷ [])
  each_push P [] y h p = (p, tt)
  each_push P (x ∷ xs) y h p = (h.0, each_push P xs y h.1 p)

  pub each_map : (P Q : A → Type 0) (xs : List A) → ((x : A) → P x → Q x) → AllByRecursion P xs → AllByRecursion Q xs
  each_map P Q [] f h = tt
  each_map P Q (x ∷ xs) f h = (f x h.0, each_map P Q xs f h.1)

  pub each_map2 : (P R Q : A → Type 0) (xs : List A) → ((x : A) → P x → R x → Q x) → AllByRecursion P xs → AllByRecursion R xs → AllByRecursion Q xs
  each_map2 P R Q [] f h g = tt
  each_map2 P R Q (x ∷ xs) f h g = (f x h.0 g.0, each_map2 P R Q xs f h.1 g.1)

pub each_append : {A : Type 0} (P : A → Type 0) (xs ys : List A) → AllByRecursion P xs → AllByRecursion P ys → AllByRecursion P (xs ++ ys)
each_append P [] ys h g = g
each_append P (x ∷ xs) ys h g = (h.0, each_append P xs ys h.1 g)

pub each_left : {A : Type 0} (P : A → Type 0) (xs ys : List A) → AllByRecursion P (xs ++ ys) → AllByRecursion P xs
each_left P [] ys h = tt
each_left P (x ∷ xs) ys h = (h.0, each_left P xs ys h.1)

pub each_right : {A : Type 0} (P : A → Type 0) (xs ys : List A) → AllByRecursion P (xs ++ ys) → AllByRecursion P ys
each_right P [] ys h = h
each_right P (x ∷ xs) ys h = each_right P xs ys h.1

-- an item in the middle, and one that is there
get_mid : {A : Type 0} (ys : List A) (x : A) (zs : List A) → get_or (ys ++ x ∷ zs) (length ys) x ≡ x
get_mid [] x zs = refl
get_mid (y ∷ ys) x zs = get_mid ys x zs

pub at_mid : {A : Type 0} (P : A → Type 0) (ys : List A) (x : A) (zs l : List A) → ys ++ x ∷ zs ≡ l → All P l → P x
at_mid P ys x zs l e h = subst P (ap (λ m. get_or m (length ys) x) (sym e) ∙ get_mid ys x zs) (h (length ys) x (let n = ap length e in omega (arith, length-append ys (x ∷ zs))))

pub at_within : {A : Type 0} (l : List A) (i : ℕ) (x : A) → get_elem? l i ≡ some x → i < length l
at_within [] i x e = absurd (some-ne-none x (sym e))
at_within (y ∷ ys) zero x e = omega arith
at_within (y ∷ ys) (suc i) x e = let w = at_within ys i x e in omega arith

pub at_read : (l : List ℕ) (i x : ℕ) → get_elem? l i ≡ some x → get_or l i 0 ≡ x
at_read [] i x e = absurd (some-ne-none x (sym e))
at_read (y ∷ ys) zero x e = some-injective _ _ e
at_read (y ∷ ys) (suc i) x e = at_read ys i x e
