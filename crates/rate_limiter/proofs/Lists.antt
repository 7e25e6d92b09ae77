-- Lists, sums over them and prefixes.
use Rattle.std.proofs.Common.{◌≡◌, ℕ, zero, suc, ◌+◌, ◌≤◌, ◌&&◌, List, [], ◌∷◌, ◌++◌, map, Bool, true, false, refl, sym, ap, ◌∙◌, arith, append_assoc, subst}
use Rattle.std.proofs.lemmas.List.{append-nil}
use Rattle.std.specs.List.{AllByRecursion}
use mathlib.Core.Option.{some, some-injective, some-ne-none}
use mathlib.Core.List.{IsPrefix}
use lib.ListN.{get_elem?}
use Rattle.rate_types.specs.Sums.{total, one_if}
use Rattle.counter_cells.specs.Steps.{last_moment}
use Rattle.counter_cells.specs.declared.view.Tick.{Tick}

module _ {A : Type 0} where
  pub total_at : (f : A → ℕ) (xs : List A) (i : ℕ) (x : A) → get_elem? xs i ≡ some x → f x ≤ total f xs
  total_at f [] i x e = absurd (some-ne-none x (sym e))
  total_at f (y ∷ ys) zero x e = let q : f y ≡ f x = ap f (some-injective y x e) in omega arith
  total_at f (y ∷ ys) (suc i) x e = let r = total_at f ys i x e in omega arith

  pub total_more : (f : A → ℕ) (xs ys : List A) → total f (xs ++ ys) ≡ total f xs + total f ys
  total_more f [] ys = omega arith
  total_more f (x ∷ xs) ys = let r = total_more f xs ys in omega arith

  pub prefix_self : (xs : List A) → IsPrefix xs xs
  prefix_self xs = ([], append-nil xs)

  pub prefix_then : (xs ys zs : List A) → IsPrefix xs ys → IsPrefix ys zs → IsPrefix xs zs
  prefix_then xs ys zs p q = (p.0 ++ q.0, sym (append_assoc xs p.0 q.0) ∙ ap (λ l. l ++ q.0) p.1 ∙ q.1)

  pub each_append : (P : A → Type 0) (xs ys : List A) → AllByRecursion P xs → AllByRecursion P ys → AllByRecursion P (xs ++ ys)
  each_append P [] ys h k = k
  each_append P (x ∷ xs) ys h k = (h.0, each_append P xs ys h.1 k)

  pub each_more : (P Q : A → Type 0) → ((x : A) → P x → Q x) → (xs : List A) → AllByRecursion P xs → AllByRecursion Q xs
  each_more P Q f [] h = tt
  each_more P Q f (x ∷ xs) h = (f x h.0, each_more P Q f xs h.1)

  pub each_front : (P : A → Type 0) (xs ys : List A) → AllByRecursion P (xs ++ ys) → AllByRecursion P xs
  each_front P [] ys h = tt
  each_front P (x ∷ xs) ys h = (h.0, each_front P xs ys h.1)

  pub each_back : (P : A → Type 0) (xs ys : List A) → AllByRecursion P (xs ++ ys) → AllByRecursion P ys
  each_back P [] ys h = h
  each_back P (x ∷ xs) ys h = each_back P xs ys h.1

  -- what holds of each holds of the one at a place
  pub each_at : (P : A → Type 0) (xs : List A) (i : ℕ) (x : A) → get_elem? xs i ≡ some x → AllByRecursion P xs → P x
  each_at P [] i x e h = absurd (some-ne-none x (sym e))
  each_at P (y ∷ xs) zero x e h = subst P (some-injective y x e) h.0
  each_at P (y ∷ xs) (suc i) x e h = each_at P xs i x e h.1

  -- a sum that isn't 0 has an item that isn't 0
  pub total_some : (f : A → ℕ) (xs : List A) → 1 ≤ total f xs → (i : ℕ) × (x : A) × (get_elem? xs i ≡ some x) × (1 ≤ f x)
  total_some f [] h = absurd (omega arith)
  total_some f (x ∷ xs) h = pick (f x) refl (λ z. total_some f xs (omega (arith, z)))
    where
      pick : (n : ℕ) → f x ≡ n → (f x ≡ 0 → (i : ℕ) × (y : A) × (get_elem? xs i ≡ some y) × (1 ≤ f y))
          → (i : ℕ) × (y : A) × (get_elem? (x ∷ xs) i ≡ some y) × (1 ≤ f y)
      pick zero is rest = let r = rest is in (suc r.0, r.1, r.2, r.3)
      pick (suc n) is rest = (zero, x, refl, omega arith)

  -- what holds at each place holds of each
  pub each_of : (P : A → Type 0) (xs : List A) → ((i : ℕ) (x : A) → get_elem? xs i ≡ some x → P x) → AllByRecursion P xs
  each_of P [] h = tt
  each_of P (x ∷ xs) h = (h zero x refl, each_of P xs (λ i y e. h (suc i) y e))

pub parts : (a b : Bool) → 1 ≤ one_if (a && b) → (a ≡ true) × (b ≡ true)
parts true true h = (refl, refl)
parts true false h = absurd (omega arith)
parts false b h = absurd (omega arith)

pub last_then : (m : ℕ) (xs ys : List Tick) → last_moment m (xs ++ ys) ≡ last_moment (last_moment m xs) ys
last_then m [] ys = refl
last_then m (x ∷ xs) ys = last_then x.moment xs ys

-- what stands at a place of a list, after a function
pub map_some : {A B : Type 0} (f : A → B) (xs : List A) (i : ℕ) (x : A) → get_elem? xs i ≡ some x → get_elem? (map f xs) i ≡ some (f x)
map_some f [] i x e = absurd (some-ne-none x (sym e))
map_some f (y ∷ xs) zero x e = ap (λ z. some (f z)) (some-injective y x e)
map_some f (y ∷ xs) (suc i) x e = map_some f xs i x e
