-- What holds of the parts of passes.
use Rattle.std.proofs.Common.{◌≡◌, ℕ, suc, List, [], ◌∷◌, length, map, All, refl, sym, ap, ◌∙◌, subst, arith}
use Rattle.rate_types.specs.Sums.{total}
use Rattle.rate_limiter.proofs.Making.{all_tail, all_cons}

abbrev rest_of : {A : Type 0} → List A → List A
rest_of [] = []
rest_of (x ∷ xs) = xs

abbrev first_of : {A : Type 0} → A → List A → A
first_of d [] = d
first_of d (x ∷ xs) = x

-- what holds of each of the images, holds of each that has these images
pub all_through : {A B C : Type 0} (P : C → Type 0) (f : A → C) (g : B → C) (xs : List A) (ws : List B) → map f xs ≡ map g ws → All (λ x. P (f x)) xs → All (λ w. P (g w)) ws
all_through P f g [] [] e h = λ k d l. absurd (omega arith)
all_through P f g [] (w ∷ ws) e h = absurd (let n : 0 ≡ suc (length (map g ws)) = ap length e in omega arith)
all_through P f g (x ∷ xs) [] e h = λ k d l. absurd (omega arith)
all_through P f g (x ∷ xs) (w ∷ ws) e h =
    let t = all_tail (λ y. P (f y)) x xs h in
    all_cons (λ v. P (g v)) w ws (subst P (ap (first_of (f x)) e) t.0) (all_through P f g xs ws (ap rest_of e) t.1)

total_over : {X C : Type 0} (n : C → ℕ) (h : X → C) (ys : List X) → total n (map h ys) ≡ total (λ y. n (h y)) ys
total_over n h [] = refl
total_over n h (y ∷ ys) = let r = total_over n h ys in omega arith

-- what is summed over the images
pub total_through : {A B C : Type 0} (n : C → ℕ) (f : A → C) (g : B → C) (xs : List A) (ws : List B) → map f xs ≡ map g ws → total (λ x. n (f x)) xs ≡ total (λ w. n (g w)) ws
total_through n f g xs ws e = sym (total_over n f xs) ∙ ap (total n) e ∙ total_over n g ws
