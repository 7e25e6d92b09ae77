-- First parts of pieces.
use Rattle.std.proofs.Common.{◌≡◌, ℕ, zero, suc, ◌+◌, List, [], ◌∷◌, ◌++◌, take, drop, refl, sym, ap, ◌∙◌, arith}

take_none : (n : ℕ) → take {A = ℕ} n [] ≡ []
take_none zero = refl
take_none (suc n) = refl

-- a part, and a part of what comes behind it
pub take_more_by : (i j : ℕ) (xs : List ℕ) → take i xs ++ take j (drop i xs) ≡ take (i + j) xs
take_more_by zero j xs = let same : 0 + j ≡ j = omega arith in ap (λ n. take n xs) (sym same)
take_more_by (suc i) j [] = take_none j ∙ sym (take_none (suc i + j))
take_more_by (suc i) j (x ∷ xs) =
    let same : suc i + j ≡ suc (i + j) = omega arith in
    ap (λ ys. x ∷ ys) (take_more_by i j xs) ∙ ap (λ n. take n (x ∷ xs)) (sym same)

-- a part of a part is a part
pub take_part : (k n : ℕ) (xs : List ℕ) → (m : ℕ) × (take k (take n xs) ≡ take m xs)
take_part zero n xs = (0, refl)
take_part (suc k) zero xs = (0, refl)
take_part (suc k) (suc n) [] = (0, refl)
take_part (suc k) (suc n) (x ∷ xs) = let r = take_part k n xs in (suc r.0, ap (λ ys. x ∷ ys) r.1)

-- what was sent, and a part of a part of the rest
pub take_rest_part : (i k n : ℕ) (xs : List ℕ) → (m : ℕ) × (take i xs ++ take k (take n (drop i xs)) ≡ take m xs)
take_rest_part i k n xs =
    let r = take_part k n (drop i xs) in
    (i + r.0, ap (λ ys. take i xs ++ ys) r.1 ∙ take_more_by i r.0 xs)
