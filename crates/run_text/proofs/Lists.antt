-- The items of a list.
use Rattle.std.proofs.Common.{◌≡◌, List, [], ◌∷◌, refl, ap}
use Rattle.std.proofs.Common.{ℕ, zero, suc, ◌<◌, ◌≤◌, ◌++◌, take, map, get_or, length, min, arith}
use Rattle.std.specs.Prelude.{zip}
use Rattle.serde_json.specs.Data.{Data}
use Rattle.serde_json.specs.View.{items_of}
use Rattle.run_text.specs.Members.{listed}

pub listed_back : (ds : List Data) → listed (items_of ds) ≡ ds
listed_back [] = refl
listed_back (d ∷ ds) = ap (λ es. d ∷ es) (listed_back ds)

-- one more pair of items
pub one_more_pair : {A B C : Type 0} (f : A → B → C) (i : ℕ) (xs : List A) (ys : List B) (d : A) (e : B) → i < length xs → i < length ys
    → take (suc i) (map (λ p. f p.0 p.1) (zip xs ys)) ≡ take i (map (λ p. f p.0 p.1) (zip xs ys)) ++ f (get_or xs i d) (get_or ys i e) ∷ []
one_more_pair f i [] ys d e h k = absurd (omega arith)
one_more_pair f i (x ∷ xs) [] d e h k = absurd (omega arith)
one_more_pair f zero (x ∷ xs) (y ∷ ys) d e h k = refl
one_more_pair f (suc i) (x ∷ xs) (y ∷ ys) d e h k = ap (λ zs. f x y ∷ zs) (one_more_pair f i xs ys d e (omega arith) (omega arith))

-- there are no more pairs than items in either list
pub all_pairs : {A B C : Type 0} (f : A → B → C) (n : ℕ) (xs : List A) (ys : List B) → min (length xs) (length ys) ≤ n
    → take n (map (λ p. f p.0 p.1) (zip xs ys)) ≡ map (λ p. f p.0 p.1) (zip xs ys)
all_pairs f n [] ys h = take_nil n
  where
    take_nil : {A : Type 0} (n : ℕ) → take n (let xs : List A = [] in xs) ≡ []
    take_nil zero = refl
    take_nil (suc n) = refl
all_pairs f n (x ∷ xs) [] h = take_none n
  where
    take_none : {A : Type 0} (n : ℕ) → take n (let xs : List A = [] in xs) ≡ []
    take_none zero = refl
    take_none (suc n) = refl
all_pairs f zero (x ∷ xs) (y ∷ ys) h = absurd (omega arith)
all_pairs f (suc n) (x ∷ xs) (y ∷ ys) h = ap (λ zs. f x y ∷ zs) (all_pairs f n xs ys (omega arith))
