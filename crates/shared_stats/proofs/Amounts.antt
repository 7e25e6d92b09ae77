-- Laws of what was added to words and found in them.
use Rattle.std.proofs.Common.{◌≡◌, ℕ, ◌+◌, ◌*◌, ◌≤◌, ◌==◌, List, [], ◌∷◌, ◌++◌, max, if◌then◌else◌, refl, arith}
use Rattle.rate_types.specs.Sums.{total}
use Rattle.rate_types.proofs.Sums.{total_append, cond_yes, cond_no}
use Rattle.shared_stats.specs.declared.rule.Amount.{Amount}
use Rattle.shared_stats.specs.Rule.{amount_at, added_to, greatest_at}

-- one amount more
pub added_more : (word at amount : ℕ) (xs : List Amount)
    → added_to word (xs ++ record { word = at; amount = amount } ∷ []) ≡ added_to word xs + (if at == word then amount else 0)
added_more word at amount xs = let a = total_append (amount_at word) xs (record { word = at; amount = amount } ∷ []) in omega arith

pub added_here : (word amount : ℕ) (xs : List Amount)
    → added_to word (xs ++ record { word = word; amount = amount } ∷ []) ≡ added_to word xs + amount
added_here word amount xs = let a = added_more word word amount xs in let b = cond_yes word word amount 0 refl in omega arith

pub added_else : (word at amount : ℕ) (xs : List Amount) → (at ≡ word → ⊥)
    → added_to word (xs ++ record { word = at; amount = amount } ∷ []) ≡ added_to word xs
added_else word at amount xs apart = let a = added_more word at amount xs in let b = cond_no at word amount 0 apart in omega arith

-- the greatest of two lists
pub greatest_append : (word : ℕ) (xs ys : List Amount) → greatest_at word (xs ++ ys) ≡ max (greatest_at word xs) (greatest_at word ys)
greatest_append word [] ys = omega arith
greatest_append word (x ∷ xs) ys = let r = greatest_append word xs ys in omega arith

distribute : (a b c : ℕ) → (a + b) * c ≡ a * c + b * c
distribute a b c = grind arith

-- a sum of multiples
pub total_times : {A : Type 0} (f : A → ℕ) (c : ℕ) (xs : List A) → total (λ x. f x * c) xs ≡ total f xs * c
total_times f c [] = omega arith
total_times f c (x ∷ xs) = let r = total_times f c xs in let d = distribute (f x) (total f xs) c in omega arith

-- what was found stays, and a number that is found is there
pub greatest_more : (word at number : ℕ) (xs : List Amount) → greatest_at word xs ≤ greatest_at word (xs ++ record { word = at; amount = number } ∷ [])
greatest_more word at number xs = let a = greatest_append word xs (record { word = at; amount = number } ∷ []) in omega arith

pub greatest_here : (word number : ℕ) (xs : List Amount) → number ≤ greatest_at word (xs ++ record { word = word; amount = number } ∷ [])
greatest_here word number xs =
    let a = greatest_append word xs (record { word = word; amount = number } ∷ []) in
    let b = cond_yes word word number 0 refl in
    omega arith
