-- What holds of all items of a list.
use Rattle.std.proofs.Common.{◌≡◌, ℕ, zero, suc, List, [], ◌∷◌, ◌++◌, length, take, drop, All, refl, ap, arith}
use Rattle.std.specs.List.{AllByRecursion}

module _ {A : Type 0} (P : A → Type 0) where
  pub all_index : (xs : List A) → AllByRecursion P xs → All P xs
  all_index [] h k d lt = absurd (omega arith)
  all_index (x ∷ xs) h zero d lt = h.0
  all_index (x ∷ xs) h (suc k) d lt = all_index xs h.1 k d (omega arith)

  pub index_all : (xs : List A) → All P xs → AllByRecursion P xs
  index_all [] h = tt
  index_all (x ∷ xs) h = (h 0 x (omega arith), index_all xs (λ k d lt. h (suc k) d (omega arith)))

  recursion_push : (xs : List A) (x : A) → AllByRecursion P xs → P x → AllByRecursion P (xs ++ x ∷ [])
  recursion_push [] x h p = (p, tt)
  recursion_push (y ∷ ys) x h p = (h.0, recursion_push ys x h.1 p)

  pub all_push : (xs : List A) (x : A) → All P xs → P x → All P (xs ++ x ∷ [])
  all_push xs x h p = all_index (xs ++ x ∷ []) (recursion_push xs x (index_all xs h) p)

-- a list that was written back whole
pub written_back : {A : Type 0} (ws new : List A) (n : ℕ) → length new ≡ length ws → n ≡ length ws → take n (new ++ drop (length new) ws) ≡ new
written_back [] [] zero same is = refl
written_back [] [] (suc n) same is = refl
written_back [] (x ∷ xs) n same is = absurd (omega arith)
written_back (w ∷ ws) [] n same is = absurd (omega arith)
written_back (w ∷ ws) (x ∷ xs) zero same is = absurd (omega arith)
written_back (w ∷ ws) (x ∷ xs) (suc n) same is = ap (λ (l : List _). x ∷ l) (written_back ws xs n (omega arith) (omega arith))
