-- Sums over lists, and the last claims.
use Rattle.std.proofs.Common.{◌≡◌, ℕ, ◌==◌, List, [], ◌∷◌, ◌++◌, cond, refl}
use Rattle.counter_directory.specs.declared.claim.Claim.{Claim}
use Rattle.counter_directory.specs.Claims.{last_end, last_of, end_of}

pub last_end_push : (d k : ℕ) (xs : List Claim) (y : Claim) → last_end d k (xs ++ y ∷ []) ≡ cond (y.cell == k) (end_of y) (last_end d k xs)
last_end_push d k [] y = refl
last_end_push d k (x ∷ xs) y = last_end_push (cond (x.cell == k) (end_of x) d) k xs y

pub last_of_push : (d : ℕ) (xs : List Claim) (y : Claim) → last_of d (xs ++ y ∷ []) ≡ y.moment
last_of_push d [] y = refl
last_of_push d (x ∷ xs) y = last_of_push x.moment xs y
