-- What holds of each element, through a loop.
use Rattle.std.proofs.Common.{List, [], ◌∷◌, ◌++◌, suc, Bool, true, false, cond, All, arith}
use Rattle.std.proofs.lemmas.List.Elements.{All-push}

pub all_tail : {A : Type 0} (P : A → Type 0) (x : A) (xs : List A) → All P (x ∷ xs) → P x × All P xs
all_tail P x xs h = (h 0 x (omega arith), λ k d l. h (suc k) d (omega arith))

-- of a list to which one more may have come
pub all_maybe : {A : Type 0} (P : A → Type 0) (xs : List A) (y : A) (b : Bool) → All P xs → P y → All P (cond b (xs ++ y ∷ []) xs)
all_maybe P xs y true h p = All-push P xs y h p
all_maybe P xs y false h p = h
