-- Taking a list item by item.
use Rattle.std.proofs.Common.{◌≡◌, ℕ, ◌+◌, List, [], ◌∷◌, ◌++◌, length, arith, ap, ◌∙◌, append_assoc, length-append}
use Rattle.std.specs.List.{AllByRecursion}
use Rattle.request_tokens.specs.Compact.{more_text, list_text}
use Rattle.request_tokens.proofs.Reading.{all_more}

-- so many items were taken since the text was this one, each of them good, and another one follows
pub record HasTaken {X : Type 0} (each : X → List ℕ → List ℕ) (P : X → Type 0) (start now : List ℕ) (xs : List X) (count : ℕ) : Type 0 where
  pub text : (x : X) (more : List X) (rest : List ℕ) → now ≡ each x (more_text each more rest) → start ≡ list_text each (xs ++ x ∷ more) rest
  pub many : length xs ≡ count
  pub good : AllByRecursion P xs

pub one_taken : {X : Type 0} (each : X → List ℕ → List ℕ) (P : X → Type 0) (start now mid now' : List ℕ) (xs : List X) (count : ℕ) (x : X)
    → HasTaken each P start now xs count → now ≡ each x mid → mid ≡ 44 ∷ now' → P x → HasTaken each P start now' (xs ++ x ∷ []) (count + 1)
one_taken each P start now mid now' xs count x h is comma p = record {
  text = λ y more rest same. rw (append_assoc xs (x ∷ []) (y ∷ more))
      (h.text x (y ∷ more) rest (is ∙ ap (each x) (comma ∙ ap (λ l. 44 ∷ l) same)));
  many = omega (arith, h.many, length-append xs (x ∷ []));
  good = all_more P xs x h.good p;
}

pub last_taken : {X : Type 0} (each : X → List ℕ → List ℕ) (P : X → Type 0) (start now mid now' : List ℕ) (xs : List X) (count : ℕ) (x : X)
    → HasTaken each P start now xs count → now ≡ each x mid → mid ≡ 93 ∷ now' → start ≡ list_text each (xs ++ x ∷ []) now'
last_taken each P start now mid now' xs count x h is closing = h.text x [] now' (is ∙ ap (each x) closing)
