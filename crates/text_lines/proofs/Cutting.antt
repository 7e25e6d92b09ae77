-- How bytes are cut into lines.
use Rattle.std.proofs.Common.{◌≡◌, ℕ, ◌+◌, ◌<◌, ◌≤◌, ◌==◌, Bool, true, false, List, [], ◌∷◌, length, take, drop, Option, Some, None, refl, arith}
use Rattle.std.proofs.lemmas.Bool.Decides.{nat_tests}
use Rattle.std.proofs.lemmas.List.Splits.{slice_split_first, length-slice_split}
use Rattle.std.specs.List.{slice_split, position, position_or_len}
use Rattle.text_lines.specs.Lines.{lines_of_parts, cut}

lines_more : (x : List ℕ) (ps : List (List ℕ)) → 0 < length ps → lines_of_parts (x ∷ ps) ≡ x ∷ lines_of_parts ps
lines_more x [] h = absurd (omega arith)
lines_more x (p ∷ ps) h = refl

found : (p : ℕ → Bool) (xs : List ℕ) (i : ℕ) → position p xs ≡ Some i → (i ≡ position_or_len p xs) × (i < length xs)
found p xs i is = grind (arith, nat_tests)

none : (p : ℕ → Bool) (xs : List ℕ) → position p xs ≡ None → length xs ≤ position_or_len p xs
none p xs is = grind (arith, nat_tests)

whole : (p : ℕ → Bool) (xs : List ℕ) → length xs ≤ position_or_len p xs → slice_split p xs ≡ xs ∷ []
whole p [] h = refl
whole p (x ∷ xs) h = by (whole p xs) (p x) refl
  where
    by : (length xs ≤ position_or_len p xs → slice_split p xs ≡ xs ∷ []) → (b : Bool) → p x ≡ b → slice_split p (x ∷ xs) ≡ (x ∷ xs) ∷ []
    by more true is = absurd (omega (arith, rw is at h))
    by more false is = rw is (rw (more (omega (arith, rw is at h))))

pub cut_at : (bs : List ℕ) (i : ℕ) → position (λ b. b == 10) bs ≡ Some i → cut bs ≡ take i bs ∷ cut (drop (i + 1) bs)
cut_at bs i is =
    let at = found (λ b. b == 10) bs i is in
    let parts : slice_split (λ b. b == 10) bs ≡ take i bs ∷ slice_split (λ b. b == 10) (drop (i + 1) bs) =
    rw at.0 (slice_split_first (λ b. b == 10) bs 0 (omega arith)) in
    rw parts (lines_more (take i bs) (slice_split (λ b. b == 10) (drop (i + 1) bs)) (omega (arith, length-slice_split (λ b. b == 10) (drop (i + 1) bs))))

pub cut_rest : (bs : List ℕ) → position (λ b. b == 10) bs ≡ None → 0 < length bs → cut bs ≡ bs ∷ cut []
cut_rest [] is more = absurd (omega arith)
cut_rest (b ∷ bs) is more =
    let parts : slice_split (λ b. b == 10) (b ∷ bs) ≡ (b ∷ bs) ∷ [] = whole (λ b. b == 10) (b ∷ bs) (none (λ b. b == 10) (b ∷ bs) is) in
    rw parts refl

-- bytes that are there have a line
pub cut_some : (bs : List ℕ) → 0 < length bs → 0 < length (cut bs)
cut_some bs more = by (position (λ b. b == 10) bs) refl
  where
    by : (o : Option ℕ) → position (λ b. b == 10) bs ≡ o → 0 < length (cut bs)
    by None is = rw (cut_rest bs is more) (omega arith)
    by (Some i) is = rw (cut_at bs i is) (omega arith)

-- and no bytes have none
pub cut_none : (bs : List ℕ) → length bs ≤ 0 → cut bs ≡ []
cut_none [] h = refl
cut_none (b ∷ bs) h = absurd (omega arith)
