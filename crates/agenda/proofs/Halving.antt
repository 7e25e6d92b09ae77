-- What the rows over a list of moments know.
use Rattle.std.proofs.Common.{◌≡◌, ℕ, ◌+◌, ◌-◌, ◌*◌, ◌/◌, ◌<◌, ◌≤◌, List, [], ◌∷◌, ◌++◌, Option, None, refl, arith, ap, sym, ◌∙◌, suc, zero, length, get_or, take}
use Rattle.std.proofs.Math.ListN.{set}
use Rattle.std.proofs.lemmas.List.{take_all, take_more, set-get_or}
use Rattle.agenda.specs.Reached.{earlier}
use Rattle.agenda.specs.Halves.{halves}

double_suc : (i : ℕ) → 2 * suc i ≡ suc (suc (2 * i))
double_suc i = omega arith

half_suc : (i : ℕ) → suc (suc i) / 2 ≡ suc (i / 2)
half_suc i = omega arith

-- a row has the earlier of two moments below
pub half_both : (ms : List (Option ℕ)) (i : ℕ) → 2 * i + 1 < length ms
    → get_or (halves ms) i None ≡ earlier (get_or ms (2 * i) None) (get_or ms (2 * i + 1) None)
half_both [] i lt = absurd (omega arith)
half_both (a ∷ []) i lt = absurd (omega arith)
half_both (a ∷ b ∷ ms) zero lt = refl
half_both (a ∷ b ∷ ms) (suc i) lt =
    let rest = half_both ms i (omega arith) in
    let next : 2 * suc i + 1 ≡ suc (suc (2 * i + 1)) = omega arith in
    rw (next, double_suc i) rest

-- or the last moment alone
pub half_last : (ms : List (Option ℕ)) (i : ℕ) → 2 * i + 1 ≡ length ms → get_or (halves ms) i None ≡ get_or ms (2 * i) None
half_last [] i is = absurd (omega arith)
half_last (a ∷ []) zero is = refl
half_last (a ∷ []) (suc i) is = absurd (omega arith)
half_last (a ∷ b ∷ ms) zero is = absurd (omega arith)
half_last (a ∷ b ∷ ms) (suc i) is = rw (double_suc i) (half_last ms i (omega arith))

pub length-halves : (ms : List (Option ℕ)) → length (halves ms) ≡ (length ms + 1) / 2
length-halves [] = refl
length-halves (a ∷ []) = refl
length-halves (a ∷ b ∷ ms) = let rest = length-halves ms in omega arith

-- a moment that is set changes the one over it alone
pub halves-set : (ms : List (Option ℕ)) (p : ℕ) (v : Option ℕ) → p < length ms
    → halves (set ms p v) ≡ set (halves ms) (p / 2) (get_or (halves (set ms p v)) (p / 2) None)
halves-set [] p v lt = absurd (omega arith)
halves-set (a ∷ []) zero v lt = refl
halves-set (a ∷ []) (suc p) v lt = absurd (omega arith)
halves-set (a ∷ b ∷ ms) zero v lt = refl
halves-set (a ∷ b ∷ ms) (suc zero) v lt = refl
halves-set (a ∷ b ∷ ms) (suc (suc p)) v lt =
    rw (half_suc p) (ap (λ ns. earlier a b ∷ ns) (halves-set ms p v (omega arith)))

-- the earlier of the pair of an index
pub pair_both : (ms : List (Option ℕ)) (p : ℕ) (x y m : Option ℕ) → 2 * (p / 2) + 1 < length ms → x ≡ get_or ms (2 * (p / 2)) None
    → y ≡ get_or ms (2 * (p / 2) + 1) None → m ≡ earlier x y → m ≡ get_or (halves ms) (p / 2) None
pair_both ms p x y m lt a b is = is ∙ rw (half_both ms (p / 2) lt, a, b) refl

pub pair_last : (ms : List (Option ℕ)) (p : ℕ) (x : Option ℕ) → p < length ms → length ms ≤ 2 * (p / 2) + 1 → x ≡ get_or ms (2 * (p / 2)) None
    → x ≡ get_or (halves ms) (p / 2) None
pair_last ms p x lt le a = rw (half_last ms (p / 2) (omega arith)) a

-- one more of a row
pub row_more : (ms : List (Option ℕ)) (i : ℕ) (x : Option ℕ) (row : List (Option ℕ)) → row ≡ take i (halves ms) → i < length ms - length ms / 2
    → x ≡ get_or (halves ms) (2 * i / 2) None → row ++ x ∷ [] ≡ take (i + 1) (halves ms)
row_more ms i x row is lt here =
    let half : 2 * i / 2 ≡ i = omega arith in
    let within : i < length (halves ms) = omega (arith, length-halves ms) in
    rw (is, here, half) (sym (take_more (halves ms) i None within))

pub row_all : (ms row : List (Option ℕ)) (n : ℕ) → row ≡ take n (halves ms) → n ≡ length ms - length ms / 2 → row ≡ halves ms
row_all ms row n is all = is ∙ take_all n (halves ms) (omega (arith, length-halves ms))

pub ruleset halving = (pair_both, pair_last)

pub ruleset rows = (row_more, row_all)

-- a moment that is set to what it was changes nothing
pub set_same : (ms : List (Option ℕ)) (p : ℕ) (x v : Option ℕ) → x ≡ get_or ms p None → x ≡ v → ms ≡ set ms p v
set_same ms p x v here is = rw (← is, here) (sym (set-get_or ms p None))

-- the index of the next row over one of a row
pub over_within : (ms row : List (Option ℕ)) (p : ℕ) → p < length ms → row ≡ halves ms → p / 2 < length row
over_within ms row p lt is = rw is (omega (arith, length-halves ms))

-- a row over one of which a moment was set is right, once the earlier moment of its pair is set in it
pub over_set : (ms row : List (Option ℕ)) (p : ℕ) (v m : Option ℕ) → p < length ms → row ≡ halves ms
    → m ≡ get_or (halves (set ms p v)) (p / 2) None → set row (p / 2) m ≡ halves (set ms p v)
over_set ms row p v m lt is earlier_is = rw (is, earlier_is) (sym (halves-set ms p v lt))
