-- The indices of a row are those below the indices of the next one.
use Rattle.std.proofs.Common.{◌≡◌, ℕ, ◌+◌, ◌*◌, ◌≤◌, Bool, true, false, List, [], ◌∷◌, ◌++◌, refl, arith, ap, sym, ◌∙◌, suc, zero, length, get_or, Option, Some, None}
use Rattle.std.proofs.Common.{if◌then◌else◌, append_assoc, ◌||◌, add-zero, zero-add, append-nil}
use Rattle.std.specs.List.{flat_map}
use Rattle.std.proofs.lemmas.Bool.Decides.{nat_tests}
use Rattle.std.proofs.lemmas.Grind.{flat_map-append}
use Rattle.agenda.specs.Reached.{is_reached, earlier, reached_from, reached}
use Rattle.agenda.specs.Halves.{halves, IsTower, index_if, pair_indices, below}

-- the index of a moment, if it isn't later
abbrev one : ℕ → ℕ → Option ℕ → List ℕ
one at index moment = if is_reached at moment then index ∷ [] else []

from_cons : (at index : ℕ) (moment : Option ℕ) (ms : List (Option ℕ)) → reached_from at index (moment ∷ ms) ≡ one at index moment ++ reached_from at (index + 1) ms
from_cons at index moment ms = over (is_reached at moment)
  where
    over : (b : Bool) → (if b then index ∷ reached_from at (index + 1) ms else reached_from at (index + 1) ms)
        ≡ (if b then index ∷ [] else []) ++ reached_from at (index + 1) ms
    over true = refl
    over false = refl

-- the earlier of two moments is reached where one of them is
earlier_in_time : (a b : Option ℕ) (at : ℕ) → is_reached at (earlier a b) ≡ (is_reached at a || is_reached at b)
earlier_in_time None b at = refl
earlier_in_time (Some a) None at = grind (arith, nat_tests)
earlier_in_time (Some a) (Some b) at = grind (arith, nat_tests)

-- the index of the earlier of two moments leads to both
pair_step : (f : ℕ → List ℕ) (at index : ℕ) (a b : Option ℕ) (us vs : List ℕ) → f index ≡ one at (2 * index) a ++ one at (2 * index + 1) b
    → us ≡ flat_map f vs
    → one at (2 * index) a ++ (one at (2 * index + 1) b ++ us) ≡ flat_map f (one at index (earlier a b) ++ vs)
pair_step f at index a b us vs is rest = rw (earlier_in_time a b at) (over (is_reached at a) (is_reached at b) is)
  where
    over : (p q : Bool) → f index ≡ (if p then (2 * index ∷ []) else []) ++ (if q then ((2 * index + 1) ∷ []) else [])
        → (if p then (2 * index ∷ []) else []) ++ ((if q then ((2 * index + 1) ∷ []) else []) ++ us)
        ≡ flat_map f ((if (p || q) then (index ∷ []) else []) ++ vs)
    over true true h = rw (h, rest) refl
    over true false h = rw (h, rest) refl
    over false true h = rw (h, rest) refl
    over false false h = rest

-- the indices below those of the next row, from one of its indices on
under : (f : ℕ → List ℕ) (at index : ℕ) (ms : List (Option ℕ))
    → ((j : ℕ) → f (index + j) ≡ one at (2 * (index + j)) (get_or ms (2 * j) None) ++ one at (2 * (index + j) + 1) (get_or ms (2 * j + 1) None))
    → reached_from at (2 * index) ms ≡ flat_map f (reached_from at index (halves ms))
under f at index [] each = refl
under f at index (a ∷ []) each = over (is_reached at a) (rw add-zero at (each 0))
  where
    over : (b : Bool) → f index ≡ (if b then (2 * index ∷ []) else []) ++ []
        → (if b then (2 * index ∷ []) else []) ≡ flat_map f (if b then (index ∷ []) else [])
    over true h = rw h refl
    over false h = refl
under f at index (a ∷ b ∷ ms) each =
    let here : f index ≡ one at (2 * index) a ++ one at (2 * index + 1) b = rw add-zero at (each 0) in
    let next : 2 * index + 1 + 1 ≡ 2 * (index + 1) = omega arith in
    let rest = under f at (index + 1) ms (λ j.
    let same : index + 1 + j ≡ index + suc j = omega arith in
    let one_more : 2 * suc j ≡ suc (suc (2 * j)) = omega arith in
    let other : 2 * suc j + 1 ≡ suc (suc (2 * j + 1)) = omega arith in
    rw same (rw (other, one_more) at (each (suc j)))) in
    rw (from_cons at (2 * index) a (b ∷ ms), from_cons at (2 * index + 1) b ms, next, from_cons at index (earlier a b) (halves ms))
    (pair_step f at index a b _ _ here rest)

-- the indices of a row are those below the indices of the next one
below_all : (at : ℕ) (ms : List (Option ℕ)) → flat_map (pair_indices at ms) (reached at (halves ms)) ≡ reached at ms
below_all at ms = sym (under (pair_indices at ms) at 0 ms (λ j. rw zero-add refl))

-- a moment reaches what it reaches below the first index of the last row
pub tower_reached : (at : ℕ) (ms : List (Option ℕ)) (above : List (List (Option ℕ))) → IsTower ms above → below at ms above 0 ≡ reached at ms
tower_reached at [] [] tower = refl
tower_reached at (a ∷ []) [] tower = refl
tower_reached at (a ∷ b ∷ ms) [] tower = absurd (omega (arith, tower))
tower_reached at ms (row ∷ above) tower =
    rw (tower_reached at row above tower.1, tower.0) (below_all at ms)

-- below an index of the last row stand those below the two indices under it, where it is reached
pub below_last : (at : ℕ) (ms : List (Option ℕ)) (rest : List (List (Option ℕ))) (row : List (Option ℕ)) (index : ℕ)
    → below at ms (rest ++ row ∷ []) index
    ≡ (if is_reached at (get_or row index None) then below at ms rest (2 * index) ++ below at ms rest (2 * index + 1) else [])
below_last at ms [] row index = over (is_reached at (get_or row index None))
  where
    over : (b : Bool) → flat_map (pair_indices at ms) (if b then (index ∷ []) else [])
        ≡ (if b then (index_if at ms (2 * index) ++ index_if at ms (2 * index + 1)) else [])
    over true = append-nil (pair_indices at ms index)
    over false = refl
below_last at ms (first ∷ rest) row index = rw (below_last at first rest row index) (over (is_reached at (get_or row index None)))
  where
    over : (b : Bool) → flat_map (pair_indices at ms) (if b then (below at first rest (2 * index) ++ below at first rest (2 * index + 1)) else [])
        ≡ (if b then (flat_map (pair_indices at ms) (below at first rest (2 * index)) ++ flat_map (pair_indices at ms) (below at first rest (2 * index + 1)))
        else [])
    over true = flat_map-append (pair_indices at ms) (below at first rest (2 * index)) (below at first rest (2 * index + 1))
    over false = refl

pub below_none : (at : ℕ) (ms : List (Option ℕ)) (rows : List (List (Option ℕ))) (index : ℕ) (found later : List ℕ) → length rows ≡ 0
    → later ≡ found ++ index_if at ms index → later ≡ found ++ below at ms rows index
below_none at ms [] index found later none is = is
below_none at ms (row ∷ rows) index found later none is = absurd (omega arith)

pub below_later : (at : ℕ) (ms : List (Option ℕ)) (rows rest : List (List (Option ℕ))) (row : List (Option ℕ)) (index : ℕ) (found : List ℕ)
    → rows ≡ rest ++ row ∷ [] → is_reached at (get_or row index None) ≡ false → found ≡ found ++ below at ms rows index
below_later at ms rows rest row index found is now =
    rw (is, below_last at ms rest row index, now) (sym (append-nil found))

pub ruleset below_cases = (below_none, below_later)

pub below_reached : (at : ℕ) (ms : List (Option ℕ)) (rows rest : List (List (Option ℕ))) (row : List (Option ℕ)) (index : ℕ) (found one two : List ℕ)
    → rows ≡ rest ++ row ∷ [] → is_reached at (get_or row index None) ≡ true → one ≡ found ++ below at ms rest (2 * index)
    → two ≡ one ++ below at ms rest (2 * index + 1) → two ≡ found ++ below at ms rows index
below_reached at ms rows rest row index found one two is now first second =
    rw (is, below_last at ms rest row index, now, second, first) (append_assoc found (below at ms rest (2 * index)) (below at ms rest (2 * index + 1)))
