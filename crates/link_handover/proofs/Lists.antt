-- Links under their numbers, and the front of what was put.
use Rattle.std.proofs.Common.{◌≡◌, ℕ, zero, suc, ◌+◌, ◌≤◌, ◌<◌, ◌==◌, List, [], ◌∷◌, ◌++◌, length, replicate, refl, sym, ap, ◌∙◌, arith}
use Rattle.std.proofs.Common.{append_assoc, eq-eqb}
use Rattle.std.proofs.lemmas.Bool.{ne_eqb}
use Rattle.std.proofs.lemmas.List.{append-nil}
use native.Mathlib.Decide.{dec_lt}
use Rattle.std.specs.List.{AllByRecursion}
use Rattle.rate_types.specs.Sums.{total, one_if, times}
use Rattle.link_handover.specs.declared.taken.Taken.{Taken}
use Rattle.link_handover.specs.declared.taken.Taken.TheVariants.{Link, End}
use Rattle.link_handover.specs.Handover.{numbered, put_in_all, numbers_in, AreRising}
use Rattle.link_handover.specs.Passes.{is_end, IsOnceBelow}

pub same_one : (a b : ℕ) → a ≡ b → one_if (a == b) ≡ 1
same_one a b e = ap one_if (eq-eqb a b e)

pub other_none : (a b : ℕ) → (a ≡ b → ⊥) → one_if (a == b) ≡ 0
other_none a b ne = ap one_if (ne_eqb a b ne)

module _ {A : Type 0} where
  heads : (x y : A) (xs ys : List A) → x ∷ xs ≡ y ∷ ys → x ≡ y
  heads x y xs ys e = cc

  tails : (x y : A) (xs ys : List A) → x ∷ xs ≡ y ∷ ys → xs ≡ ys
  tails x y xs ys e = cc

  nothing_before : (xs ys : List A) (y : A) → [] ≡ xs ++ y ∷ ys → ⊥
  nothing_before [] ys y e = cc
  nothing_before (x ∷ xs) ys y e = cc

  pub replicate_push : (n : ℕ) (x : A) → replicate (suc n) x ≡ replicate n x ++ x ∷ []
  replicate_push zero x = refl
  replicate_push (suc n) x = ap (λ (l : List A). x ∷ l) (replicate_push n x)

-- end marks, counted
pub ends_total : (N : Type 0) (m : ℕ) → total (is_end {N = N}) (replicate m End) ≡ m
ends_total N zero = refl
ends_total N (suc m) = let r = ends_total N m in omega arith

-- a greater number behind numbers that rise
pub rising_push : (ns : List ℕ) (n : ℕ) → AreRising ns → ((j : ℕ) → n ≤ j → times j ns ≡ 0) → AreRising (ns ++ n ∷ [])
rising_push [] n rises below = (tt, tt)
rising_push (k ∷ ns) n rises below = (
  all_push (λ m. k < m) ns n rises.0 (less (dec_lt k n)),
  rising_push ns n rises.1 (λ j le. let b = below j le in omega arith),
)
  where
    less : Dec (k < n) → k < n
    less (yes lt) = lt
    less (no ge) = let b = below k (omega arith) in let o = same_one k k refl in absurd (omega arith)

    all_push : (P : ℕ → Type 0) (ns : List ℕ) (n : ℕ) → AllByRecursion P ns → P n → AllByRecursion P (ns ++ n ∷ [])
    all_push P [] n all p = (p, tt)
    all_push P (m ∷ ms) n all p = (all.0, all_push P ms n all.1 p)

module _ {N : Type 0} where
  -- 1 for a link with this number, else 0
  abbrev pub has_number : ℕ → Taken N → ℕ
  has_number n (Link k x) = one_if (k == n)
  has_number n End = 0

  -- one link more
  pub numbered_push : (k n : ℕ) (links : List N) (x : N) → n ≡ k + length links → numbered k (links ++ x ∷ []) ≡ numbered k links ++ Link n x ∷ []
  numbered_push k n [] x is = let e : k ≡ n = omega arith in ap (λ (j : ℕ). numbered j (x ∷ [])) e
  numbered_push k n (y ∷ ys) x is = ap (λ (l : List (Taken N)). Link k y ∷ l) (numbered_push (k + 1) n ys x (omega arith))

  pub push_link : (links : List N) (x : N) (marks n : ℕ) (first items : List (Taken N)) → marks ≡ 0 → n ≡ length links
      → put_in_all links marks ≡ first ++ items → put_in_all (links ++ x ∷ []) marks ≡ first ++ (items ++ Link n x ∷ [])
  push_link links x zero n first items none is e =
      append-nil (numbered 0 (links ++ x ∷ [])) ∙ numbered_push 0 n links x (omega arith)
      ∙ ap (λ (l : List (Taken N)). l ++ Link n x ∷ []) (sym (append-nil (numbered 0 links)) ∙ e) ∙ append_assoc first items (Link n x ∷ [])
  push_link links x (suc m) n first items none is e = absurd (omega arith)

  pub push_end : (links : List N) (marks : ℕ) (first items : List (Taken N)) → put_in_all links marks ≡ first ++ items
      → put_in_all links (marks + 1) ≡ first ++ (items ++ End ∷ [])
  push_end links marks first items e =
      let next : marks + 1 ≡ suc marks = omega arith in
      ap (λ (m : ℕ). put_in_all links m) next ∙ ap (λ (l : List (Taken N)). numbered 0 links ++ l) (replicate_push marks End)
      ∙ sym (append_assoc (numbered 0 links) (replicate marks End) (End ∷ []))
      ∙ ap (λ (l : List (Taken N)). l ++ End ∷ []) e ∙ append_assoc first items (End ∷ [])

  -- no link stands among end marks
  end_link : (n : ℕ) (x : N) → ◌≡◌ {A = Taken N} End (Link n x) → ⊥
  end_link n x e = cc

  no_link : (m : ℕ) (first : List (Taken N)) (n : ℕ) (x : N) (items : List (Taken N)) → replicate m End ≡ first ++ Link n x ∷ items → ⊥
  no_link zero first n x items e = nothing_before first items (Link n x) e
  no_link (suc m) [] n x items e = end_link n x (heads End (Link n x) (replicate m End) items e)
  no_link (suc m) (f ∷ fs) n x items e = no_link m fs n x items (tails End f (replicate m End) (fs ++ Link n x ∷ items) e)

  number_of : (k n : ℕ) (y x : N) → ◌≡◌ {A = Taken N} (Link k y) (Link n x) → k ≡ n
  number_of k n y x e = cc

  -- the numbers before a link are smaller than its number
  pub record IsNext (k n : ℕ) (first : List (Taken N)) : Type 0 where
    pub is : n ≡ k + length first
    pub below : (j : ℕ) → n ≤ j → total (has_number j) first ≡ 0

  pub next_link : (k : ℕ) (links : List N) (marks : ℕ) (first : List (Taken N)) (n : ℕ) (x : N) (items : List (Taken N))
      → numbered k links ++ replicate marks End ≡ first ++ Link n x ∷ items → IsNext k n first
  next_link k [] marks first n x items e = absurd (no_link marks first n x items e)
  next_link k (y ∷ ys) marks [] n x items e =
      let s = number_of k n y x (heads (Link k y) (Link n x) (numbered (k + 1) ys ++ replicate marks End) items e) in
      record { is = omega arith; below = λ j le. refl }
  next_link k (y ∷ ys) marks (f ∷ fs) n x items e =
      let r = next_link (k + 1) ys marks fs n x items (tails (Link k y) f (numbered (k + 1) ys ++ replicate marks End) (fs ++ Link n x ∷ items) e) in
      let s : f ≡ Link k y = sym (heads (Link k y) f (numbered (k + 1) ys ++ replicate marks End) (fs ++ Link n x ∷ items) e) in
      let is = r.is in
      record {
        is = omega arith;
        below = λ j le.
            let a : has_number j f ≡ one_if (k == j) = ap (has_number j) s in
            let b : one_if (k == j) ≡ 0 = other_none k j (λ h. omega arith) in
            let c = r.below j le in
            omega arith;
      }

  -- how often a number is taken
  pub number_total : (n : ℕ) (ms : List (Taken N)) → total (has_number n) ms ≡ times n (numbers_in ms)
  number_total n [] = refl
  number_total n (End ∷ ms) = let r = number_total n ms in omega arith
  number_total n (Link k x ∷ ms) = let r = number_total n ms in omega arith

  pub numbers_push : (ms : List (Taken N)) (n : ℕ) (x : N) → numbers_in (ms ++ Link n x ∷ []) ≡ numbers_in ms ++ n ∷ []
  numbers_push [] n x = refl
  numbers_push (End ∷ ms) n x = numbers_push ms n x
  numbers_push (Link k y ∷ ms) n x = ap (λ (l : List ℕ). k ∷ l) (numbers_push ms n x)

  pub numbers_end : (ms : List (Taken N)) → numbers_in (ms ++ End ∷ []) ≡ numbers_in ms
  numbers_end [] = refl
  numbers_end (End ∷ ms) = numbers_end ms
  numbers_end (Link k y ∷ ms) = ap (λ (l : List ℕ). k ∷ l) (numbers_end ms)

  -- each number that was put stands there once
  pub numbered_none : (k : ℕ) (links : List N) (n : ℕ) → n < k → times n (numbers_in (numbered k links)) ≡ 0
  numbered_none k [] n lt = refl
  numbered_none k (x ∷ xs) n lt =
      let r = numbered_none (k + 1) xs n (omega arith) in let o = other_none k n (λ h. omega arith) in omega arith

  pub numbered_once : (k : ℕ) (links : List N) (n : ℕ) → k ≤ n → IsOnceBelow (k + length links) n (times n (numbers_in (numbered k links)))
  numbered_once k [] n le = record { once = λ lt. absurd (omega arith); none = λ ge. refl }
  numbered_once k (x ∷ xs) n le = pick (λ h. numbered_once (k + 1) xs n h) (dec_lt k n)
    where
      pick : (k + 1 ≤ n → IsOnceBelow (k + 1 + length xs) n (times n (numbers_in (numbered (k + 1) xs)))) → Dec (k < n)
          → IsOnceBelow (k + length (x ∷ xs)) n (times n (numbers_in (numbered k (x ∷ xs))))
      pick more (yes lt) =
          let r = more (omega arith) in
          let o = other_none k n (λ h. omega arith) in
          record { once = λ h. let a = r.once (omega arith) in omega arith; none = λ h. let a = r.none (omega arith) in omega arith }
      pick more (no ge) =
          let r = numbered_none (k + 1) xs n (omega arith) in
          let o = same_one k n (omega arith) in
          record { once = λ h. omega arith; none = λ h. absurd (omega arith) }

  pub ends_numbers : (ms : List (Taken N)) (m : ℕ) → numbers_in (ms ++ replicate m End) ≡ numbers_in ms
  ends_numbers [] zero = refl
  ends_numbers [] (suc m) = ends_numbers [] m
  ends_numbers (End ∷ ms) m = ends_numbers ms m
  ends_numbers (Link k x ∷ ms) m = ap (λ (l : List ℕ). k ∷ l) (ends_numbers ms m)

  pub numbered_ends : (k : ℕ) (links : List N) → total is_end (numbered k links) ≡ 0
  numbered_ends k [] = refl
  numbered_ends k (x ∷ xs) = let r = numbered_ends (k + 1) xs in omega arith
