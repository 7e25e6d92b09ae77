-- In a lawful list of claims no counter is claimed twice, and no number is of two claims.
use Rattle.std.proofs.Common.{◌≡◌, ℕ, suc, ◌+◌, ◌≤◌, ◌==◌, ◌&&◌, List, [], ◌∷◌, ◌++◌, take, Bool, true, false, true≢false, refl, sym, ap, ◌∙◌, subst, arith, append_assoc}
use Rattle.std.proofs.lemmas.List.{append-nil}
use Rattle.std.proofs.lemmas.Bool.Decides.{nat_tests}
use Rattle.std.specs.Cmp.Lexicographic.{bytes_decides}
use mathlib.Core.Option.{some}
use lib.ListN.{get_elem?}
use Rattle.rate_types.specs.Sums.{total, one_if}
use Rattle.rate_types.specs.Counters.{same_counter}
use Rattle.rate_types.specs.declared.counter_key.CounterKey.{CounterKey}
use Rattle.window_keys.proofs.Counters.{same_is}
use Rattle.counter_cells.specs.declared.answers.Spot.{Spot}
use Rattle.counter_directory.specs.declared.claim.Claim.{Claim}
use Rattle.counter_directory.specs.Claims.{claims_of, claims_with, bindings_of, IsLawfulClaims}
use Rattle.over_cache.specs.Entries.{is_key}
use Rattle.rate_limiter.specs.Known.{key_of, key_bindings, AreClaimedOnce}
use Rattle.rate_limiter.proofs.Lists.{total_more, parts}

same_number : (a b : ℕ) → (a == b) ≡ true → a ≡ b
same_number a b t = grind (arith, nat_tests)

-- of each claim something that no claim before it has, so that no two have it
module _ {K : Type 0} (has : K → Claim → Bool) (of : Claim → K) (is : (q : K) (x : Claim) → has q x ≡ true → of x ≡ q) where
  abbrev count : K → List Claim → ℕ
  count q xs = total (λ (x : Claim). one_if (has q x)) xs

  push : (before : List Claim) (x : Claim) → ((q : K) → count q before ≤ 1) → count (of x) before ≡ 0 → (q : K) → count q (before ++ x ∷ []) ≤ 1
  push before x all none q = by (has q x) refl (total_more (λ (y : Claim). one_if (has q y)) before (x ∷ []))
    where
      by : (b : Bool) → has q x ≡ b → count q (before ++ x ∷ []) ≡ count q before + count q (x ∷ []) → count q (before ++ x ∷ []) ≤ 1
      by true e a = let z = subst (λ k. count k before ≡ 0) (is q x e) none in let o = ap one_if e in omega arith
      by false e a = let h = all q in let o = ap one_if e in omega arith

  all_once : (before xs : List Claim) → ((i : ℕ) (x : Claim) → get_elem? xs i ≡ some x → count (of x) (before ++ take i xs) ≡ 0)
      → ((q : K) → count q before ≤ 1) → (q : K) → count q (before ++ xs) ≤ 1
  all_once before [] h all q = subst (λ (l : List Claim). count q l ≤ 1) (sym (append-nil before)) (all q)
  all_once before (x ∷ xs) h all q =
      let none : count (of x) before ≡ 0 = subst (λ (l : List Claim). count (of x) l ≡ 0) (append-nil before) (h 0 x refl) in
      subst (λ (l : List Claim). count q l ≤ 1) (append_assoc before (x ∷ []) xs)
      (all_once (before ++ x ∷ []) xs
      (λ i y e. subst (λ (l : List Claim). count (of y) l ≡ 0) (sym (append_assoc before (x ∷ []) (take i xs))) (h (suc i) y e))
      (push before x all none) q)

pub lawful_once : (cells most : ℕ) (xs : List Claim) → IsLawfulClaims cells most xs → AreClaimedOnce xs
lawful_once cells most xs law = record {
  counters = all_once (λ (q : CounterKey) (x : Claim). same_counter x.key q) (λ x. x.key) (λ q x e. same_is x.key q e) [] xs (λ i x e. (law i x e).counter) (λ q. omega arith);
  numbers = all_once (λ (n : ℕ) (x : Claim). x.claim == n) (λ x. x.claim) (λ n x e. same_number x.claim n e) [] xs (λ i x e. (law i x e).number) (λ n. omega arith);
}

pub none_once : AreClaimedOnce []
none_once = record { counters = λ q. omega arith; numbers = λ n. omega arith }

-- ---- one number, one counter

off : (p r t : Bool) → t ≡ false → one_if (p && (r && t)) ≡ 0
off true true true e = absurd (true≢false e)
off true true false e = refl
off true false t e = refl
off false r t e = refl

last_one : (p r t : Bool) → one_if (p && (r && t)) ≤ one_if t
last_one true true t = omega arith
last_one true false t = omega arith
last_one false r t = omega arith

first_one : (p r : Bool) → one_if (p && r) ≤ one_if p
first_one true true = omega arith
first_one true false = omega arith
first_one false r = omega arith

first_off : (p r : Bool) → p ≡ false → one_if (p && r) ≡ 0
first_off true r e = absurd (true≢false e)
first_off false r e = refl

both : (a b : Bool) → (a && b) ≡ true → (a ≡ true) × (b ≡ true)
both true b h = (refl, h)
both false b h = absurd (true≢false (sym h))

keyed_with : (key : List ℕ) (cell n : ℕ) (xs : List Claim) → key_bindings key cell n xs ≤ claims_with n xs
keyed_with key cell n [] = omega arith
keyed_with key cell n (x ∷ xs) =
    let r = keyed_with key cell n xs in
    let o = last_one (is_key key (key_of x.key)) (x.cell == cell) (x.claim == n) in
    omega arith

bound_with : (q : CounterKey) (cell n : ℕ) (xs : List Claim) → bindings_of q cell n xs ≤ claims_with n xs
bound_with q cell n [] = omega arith
bound_with q cell n (x ∷ xs) =
    let r = bound_with q cell n xs in
    let o = last_one (same_counter x.key q) (x.cell == cell) (x.claim == n) in
    omega arith

bound_some : (q : CounterKey) (cell n : ℕ) (xs : List Claim) → bindings_of q cell n xs ≤ claims_of q xs
bound_some q cell n [] = omega arith
bound_some q cell n (x ∷ xs) =
    let r = bound_some q cell n xs in
    let o = first_one (same_counter x.key q) ((x.cell == cell) && (x.claim == n)) in
    omega arith

-- a key and a counter that are bound under one number are one
pub one_number : (key : List ℕ) (q : CounterKey) (c d n : ℕ) (xs : List Claim) → claims_with n xs ≤ 1 → 1 ≤ key_bindings key c n xs → 1 ≤ bindings_of q d n xs → key ≡ key_of q
one_number key q c d n [] once a b = absurd (omega arith)
one_number key q c d n (x ∷ xs) once a b = by (x.claim == n) refl (λ o e f. one_number key q c d n xs o e f)
  where
    by : (t : Bool) → (x.claim == n) ≡ t → (claims_with n xs ≤ 1 → 1 ≤ key_bindings key c n xs → 1 ≤ bindings_of q d n xs → key ≡ key_of q) → key ≡ key_of q
    by true e rest =
        let t = ap one_if e in
        let f = keyed_with key c n xs in
        let g = bound_with q d n xs in
        let h = parts (is_key key (key_of x.key)) ((x.cell == c) && (x.claim == n)) (omega arith) in
        let k = parts (same_counter x.key q) ((x.cell == d) && (x.claim == n)) (omega arith) in
        (bytes_decides key (key_of x.key)).0 h.0 ∙ ap key_of (same_is x.key q k.0)
    by false e rest =
        let f = off (is_key key (key_of x.key)) (x.cell == c) (x.claim == n) e in
        let g = off (same_counter x.key q) (x.cell == d) (x.claim == n) e in
        rest (omega arith) (omega arith) (omega arith)

-- a counter is bound to one spot
pub one_spot : (q : CounterKey) (s t : Spot) (xs : List Claim) → claims_of q xs ≤ 1 → 1 ≤ bindings_of q s.cell s.claim xs → 1 ≤ bindings_of q t.cell t.claim xs → s ≡ t
one_spot q s t [] once a b = absurd (omega arith)
one_spot q s t (x ∷ xs) once a b = by (same_counter x.key q) refl (λ o e f. one_spot q s t xs o e f)
  where
    by : (u : Bool) → same_counter x.key q ≡ u
        → (claims_of q xs ≤ 1 → 1 ≤ bindings_of q s.cell s.claim xs → 1 ≤ bindings_of q t.cell t.claim xs → s ≡ t) → s ≡ t
    by true e rest =
        let o = ap one_if e in
        let f = bound_some q s.cell s.claim xs in
        let g = bound_some q t.cell t.claim xs in
        let h = (parts (same_counter x.key q) ((x.cell == s.cell) && (x.claim == s.claim)) (omega arith)).1 in
        let k = (parts (same_counter x.key q) ((x.cell == t.cell) && (x.claim == t.claim)) (omega arith)).1 in
        let hs = both (x.cell == s.cell) (x.claim == s.claim) h in
        let ks = both (x.cell == t.cell) (x.claim == t.claim) k in
        let cell : s.cell ≡ t.cell = sym (same_number x.cell s.cell hs.0) ∙ same_number x.cell t.cell ks.0 in
        let claim : s.claim ≡ t.claim = sym (same_number x.claim s.claim hs.1) ∙ same_number x.claim t.claim ks.1 in
        λ i. record { cell = cell i; claim = claim i }
    by false e rest =
        let f = first_off (same_counter x.key q) ((x.cell == s.cell) && (x.claim == s.claim)) e in
        let g = first_off (same_counter x.key q) ((x.cell == t.cell) && (x.claim == t.claim)) e in
        rest (omega arith) (omega arith) (omega arith)
