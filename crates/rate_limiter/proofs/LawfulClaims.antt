-- What a lawful list of claims says of its first claims and of their counters.
use Rattle.std.proofs.Common.{◌≡◌, ℕ, suc, ◌+◌, ◌≤◌, List, [], ◌∷◌, ◌++◌, length, take, Bool, true, false, refl, sym, ap, ◌∙◌, subst, arith, append_assoc}
use Rattle.std.proofs.lemmas.List.{append-nil, take-append-le}
use mathlib.Core.List.{IsPrefix}
use mathlib.Core.Option.{some}
use lib.ListN.{get_elem?}
use Rattle.rate_types.specs.Counters.{same_counter}
use Rattle.rate_types.specs.Sums.{one_if}
use Rattle.rate_types.proofs.Sums.{total_push, total_append}
use Rattle.rate_types.specs.declared.counter_key.CounterKey.{CounterKey}
use Rattle.window_keys.proofs.Counters.{same_is}
use Rattle.counter_directory.specs.declared.claim.Claim.{Claim}
use Rattle.counter_directory.specs.Claims.{claims_of, Fits, IsLawfulClaims}
use Rattle.rate_limiter.proofs.CounterLists.{Differ}
use Rattle.rate_limiter.proofs.OpenClaims.{keys_in, keys_count}
use Rattle.rate_limiter.proofs.Places.{below, prefix_at}

pub first_lawful : (cells most : ℕ) (xs ys : List Claim) → IsPrefix xs ys → IsLawfulClaims cells most ys → IsLawfulClaims cells most xs
first_lawful cells most xs ys p law i x e =
    let lt = below xs i x e in
    let le : i ≤ length xs = omega arith in
    let same : take i ys ≡ take i xs = ap (take i) (sym p.1) ∙ take-append-le i xs p.0 le in
    subst (λ (l : List Claim). Fits cells most l x) same (law i x (prefix_at xs ys i x p e))

abbrev AreApart : List Claim → Type 0
AreApart xs = (c : CounterKey) → claims_of c xs ≤ 1

apart_push : (xs : List Claim) (x : Claim) → AreApart xs → claims_of x.key xs ≡ 0 → AreApart (xs ++ x ∷ [])
apart_push xs x h none c =
    let a = total_push (λ (y : Claim). one_if (same_counter y.key c)) xs x in
    by (same_counter x.key c) refl a
  where
    by : (b : Bool) → same_counter x.key c ≡ b → claims_of c (xs ++ x ∷ []) ≡ claims_of c xs + one_if (same_counter x.key c) → claims_of c (xs ++ x ∷ []) ≤ 1
    by true e a = let z = ap (λ k. claims_of k xs) (same_is x.key c e) in let o = ap one_if e in omega arith
    by false e a = let z = h c in let o = ap one_if e in omega arith

all_apart : (cells most : ℕ) (before xs : List Claim) → ((i : ℕ) (x : Claim) → get_elem? xs i ≡ some x → Fits cells most (before ++ take i xs) x) → AreApart before
    → AreApart (before ++ xs)
all_apart cells most before [] h a = subst AreApart (sym (append-nil before)) a
all_apart cells most before (x ∷ xs) h a =
    let f = subst (λ (l : List Claim). Fits cells most l x) (append-nil before) (h 0 x refl) in
    subst AreApart (append_assoc before (x ∷ []) xs)
    (all_apart cells most (before ++ x ∷ []) xs
    (λ i y e. subst (λ (l : List Claim). Fits cells most l y) (sym (append_assoc before (x ∷ []) (take i xs))) (h (suc i) y e))
    (apart_push before x a f.counter))

-- no two claims are of one counter
pub keys_differ : (cells most : ℕ) (xs : List Claim) → IsLawfulClaims cells most xs → Differ (keys_in xs)
keys_differ cells most xs law c =
    let a = all_apart cells most [] xs law (λ k. omega arith) c in
    let n = keys_count c xs in
    omega arith

-- the claims of a counter among first claims are among all
pub first_claims : (c : CounterKey) (xs ys : List Claim) → IsPrefix xs ys → claims_of c xs ≤ claims_of c ys
first_claims c xs ys p =
    let a = total_append (λ (y : Claim). one_if (same_counter y.key c)) xs p.0 in
    let e = ap (claims_of c) p.1 in
    omega arith
