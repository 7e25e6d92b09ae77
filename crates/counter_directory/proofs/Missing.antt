-- The counters of a call that have no claim yet.
use Rattle.std.proofs.Common.{◌≡◌, ℕ, zero, suc, ◌+◌, ◌≤◌, ◌<◌, ◌==◌, ◌&&◌, List, [], ◌∷◌, ◌++◌, length, take, get_or, Bool, true, false, cond, refl, sym, ap, ◌∙◌, subst, arith}
use Rattle.std.proofs.Common.{⊎_elim, append_assoc, eq-eqb}
use Rattle.std.specs.Prelude.{ltb, Option, Some, None, is_some, IfSome, IfNone}
use Rattle.std.proofs.lemmas.Bool.{ne_eqb}
use Rattle.std.proofs.lemmas.Bool.Decides.{nat_tests}
use Rattle.std.proofs.lemmas.List.{take_more, append-nil}
use mathlib.Core.Option.{some, some-ne-none, some-injective}
use mathlib.Core.List.{IsPrefix}
use lib.ListN.{get_elem?}
use Rattle.rate_types.specs.declared.counter_key.CounterKey.{CounterKey}
use Rattle.rate_types.specs.Counters.{same_counter}
use Rattle.window_keys.specs.Window.{window_start}
use Rattle.rate_types.specs.Sums.{one_if}
use Rattle.counter_directory.specs.declared.claim.Claim.{Claim}
use Rattle.counter_directory.specs.Claims.{claims_of, bindings_of}
use Rattle.counter_cells.specs.declared.answers.Spot.{Spot}
use Rattle.counter_directory.specs.Keys.{key_count, IsMissing, AddsEach}
use Rattle.counter_directory.specs.Acquiring.{AreOf, AddsMissing}
use Rattle.counter_directory.specs.Acquired.{Grows}
use Rattle.window_keys.proofs.Counters.{is_same, not_same}
use Rattle.counter_directory.proofs.KeyLists.{key_discrete}
use Rattle.counter_directory.proofs.Lists.{at_snoc, at_read}
use Rattle.rate_types.proofs.Sums.{total_push, total_append}

cond_is : (a b : CounterKey) (x y : ℕ) → a ≡ b → cond (same_counter a b) x y ≡ x
cond_is a b x y e = ap (λ t. cond t x y) (is_same a b e)

cond_not : (a b : CounterKey) (x y : ℕ) → (a ≡ b → ⊥) → cond (same_counter a b) x y ≡ y
cond_not a b x y ne = ap (λ t. cond t x y) (not_same a b ne)

pub key_count_more : (q : CounterKey) (keys : List CounterKey) (i : ℕ) (d : CounterKey) → i < length keys
    → key_count q (take (i + 1) keys) ≡ key_count q (take i keys) + one_if (same_counter (get_or keys i d) q)
key_count_more q keys i d lt = ap (key_count q) (take_more keys i d lt) ∙ total_push (λ (k : CounterKey). one_if (same_counter k q)) (take i keys) (get_or keys i d)

pub key_count_at : (q : CounterKey) (keys : List CounterKey) (i : ℕ) (d : CounterKey) → i < length keys → same_counter (get_or keys i d) q ≡ true → 1 ≤ key_count q keys
key_count_at q [] i d lt e = absurd (omega arith)
key_count_at q (x ∷ xs) zero d lt e = let o : one_if (same_counter x q) ≡ 1 = ap one_if e in omega arith
key_count_at q (x ∷ xs) (suc i) d lt e = let r = key_count_at q xs i d (omega arith) e in omega arith

pub adds_missing_not : (claims : List Claim) (k : CounterKey) (missing : List CounterKey) → (claims_of k claims == 0) ≡ false → AddsMissing claims k missing missing
adds_missing_not claims k missing contains q = pick (key_discrete k q)
  where
    pick : Dec (k ≡ q) → key_count q missing ≡ key_count q missing + cond (same_counter k q) (one_if ((claims_of q claims == 0) && (key_count q missing == 0))) 0
    pick (yes e) = let h : (claims_of q claims == 0) ≡ false =
        ap (λ j. claims_of j claims == 0) (sym e) ∙ contains in let z : cond (same_counter k q)
        (one_if ((claims_of q claims == 0) && (key_count q missing == 0))) 0 ≡ 0 = cond_is k q _ 0 e ∙ ap (λ b. one_if (b && (key_count q missing == 0))) h in omega arith
    pick (no n) = let z = cond_not k q (one_if ((claims_of q claims == 0) && (key_count q missing == 0))) 0 n in omega arith

pub adds_missing_there : (claims : List Claim) (k : CounterKey) (missing : List CounterKey) → ltb 0 (key_count k missing) ≡ true → AddsMissing claims k missing missing
adds_missing_there claims k missing contains q = pick (key_discrete k q)
  where
    pick : Dec (k ≡ q) → key_count q missing ≡ key_count q missing + cond (same_counter k q) (one_if ((claims_of q claims == 0) && (key_count q missing == 0))) 0
    pick (yes e) =
        let h : ltb 0 (key_count q missing) ≡ true = ap (λ j. ltb 0 (key_count j missing)) (sym e) ∙ contains in
        let g : (key_count q missing == 0) ≡ false = grind (arith, nat_tests) in
        let z : cond (same_counter k q) (one_if ((claims_of q claims == 0) && (key_count q missing == 0))) 0 ≡ 0 =
        cond_is k q _ 0 e ∙ ap (λ b. one_if ((claims_of q claims == 0) && b)) g ∙ none (claims_of q claims == 0) in omega arith
      where
        none : (b : Bool) → one_if (b && false) ≡ 0
        none true = refl
        none false = refl
    pick (no n) = let z = cond_not k q (one_if ((claims_of q claims == 0) && (key_count q missing == 0))) 0 n in omega arith

pub adds_missing_new : (claims : List Claim) (k : CounterKey) (missing new : List CounterKey) → (claims_of k claims == 0) ≡ true → ltb 0 (key_count k missing) ≡ false
    → new ≡ missing ++ k ∷ [] → AddsMissing claims k missing new
adds_missing_new claims k missing new none gone e q =
    let p : key_count q new ≡ key_count q missing + one_if (same_counter k q) = ap (key_count q) e ∙ total_push (λ (v : CounterKey). one_if (same_counter v q)) missing k in
    pick p (key_discrete k q)
  where
    pick : key_count q new ≡ key_count q missing + one_if (same_counter k q) → Dec (k ≡ q)
        → key_count q new ≡ key_count q missing + cond (same_counter k q) (one_if ((claims_of q claims == 0) && (key_count q missing == 0))) 0
    pick p (yes s) =
        let h : (claims_of q claims == 0) ≡ true = ap (λ j. claims_of j claims == 0) (sym s) ∙ none in
        let g : ltb 0 (key_count q missing) ≡ false = ap (λ j. ltb 0 (key_count j missing)) (sym s) ∙ gone in
        let z : (key_count q missing == 0) ≡ true = grind (arith, nat_tests) in
        let a : cond (same_counter k q) (one_if ((claims_of q claims == 0) && (key_count q missing == 0))) 0 ≡ 1 =
        cond_is k q _ 0 s ∙ ap (λ b. one_if (b && (key_count q missing == 0))) h ∙ ap one_if z in
        let o : one_if (same_counter k q) ≡ 1 = ap one_if (is_same k q s) in
        omega arith
    pick p (no n) = let a = cond_not k q (one_if ((claims_of q claims == 0) && (key_count q missing == 0))) 0 n in
        let o : one_if (same_counter k q) ≡ 0 = ap one_if (not_same k q n) in omega arith

-- the next counter keeps the list of the missing
pub missing_more : (claims : List Claim) (keys missing new : List CounterKey) (i : ℕ) (d : CounterKey) → i < length keys → AddsMissing claims (get_or keys i d) missing new
    → IsMissing claims (take i keys) missing → IsMissing claims (take (i + 1) keys) new
missing_more claims keys missing new i d lt adds is q =
    let n = adds q in
    let m = is q in
    let t = key_count_more q keys i d lt in
    pick (get_or keys i d) n t m (key_discrete (get_or keys i d) q)
  where
    both : (a : Bool) (x y : ℕ) → y ≡ one_if (a && ltb 0 x) → y + one_if (a && (y == 0)) ≡ one_if (a && ltb 0 (x + 1))
    both true x y e = grind (arith, nat_tests)
    both false x y e = omega arith

    pick : (k : CounterKey) → key_count q new ≡ key_count q missing + cond (same_counter k q) (one_if ((claims_of q claims == 0) && (key_count q missing == 0))) 0
        → key_count q (take (i + 1) keys) ≡ key_count q (take i keys) + one_if (same_counter k q)
        → key_count q missing ≡ one_if ((claims_of q claims == 0) && ltb 0 (key_count q (take i keys))) → Dec (k ≡ q)
        → key_count q new ≡ one_if ((claims_of q claims == 0) && ltb 0 (key_count q (take (i + 1) keys)))
    pick k n t m (yes e) =
        let o : one_if (same_counter k q) ≡ 1 = ap one_if (is_same k q e) in
        let c = cond_is k q (one_if ((claims_of q claims == 0) && (key_count q missing == 0))) 0 e in
        let b = both (claims_of q claims == 0) (key_count q (take i keys)) (key_count q missing) m in
        let u : key_count q (take (i + 1) keys) ≡ key_count q (take i keys) + 1 = omega arith in
        let v : key_count q new ≡ key_count q missing + one_if ((claims_of q claims == 0) && (key_count q missing == 0)) = omega arith in
        v ∙ b ∙ ap (λ z. one_if ((claims_of q claims == 0) && ltb 0 z)) (sym u)
    pick k n t m (no ne) =
        let o : one_if (same_counter k q) ≡ 0 = ap one_if (not_same k q ne) in
        let c = cond_not k q (one_if ((claims_of q claims == 0) && (key_count q missing == 0))) 0 ne in
        let u : key_count q (take (i + 1) keys) ≡ key_count q (take i keys) = omega arith in
        let v : key_count q new ≡ key_count q missing = omega arith in
        v ∙ m ∙ ap (λ z. one_if ((claims_of q claims == 0) && ltb 0 z)) (sym u)

-- each of the missing counters is once there and has no claim
pub missing_new : (claims : List Claim) (keys missing : List CounterKey) → IsMissing claims keys missing → (q : CounterKey) → (key_count q missing ≤ 1)
    × (1 ≤ key_count q missing → claims_of q claims ≡ 0)
missing_new claims keys missing is q =
    let m = is q in (
      few (key_count q missing) (claims_of q claims == 0) (ltb 0 (key_count q keys)) m,
      λ h. none (claims_of q claims) (ltb 0 (key_count q keys)) (omega (arith, m)),
    )
  where
    few : (n : ℕ) (a b : Bool) → n ≡ one_if (a && b) → n ≤ 1
    few n true true e = omega arith
    few n true false e = omega arith
    few n false b e = omega arith

    none : (n : ℕ) (b : Bool) → 1 ≤ one_if ((n == 0) && b) → n ≡ 0
    none n b h = pick (n == 0) refl h
      where
        pick : (t : Bool) → (n == 0) ≡ t → 1 ≤ one_if (t && b) → n ≡ 0
        pick true e h = grind (arith, nat_tests)
        pick false e h = absurd (omega arith)

pub of_more : (m : ℕ) (k : CounterKey) (keys new : List CounterKey) → new ≡ keys ++ k ∷ [] → AreOf m (k ∷ []) → AreOf m keys → AreOf m new
of_more m k keys new e is all i v at =
    ⊎_elim (λ h. all i v h) (λ h. subst (λ (u : CounterKey). u.start ≡ window_start u.name.unit m) h (is 0 k refl))
    (at_snoc keys k v i (subst (λ l. get_elem? l i ≡ some v) e at))

pub of_one : (m : ℕ) (keys : List CounterKey) (i : ℕ) (d : CounterKey) → i < length keys → AreOf m keys → AreOf m (get_or keys i d ∷ [])
of_one m keys i d lt all zero v at = subst (λ (u : CounterKey). u.start ≡ window_start u.name.unit m) (one at) (all i (get_or keys i d) (at_read keys i d lt))
  where
    one : get_elem? (get_or keys i d ∷ []) zero ≡ some v → get_or keys i d ≡ v
    one e = some-injective _ _ e
of_one m keys i d lt all (suc j) v at = absurd (some-ne-none v (sym at))

-- the counter between those before and those behind
pub of_mid : (m : ℕ) (before rest keys : List CounterKey) (k : CounterKey) → before ++ k ∷ rest ≡ keys → AreOf m keys → k.start ≡ window_start k.name.unit m
of_mid m before rest keys k e all = all (length before) k (subst (λ l. get_elem? l (length before) ≡ some k) e (mid before))
  where
    mid : (l : List CounterKey) → get_elem? (l ++ k ∷ rest) (length l) ≡ some k
    mid [] = refl
    mid (x ∷ xs) = mid xs

key_count_mid : (q : CounterKey) (before rest keys : List CounterKey) (k : CounterKey) → before ++ k ∷ rest ≡ keys
    → key_count q keys ≡ key_count q before + (one_if (same_counter k q) + key_count q rest)
key_count_mid q before rest keys k e = ap (key_count q) (sym e) ∙ total_append (λ (v : CounterKey). one_if (same_counter v q)) before (k ∷ rest)

pub fresh_counter : (found claims : List Claim) (before rest keys : List CounterKey) (k : CounterKey) → before ++ k ∷ rest ≡ keys
    → ((q : CounterKey) → (key_count q keys ≤ 1) × (1 ≤ key_count q keys → claims_of q found ≡ 0)) → AddsEach found before claims → claims_of k claims ≡ 0
fresh_counter found claims before rest keys k e new adds =
    let n = new k in
    let a = adds k in
    let m = key_count_mid k before rest keys k e in
    let o : one_if (same_counter k k) ≡ 1 = ap one_if (is_same k k refl) in
    let z = n.1 (omega arith) in
    omega arith

pub adds_more : (found claims after : List Claim) (before : List CounterKey) (k : CounterKey) (x : Claim) → after ≡ claims ++ x ∷ [] → x.key ≡ k → AddsEach found before claims
    → AddsEach found (before ++ k ∷ []) after
adds_more found claims after before k x e is adds q =
    let a = adds q in
    let m : key_count q (before ++ k ∷ []) ≡ key_count q before + one_if (same_counter k q) = total_push (λ (v : CounterKey). one_if (same_counter v q)) before k in
    let p : claims_of q after ≡ claims_of q claims + one_if (same_counter x.key q) = ap (claims_of q) e ∙ total_push (λ (y : Claim). one_if (same_counter y.key q)) claims x in
    let o : one_if (same_counter x.key q) ≡ one_if (same_counter k q) = ap (λ j. one_if (same_counter j q)) is in
    omega arith

-- the claims added so far, and one more
pub grows_more : (m : ℕ) (found claims after : List Claim) (x : Claim) → after ≡ claims ++ x ∷ [] → x.moment ≡ m → Grows m found claims → Grows m found after
grows_more m found claims after x e now p = (
  p.0 ++ x ∷ [],
  e ∙ ap (λ l. l ++ x ∷ []) p.1 ∙ append_assoc found p.0 (x ∷ []),
  λ i y at. ⊎_elim (λ h. p.2 i y h) (λ h. subst (λ (z : Claim). z.moment ≡ m) h now) (at_snoc p.0 x y i at),
)

pub grows_none : (m : ℕ) (claims : List Claim) → Grows m claims claims
grows_none m claims = ([], nil, λ i y at. absurd (some-ne-none y (sym at)))
  where
    nil : claims ≡ claims ++ []
    nil = let e : claims ++ [] ≡ claims = simp append-nil in sym e

pub grows_prefix : (m : ℕ) (found after : List Claim) → Grows m found after → IsPrefix found after
grows_prefix m found after p = (p.0, sym p.1)

pub bindings_few : (q : CounterKey) (k c : ℕ) (claims : List Claim) → bindings_of q k c claims ≤ claims_of q claims
bindings_few q k c [] = omega arith
bindings_few q k c (x ∷ xs) = let r = bindings_few q k c xs in let o = each (same_counter x.key q) ((x.cell == k) && (x.claim == c)) in omega arith
  where
    each : (a b : Bool) → one_if (a && b) ≤ one_if a
    each true true = omega arith
    each true false = omega arith
    each false b = omega arith

-- a counter that is found has a claim, and one that isn't has none
pub claimed_some : (q : CounterKey) (claims : List Claim) (o : Option Spot) → is_some o ≡ true → IfSome o (λ s. 1 ≤ bindings_of q s.cell s.claim claims)
    → (claims_of q claims == 0) ≡ false
claimed_some q claims (Some s) e bound = let f = bindings_few q s.cell s.claim claims in ne_eqb (claims_of q claims) 0 (λ z. omega arith)
claimed_some q claims None e bound = cc

pub claimed_none : (q : CounterKey) (claims : List Claim) (o : Option Spot) → is_some o ≡ false → IfNone o (claims_of q claims ≡ 0) → (claims_of q claims == 0) ≡ true
claimed_none q claims (Some s) e none = cc
claimed_none q claims None e none = eq-eqb (claims_of q claims) 0 none
