-- Facts about one view.
use Rattle.std.proofs.Common.{◌≡◌, ℕ, suc, ◌+◌, ◌≤◌, ◌==◌, ◌&&◌, List, [], ◌∷◌, length, Bool, true, false, cond, refl, sym, ap, ◌∙◌, arith}
use Rattle.std.specs.Prelude.{ltb}
use Rattle.std.proofs.lemmas.Bool.Decides.{nat_tests}
use native.Mathlib.Decide.{ℕ_discrete}
use Rattle.std.proofs.lemmas.Bool.{eq-eqb}
use Rattle.counter_cells.specs.declared.view.Charge.{Charge}
use Rattle.std.specs.List.{AllByRecursion}
use Rattle.rate_types.specs.Sums.{total, one_if}
use Rattle.counter_cells.specs.Views.{claim_on}
use Rattle.counter_cells.specs.Counting.{is_pair}
use Rattle.counter_cells.specs.Steps.{without, drop_pin}
use Rattle.rate_types.proofs.Sums.{cond_yes, cond_no, below_yes}

-- the looks on one cell are gone, and those on the others are left
pub without_here : (k : ℕ) (ps : List (ℕ × ℕ)) → total (λ p. one_if (p.0 == k)) (without k ps) ≡ 0
without_here k [] = refl
without_here k (p ∷ ps) = keep (p.0 == k) refl (without_here k ps)
  where
    keep : (b : Bool) → (p.0 == k) ≡ b → total (λ q. one_if (q.0 == k)) (without k ps) ≡ 0 → total (λ q. one_if (q.0 == k)) (cond b (without k ps) (p ∷ without k ps)) ≡ 0
    keep true is r = r
    keep false is r = rw is (omega arith)

pub without_else : (f : (ℕ × ℕ) → ℕ) (k : ℕ) (ps : List (ℕ × ℕ)) → ((p : ℕ × ℕ) → p.0 ≡ k → f p ≡ 0) → total f (without k ps) ≡ total f ps
without_else f k [] h = refl
without_else f k (p ∷ ps) h = keep (p.0 == k) refl (without_else f k ps h)
  where
    keep : (b : Bool) → (p.0 == k) ≡ b → total f (without k ps) ≡ total f ps → total f (cond b (without k ps) (p ∷ without k ps)) ≡ f p + total f ps
    keep true is r = let e : p.0 ≡ k = grind (arith, nat_tests) in let z = h p e in omega arith
    keep false is r = omega arith

pub without_le : (f : (ℕ × ℕ) → ℕ) (k : ℕ) (ps : List (ℕ × ℕ)) → total f (without k ps) ≤ total f ps
without_le f k [] = omega arith
without_le f k (p ∷ ps) = keep (p.0 == k) (without_le f k ps)
  where
    keep : (b : Bool) → total f (without k ps) ≤ total f ps → total f (cond b (without k ps) (p ∷ without k ps)) ≤ f p + total f ps
    keep true r = omega arith
    keep false r = omega arith

-- a pin on the cell is at the claim of the first one
pub claimed : (k : ℕ) (ps : List (ℕ × ℕ)) → 1 ≤ total (λ p. one_if (p.0 == k)) ps → 1 ≤ total (λ p. one_if (is_pair k (claim_on k ps) p)) ps
claimed k [] h = absurd (omega arith)
claimed k (p ∷ ps) h = keep (p.0 == k) refl h (claimed k ps)
  where
    keep : (b : Bool) → (p.0 == k) ≡ b → 1 ≤ one_if (p.0 == k) + total (λ q. one_if (q.0 == k)) ps
        → (1 ≤ total (λ q. one_if (q.0 == k)) ps → 1 ≤ total (λ q. one_if (is_pair k (claim_on k ps) q)) ps)
        → 1 ≤ one_if ((p.0 == k) && (p.1 == cond b p.1 (claim_on k ps))) + total (λ q. one_if (is_pair k (cond b p.1 (claim_on k ps)) q)) ps
    keep true is h' r = let e : (p.1 == p.1) ≡ true = eq-eqb p.1 p.1 refl in rw (is, e) (omega arith)
    keep false is h' r = let some = rw is at h' in let s = r (omega arith) in omega arith

pub small_le : (k : ℕ) (ps : List (ℕ × ℕ)) → total (λ p. cond (p.0 == k) (one_if (ltb p.1 4294967296)) 0) ps ≤ total (λ p. one_if (p.0 == k)) ps
small_le k [] = omega arith
small_le k (p ∷ ps) = let r = small_le k ps in keep (p.0 == k) (ltb p.1 4294967296) r
  where
    keep : (b c : Bool) → total (λ q. cond (q.0 == k) (one_if (ltb q.1 4294967296)) 0) ps ≤ total (λ q. one_if (q.0 == k)) ps
        → cond b (one_if c) 0 + total (λ q. cond (q.0 == k) (one_if (ltb q.1 4294967296)) 0) ps ≤ one_if b + total (λ q. one_if (q.0 == k)) ps
    keep true true r = omega arith
    keep true false r = omega arith
    keep false true r = omega arith
    keep false false r = omega arith

-- every charge of the claim lies below the count: none begins there, and all count
pub none_there : (c b : ℕ) (xs : List Charge) → AllByRecursion (λ (x : Charge). x.claim ≡ c → x.before + x.hits ≤ b) xs → AllByRecursion (λ (x : Charge). 1 ≤ x.hits) xs
    → total (λ (x : Charge). cond (x.claim == c) (one_if (x.before == b)) 0) xs ≡ 0
none_there c b [] cap pos = refl
none_there c b (x ∷ xs) cap pos =
    let r = none_there c b xs cap.1 pos.1 in
    let z : cond (x.claim == c) (one_if (x.before == b)) 0 ≡ 0 = pick (ℕ_discrete x.claim c) in
    omega arith
  where
    pick : Dec (x.claim ≡ c) → cond (x.claim == c) (one_if (x.before == b)) 0 ≡ 0
    pick (yes e) = let l = cap.0 e in let p = pos.0 in cond_yes x.claim c (one_if (x.before == b)) 0 e ∙ cond_no x.before b 1 0 (λ s. omega arith)
    pick (no n) = cond_no x.claim c (one_if (x.before == b)) 0 n

pub all_below : (c b : ℕ) (xs : List Charge) → AllByRecursion (λ (x : Charge). x.claim ≡ c → x.before + x.hits ≤ b) xs → AllByRecursion (λ (x : Charge). 1 ≤ x.hits) xs
    → total (λ (x : Charge). cond (x.claim == c) (cond (ltb x.before b) x.hits 0) 0) xs ≡ total (λ (x : Charge). cond (x.claim == c) x.hits 0) xs
all_below c b [] cap pos = refl
all_below c b (x ∷ xs) cap pos =
    let r = all_below c b xs cap.1 pos.1 in
    let z : cond (x.claim == c) (cond (ltb x.before b) x.hits 0) 0 ≡ cond (x.claim == c) x.hits 0 = pick (ℕ_discrete x.claim c) in
    omega arith
  where
    pick : Dec (x.claim ≡ c) → cond (x.claim == c) (cond (ltb x.before b) x.hits 0) 0 ≡ cond (x.claim == c) x.hits 0
    pick (yes e) = let l = cap.0 e in let p = pos.0 in ap (λ n. cond (x.claim == c) n 0) (below_yes x.before b x.hits 0 (omega arith))
    pick (no n) = cond_no x.claim c (cond (ltb x.before b) x.hits 0) 0 n ∙ sym (cond_no x.claim c x.hits 0 n)

-- one pin fewer
pub drop_length_one : (k : ℕ) (ps : List (ℕ × ℕ)) → 1 ≤ total (λ p. one_if (p.0 == k)) ps → length (drop_pin k ps) + 1 ≡ length ps
drop_length_one k [] h = absurd (omega arith)
drop_length_one k (p ∷ ps) h = keep (p.0 == k) refl h (drop_length_one k ps)
  where
    keep : (b : Bool) → (p.0 == k) ≡ b → 1 ≤ one_if (p.0 == k) + total (λ q. one_if (q.0 == k)) ps
        → (1 ≤ total (λ q. one_if (q.0 == k)) ps → length (drop_pin k ps) + 1 ≡ length ps) → length (cond b ps (p ∷ drop_pin k ps)) + 1 ≡ suc (length ps)
    keep true is h' r = omega arith
    keep false is h' r = let y = ap one_if is in let s = r (omega arith) in omega arith
