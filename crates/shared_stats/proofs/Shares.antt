-- The numbers of a rule, added one after the other.
use Rattle.std.proofs.Common.{◌≡◌, ℕ, ◌+◌, ◌/◌, ◌%◌, ◌≤◌, ◌<◌, ◌==◌, Bool, true, false, List, if◌then◌else◌, cond, refl, sym, ap, ◌∙◌, arith}
use Rattle.std.specs.Prelude.{ltb}
use native.Mathlib.Decide.{ℕ_discrete, dec_lt}
use Rattle.rate_types.proofs.Sums.{cond_yes, cond_no, below_yes, below_no}
use Rattle.rule_stats.specs.declared.numbers.RuleNumbers.{RuleNumbers}
use Rattle.rule_stats.specs.Statistics.{nothing}
use Rattle.rule_stats.specs.Sums.{plus}
use Rattle.shared_stats.specs.declared.rule.Amount.{Amount}
use Rattle.shared_stats.specs.Rule.{added_to}
use Rattle.shared_stats.specs.Words.{word_of, number_at, numbers_added}
use Rattle.shared_stats.specs.Adding.{IsBound, share}

cond_le : (b : Bool) (x y most : ℕ) → x ≤ most → y ≤ most → cond b x y ≤ most
cond_le true x y most h g = h
cond_le false x y most h g = g

-- the number at a place is bound as all are
pub bound_at : (most : ℕ) (n : RuleNumbers) (place : ℕ) → IsBound most n → number_at n place ≤ most
bound_at most n place b =
    cond_le (place == 0) _ _ most b.total (cond_le (place == 1) _ _ most b.within (cond_le (place == 2) _ _ most b.near
    (cond_le (place == 3) _ _ most b.over (cond_le (place == 4) _ _ most b.seen b.shadow))))

-- and so is a share
pub share_few : (most rule : ℕ) (n : RuleNumbers) (place r p : ℕ) → IsBound most n → share rule n place r p ≤ most
share_few most rule n place r p b =
    cond_le (rule == r) _ _ most (cond_le (ltb p place) _ _ most (bound_at most n p b) (omega arith)) (omega arith)

-- before the first place there is none
pub share_none : (rule : ℕ) (n : RuleNumbers) (r p : ℕ) → share rule n 0 r p ≡ 0
share_none rule n r p = by (rule == r)
  where
    by : (b : Bool) → cond b (cond (ltb p 0) (number_at n p) 0) 0 ≡ 0
    by true = below_no p 0 (number_at n p) 0 (omega arith)
    by false = refl

-- one number more
pub share_next : (rule : ℕ) (n : RuleNumbers) (place r p : ℕ) → place < 6 → p < 6
    → share rule n place r p + (if word_of rule place == word_of r p then number_at n place else 0) ≡ share rule n (place + 1) r p
share_next rule n place r p a b = by (ℕ_discrete rule r)
  where
    before : ℕ → ℕ
    before k = cond (ltb p k) (number_at n p) 0

    same : rule ≡ r → Dec (p ≡ place) → before place + cond (word_of rule place == word_of r p) (number_at n place) 0 ≡ before (place + 1)
    same e (yes here) =
        let x = below_no p place (number_at n p) 0 (omega arith) in
        let y = below_yes p (place + 1) (number_at n p) 0 (omega arith) in
        let z = cond_yes (word_of rule place) (word_of r p) (number_at n place) 0 (omega arith) in
        let w : number_at n p ≡ number_at n place = ap (number_at n) here in
        omega arith
    same e (no apart) =
        let z = cond_no (word_of rule place) (word_of r p) (number_at n place) 0 (λ q. apart (omega arith)) in
        split z (dec_lt p place)
      where
        split : cond (word_of rule place == word_of r p) (number_at n place) 0 ≡ 0 → Dec (p < place)
            → before place + cond (word_of rule place == word_of r p) (number_at n place) 0 ≡ before (place + 1)
        split z (yes d) =
            let x = below_yes p place (number_at n p) 0 d in
            let y = below_yes p (place + 1) (number_at n p) 0 (omega arith) in
            omega arith
        split z (no d) =
            let x = below_no p place (number_at n p) 0 (omega arith) in
            let y = below_no p (place + 1) (number_at n p) 0 (omega arith) in
            omega arith

    by : Dec (rule ≡ r) → share rule n place r p + cond (word_of rule place == word_of r p) (number_at n place) 0 ≡ share rule n (place + 1) r p
    by (yes e) =
        let x = cond_yes rule r (before place) 0 e in
        let y = cond_yes rule r (before (place + 1)) 0 e in
        let z = same e (ℕ_discrete p place) in
        omega arith
    by (no ne) =
        let x = cond_no rule r (before place) 0 ne in
        let y = cond_no rule r (before (place + 1)) 0 ne in
        let z = cond_no (word_of rule place) (word_of r p) (number_at n place) 0 (λ q. ne (omega arith)) in
        omega arith

-- all numbers were added
pub share_all : (rule : ℕ) (n : RuleNumbers) (r p : ℕ) → p < 6 → share rule n 6 r p ≡ number_at (if rule == r then n else nothing) p
share_all rule n r p within = by (rule == r)
  where
    by : (b : Bool) → cond b (cond (ltb p 6) (number_at n p) 0) 0 ≡ number_at (if b then n else nothing) p
    by true = below_yes p 6 (number_at n p) 0 within
    by false = sym (none p)
      where
        none : (p : ℕ) → number_at nothing p ≡ 0
        none p = let a = bound_at 0 nothing p (record {
          total = omega arith;
          within = omega arith;
          near = omega arith;
          over = omega arith;
          seen = omega arith;
          shadow = omega arith;
        }) in omega arith

-- so the numbers of each rule grew
pub grew : (rule : ℕ) (n : RuleNumbers) (old new : List Amount)
    → ((r p : ℕ) → p < 6 → added_to (word_of r p) new ≡ added_to (word_of r p) old + share rule n 6 r p)
    → (r : ℕ) → numbers_added new r ≡ plus (numbers_added old r) (if rule == r then n else nothing)
grew rule n old new shares r =
    rw (one 0 (omega arith), one 1 (omega arith), one 2 (omega arith), one 3 (omega arith), one 4 (omega arith), one 5 (omega arith)) refl
  where
    one : (p : ℕ) → p < 6 → added_to (word_of r p) new ≡ added_to (word_of r p) old + number_at (if rule == r then n else nothing) p
    one p within = shares r p within ∙ ap (λ (k : ℕ). added_to (word_of r p) old + k) (share_all rule n r p within)

-- and no word by more than the greatest number
pub few_more : (most rule : ℕ) (n : RuleNumbers) (old new : List Amount) → IsBound most n
    → ((r p : ℕ) → p < 6 → added_to (word_of r p) new ≡ added_to (word_of r p) old + share rule n 6 r p)
    → (word : ℕ) → added_to word new ≤ added_to word old + most
few_more most rule n old new b shares word =
    let is : word_of (word / 6) (word % 6) ≡ word = omega arith in
    let a = shares (word / 6) (word % 6) (omega arith) in
    let c = share_few most rule n 6 (word / 6) (word % 6) b in
    let x : added_to (word_of (word / 6) (word % 6)) new ≡ added_to word new = ap (λ (w : ℕ). added_to w new) is in
    let y : added_to (word_of (word / 6) (word % 6)) old ≡ added_to word old = ap (λ (w : ℕ). added_to w old) is in
    omega arith
