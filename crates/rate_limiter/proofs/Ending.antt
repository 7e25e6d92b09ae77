-- What a charge leaves behind it is a lawful sight in its ledger.
use Rattle.std.proofs.Common.{◌≡◌, ℕ, zero, suc, ◌+◌, ◌≤◌, ◌<◌, ◌==◌, ◌&&◌, nat_lt, List, [], ◌∷◌, cond, Bool, true, false, refl, sym, ap, ◌∙◌, subst, arith, eq-eqb}
use Rattle.std.specs.Prelude.{sum_by}
use Rattle.std.specs.List.{AllByRecursion}
use Rattle.std.proofs.lemmas.List.Sums.{sum_by-cons}
use Rattle.std.proofs.lemmas.Bool.Decides.{nat_tests}
use mathlib.Core.Option.{some, some-injective, some-ne-none}
use lib.ListN.{get_elem?}
use Rattle.rate_types.specs.Ledger.{Charge, charged_below, charges_at, IsLawfulLedger}
use Rattle.rate_limiter.proofs.Lists.{each_at}

-- the hits of the charges on the counter with exactly this before them
abbrev hits_at : ℕ → ℕ → List (Charge ℕ) → ℕ
hits_at n b xs = sum_by (λ (x : Charge ℕ). cond ((x.counter == n) && (x.before == b)) x.hits 0) xs

module _ (n b : ℕ) where
  -- one charge, by its counter and what is before it
  below_one : (c d h bound : ℕ) → b < bound
      → cond ((c == n) && nat_lt d b) h 0 + cond ((c == n) && (d == b)) h 0 ≤ cond ((c == n) && nat_lt d bound) h 0
  below_one c d h bound lt = by (c == n) (nat_lt d b) refl (d == b) refl (nat_lt d bound) refl
    where
      by : (s x : Bool) → nat_lt d b ≡ x → (y : Bool) → (d == b) ≡ y → (z : Bool) → nat_lt d bound ≡ z
          → cond (s && x) h 0 + cond (s && y) h 0 ≤ cond (s && z) h 0
      by false x e y f z g = omega arith
      by true true e true f z g = absurd (let p : d < b = grind (arith, nat_tests) in let q : d ≡ b = grind (arith, nat_tests) in omega arith)
      by true true e false f true g = omega arith
      by true true e false f false g = absurd (let p : d < b = grind (arith, nat_tests) in let q : bound ≤ d = grind (arith, nat_tests) in omega arith)
      by true false e true f true g = omega arith
      by true false e true f false g = absurd (let p : d ≡ b = grind (arith, nat_tests) in let q : bound ≤ d = grind (arith, nat_tests) in omega arith)
      by true false e false f z g = omega arith

  below_more : (bound : ℕ) → b < bound → (xs : List (Charge ℕ)) → charged_below ◌==◌ n b xs + hits_at n b xs ≤ charged_below ◌==◌ n bound xs
  below_more bound lt [] = omega arith
  below_more bound lt (x ∷ xs) =
      let r = below_more bound lt xs in
      let one = below_one x.counter x.before x.hits bound lt in
      let s = sum_by-cons (λ (x : Charge ℕ). cond ((x.counter == n) && nat_lt x.before b) x.hits 0) x xs in
      let t = sum_by-cons (λ (x : Charge ℕ). cond ((x.counter == n) && (x.before == b)) x.hits 0) x xs in
      let u = sum_by-cons (λ (x : Charge ℕ). cond ((x.counter == n) && nat_lt x.before bound) x.hits 0) x xs in
      omega arith

  -- none on the counter lies between
  abbrev IsNotBetween : ℕ → Charge ℕ → Type 0
  IsNotBetween bound x = x.counter ≡ n → x.before < bound → x.before ≤ b

  most_one : (c d h bound : ℕ) → (c ≡ n → d < bound → d ≤ b)
      → cond ((c == n) && nat_lt d bound) h 0 ≤ cond ((c == n) && nat_lt d b) h 0 + cond ((c == n) && (d == b)) h 0
  most_one c d h bound none = by (c == n) refl (nat_lt d b) refl (d == b) refl (nat_lt d bound) refl
    where
      by : (s : Bool) → (c == n) ≡ s → (x : Bool) → nat_lt d b ≡ x → (y : Bool) → (d == b) ≡ y → (z : Bool) → nat_lt d bound ≡ z
          → cond (s && z) h 0 ≤ cond (s && x) h 0 + cond (s && y) h 0
      by false s x e y f z g = omega arith
      by true s x e y f false g = omega arith
      by true s true e y f true g = omega arith
      by true s false e true f true g = omega arith
      by true s false e false f true g =
          let same : c ≡ n = grind (arith, nat_tests) in
          let less : d < bound = grind (arith, nat_tests) in
          let at : d ≤ b = none same less in
          let p : b ≤ d = grind (arith, nat_tests) in
          let q : d ≡ b → ⊥ = λ is. Rattle.std.proofs.Common.true≢false (sym (eq-eqb d b is) ∙ f) in
          absurd (q (omega arith))

  below_most : (bound : ℕ) (xs : List (Charge ℕ)) → AllByRecursion (IsNotBetween bound) xs
      → charged_below ◌==◌ n bound xs ≤ charged_below ◌==◌ n b xs + hits_at n b xs
  below_most bound [] h = omega arith
  below_most bound (x ∷ xs) h =
      let r = below_most bound xs h.1 in
      let one = most_one x.counter x.before x.hits bound h.0 in
      let s = sum_by-cons (λ (x : Charge ℕ). cond ((x.counter == n) && nat_lt x.before b) x.hits 0) x xs in
      let t = sum_by-cons (λ (x : Charge ℕ). cond ((x.counter == n) && (x.before == b)) x.hits 0) x xs in
      let u = sum_by-cons (λ (x : Charge ℕ). cond ((x.counter == n) && nat_lt x.before bound) x.hits 0) x xs in
      omega arith

  no_hits : (xs : List (Charge ℕ)) → charges_at ◌==◌ n b xs ≡ 0 → hits_at n b xs ≡ 0
  no_hits [] e = refl
  no_hits (x ∷ xs) e = by (no_hits xs) ((x.counter == n) && (x.before == b)) refl
    where
      by : (charges_at ◌==◌ n b xs ≡ 0 → hits_at n b xs ≡ 0) → (t : Bool) → ((x.counter == n) && (x.before == b)) ≡ t → hits_at n b (x ∷ xs) ≡ 0
      by rest true is =
          let o : cond {A = ℕ} ((x.counter == n) && (x.before == b)) 1 0 ≡ 1 = ap (λ t. cond {A = ℕ} t 1 0) is in
          let s = sum_by-cons (λ (x : Charge ℕ). cond ((x.counter == n) && (x.before == b)) 1 0) x xs in
          absurd (omega arith)
      by rest false is =
          let o : cond {A = ℕ} ((x.counter == n) && (x.before == b)) 1 0 ≡ 0 = ap (λ t. cond {A = ℕ} t 1 0) is in
          let p : cond {A = ℕ} ((x.counter == n) && (x.before == b)) x.hits 0 ≡ 0 = ap (λ t. cond {A = ℕ} t x.hits 0) is in
          let s = sum_by-cons (λ (x : Charge ℕ). cond ((x.counter == n) && (x.before == b)) 1 0) x xs in
          let t = sum_by-cons (λ (x : Charge ℕ). cond ((x.counter == n) && (x.before == b)) x.hits 0) x xs in
          let r = rest (omega arith) in
          omega arith

  -- where there is at most one such charge, its hits are all
  one_charge : (xs : List (Charge ℕ)) (i : ℕ) (x : Charge ℕ) → get_elem? xs i ≡ some x → x.counter ≡ n → x.before ≡ b → charges_at ◌==◌ n b xs ≤ 1
      → hits_at n b xs ≡ x.hits
  one_charge [] i x e c d few = absurd (some-ne-none x (sym e))
  one_charge (y ∷ xs) zero x e c d few =
      let is = some-injective y x e in
      let test : ((y.counter == n) && (y.before == b)) ≡ true
      = λ i. eq-eqb y.counter n (ap (λ (z : Charge ℕ). z.counter) is ∙ c) i && eq-eqb y.before b (ap (λ (z : Charge ℕ). z.before) is ∙ d) i in
      let o : cond {A = ℕ} ((y.counter == n) && (y.before == b)) 1 0 ≡ 1 = ap (λ t. cond {A = ℕ} t 1 0) test in
      let p : cond {A = ℕ} ((y.counter == n) && (y.before == b)) y.hits 0 ≡ y.hits = ap (λ t. cond {A = ℕ} t y.hits 0) test in
      let s = sum_by-cons (λ (x : Charge ℕ). cond ((x.counter == n) && (x.before == b)) 1 0) y xs in
      let t = sum_by-cons (λ (x : Charge ℕ). cond ((x.counter == n) && (x.before == b)) x.hits 0) y xs in
      let r = no_hits xs (omega arith) in
      let hits : y.hits ≡ x.hits = ap (λ (z : Charge ℕ). z.hits) is in
      omega arith
  one_charge (y ∷ xs) (suc i) x e c d few =
      let s = sum_by-cons (λ (x : Charge ℕ). cond ((x.counter == n) && (x.before == b)) 1 0) y xs in
      let t = sum_by-cons (λ (x : Charge ℕ). cond ((x.counter == n) && (x.before == b)) x.hits 0) y xs in
      by (one_charge xs i x e c d) ((y.counter == n) && (y.before == b)) refl s t
    where
      there : (zs : List (Charge ℕ)) (j : ℕ) → get_elem? zs j ≡ some x → 1 ≤ charges_at ◌==◌ n b zs
      there [] j e = absurd (some-ne-none x (sym e))
      there (z ∷ zs) zero e =
          let is = some-injective z x e in
          let test : ((z.counter == n) && (z.before == b)) ≡ true
          = λ i. eq-eqb z.counter n (ap (λ (z : Charge ℕ). z.counter) is ∙ c) i && eq-eqb z.before b (ap (λ (z : Charge ℕ). z.before) is ∙ d) i in
          let o : cond {A = ℕ} ((z.counter == n) && (z.before == b)) 1 0 ≡ 1 = ap (λ t. cond {A = ℕ} t 1 0) test in
          let s = sum_by-cons (λ (x : Charge ℕ). cond ((x.counter == n) && (x.before == b)) 1 0) z zs in
          omega arith
      there (z ∷ zs) (suc j) e =
          let s = sum_by-cons (λ (x : Charge ℕ). cond ((x.counter == n) && (x.before == b)) 1 0) z zs in
          let r = there zs j e in
          omega arith

      by : (charges_at ◌==◌ n b xs ≤ 1 → hits_at n b xs ≡ x.hits) → (t : Bool) → ((y.counter == n) && (y.before == b)) ≡ t
          → charges_at ◌==◌ n b (y ∷ xs) ≡ cond ((y.counter == n) && (y.before == b)) 1 0 + charges_at ◌==◌ n b xs
          → hits_at n b (y ∷ xs) ≡ cond ((y.counter == n) && (y.before == b)) y.hits 0 + hits_at n b xs → hits_at n b (y ∷ xs) ≡ x.hits
      by rest true is s u =
          let o : cond {A = ℕ} ((y.counter == n) && (y.before == b)) 1 0 ≡ 1 = ap (λ t. cond {A = ℕ} t 1 0) is in
          let r = there xs i e in
          absurd (omega arith)
      by rest false is s u =
          let o : cond {A = ℕ} ((y.counter == n) && (y.before == b)) 1 0 ≡ 0 = ap (λ t. cond {A = ℕ} t 1 0) is in
          let p : cond {A = ℕ} ((y.counter == n) && (y.before == b)) y.hits 0 ≡ 0 = ap (λ t. cond {A = ℕ} t y.hits 0) is in
          let r = rest (omega arith) in
          omega arith

-- what a charge of a lawful ledger left is the sum of those below it
pub left_is_below : (xs : List (Charge ℕ)) → IsLawfulLedger ◌==◌ xs → (i : ℕ) (x : Charge ℕ) → get_elem? xs i ≡ some x
    → x.before + x.hits ≡ charged_below ◌==◌ x.counter (x.before + x.hits) xs
left_is_below xs law i x at =
    let n = x.counter in
    let b = x.before in
    let here = each_at (λ (y : Charge ℕ). y.before ≡ charged_below ◌==◌ y.counter y.before xs) xs i x at law.sums in
    let some_hits = each_at (λ (y : Charge ℕ). 1 ≤ y.hits) xs i x at law.hits in
    let one = one_charge n b xs i x at refl refl (law.apart n b) in
    let more = below_more n b (b + x.hits) (omega arith) xs in
    let most = below_most n b (b + x.hits) xs (none_between xs law.sums one here) in
    omega arith
  where
    none_between : (ys : List (Charge ℕ)) → AllByRecursion (λ (y : Charge ℕ). y.before ≡ charged_below ◌==◌ y.counter y.before xs) ys
        → hits_at x.counter x.before xs ≡ x.hits → x.before ≡ charged_below ◌==◌ x.counter x.before xs
        → AllByRecursion (IsNotBetween x.counter x.before (x.before + x.hits)) ys
    none_between [] h one here = tt
    none_between (y ∷ ys) h one here = (
      λ same less. by (nat_lt x.before y.before) refl same less,
      none_between ys h.1 one here,
    )
      where
        by : (t : Bool) → nat_lt x.before y.before ≡ t → y.counter ≡ x.counter → y.before < x.before + x.hits → y.before ≤ x.before
        by true is same less =
            let lt : x.before < y.before = grind (arith, nat_tests) in
            let more = below_more x.counter x.before y.before lt xs in
            let e = h.0 ∙ ap (λ c. charged_below ◌==◌ c y.before xs) same in
            absurd (omega arith)
        by false is same less = grind (arith, nat_tests)
