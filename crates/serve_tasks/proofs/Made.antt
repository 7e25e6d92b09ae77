-- Checks with the numbers of their links.
use Rattle.std.proofs.Common.{◌≡◌, ◌⊎◌, inl, inr, ℕ, zero, suc, ◌==◌, ◌<◌, Bool, true, false, List, [], ◌∷◌, ◌++◌, map, refl, sym, ap, ◌∙◌, subst, if◌then◌else◌, arith}
use Rattle.std.proofs.lemmas.Bool.Decides.{nat_tests}
use Rattle.std.specs.List.{AllByRecursion}
use Rattle.std.specs.Prelude.{option_to_list, Option, Result, Ok, Err, IfOk, OnErr}
use Rattle.rate_types.specs.declared.memory.OutOfMemory.{OutOfMemory}
use Rattle.http_endpoint.specs.Answers.{CheckStep, Asked, statistics, statistics_asked, Lead}
use Rattle.serve_tasks.specs.Service.{made_for}

-- checks for one link
abbrev pub tag : ℕ → List Asked → List (ℕ × Asked)
tag n more = map (λ (a : Asked). (n, a)) more

pub same_or : (i j : ℕ) → (i ≡ j) ⊎ (i ≡ j → ⊥)
same_or zero zero = inl refl
same_or zero (suc j) = inr (λ e. absurd (omega (arith, e)))
same_or (suc i) zero = inr (λ e. absurd (omega (arith, e)))
same_or (suc i) (suc j) = further (same_or i j)
  where
    further : (i ≡ j) ⊎ (i ≡ j → ⊥) → (suc i ≡ suc j) ⊎ (suc i ≡ suc j → ⊥)
    further (inl e) = inl (ap suc e)
    further (inr n) = inr (λ e. n (omega (arith, e)))

pub tagged : (n : ℕ) (more : List Asked) → map (λ (x : ℕ × Asked). x.1) (tag n more) ≡ more
tagged n [] = refl
tagged n (a ∷ more) = ap (λ (qs : List Asked). a ∷ qs) (tagged n more)

pub lead_tagged : {S : Type 0} (answers : CheckStep S) (p q : S) (n : ℕ) (more : List Asked) → Lead answers p more q
    → Lead answers p (map (λ (x : ℕ × Asked). x.1) (tag n more)) q
lead_tagged answers p q n more l = subst (λ (qs : List Asked). Lead answers p qs q) (sym (tagged n more)) l

if_append : (t : Bool) (a : Asked) (xs ys : List Asked) → (if t then a ∷ (xs ++ ys) else xs ++ ys) ≡ (if t then a ∷ xs else xs) ++ ys
if_append true a xs ys = refl
if_append false a xs ys = refl

pub made_append : (k : ℕ) (a b : List (ℕ × Asked)) → made_for k (a ++ b) ≡ made_for k a ++ made_for k b
made_append k [] b = refl
made_append k (x ∷ a) b =
    ap (λ (qs : List Asked). if k == x.0 then x.1 ∷ qs else qs) (made_append k a b) ∙ if_append (k == x.0) x.1 (made_for k a) (made_for k b)

pub made_here : (n : ℕ) (more : List Asked) → made_for n (tag n more) ≡ more
made_here n [] = refl
made_here n (a ∷ more) = let t : (n == n) ≡ true = grind (arith, nat_tests) in rw t (ap (λ (qs : List Asked). a ∷ qs) (made_here n more))

pub made_there : (k n : ℕ) (more : List Asked) → (k ≡ n → ⊥) → made_for k (tag n more) ≡ []
made_there k n [] other = refl
made_there k n (a ∷ more) other = let t : (k == n) ≡ false = grind (arith, nat_tests) in rw t (made_there k n more other)

pub none_for : (n : ℕ) (made : List (ℕ × Asked)) → AllByRecursion (λ (x : ℕ × Asked). x.0 < n) made → made_for n made ≡ []
none_for n [] all = refl
none_for n (x ∷ made) all = let t : (n == x.0) ≡ false = grind (arith, nat_tests, all.0) in rw t (none_for n made all.1)

pub only_append : (n : ℕ) (a b : List (ℕ × Asked)) → AllByRecursion (λ (x : ℕ × Asked). x.0 < n) a → AllByRecursion (λ (x : ℕ × Asked). x.0 < n) b
    → AllByRecursion (λ (x : ℕ × Asked). x.0 < n) (a ++ b)
only_append n [] b x y = y
only_append n (e ∷ a) b x y = (x.0, only_append n a b x.1 y)

pub only_wider : (n m : ℕ) (a : List (ℕ × Asked)) → n < m → AllByRecursion (λ (x : ℕ × Asked). x.0 < n) a → AllByRecursion (λ (x : ℕ × Asked). x.0 < m) a
only_wider n m [] less all = tt
only_wider n m (x ∷ a) less all = (omega (arith, less, all.0), only_wider n m a less all.1)

pub only_tagged : (n m : ℕ) (more : List Asked) → n < m → AllByRecursion (λ (x : ℕ × Asked). x.0 < m) (tag n more)
only_tagged n m [] less = tt
only_tagged n m (a ∷ more) less = (less, only_tagged n m more less)

-- what was asked for the statistics leads from one state to the other
pub lead_statistics : {S : Type 0} (answers : CheckStep S) (p q : S) (came : Result (Option (List ℕ)) OutOfMemory)
    → IfOk came (λ text. answers p (statistics text) q) → OnErr came (q ≡ p) → Lead answers p (option_to_list (statistics_asked came)) q
lead_statistics answers p q (Ok text) step same = (q, step, refl)
lead_statistics answers p q (Err e) step same = same
