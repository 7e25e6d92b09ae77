-- A lawful ledger, by tests: each charge has hits, and the charges are a chain.
use Rattle.std.proofs.Common.{◌≡◌, ℕ, ◌+◌, ◌≤◌, ◌==◌, ◌&&◌, nat_lt, Bool, cond, List, [], ◌∷◌, refl, arith}
use Rattle.std.proofs.lemmas.Bool.Decides.{nat_tests}
use Rattle.std.proofs.lemmas.List.Sums.{sum_by-cons}
use Rattle.std.specs.Bool.{Decides}
use Rattle.std.specs.List.{AllByRecursion, list_all}
use Rattle.rate_types.specs.Ledger.{Charge, charges_at, IsLawfulLedger}
use Rattle.run_audit.specs.Chain.{charged_at, IsChain}
use Rattle.run_audit.proofs.Tests.{both, all, renamed}

-- where each charge has hits, those with hits are all
with_hits : {C : Type 0} (same : C → C → Bool) (k : C) (b : ℕ) (xs : List (Charge C)) → AllByRecursion (λ x. 1 ≤ x.hits) xs
    → charges_at same k b xs ≡ charged_at same k b xs
with_hits same k b [] h = refl
with_hits same k b (x ∷ xs) h =
    by (same x.counter k) (sum_by-cons (λ y. cond (same y.counter k && (y.before == b)) 1 0) x xs)
    (sum_by-cons (λ y. cond (same y.counter k && ((y.before == b) && nat_lt 0 y.hits)) 1 0) x xs) (with_hits same k b xs h.1) h.0
  where
    by : (t : Bool) → charges_at same k b (x ∷ xs) ≡ cond (t && (x.before == b)) 1 0 + charges_at same k b xs
        → charged_at same k b (x ∷ xs) ≡ cond (t && ((x.before == b) && nat_lt 0 x.hits)) 1 0 + charged_at same k b xs
        → charges_at same k b xs ≡ charged_at same k b xs → 1 ≤ x.hits → charges_at same k b (x ∷ xs) ≡ charged_at same k b (x ∷ xs)
    by t e f more some = grind (arith, nat_tests)

pub chain_of_ledger : {C : Type 0} (same : C → C → Bool) (xs : List (Charge C)) → IsLawfulLedger same xs → IsChain same xs
chain_of_ledger same xs l = record { sums = l.sums; apart = λ k b. omega (arith, l.apart k b, with_hits same k b xs l.hits) }

pub ledger_by : {C : Type 0} (same : C → C → Bool) (xs : List (Charge C)) (h c : Bool) → h ≡ list_all (λ x. nat_lt 0 x.hits) xs
    → Decides c (IsChain same xs) → Decides (h && c) (IsLawfulLedger same xs)
ledger_by same xs h c is chain =
    let hits : Decides h (AllByRecursion (λ x. 1 ≤ x.hits) xs) = renamed h (list_all (λ x. nat_lt 0 x.hits) xs) is
    (all (λ x. nat_lt 0 x.hits) (λ x. 1 ≤ x.hits) (λ x. (λ e. grind (arith, nat_tests), λ e. grind (arith, nat_tests))) xs) in
    let d = both h c hits chain in (
      λ e. record { hits = (d.0 e).0; sums = (d.0 e).1.sums; apart = λ k b. omega (arith, (d.0 e).1.apart k b, with_hits same k b xs (d.0 e).0) },
      λ l. d.1 (l.hits, chain_of_ledger same xs l),
    )
