-- Sights as charges of 0 hits: they are sums of a lawful ledger just where they and its charges are a chain.
use Rattle.std.proofs.Common.{◌≡◌, ℕ, ◌==◌, ◌&&◌, nat_lt, Bool, true, false, cond, List, [], ◌∷◌, ◌++◌, map, refl, sym, ◌∙◌, arith}
use Rattle.std.specs.Bool.{Decides}
use Rattle.std.specs.List.{AllByRecursion}
use Rattle.std.proofs.lemmas.List.Sums.{sum_by-cons, sum_by-append}
use Rattle.rate_types.specs.Counters.{same_counter}
use Rattle.rate_types.specs.Ledger.{Charge, Sight, charged_below, IsLawfulLedger, IsLawfulSight}
use Rattle.rate_types.specs.declared.counter_key.CounterKey.{CounterKey}
use Rattle.run_audit.specs.Chain.{charged_at, IsChain}
use Rattle.run_audit.specs.Shown.{as_charge}
use Rattle.run_audit.proofs.Chains.{all_step}
use Rattle.run_audit.proofs.Ledgers.{chain_of_ledger}

cond_none : (t : Bool) → ◌≡◌ {A = ℕ} (cond t 0 0) 0
cond_none true = refl
cond_none false = refl

module _ (k : CounterKey) (b : ℕ) where
  sights_add_none : (ss : List (Sight CounterKey)) → charged_below same_counter k b (map as_charge ss) ≡ 0
  sights_add_none [] = refl
  sights_add_none (s ∷ ss) =
      let step = sum_by-cons (λ y. cond (same_counter y.counter k && nat_lt y.before b) y.hits 0) (as_charge s) (map as_charge ss) in
      omega (arith, step, sights_add_none ss, cond_none (same_counter s.counter k && nat_lt s.seen b))

  none_of_sights : (t u : Bool) → ◌≡◌ {A = ℕ} (cond (t && (u && nat_lt 0 0)) 1 0) 0
  none_of_sights true true = refl
  none_of_sights true false = refl
  none_of_sights false u = refl

  sights_have_no_hits : (ss : List (Sight CounterKey)) → charged_at same_counter k b (map as_charge ss) ≡ 0
  sights_have_no_hits [] = refl
  sights_have_no_hits (s ∷ ss) =
      let step = sum_by-cons (λ y. cond (same_counter y.counter k && ((y.before == b) && nat_lt 0 y.hits)) 1 0) (as_charge s) (map as_charge ss) in
      omega (arith, step, sights_have_no_hits ss, none_of_sights (same_counter s.counter k) (s.seen == b))

  below_both : (xs : List (Charge CounterKey)) (ss : List (Sight CounterKey))
      → charged_below same_counter k b (xs ++ map as_charge ss) ≡ charged_below same_counter k b xs
  below_both xs ss =
      let step = sum_by-append (λ y. cond (same_counter y.counter k && nat_lt y.before b) y.hits 0) xs (map as_charge ss) in
      omega (arith, step, sights_add_none ss)

  at_both : (xs : List (Charge CounterKey)) (ss : List (Sight CounterKey))
      → charged_at same_counter k b (xs ++ map as_charge ss) ≡ charged_at same_counter k b xs
  at_both xs ss =
      let step = sum_by-append (λ y. cond (same_counter y.counter k && ((y.before == b) && nat_lt 0 y.hits)) 1 0) xs (map as_charge ss) in
      omega (arith, step, sights_have_no_hits ss)

module _ (all : List (Charge CounterKey)) where
  abbrev Sum : Charge CounterKey → Type 0
  Sum x = x.before ≡ charged_below same_counter x.counter x.before all

  sums_of_sights : (ss : List (Sight CounterKey)) → AllByRecursion Sum (map as_charge ss) → AllByRecursion (IsLawfulSight same_counter all) ss
  sums_of_sights [] h = tt
  sums_of_sights (s ∷ ss) h = (h.0, sums_of_sights ss h.1)

  sights_of_sums : (ss : List (Sight CounterKey)) → AllByRecursion (IsLawfulSight same_counter all) ss → AllByRecursion Sum (map as_charge ss)
  sights_of_sums [] h = tt
  sights_of_sums (s ∷ ss) h = (h.0, sights_of_sums ss h.1)

all_append : {X : Type 0} (P : X → Type 0) (xs ys : List X) → AllByRecursion P xs → AllByRecursion P ys → AllByRecursion P (xs ++ ys)
all_append P [] ys p q = q
all_append P (x ∷ xs) ys p q = (p.0, all_append P xs ys p.1 q)

all_right : {X : Type 0} (P : X → Type 0) (xs ys : List X) → AllByRecursion P (xs ++ ys) → AllByRecursion P ys
all_right P [] ys p = p
all_right P (x ∷ xs) ys p = all_right P xs ys p.1

pub sights_by : (xs : List (Charge CounterKey)) (ss : List (Sight CounterKey)) (b : Bool) → IsLawfulLedger same_counter xs
    → Decides b (IsChain same_counter (xs ++ map as_charge ss)) → Decides b (AllByRecursion (IsLawfulSight same_counter xs) ss)
sights_by xs ss b ledger d = (
  λ e. let chain = d.0 e in
      let here = all_right (Sum both) xs (map as_charge ss) chain.sums in
      sums_of_sights xs ss (all_step (Sum both) (Sum both) (Sum xs) (λ x s t. s ∙ below_both x.counter x.before xs ss) (map as_charge ss) here here),
  λ h. let ledger_chain = chain_of_ledger same_counter xs ledger in
      let sums = all_append (Sum xs) xs (map as_charge ss) ledger_chain.sums (sights_of_sums xs ss h) in
      d.1 (record {
        sums = all_step (Sum xs) (Sum xs) (Sum both) (λ x s t. s ∙ sym (below_both x.counter x.before xs ss)) both sums sums;
        apart = λ k n. omega (arith, at_both k n xs ss, ledger_chain.apart k n);
      }),
)
  where
    both : List (Charge CounterKey)
    both = xs ++ map as_charge ss
