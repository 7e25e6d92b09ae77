-- Whatever a pass has of a counter is a lawful sight in the ledger of all passes.
use Rattle.std.proofs.Common.{◌≡◌, ℕ, zero, suc, ◌+◌, ◌==◌, ◌&&◌, List, [], ◌∷◌, map, All, true, refl, sym}
use Rattle.std.proofs.Common.{subst, arith}
use Rattle.std.specs.List.{AllByRecursion}
use Rattle.std.proofs.lemmas.Bool.Decides.{nat_tests}
use mathlib.Core.Option.{some}
use lib.ListN.{get_elem?}
use Rattle.rate_types.specs.Ledger.{Charge, charged_below, IsLawfulLedger, IsLawfulSight}
use Rattle.rate_types.specs.Sums.{one_if}
use Rattle.counter_cells.specs.Ledgers.{charge_of, sight_of, ledger_of, sights_of}
use Rattle.counter_cells.specs.declared.view.CellView.{CellView}
use Rattle.counter_cells.specs.declared.view.Charge as cell_charge
use Rattle.rate_limiter.specs.Values.{looks_at, HasValue}
use Rattle.rate_limiter.proofs.Ending.{left_is_below}
use Rattle.rate_limiter.proofs.Lists.{parts, total_some, each_front, each_back, each_of}
use Rattle.rate_limiter.proofs.Making.{all_tail, all_cons}

-- what holds of each image holds of each
pub all_over : {A B : Type 0} (P : B → Type 0) (f : A → B) (xs : List A) → All P (map f xs) → All (λ x. P (f x)) xs
all_over P f [] h = λ k d l. absurd (omega arith)
all_over P f (x ∷ xs) h = let t = all_tail P (f x) (map f xs) h in all_cons (λ y. P (f y)) x xs t.0 (all_over P f xs t.1)

same_number : (a b : ℕ) → (a == b) ≡ true → a ≡ b
same_number a b t = grind (arith, nat_tests)

module _ (ledger : List (Charge ℕ)) where
  -- what was found or left under a number is the sum of what is below it
  abbrev IsSum : ℕ → ℕ → Type 0
  IsSum number value = value ≡ charged_below ◌==◌ number value ledger

  abbrev Left : Charge ℕ → Type 0
  Left x = IsSum x.counter (x.before + x.hits)

  look_is : (looks : List (ℕ × ℕ)) → AllByRecursion (IsLawfulSight ◌==◌ ledger) (map sight_of looks) → (i : ℕ) (p : ℕ × ℕ) → get_elem? looks i ≡ some p
      → IsSum p.0 p.1
  look_is [] h i p e = absurd (mathlib.Core.Option.some-ne-none p (sym e))
  look_is (q ∷ looks) h zero p e = subst (λ (x : ℕ × ℕ). IsSum x.0 x.1) (mathlib.Core.Option.some-injective q p e) h.0
  look_is (q ∷ looks) h (suc i) p e = look_is looks h.1 i p e

  charge_is : (charges : List cell_charge.Charge) → AllByRecursion Left (map charge_of charges) → (i : ℕ) (x : cell_charge.Charge) → get_elem? charges i ≡ some x
      → IsSum x.claim (x.before + x.hits)
  charge_is [] h i x e = absurd (mathlib.Core.Option.some-ne-none x (sym e))
  charge_is (y ∷ charges) h zero x e = subst (λ (z : cell_charge.Charge). IsSum z.claim (z.before + z.hits)) (mathlib.Core.Option.some-injective y x e) h.0
  charge_is (y ∷ charges) h (suc i) x e = charge_is charges h.1 i x e

  value_is : (v : CellView) → AllByRecursion (IsLawfulSight ◌==◌ ledger) (map sight_of v.looks) → AllByRecursion Left (map charge_of v.charges)
      → (number value : ℕ) → HasValue number value v → IsSum number value
  value_is v looks charges number value h = pick (looks_at number value v) refl
    where
      at : (a b : ℕ) → IsSum a b → a ≡ number → b ≡ value → IsSum number value
      at a b s e f = subst (λ n. n ≡ charged_below ◌==◌ number n ledger) f (subst (λ n. b ≡ charged_below ◌==◌ n b ledger) e s)

      pick : (n : ℕ) → looks_at number value v ≡ n → IsSum number value
      pick (suc n) is =
          let t = total_some (λ (p : ℕ × ℕ). one_if ((p.0 == number) && (p.1 == value))) v.looks (omega arith) in
          let e = parts (t.1.0 == number) (t.1.1 == value) t.3 in
          at t.1.0 t.1.1 (look_is v.looks looks t.0 t.1 t.2) (same_number t.1.0 number e.0) (same_number t.1.1 value e.1)
      pick zero is =
          let t = total_some (λ (x : cell_charge.Charge). one_if ((x.claim == number) && (x.before + x.hits == value))) v.charges (omega arith) in
          let e = parts (t.1.claim == number) (t.1.before + t.1.hits == value) t.3 in
          at t.1.claim (t.1.before + t.1.hits) (charge_is v.charges charges t.0 t.1 t.2) (same_number t.1.claim number e.0) (same_number (t.1.before + t.1.hits) value e.1)

  each_value : (vs : List CellView) → AllByRecursion (IsLawfulSight ◌==◌ ledger) (sights_of vs) → AllByRecursion Left (ledger_of vs)
      → All (λ v. (number value : ℕ) → HasValue number value v → IsSum number value) vs
  each_value [] s c = λ k d l. absurd (omega arith)
  each_value (v ∷ vs) s c =
      all_cons (λ v. (number value : ℕ) → HasValue number value v → IsSum number value) v vs
      (value_is v (each_front (IsLawfulSight ◌==◌ ledger) (map sight_of v.looks) (sights_of vs) s) (each_front Left (map charge_of v.charges) (ledger_of vs) c))
      (each_value vs (each_back (IsLawfulSight ◌==◌ ledger) (map sight_of v.looks) (sights_of vs) s) (each_back Left (map charge_of v.charges) (ledger_of vs) c))

-- of the passes of one ledger
pub values_lawful : (vs : List CellView) → IsLawfulLedger ◌==◌ (ledger_of vs) → AllByRecursion (IsLawfulSight ◌==◌ (ledger_of vs)) (sights_of vs)
    → All (λ v. (number value : ℕ) → HasValue number value v → value ≡ charged_below ◌==◌ number value (ledger_of vs)) vs
values_lawful vs law s =
    each_value (ledger_of vs) vs s (each_of (Left (ledger_of vs)) (ledger_of vs) (λ i x e. left_is_below (ledger_of vs) law i x e))
