-- The ledger's sums are the sums over views, and what holds of the ledger holds of the charges of each view.
use Rattle.std.proofs.Common.{◌≡◌, ℕ, zero, suc, ◌≤◌, ◌==◌, ◌&&◌, List, [], ◌∷◌, map, Bool, true, false, cond, refl, sym, ◌∙◌, subst, arith}
use Rattle.std.specs.Prelude.{ltb, nat_lt, sum_by}
use Rattle.std.specs.List.{AllByRecursion}
use Rattle.std.proofs.lemmas.List.Recursion.{is_sum_by}
use mathlib.Core.Option.{some, some-injective, some-ne-none}
use lib.ListN.{get_elem?}
use Rattle.rate_types.specs.Ledger as ledger
use Rattle.rate_types.specs.Ledger.{IsLawfulLedger, IsLawfulSight, charged_total, charged_below}
use Rattle.counter_cells.specs.declared.view.Charge.{Charge}
use Rattle.counter_cells.specs.declared.view.CellView.{CellView}
use Rattle.rate_types.specs.Sums.{total, one_if}
use Rattle.counter_cells.specs.Ledgers.{charge_of, sight_of, ledger_of, sights_of}
use Rattle.counter_cells.proofs.Kept.{hits_of, hits_below, charges_at, ViewLawful}
use Rattle.rate_types.proofs.Sums.{total_append}
use Rattle.counter_cells.proofs.Sums.{each_append, each_left, each_right}

module _ (f : ledger.Charge ℕ → ℕ) (g : Charge → ℕ) (same : (x : Charge) → f (charge_of x) ≡ g x) where
  mapped : (xs : List Charge) → total f (map charge_of xs) ≡ total g xs
  mapped [] = refl
  mapped (x ∷ xs) = let a = same x in let r = mapped xs in omega arith

  whole : (views : List CellView) → total f (ledger_of views) ≡ total (λ (v : CellView). total g v.charges) views
  whole [] = refl
  whole (v ∷ vs) = let a = total_append f (map charge_of v.charges) (ledger_of vs) in let b = mapped v.charges in let r = whole vs in omega arith

  pub summed : (views : List CellView) → sum_by f (ledger_of views) ≡ total (λ (v : CellView). total g v.charges) views
  summed views = sym (is_sum_by (total f) f refl (λ _ _. refl) (ledger_of views)) ∙ whole views

both : (p q : Bool) (n : ℕ) → cond (p && q) n 0 ≡ cond p (cond q n 0) 0
both true q n = refl
both false q n = refl

pub total_is : (c : ℕ) (views : List CellView) → charged_total ◌==◌ c (ledger_of views) ≡ total (hits_of c) views
total_is c views = summed (λ x. cond (x.counter == c) x.hits 0) (λ x. cond (x.claim == c) x.hits 0) (λ x. refl) views

pub below_is : (c b : ℕ) (views : List CellView) → charged_below ◌==◌ c b (ledger_of views) ≡ total (hits_below c b) views
below_is c b views = summed (λ x. cond ((x.counter == c) && nat_lt x.before b) x.hits 0) (λ x. cond (x.claim == c) (cond (ltb x.before b) x.hits 0) 0)
    (λ x. both (x.claim == c) (ltb x.before b) x.hits) views

pub at_is : (c b : ℕ) (views : List CellView) → ledger.charges_at ◌==◌ c b (ledger_of views) ≡ total (charges_at c b) views
at_is c b views = summed (λ x. cond ((x.counter == c) && (x.before == b)) 1 0) (λ x. cond (x.claim == c) (one_if (x.before == b)) 0)
    (λ x. both (x.claim == c) (x.before == b) 1) views

module _ {A B : Type 0} (g : A → B) (P : B → Type 0) where
  all_map : (xs : List A) → AllByRecursion (λ x. P (g x)) xs → AllByRecursion P (map g xs)
  all_map [] h = tt
  all_map (x ∷ xs) h = (h.0, all_map xs h.1)

  map_all : (xs : List A) → AllByRecursion P (map g xs) → AllByRecursion (λ x. P (g x)) xs
  map_all [] h = tt
  map_all (x ∷ xs) h = (h.0, map_all xs h.1)

all_charges : (P : ledger.Charge ℕ → Type 0) (views : List CellView) → ((j : ℕ) (v : CellView) → get_elem? views j ≡ some v → AllByRecursion (λ x. P (charge_of x)) v.charges)
    → AllByRecursion P (ledger_of views)
all_charges P [] h = tt
all_charges P (v ∷ vs) h = each_append P (map charge_of v.charges) (ledger_of vs) (all_map charge_of P v.charges (h 0 v refl)) (all_charges P vs (λ j u e. h (suc j) u e))

charges_all : (P : ledger.Charge ℕ → Type 0) (views : List CellView) → AllByRecursion P (ledger_of views) → (j : ℕ) (v : CellView) → get_elem? views j ≡ some v
    → AllByRecursion (λ x. P (charge_of x)) v.charges
charges_all P [] h j v e = absurd (some-ne-none v (sym e))
charges_all P (w ∷ ws) h zero v e =
    subst (λ (u : CellView). AllByRecursion (λ x. P (charge_of x)) u.charges) (some-injective _ _ e)
    (map_all charge_of P w.charges (each_left P (map charge_of w.charges) (ledger_of ws) h))
charges_all P (w ∷ ws) h (suc j) v e = charges_all P ws (each_right P (map charge_of w.charges) (ledger_of ws) h) j v e

all_looks : (P : ledger.Sight ℕ → Type 0) (views : List CellView) → ((j : ℕ) (v : CellView) → get_elem? views j ≡ some v → AllByRecursion (λ p. P (sight_of p)) v.looks)
    → AllByRecursion P (sights_of views)
all_looks P [] h = tt
all_looks P (v ∷ vs) h = each_append P (map sight_of v.looks) (sights_of vs) (all_map sight_of P v.looks (h 0 v refl)) (all_looks P vs (λ j u e. h (suc j) u e))

looks_all : (P : ledger.Sight ℕ → Type 0) (views : List CellView) → AllByRecursion P (sights_of views) → (j : ℕ) (v : CellView) → get_elem? views j ≡ some v
    → AllByRecursion (λ p. P (sight_of p)) v.looks
looks_all P [] h j v e = absurd (some-ne-none v (sym e))
looks_all P (w ∷ ws) h zero v e =
    subst (λ (u : CellView). AllByRecursion (λ p. P (sight_of p)) u.looks) (some-injective _ _ e)
    (map_all sight_of P w.looks (each_left P (map sight_of w.looks) (sights_of ws) h))
looks_all P (w ∷ ws) h (suc j) v e = looks_all P ws (each_right P (map sight_of w.looks) (sights_of ws) h) j v e

all_both : {A : Type 0} (P Q R : A → Type 0) (xs : List A) → ((x : A) → P x → Q x → R x) → AllByRecursion P xs → AllByRecursion Q xs → AllByRecursion R xs
all_both P Q R [] f h k = tt
all_both P Q R (x ∷ xs) f h k = (f x h.0 k.0, all_both P Q R xs f h.1 k.1)

all_as : {A : Type 0} (P Q : A → Type 0) (xs : List A) → ((x : A) → P x → Q x) → AllByRecursion P xs → AllByRecursion Q xs
all_as P Q [] f h = tt
all_as P Q (x ∷ xs) f h = (f x h.0, all_as P Q xs f h.1)

-- from the views to the ledger
module _ (views : List CellView) (laws : (j : ℕ) (v : CellView) → get_elem? views j ≡ some v → ViewLawful views v) where
  pub ledger_from : ((c b : ℕ) → total (charges_at c b) views ≤ 1) → IsLawfulLedger ◌==◌ (ledger_of views)
  ledger_from once = record {
    hits = all_charges (λ x. 1 ≤ x.hits) views (λ j v e. all_as (λ (x : Charge). (1 ≤ x.hits) × (x.before ≡ total (hits_below x.claim x.before) views))
        (λ (x : Charge). 1 ≤ x.hits) v.charges (λ x h. h.0) (laws j v e).charges);
    sums = all_charges (λ x. x.before ≡ charged_below ◌==◌ x.counter x.before (ledger_of views)) views
        (λ j v e. all_as (λ (x : Charge). (1 ≤ x.hits) × (x.before ≡ total (hits_below x.claim x.before) views))
        (λ (x : Charge). x.before ≡ charged_below ◌==◌ x.claim x.before (ledger_of views)) v.charges (λ x h. h.1 ∙ sym (below_is x.claim x.before views)) (laws j v e).charges);
    apart = λ c b. let e = at_is c b views in let o = once c b in omega arith;
  }

  pub sights_from : AllByRecursion (IsLawfulSight ◌==◌ (ledger_of views)) (sights_of views)
  sights_from = all_looks (IsLawfulSight ◌==◌ (ledger_of views)) views
      (λ j v e. all_as (λ (p : ℕ × ℕ). p.1 ≡ total (hits_below p.0 p.1) views) (λ (p : ℕ × ℕ). p.1 ≡ charged_below ◌==◌ p.0 p.1 (ledger_of views)) v.looks
      (λ p h. h ∙ sym (below_is p.0 p.1 views)) (laws j v e).looks)

-- from the ledger to the views
module _ (views : List CellView) (l : IsLawfulLedger ◌==◌ (ledger_of views)) where
  pub once_from : (c b : ℕ) → total (charges_at c b) views ≤ 1
  once_from c b = let e = at_is c b views in let o = l.apart c b in omega arith

  pub laws_from : AllByRecursion (IsLawfulSight ◌==◌ (ledger_of views)) (sights_of views) → (j : ℕ) (v : CellView) → get_elem? views j ≡ some v → ViewLawful views v
  laws_from s j v e = record {
    charges = all_both (λ (x : Charge). 1 ≤ x.hits) (λ (x : Charge). x.before ≡ charged_below ◌==◌ x.claim x.before (ledger_of views))
        (λ (x : Charge). (1 ≤ x.hits) × (x.before ≡ total (hits_below x.claim x.before) views)) v.charges (λ x h k. (h, k ∙ below_is x.claim x.before views))
        (charges_all (λ x. 1 ≤ x.hits) views l.hits j v e) (charges_all (λ x. x.before ≡ charged_below ◌==◌ x.counter x.before (ledger_of views)) views l.sums j v e);
    looks = all_as (λ (p : ℕ × ℕ). p.1 ≡ charged_below ◌==◌ p.0 p.1 (ledger_of views)) (λ (p : ℕ × ℕ). p.1 ≡ total (hits_below p.0 p.1) views) v.looks
        (λ p h. h ∙ below_is p.0 p.1 views)
        (looks_all (IsLawfulSight ◌==◌ (ledger_of views)) views s j v e);
  }
