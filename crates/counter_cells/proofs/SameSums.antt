-- The rule of other views from which every sum comes out the same.
use Rattle.std.proofs.Common.{◌≡◌, ℕ, ◌+◌, ◌≤◌, ◌==◌, List, length, cond, sym, ap, ◌∙◌, arith}
use Rattle.std.specs.Prelude.{ltb}
use mathlib.Core.Option.{some}
use lib.ListN.{get_elem?}
use Rattle.counter_cells.specs.declared.view.Charge.{Charge}
use Rattle.counter_cells.specs.declared.view.CellView.{CellView}
use Rattle.counter_cells.specs.declared.setup.Setup.{Setup}
use Rattle.rate_types.specs.Sums.{total, one_if}
use Rattle.counter_cells.specs.Gates.{gate_word}
use Rattle.counter_cells.specs.Views.{small_on}
use Rattle.counter_cells.specs.Counting.{pins_on}
use Rattle.counter_cells.specs.Lawful.{Register}
use Rattle.counter_cells.proofs.Kept.{hits_below, ViewFits, ViewLawful, Rule}
use Rattle.counter_cells.proofs.Sums.{each_map}

module _ (a : Setup) (t : Register) (gate count : ℕ → ℕ) (views views' : List CellView) (r : Rule a t gate count views)
    (pins : (j : ℕ) → total (pins_on j) views' ≡ total (pins_on j) views)
    (small : (j : ℕ) → total (small_on j) views' ≤ total (small_on j) views)
    (charges : (f : Charge → ℕ) → total (λ (x : CellView). total f x.charges) views' ≡ total (λ (x : CellView). total f x.charges) views)
    (looks : (f : (ℕ × ℕ) → ℕ) → total (λ (x : CellView). total f x.looks) views' ≡ total (λ (x : CellView). total f x.looks) views)
    (pairs : (f : (ℕ × ℕ) → ℕ) → total (λ (x : CellView). total f x.pairs) views' ≡ total (λ (x : CellView). total f x.pairs) views) where
  pub lawful_as : (x : CellView) → ViewLawful views x → ViewLawful views' x
  lawful_as x l = record {
    charges = each_map (λ (y : Charge). (1 ≤ y.hits) × (y.before ≡ total (hits_below y.claim y.before) views))
        (λ (y : Charge). (1 ≤ y.hits) × (y.before ≡ total (hits_below y.claim y.before) views')) x.charges
        (λ y q. (q.0, q.1 ∙ sym (charges (λ (z : Charge). cond (z.claim == y.claim) (cond (ltb z.before y.before) z.hits 0) 0)))) l.charges;
    looks = each_map (λ (y : ℕ × ℕ). y.1 ≡ total (hits_below y.0 y.1) views) (λ (y : ℕ × ℕ). y.1 ≡ total (hits_below y.0 y.1) views') x.looks
        (λ y q. q ∙ sym (charges (λ (z : Charge). cond (z.claim == y.0) (cond (ltb z.before y.1) z.hits 0) 0))) l.looks;
  }

  pub rule_as : ((j : ℕ) (v : CellView) → get_elem? views' j ≡ some v → ViewFits t count v × ViewLawful views' v)
      → total (λ v. one_if v.claimer) views' ≡ total (λ v. one_if v.claimer) views
      → total (λ v. length v.numbers + v.unmade) views' ≡ total (λ v. length v.numbers + v.unmade) views → Rule a t gate count views'
  rule_as fits cl pa = record {
    truth = r.truth;
    cells = λ j u e.
        let f = r.cells j u e in
        record {
          word = f.word ∙ ap (λ m. gate_word u.claim (one_if u.is_open) m) (sym (pins j));
          never = f.never;
          sum = λ o. f.sum o ∙ sym (charges (λ (x : Charge). cond (x.claim == u.claim) x.hits 0));
          fresh = λ off ev. let s = f.fresh off ev in (
            charges (λ (x : Charge). one_if (x.claim == u.claim)) ∙ s.0,
            looks (λ (p : ℕ × ℕ). one_if (p.0 == u.claim)) ∙ s.1,
            pairs (λ (p : ℕ × ℕ). one_if (p.1 == u.claim)) ∙ s.2,
          );
          zeroed = f.zeroed;
          room = let m = f.room in let s = small j in omega arith;
        };
    each = λ j v e. (fits j v e).0;
    once = λ c b. let s = charges (λ (x : Charge). cond (x.claim == c) (one_if (x.before == b)) 0) in let o = r.once c b in omega arith;
    lawful = λ j v e. (fits j v e).1;
    claimer = cl ∙ r.claimer;
    parts = pa ∙ r.parts;
    few = r.few;
  }
