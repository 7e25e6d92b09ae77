-- The cells are lawful when they are made.
use Rattle.std.proofs.Common.{◌≡◌, ℕ, zero, suc, ◌+◌, ◌*◌, ◌/◌, ◌≤◌, ◌<◌, List, [], ◌∷◌, get_or, length, replicate, true, false, true≢false, refl, sym, ap, ◌∙◌, subst, arith, inl}
use Rattle.std.specs.Prelude.{ltb}
use Rattle.std.proofs.lemmas.List.{length-replicate}
use Rattle.counter_cells.proofs.Looking.{one_le}
use mathlib.Core.Option.{some, some-injective, some-ne-none}
use lib.ListN.{get_elem?}
use Rattle.atomic_table.specs.Table.{opening}
use Rattle.counter_cells.specs.declared.view.Cell.{Cell}
use Rattle.counter_cells.specs.declared.view.CellView.{CellView}
use Rattle.counter_cells.specs.declared.setup.Setup.{Setup}
use Rattle.rate_types.specs.Sums.{total}
use Rattle.counter_cells.specs.WordIndex.{first_words, gate_of, count_of, gate_at, count_at}
use Rattle.counter_cells.specs.Views.{no_cell, noted_on, held_on}
use Rattle.counter_cells.specs.Counting.{pins_on}
use Rattle.counter_cells.specs.InnerSteps.{first_claimer}
use Rattle.counter_cells.specs.Lawful.{AreLawful, ClockIsGreatestOffer, FindingsHaveCauses, TicksFit, other_offers}
use Rattle.counter_cells.proofs.Regrouping.{lawful}
use Rattle.counter_cells.proofs.Kept.{CellFits, ViewFits, ViewLawful, Rule, Holds}

rep_at : {A : Type 0} (n : ℕ) (x : A) (k : ℕ) (y : A) → get_elem? (replicate n x) k ≡ some y → x ≡ y
rep_at zero x k y e = absurd (some-ne-none y (sym e))
rep_at (suc n) x zero y e = some-injective _ _ e
rep_at (suc n) x (suc k) y e = rep_at n x k y e

rep_zero : (n k : ℕ) → get_or {A = ℕ} (replicate n 0) k 0 ≡ 0
rep_zero zero k = refl
rep_zero (suc n) zero = refl
rep_zero (suc n) (suc k) = rep_zero n k

one_view : (v : CellView) (j : ℕ) (u : CellView) → get_elem? (v ∷ []) j ≡ some u → v ≡ u
one_view v zero u e = some-injective _ _ e
one_view v (suc j) u e = absurd (some-ne-none u (sym e))

word_zero : (x n i : ℕ) → 1 ≤ i → get_or {A = ℕ} (x ∷ replicate n 0) i 0 ≡ 0
word_zero x n zero h = absurd (omega arith)
word_zero x n (suc i) h = rep_zero n i

pub begins : (a : Setup) (ws : List ℕ) → ws ≡ first_words a.cells a.start → a.passes ≤ 1024 → a.start ≤ 1000000000000 → AreLawful a (opening ws [] (first_claimer a))
begins a ws is few low = lawful a (opening ws [] (first_claimer a))
    (subst (λ (l : List ℕ). Holds a (opening l [] (first_claimer a))) (sym is) (
      record { cells = replicate a.cells no_cell; used_claims = [] },
      omega (arith, length-replicate (512 * ((a.cells + 255) / 256) + 7) zero, length-replicate a.cells no_cell),
      length-replicate a.cells no_cell,
      rule,
      clock,
      found,
    ))
  where
    fits : ViewFits (record { cells = replicate a.cells no_cell; used_claims = [] }) (count_of (first_words a.cells a.start)) (first_claimer a)
    fits = record {
      pins = (omega arith, omega arith);
      good = λ k c o. absurd (omega arith);
      under = λ k o. absurd (omega arith);
      once = λ k. (omega arith, omega arith);
      past = λ k c o. absurd (omega arith);
      charges = λ c o. absurd (omega arith);
      looks = λ c o. absurd (omega arith);
      idle = λ _ z. (refl, refl);
      claimer = λ _. (refl, refl);
      caps = λ i u d o. record { charges = tt; looks = tt };
    }

    off : (k : ℕ) (s : Cell) → get_elem? (replicate a.cells no_cell) k ≡ some s → s.ever ≡ true → ⊥
    off k s e ev = true≢false (sym ev ∙ sym (ap (λ (c : Cell). c.ever) (rep_at a.cells no_cell k s e)))

    cell : (k : ℕ) → CellFits a.passes no_cell (gate_of (first_words a.cells a.start) k) (count_of (first_words a.cells a.start) k) 0 0 0 0 0 0
    cell k =
        let g = word_zero a.start (512 * ((a.cells + 255) / 256) + 7) (gate_at k) (omega arith) in
        let c = word_zero a.start (512 * ((a.cells + 255) / 256) + 7) (count_at k) (omega arith) in
        record {
          word = g;
          never = λ _. (refl, refl);
          sum = λ o. absurd (true≢false (sym o));
          fresh = λ _ e. absurd (true≢false (sym e));
          zeroed = λ _ e. absurd (true≢false (sym e));
          room = omega arith;
        }

    rule : Rule a (record { cells = replicate a.cells no_cell; used_claims = [] }) (gate_of (first_words a.cells a.start))
        (count_of (first_words a.cells a.start)) (first_claimer a ∷ [])
    rule = record {
      truth = record {
        apart = λ j k s u e d es eu same. absurd (off j s e es);
        used_claims = λ k s e es. absurd (off k s e es);
        small = λ k s e. let z = ap (λ (c : Cell). c.claim) (rep_at a.cells no_cell k s e) in omega arith;
      };
      cells = λ k st e. subst (λ (c : Cell). CellFits a.passes c (gate_of (first_words a.cells a.start) k) (count_of (first_words a.cells a.start) k) 0 0 0 0 0 0)
          (rep_at a.cells no_cell k st e) (cell k);
      each = λ j v e. subst (ViewFits (record { cells = replicate a.cells no_cell; used_claims = [] }) (count_of (first_words a.cells a.start)))
          (one_view (first_claimer a) j v e) fits;
      once = λ c b. omega arith;
      lawful = λ j v e. subst (ViewLawful (first_claimer a ∷ [])) (one_view (first_claimer a) j v e) (record { charges = tt; looks = tt });
      claimer = refl;
      parts = omega arith;
      few = few;
    }

    clock : ClockIsGreatestOffer a a.start (first_claimer a ∷ [])
    clock = record {
      least = omega arith;
      top = inl refl;
      most = low;
      each = λ j v e. subst (TicksFit a.start a.start (λ i m. total (other_offers i m) (first_claimer a ∷ []))) (one_view (first_claimer a) j v e)
          (record { moment = omega arith; last = λ _. refl; offers = tt; numbers = tt; sourced = tt });
      numbers = λ i. let b = one_le (ltb i a.passes) in omega arith;
    }

    found : FindingsHaveCauses a a.start (first_claimer a ∷ [])
    found = record {
      noted = λ j v e. subst (λ (x : CellView). (k : ℕ) → 1 ≤ pins_on k x → 1 ≤ noted_on k x) (one_view (first_claimer a) j v e) (λ k o. absurd (omega arith));
      held = λ j v e. subst (λ (x : CellView). (k : ℕ) → 1 ≤ held_on k x → (k < a.cells) × (1 ≤ total (noted_on k) (first_claimer a ∷ []))) (one_view (first_claimer a) j v e)
          (λ k o. absurd (omega arith));
      heard = λ j v e. subst (λ (x : CellView). x.heard ≤ a.start) (one_view (first_claimer a) j v e) (omega arith);
      idle = λ j v e. subst (λ (x : CellView). x.claimer ≡ false → length x.numbers ≡ 0 → (x.pairs ≡ []) × (x.others ≡ [])) (one_view (first_claimer a) j v e)
          (λ c z. (refl, refl));
    }
