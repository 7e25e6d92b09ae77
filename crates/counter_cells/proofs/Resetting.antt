-- A reset keeps the rule.
use Rattle.std.proofs.Common.{◌≡◌, ℕ, List, set, true, false, true≢false, refl, sym, ap, ◌∙◌, arith}
use mathlib.Core.Option.{some}
use lib.ListN.{get_elem?}
use Rattle.counter_cells.specs.declared.view.Cell.{Cell}
use Rattle.counter_cells.specs.declared.view.CellView.{CellView}
use Rattle.counter_cells.specs.declared.setup.Setup.{Setup}
use Rattle.rate_types.specs.Sums.{one_if}
use Rattle.counter_cells.specs.Gates.{gate_word}
use Rattle.counter_cells.specs.Views.{small_on}
use Rattle.counter_cells.specs.Counting.{pins_on, pair_of, charges_of, looks_of}
use Rattle.counter_cells.specs.Lawful.{Register}
use Rattle.counter_cells.proofs.Kept.{Rule}
use Rattle.rate_types.proofs.Sums.{total_same}
use Rattle.counter_cells.proofs.Claiming.{claim_keeps, bare_closed, truth_same}

module _ (a : Setup) (t : Register) (gate gate' count count' : ℕ → ℕ) (views : List CellView) (r : Rule a t gate count views) (id k : ℕ) (v : CellView)
    (at : get_elem? views id ≡ some v) (role : v.claimer ≡ true) (st : Cell) (cell : get_elem? t.cells k ≡ some st) where
  pub reset_keeps : st.ever ≡ true → st.is_open ≡ false → count' k ≡ 0 → ((j : ℕ) → (j ≡ k → ⊥) → count' j ≡ count j)
      → Rule a (record { cells = set t.cells k (record st { reset = true }); used_claims = t.used_claims }) gate count'
      (set views id (record v { cells = set v.cells k (record st { reset = true }); used_claims = t.used_claims; held = v.held }))
  reset_keeps ev off nil counts =
      let W : CellView = record v { cells = set v.cells k (record st { reset = true }); used_claims = t.used_claims; held = v.held } in
      let f = r.cells k st cell in
      claim_keeps a t gate gate count count' views r id k v at role st (record st { reset = true }) cell t.used_claims v.held
      (bare_closed a t gate count views r k st cell off) ev (truth_same a t gate count views r k st cell (record st { reset = true }) refl refl) (λ c o. o)
      (record {
        word = f.word ∙ ap (λ m. gate_word st.claim (one_if st.is_open) m) (sym (total_same (pins_on k) views id v W at refl));
        never = f.never;
        sum = λ o. absurd (true≢false (sym o ∙ off));
        fresh = λ o e. let s = f.fresh o e in (
          total_same (charges_of st.claim) views id v W at refl ∙ s.0,
          total_same (looks_of st.claim) views id v W at refl ∙ s.1,
          total_same (pair_of st.claim) views id v W at refl ∙ s.2,
        );
        zeroed = λ o e m. nil;
        room = let m = f.room in let s = total_same (small_on k) views id v W at refl in omega arith;
      })
      (λ j n. refl) counts (λ o. absurd (true≢false (sym o ∙ off)))
