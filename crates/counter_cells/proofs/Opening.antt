-- Opening a cell keeps the rule.
use Rattle.std.proofs.Common.{◌≡◌, ℕ, ◌+◌, ◌≤◌, ◌==◌, List, [], ◌∷◌, set, Bool, true, false, true≢false, cond, refl, sym, ap, ◌∙◌, arith}
use mathlib.Core.Option.{some}
use lib.ListN.{get_elem?}
use Rattle.counter_cells.specs.declared.view.Charge.{Charge}
use Rattle.counter_cells.specs.declared.view.Cell.{Cell}
use Rattle.counter_cells.specs.declared.view.CellView.{CellView}
use Rattle.counter_cells.specs.declared.setup.Setup.{Setup}
use Rattle.std.specs.List.{AllByRecursion}
use Rattle.rate_types.specs.Sums.{total, one_if}
use Rattle.counter_cells.specs.Views.{small_on}
use Rattle.counter_cells.specs.Counting.{pins_on, charges_of, looks_of}
use Rattle.counter_cells.specs.Lawful.{Register}
use Rattle.counter_cells.proofs.Kept.{hits_of, Rule}
use Rattle.rate_types.proofs.Sums.{total_same, total_none, total_one, cond_yes}
use Rattle.counter_cells.proofs.Claiming.{claim_keeps, bare_closed, truth_same}

no_hits : (c : ℕ) (xs : List Charge) → total (λ (x : Charge). one_if (x.claim == c)) xs ≡ 0 → total (λ (x : Charge). cond (x.claim == c) x.hits 0) xs ≡ 0
no_hits c [] h = refl
no_hits c (x ∷ xs) h = keep (x.claim == c) h (no_hits c xs)
  where
    keep : (b : Bool) → one_if b + total (λ (y : Charge). one_if (y.claim == c)) xs ≡ 0
        → (total (λ (y : Charge). one_if (y.claim == c)) xs ≡ 0 → total (λ (y : Charge). cond (y.claim == c) y.hits 0) xs ≡ 0)
        → cond b x.hits 0 + total (λ (y : Charge). cond (y.claim == c) y.hits 0) xs ≡ 0
    keep true h' r = absurd (omega arith)
    keep false h' r = let s = r (omega arith) in omega arith

no_caps : {A : Type 0} (f : A → ℕ) (P : A → Type 0) (c : ℕ) (xs : List A) → total (λ x. one_if (f x == c)) xs ≡ 0 → AllByRecursion (λ x. f x ≡ c → P x) xs
no_caps f P c [] h = tt
no_caps f P c (x ∷ xs) h = ((λ e. absurd (let y = cond_yes (f x) c 1 0 e in omega arith)), no_caps f P c xs (omega arith))

module _ (a : Setup) (t : Register) (gate gate' count count' : ℕ → ℕ) (views : List CellView) (r : Rule a t gate count views) (id k : ℕ) (v : CellView)
    (at : get_elem? views id ≡ some v) (role : v.claimer ≡ true) (st : Cell) (cell : get_elem? t.cells k ≡ some st) where
  pub open_keeps : st.ever ≡ true → st.is_open ≡ false → st.reset ≡ true → gate' k ≡ gate k + 1 → ((j : ℕ) → (j ≡ k → ⊥) → gate' j ≡ gate j)
      → Rule a (record { cells = set t.cells k (record st { is_open = true }); used_claims = t.used_claims }) gate' count
      (set views id (record v { cells = set v.cells k (record st { is_open = true }); used_claims = t.used_claims; held = v.held }))
  open_keeps ev off done word gates =
      let W : CellView = record v { cells = set v.cells k (record st { is_open = true }); used_claims = t.used_claims; held = v.held } in
      let f = r.cells k st cell in
      let s = f.fresh off ev in
      let z = f.zeroed off ev done in
      let hits = total_none (hits_of st.claim) views (λ j x e. no_hits st.claim x.charges (let o = total_one (charges_of st.claim) views j x e in omega arith)) in
      claim_keeps a t gate gate' count count views r id k v at role st (record st { is_open = true }) cell t.used_claims v.held
      (bare_closed a t gate count views r k st cell off) ev (truth_same a t gate count views r k st cell (record st { is_open = true }) refl refl) (λ c o. o)
      (record {
        word = (let w = f.word in let b : one_if st.is_open ≡ 0 = ap one_if off in let p = total_same (pins_on k) views id v W at refl in omega arith);
        never = λ e. absurd (true≢false (sym ev ∙ e));
        sum = λ o. z ∙ sym hits ∙ sym (total_same (hits_of st.claim) views id v W at refl);
        fresh = λ o. absurd (true≢false o);
        zeroed = λ o. absurd (true≢false o);
        room = let m = f.room in let s = total_same (small_on k) views id v W at refl in omega arith;
      })
      gates (λ j n. refl)
      (λ o j x e. record {
        charges = no_caps (λ (y : Charge). y.claim) (λ y. y.before + y.hits ≤ count k) st.claim x.charges (let o = total_one (charges_of st.claim) views j x e in omega arith);
        looks = no_caps (λ (y : ℕ × ℕ). y.0) (λ y. y.1 ≤ count k) st.claim x.looks (let o = total_one (looks_of st.claim) views j x e in omega arith);
      })
