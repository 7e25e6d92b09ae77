-- Taking a cell under a new claim keeps the rule.
use Rattle.std.proofs.Common.{◌≡◌, ◌≢◌, ◌⊎◌, ℕ, ◌+◌, ◌^◌, ◌≤◌, ◌<◌, ◌==◌, List, [], ◌∷◌, set, Bool, true, false, true≢false, refl, sym, ap, ◌∙◌, subst, arith, ⊎_elim, inl, inr}
use Rattle.std.proofs.lemmas.Bool.Decides.{nat_tests}
use native.Mathlib.Decide.{dec_lt}
use mathlib.Core.Option.{some}
use lib.ListN.{get_elem?}
use Rattle.atomic_table.proofs.Lists.{at_set}
use Rattle.counter_cells.specs.declared.view.Cell.{Cell}
use Rattle.counter_cells.specs.declared.view.CellView.{CellView}
use Rattle.counter_cells.specs.declared.setup.Setup.{Setup}
use Rattle.rate_types.specs.Sums.{total, one_if, times}
use Rattle.counter_cells.specs.Gates.{gate_word}
use Rattle.counter_cells.specs.Views.{good_on, small_on}
use Rattle.counter_cells.specs.Counting.{is_pair, pins_on, pair_of, charges_of, looks_of}
use Rattle.counter_cells.specs.Steps.{taken_cell}
use Rattle.counter_cells.specs.Lawful.{Register}
use Rattle.counter_cells.proofs.Kept.{RegisterFits, Rule}
use Rattle.rate_types.proofs.Sums.{total_same, total_none, total_one, cond_yes}
use Rattle.counter_cells.proofs.Claiming.{claim_keeps}

-- some cell has a pair of the claim
find_pair : (c : ℕ) (ps : List (ℕ × ℕ)) → 1 ≤ total (λ p. one_if (p.1 == c)) ps → (k : ℕ) × (1 ≤ total (λ p. one_if (is_pair k c p)) ps)
find_pair c [] h = absurd (omega arith)
find_pair c (p ∷ ps) h = keep (p.1 == c) refl h (find_pair c ps)
  where
    keep : (b : Bool) → (p.1 == c) ≡ b → 1 ≤ one_if (p.1 == c) + total (λ q. one_if (q.1 == c)) ps
        → (1 ≤ total (λ q. one_if (q.1 == c)) ps → (k : ℕ) × (1 ≤ total (λ q. one_if (is_pair k c q)) ps)) → (k : ℕ)
        × (1 ≤ one_if (is_pair k c p) + total (λ q. one_if (is_pair k c q)) ps)
    keep true is h' r = (p.0, (let x : (p.0 == p.0) ≡ true = grind (arith, nat_tests) in rw (x, is) (omega arith)))
    keep false is h' r = let y = ap one_if is in let s = r (omega arith) in (s.0, (let z = s.1 in omega arith))

pub bare_none : (views : List CellView) (k : ℕ) → total (pins_on k) views ≡ 0 → (j : ℕ) (x : CellView) → get_elem? views j ≡ some x → good_on k x ≡ 0
bare_none views k z j x e = let o = total_one (pins_on k) views j x e in omega arith

module _ (a : Setup) (t : Register) (gate gate' count count' : ℕ → ℕ) (views : List CellView) (r : Rule a t gate count views) (id k : ℕ) (v : CellView)
    (at : get_elem? views id ≡ some v) (role : v.claimer ≡ true) (st : Cell) (cell : get_elem? t.cells k ≡ some st) where
  truth_new : (c : ℕ) → c < 2 ^ 40 → times c t.used_claims ≡ 0 → RegisterFits (record { cells = set t.cells k (taken_cell c); used_claims = c ∷ t.used_claims })
  truth_new c low fresh = record {
    apart = λ i j s u e d es eu same. split i j s u es eu same (at_set t.cells k i (taken_cell c) s e) (at_set t.cells k j (taken_cell c) u d);
    used_claims = λ i s e es. ⊎_elim
        (λ (q : (i ≡ k) × (taken_cell c ≡ s)). let y = cond_yes c s.claim 1 0 (ap (λ (z : Cell). z.claim) q.1) in omega arith)
        (λ (q : (i ≢ k) × (get_elem? t.cells i ≡ some s)). let o = r.truth.used_claims i s q.1 es in omega arith)
        (at_set t.cells k i (taken_cell c) s e);
    small = λ i s e. ⊎_elim
        (λ (q : (i ≡ k) × (taken_cell c ≡ s)). subst (λ n. n < 2 ^ 40) (ap (λ (z : Cell). z.claim) q.1) low)
        (λ (q : (i ≢ k) × (get_elem? t.cells i ≡ some s)). r.truth.small i s q.1)
        (at_set t.cells k i (taken_cell c) s e);
  }
    where
      new_old : (j : ℕ) (u : Cell) → get_elem? t.cells j ≡ some u → u.ever ≡ true → c ≡ u.claim → ⊥
      new_old j u e ev same = let o = r.truth.used_claims j u e ev in let z : times u.claim t.used_claims ≡ 0 = subst (λ n. times n t.used_claims ≡ 0) same fresh in omega arith

      split : (i j : ℕ) (s u : Cell) → s.ever ≡ true → u.ever ≡ true → s.claim ≡ u.claim → ((i ≡ k) × (taken_cell c ≡ s)) ⊎ ((i ≢ k) × (get_elem? t.cells i ≡ some s))
          → ((j ≡ k) × (taken_cell c ≡ u)) ⊎ ((j ≢ k) × (get_elem? t.cells j ≡ some u)) → i ≡ j
      split i j s u es eu same (inl x) (inl y) = x.0 ∙ sym y.0
      split i j s u es eu same (inl x) (inr y) = absurd (new_old j u y.1 eu (ap (λ (z : Cell). z.claim) x.1 ∙ same))
      split i j s u es eu same (inr x) (inl y) = absurd (new_old i s x.1 es (ap (λ (z : Cell). z.claim) y.1 ∙ sym same))
      split i j s u es eu same (inr x) (inr y) = r.truth.apart i j s u x.1 y.1 es eu same

  pub reclaim_keeps : (c : ℕ) → c < 2 ^ 40 → times c t.used_claims ≡ 0 → total (pins_on k) views ≡ 0 → gate' k ≡ gate_word c 0 0 → ((j : ℕ) → (j ≡ k → ⊥) → gate' j ≡ gate j)
      → Rule a (record { cells = set t.cells k (taken_cell c); used_claims = c ∷ t.used_claims }) gate' count
      (set views id (record v { cells = set v.cells k (taken_cell c); used_claims = c ∷ t.used_claims; held = v.held }))
  reclaim_keeps c low new none word gates =
      let W : CellView = record v { cells = set v.cells k (taken_cell c); used_claims = c ∷ t.used_claims; held = v.held } in
      let f = r.cells k st cell in
      claim_keeps a t gate gate' count count views r id k v at role st (taken_cell c) cell (c ∷ t.used_claims) v.held
      (bare_none views k none) refl (truth_new c low new) (λ d o. omega arith)
      (record {
        word = word ∙ ap (λ m. gate_word c 0 m) (sym none ∙ sym (total_same (pins_on k) views id v W at refl));
        never = λ e. absurd (true≢false e);
        sum = λ o. absurd (true≢false (sym o));
        fresh = λ o e. (
          total_same (charges_of c) views id v W at refl ∙ total_none (charges_of c) views (λ j x e. nil (charges_of c x) ((r.each j x e).charges c)),
          total_same (looks_of c) views id v W at refl ∙ total_none (looks_of c) views (λ j x e. nil (looks_of c x) ((r.each j x e).looks c)),
          total_same (pair_of c) views id v W at refl ∙ total_none (pair_of c) views
              (λ j x e. nil (pair_of c x) (λ o. let p = find_pair c x.pairs o in ((r.each j x e).past p.0 c p.1).0)),
        );
        zeroed = λ o e m. absurd (true≢false (sym m));
        room = let m = f.room in let s = total_same (small_on k) views id v W at refl in omega arith;
      })
      gates (λ j n. refl) (λ o. absurd (true≢false (sym o)))
    where
      nil : (n : ℕ) → (1 ≤ n → 1 ≤ times c t.used_claims) → n ≡ 0
      nil n f = pick (dec_lt 0 n)
        where
          pick : Dec (0 < n) → n ≡ 0
          pick (yes d) = let o = f (omega arith) in absurd (omega arith)
          pick (no d) = omega arith
