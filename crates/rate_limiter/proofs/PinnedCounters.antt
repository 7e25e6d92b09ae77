-- What one pin leaves of the pins that are held.
use Rattle.std.proofs.Common.{◌≡◌, ℕ, ◌+◌, ◌≤◌, ◌<◌, ◌==◌, List, [], ◌∷◌, ◌++◌, cond, Bool, true, false, refl, sym, ap, ◌∙◌, subst, arith}
use Rattle.std.proofs.lemmas.Bool.Decides.{nat_tests}
use Rattle.std.proofs.lemmas.List.Elements.{All-push}
use Rattle.rate_types.specs.Sums.{one_if}
use Rattle.counter_cells.specs.Views.{good_on, good_under, claim_on}
use Rattle.counter_cells.specs.Steps.{good_pin, missed}
use Rattle.counter_cells.specs.declared.view.CellView.{CellView}
use Rattle.counter_cells.specs.declared.answers.Spot.{Spot}
use Rattle.rate_limiter.specs.Counters.{IsPinned, Holds}
use Rattle.rate_limiter.proofs.Knowing.{under_in}
use Rattle.rate_limiter.proofs.Lists.{total_more}

module _ (s : Spot) (v w : CellView) (is : w ≡ good_pin s.cell s.claim v) where
  -- one pin more is held
  pub holds_more : (cells : ℕ) (spots : List Spot) → s.cell < cells → Holds cells spots v → Holds cells (spots ++ s ∷ []) w
  holds_more cells spots there h = record {
    within = All-push (λ (t : Spot). t.cell < cells) spots s h.within there;
    pins = λ k.
        let n = h.pins k in
        let m = total_more (λ (t : Spot). one_if (t.cell == k)) spots (s ∷ []) in
        let o : good_on k w ≡ one_if (s.cell == k) + good_on k v = ap (good_on k) is in
        omega arith;
  }

  newest : (t : Spot) → claim_on t.cell w.good ≡ cond (s.cell == t.cell) s.claim (claim_on t.cell v.good)
  newest t = ap (λ (x : CellView). claim_on t.cell x.good) is

  -- those that were held before are so still
  pub pinned_more : ((c : ℕ) → 1 ≤ good_under s.cell c v → c ≡ s.claim) → (t : Spot) → IsPinned v t → IsPinned w t
  pinned_more own t h = record {
    held =
        let o : good_on t.cell w ≡ one_if (s.cell == t.cell) + good_on t.cell v = ap (good_on t.cell) is in
        let held = h.held in
        omega arith;
    under = newest t ∙ by (s.cell == t.cell) refl;
  }
    where
      by : (b : Bool) → (s.cell == t.cell) ≡ b → cond (s.cell == t.cell) s.claim (claim_on t.cell v.good) ≡ t.claim
      by true e =
          let cell : s.cell ≡ t.cell = grind (arith, nat_tests) in
          let u = under_in t.cell v.good h.held in
          let c : claim_on t.cell v.good ≡ s.claim = own (claim_on t.cell v.good) (subst (λ k. 1 ≤ good_under k (claim_on t.cell v.good) v) (sym cell) u) in
          ap (λ b. cond b s.claim (claim_on t.cell v.good)) e ∙ sym c ∙ h.under
      by false e = ap (λ b. cond b s.claim (claim_on t.cell v.good)) e ∙ h.under

-- a pin that missed leaves those that are held
module _ (cell claim : ℕ) (is_open : Bool) (v w : CellView) (is : w ≡ missed cell claim is_open v) where
  pub holds_still : (cells : ℕ) (spots : List Spot) → Holds cells spots v → Holds cells spots w
  holds_still cells spots h = subst (Holds cells spots) (sym is) (record { within = h.within; pins = h.pins })

  pub pinned_missed : (t : Spot) → IsPinned v t → IsPinned w t
  pinned_missed t h = subst (λ (x : CellView). IsPinned x t) (sym is) (record { held = h.held; under = h.under })
