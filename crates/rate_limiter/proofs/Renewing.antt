-- Ticks, look-ups of newer versions, and reloads.
use Rattle.std.proofs.Common.{◌≡◌, ℕ, ◌+◌, ◌≤◌, nat_lt, Bool, true, false, cond, List, [], ◌∷◌, Some, None, IfSome, refl, sym, ap, ◌∙◌, subst, arith}
use mathlib.Core.List.{IsPrefix}
use Rattle.config_versions.specs.PassState.{PassState, IsVersion, IsNewest, HasLoaded}
use Rattle.config_versions.specs.PassState.{HasStayed as StaysAt}
use Rattle.counter_cells.specs.Steps.{number_of, ticked, tick_of}
use Rattle.counter_cells.specs.declared.view.CellView.{CellView}
use Rattle.rate_limiter.specs.PassStep.{HasRenewed, HasOffered}
use Rattle.rate_limiter.specs.Versions.{HasStayed}
use Rattle.rate_limiter.proofs.Lists.{prefix_self}

-- ---- ticks

offers_now : (b : Bool) (now : ℕ) → IfSome (cond b (Some now) None) (λ m. m ≡ now)
offers_now true now = refl
offers_now false now = tt

pub tick_offers : (moment now : ℕ) (v w : CellView) → w ≡ ticked moment now v → now ≤ moment → v.moment ≤ moment → HasOffered now v w
tick_offers moment now v w e least later = record {
  number = ap number_of e;
  added = tick_of moment now v ∷ [];
  ticks = ap (λ (x : CellView). x.ticks) e;
  some = omega arith;
  offers = ((refl, offers_now (nat_lt v.moment now) now), tt);
  moment = ap (λ (x : CellView). x.moment) e;
  least = subst (λ n. now ≤ n) (sym (ap (λ (x : CellView). x.moment) e)) least;
  later = subst (λ n. v.moment ≤ n) (sym (ap (λ (x : CellView). x.moment) e)) later;
}

pub only_ticks : (moment now : ℕ) (v w : CellView) → w ≡ ticked moment now v → w ≡ record v { ticks = w.ticks; moment = w.moment }
only_ticks moment now v w e = e ∙ (λ i. record v { ticks = (sym e i).ticks; moment = (sym e i).moment })

-- ---- versions

module _ {I : Type 0} where
  pub newest_renews : (s m t : PassState I) → HasLoaded s m → IsNewest m t → HasRenewed s t
  newest_renews s m t l n =
      let saw = n.turn.saw in
      let shown = n.turn.shown in
      let top = n.version in
      let rises = n.rises in
      let same = l.version in
      record {
        loads = n.turn.loads ∙ l.loads;
        rises = subst (λ v. v ≤ t.version) same rises;
        newest = omega arith;
        at = n.index;
        knows = subst (λ (k : List I). IsPrefix k t.view.known) l.known n.turn.knew;
        own = n.own ∙ l.own;
      }

  pub shown_renews : (s m : PassState I) → HasLoaded s m → IsVersion m.view.known m.version m.index → m.view.shown ≡ s.version + 1 → HasRenewed s m
  shown_renews s m l at e =
      let same = l.version in
      record {
        loads = l.loads;
        rises = omega arith;
        newest = omega arith;
        at = at;
        knows = subst (λ (k : List I). IsPrefix s.view.known k) (sym l.known) (prefix_self s.view.known);
        own = l.own;
      }

  pub stays_at : (s t : PassState I) → StaysAt s t → HasStayed s t
  stays_at s t h = record { version = h.version; index = h.index; knows = h.turn.knew; own = h.own }

  pub stays_then : (s m t : PassState I) → HasLoaded s m → StaysAt m t → HasStayed s t
  stays_then s m t l h = record {
    version = h.version ∙ l.version;
    index = h.index ∙ l.index;
    knows = subst (λ (k : List I). IsPrefix k t.view.known) l.known h.turn.knew;
    own = h.own ∙ l.own;
  }

  pub stays_self : (s : PassState I) → HasStayed s s
  stays_self s = record { version = refl; index = refl; knows = prefix_self s.view.known; own = refl }
