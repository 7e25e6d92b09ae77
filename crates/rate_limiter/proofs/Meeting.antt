-- Passes that meet: ticks without an offer, and versions that don't fall.
use Rattle.std.proofs.Common.{◌≡◌, ℕ, ◌≤◌, ◌<◌, nat_lt, Bool, true, false, cond, List, [], ◌∷◌, ◌++◌, Some, None, refl, sym, ap, ◌∙◌, subst, arith, append_assoc}
use Rattle.std.proofs.lemmas.List.{append-nil}
use Rattle.std.proofs.lemmas.Bool.Decides.{nat_tests}
use Rattle.config_versions.specs.PassState.{PassState, IsNewest}
use Rattle.config_versions.specs.PassState.{HasStayed as StaysAt}
use Rattle.counter_cells.specs.Steps.{number_of, last_moment, ticked, tick_of}
use Rattle.counter_cells.specs.declared.view.CellView.{CellView}
use Rattle.counter_cells.specs.declared.view.Tick.{Tick}
use Rattle.counter_directory.specs.Acquired.{OffersNothing}
use Rattle.rate_limiter.specs.Passes.{PassView, KeepsAllButVersion, KeepsAllButTicks}
use Rattle.rate_limiter.specs.Versions.{HasRisen}
use Rattle.rate_limiter.specs.Ticks.{HasTickedAlone}
use Rattle.rate_limiter.specs.Meeting.{HasMet}
use Rattle.rate_limiter.proofs.Lists.{each_append, each_more, prefix_self, prefix_then, last_then}

-- ---- ticks

pub never_ticked : (v : CellView) → HasTickedAlone v v
never_ticked v = record { number = refl; added = []; ticks = sym (append-nil v.ticks); offers = tt; moment = refl; later = omega arith }

pub ticked_then : (u v w : CellView) → HasTickedAlone u v → HasTickedAlone v w → HasTickedAlone u w
ticked_then u v w a b =
    let x = a.later in
    let y = b.later in
    record {
      number = b.number ∙ a.number;
      added = a.added ++ b.added;
      ticks = b.ticks ∙ ap (λ (l : List Tick). l ++ b.added) a.ticks ∙ append_assoc u.ticks a.added b.added;
      offers = each_append (OffersNothing u) a.added b.added a.offers
          (each_more (OffersNothing v) (OffersNothing u) (λ t o. (o.0 ∙ a.number, o.1)) b.added b.offers);
      moment = b.moment ∙ ap (λ n. last_moment n b.added) a.moment ∙ sym (last_then u.moment a.added b.added);
      later = omega arith;
    }

-- a tick with the pass's own moment
pub own_tick : (moment : ℕ) (v w : CellView) → w ≡ ticked moment v.moment v → v.moment ≤ moment → HasTickedAlone v w
own_tick moment v w e later = record {
  number = ap number_of e;
  added = tick_of moment v.moment v ∷ [];
  ticks = ap (λ (x : CellView). x.ticks) e;
  offers = ((refl, nothing (nat_lt v.moment v.moment) refl), tt);
  moment = ap (λ (x : CellView). x.moment) e;
  later = subst (λ n. v.moment ≤ n) (sym (ap (λ (x : CellView). x.moment) e)) later;
}
  where
    nothing : (b : Bool) → nat_lt v.moment v.moment ≡ b → cond b (Some v.moment) None ≡ None
    nothing true is = absurd (let less : v.moment < v.moment = grind (arith, nat_tests) in omega arith)
    nothing false is = refl

-- ---- versions

module _ {I : Type 0} where
  pub never_risen : (s : PassState I) → HasRisen s s
  never_risen s = record { rises = omega arith; knows = prefix_self s.view.known; own = refl }

  pub risen_then : (r s t : PassState I) → HasRisen r s → HasRisen s t → HasRisen r t
  risen_then r s t a b =
      let x = a.rises in
      let y = b.rises in
      record { rises = omega arith; knows = prefix_then r.view.known s.view.known t.view.known a.knows b.knows; own = b.own ∙ a.own }

  pub newest_risen : (s t : PassState I) → IsNewest s t → HasRisen s t
  newest_risen s t n = record { rises = n.rises; knows = n.turn.knew; own = n.own }

  pub stayed_risen : (s t : PassState I) → StaysAt s t → HasRisen s t
  stayed_risen s t h = let e = h.version in record { rises = omega arith; knows = h.turn.knew; own = h.own }

-- ---- what else a pass keeps

pub version_then : (p q r : PassView) → KeepsAllButVersion p q → KeepsAllButVersion q r → KeepsAllButVersion p r
version_then p q r a b = b ∙ (λ i. record (a i) { version = r.version })

pub ticks_then : (p q r : PassView) → KeepsAllButTicks p q → KeepsAllButTicks q r → KeepsAllButTicks p r
ticks_then p q r a b = b ∙ (λ i. record (a i) { cells = record (a i).cells { ticks = r.cells.ticks; moment = r.cells.moment } })

-- a pass that rose, and then ticked
pub met : (p q r : PassView) → HasRisen p.version q.version → KeepsAllButVersion p q → HasTickedAlone q.cells r.cells → KeepsAllButTicks q r → HasMet p r
met p q r risen kept ticks rest =
    let version : r.version ≡ q.version = ap (λ (x : PassView). x.version) rest in
    let cells : q.cells ≡ p.cells = ap (λ (x : PassView). x.cells) kept in
    record {
      version = subst (HasRisen p.version) (sym version) risen;
      ticks = subst (λ (v : CellView). HasTickedAlone v r.cells) cells ticks;
      rest =
          rest
          ∙ (λ i. record (kept i) { cells = record (kept i).cells { ticks = r.cells.ticks; moment = r.cells.moment } })
          ∙ (λ i. record p { version = sym version i; cells = record p.cells { ticks = r.cells.ticks; moment = r.cells.moment } });
    }
