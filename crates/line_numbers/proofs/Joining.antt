-- What a view that stands for all drawers says of each of them.
use Rattle.std.proofs.Common.{◌≡◌, ℕ, zero, suc, ◌≤◌, ◌<◌, List, [], ◌∷◌, ◌++◌, length, get_or, true, refl, sym, ap, ◌∙◌, subst, arith, length-append, min}
use Rattle.std.specs.Prelude.{All}
use mathlib.Core.Option.{some, some-injective}
use lib.ListN.{get_elem?}
use Rattle.atomic_table.specs.Table.{Final, Seen}
use Rattle.rate_types.specs.Sums.{total, one_if, times}
use Rattle.rate_types.proofs.Sums.{total_append, total_all, total_one}
use Rattle.line_numbers.specs.declared.rule.Setup.{Setup}
use Rattle.line_numbers.specs.declared.rule.DrawerView.{DrawerView}
use Rattle.line_numbers.specs.declared.drawer.Drawer.{Drawer}
use Rattle.line_numbers.specs.Rising.{IsDrawnOnce}
use Rattle.line_numbers.specs.Rule.{joined, IsLawful}
use Rattle.line_numbers.specs.Drawers.{drawn, is_told}
use Rattle.line_numbers.specs.Joins.{JoinsDrawers}
use Rattle.line_numbers.proofs.Rising.{times_append}

-- one drawer more
pub joins_more : (xs : List Drawer) (v : DrawerView) (d : Drawer) → JoinsDrawers xs v → JoinsDrawers (xs ++ d ∷ []) (joined v d.seat.me.0)
joins_more xs v d g = record {
  count = let c = g.count in let one = d.one in omega (arith, length-append xs (d ∷ []));
  drawn = λ n.
      let a = g.drawn n in
      let b = times_append n v.drawn (drawn d) in
      let c = total_append (λ (x : Drawer). times n (drawn x)) xs (d ∷ []) in
      omega arith;
  ends = let a = g.ends in let c = total_append (λ (x : Drawer). x.seat.me.0.ends) xs (d ∷ []) in omega arith;
}

at_length : {A : Type 0} (xs ys : List A) (y : A) → get_or (xs ++ y ∷ ys) (length xs) y ≡ y
at_length [] ys y = refl
at_length (x ∷ xs) ys y = at_length xs ys y

-- what holds of all holds of the next one
pub all_next : {A : Type 0} (P : A → Type 0) (xs ys zs rest : List A) (y : A) → All P zs → xs ++ rest ≡ zs → rest ≡ y ∷ ys → P y
all_next P xs ys zs rest y all whole here =
    let e : xs ++ y ∷ ys ≡ zs = ap (λ (l : List _). xs ++ l) (sym here) ∙ whole in
    subst P (at_length xs ys y) (subst (λ (l : List _). All P l) (sym e) all (length xs) y (omega (arith, length-append xs (y ∷ ys))))

-- what the last word and the joined view tell of the drawers
pub record Closes (o : Setup) (drawers : List Drawer) (asked : ℕ) : Type 0 where
  pub once : (n : ℕ) → IsDrawnOnce (min asked o.lines) n (total (λ d. times n (drawn d)) drawers)
  pub whole : All (λ d. is_told d ≡ true → o.lines ≤ asked) drawers

get_at : {A : Type 0} (xs : List A) (k : ℕ) (d : A) → k < length xs → get_elem? xs k ≡ some (get_or xs k d)
get_at [] k d h = absurd (omega arith)
get_at (x ∷ xs) zero d h = refl
get_at (x ∷ xs) (suc k) d h = get_at xs k d (omega arith)

pub closes : (o : Setup) (id : ℕ) (v : DrawerView) (drawers : List Drawer) (ws xs : List ℕ) (asked : ℕ) → JoinsDrawers drawers v → length drawers ≡ o.drawers
    → Final (Seen (IsLawful o) id v) ws xs → get_elem? ws 0 ≡ some asked → Closes o drawers asked
closes o id v drawers ws xs asked g every f word =
    let s = f.0 in
    let h = f.1.0 in
    let at = f.1.1 in
    let is : h.asked ≡ asked = some-injective _ _ (ap (λ (l : List ℕ). get_elem? l 0) (sym h.words ∙ f.2) ∙ word) in
    let c = g.count in
    let all = h.drawers in
    record {
      once = λ n.
          let t : total (λ (u : DrawerView). times n u.drawn) s.views ≡ times n v.drawn =
          total_all (λ (u : DrawerView). times n u.drawn) (λ (u : DrawerView). u.drawers) s.views id v (λ j u y none. ap (times n) ((h.each j u y).bare none)) at (omega arith) in
          subst (λ (x : ℕ). IsDrawnOnce (min x o.lines) n (total (λ d. times n (drawn d)) drawers)) is
          (subst (λ (x : ℕ). IsDrawnOnce (min h.asked o.lines) n x) (t ∙ g.drawn n) (h.once n));
      whole = λ k d le told.
          let this = get_or drawers k d in
          let one = this.ends in
          let b : one_if this.has_ended ≡ 1 = ap one_if told in
          let a = total_one (λ (x : Drawer). x.seat.me.0.ends) drawers k this (get_at drawers k d le) in
          let e = g.ends in
          let fit = (h.each id v at).ended (omega arith) in
          omega arith;
    }
