-- What a view that stands for all passes says of each of them.
use Rattle.std.proofs.Common.{◌≡◌, ℕ, zero, suc, ◌≤◌, List, [], ◌∷◌, ◌++◌, length, get_or, refl, sym, ap, ◌∙◌, subst, arith, length-append}
use Rattle.std.specs.Prelude.{All}
use Rattle.rate_types.proofs.Sums.{total_append}
use Rattle.shared_stats.specs.declared.rule.AdderView.{AdderView}
use Rattle.shared_stats.specs.declared.pass.StatsPass.{StatsPass}
use Rattle.shared_stats.specs.Rule.{amount_at, greatest_at, joined}
use Rattle.shared_stats.specs.Joins.{added_by, JoinsPasses}
use Rattle.shared_stats.proofs.Amounts.{greatest_append}

-- what holds of all, and of one more
all_push : {A : Type 0} (P : A → Type 0) (xs : List A) (y : A) → All P xs → P y → All P (xs ++ y ∷ [])
all_push P [] y all mine zero d lt = mine
all_push P [] y all mine (suc k) d lt = absurd (omega arith)
all_push P (x ∷ xs) y all mine zero d lt = all zero d (omega arith)
all_push P (x ∷ xs) y all mine (suc k) d lt = all_push P xs y (λ j e h. all (suc j) e (omega arith)) mine k d (omega arith)

-- one pass more
pub joins_more : (xs : List StatsPass) (v : AdderView) (p : StatsPass) → JoinsPasses xs v → JoinsPasses (xs ++ p ∷ []) (joined v p.seat.me.0)
joins_more xs v p g = record {
  count = let c = g.count in let one = p.one in omega (arith, length-append xs (p ∷ []));
  added = λ word.
      let a = g.added word in
      let b = total_append (amount_at word) v.added p.seat.me.0.added in
      let c = total_append (added_by word) xs (p ∷ []) in
      omega arith;
  found = all_push (λ q. (word : ℕ) → greatest_at word q.seat.me.0.found ≤ greatest_at word (joined v p.seat.me.0).found) xs p
      (λ k d lt word. let a = g.found k d lt word in let b = greatest_append word v.found p.seat.me.0.found in omega arith)
      (λ word. let b = greatest_append word v.found p.seat.me.0.found in omega arith);
}

at_length : {A : Type 0} (xs ys : List A) (y : A) → get_or (xs ++ y ∷ ys) (length xs) y ≡ y
at_length [] ys y = refl
at_length (x ∷ xs) ys y = at_length xs ys y

-- what holds of all holds of the next one
pub all_next : {A : Type 0} (P : A → Type 0) (xs ys zs rest : List A) (y : A) → All P zs → xs ++ rest ≡ zs → rest ≡ y ∷ ys → P y
all_next P xs ys zs rest y all whole here =
    let e : xs ++ y ∷ ys ≡ zs = ap (λ (l : List _). xs ++ l) (sym here) ∙ whole in
    subst P (at_length xs ys y) (subst (λ (l : List _). All P l) (sym e) all (length xs) y (omega (arith, length-append xs (y ∷ ys))))
