-- What a view that stands for all tokens says of each of them.
use Rattle.std.proofs.Common.{◌≡◌, ℕ, zero, suc, ◌<◌, List, [], ◌∷◌, ◌++◌, length, map, refl, sym, ap, ◌∙◌, subst, arith, length-append}
use Rattle.std.proofs.lemmas.List.{map-append}
use Rattle.std.specs.Prelude.{All, slice_index_or}
use mathlib.Core.Option.{some}
use mathlib.Core.List.{IsPrefix}
use lib.ListN.{get_elem?}
use Rattle.atomic_table.proofs.Lists.{at_map}
use Rattle.told_list.specs.declared.rule.TokenView.{TokenView}
use Rattle.rate_types.specs.Sums.{times}
use Rattle.told_list.specs.Rule.{joined}
use Rattle.told_list.specs.Joins.{JoinsTokens}
use Rattle.rate_types.proofs.Sums.{total_append}
use Rattle.told_list.proofs.Sums.{times_append}

at_or : {A : Type 0} (l : List A) (k : ℕ) (d : A) → k < length l → get_elem? l k ≡ some (slice_index_or l k d)
at_or [] k d h = absurd (omega arith)
at_or (x ∷ xs) zero d h = refl
at_or (x ∷ xs) (suc k) d h = at_or xs k d (omega arith)

module _ {P T : Type 0} (list_known : P → List T) (places_of : P → List ℕ) where
  -- one token more
  pub joins_more : (passes : List P) (v w : TokenView T) (p : P) → JoinsTokens list_known places_of passes v → w.tokens ≡ 1 → w.known ≡ list_known p
      → w.own ≡ places_of p → JoinsTokens list_known places_of (passes ++ p ∷ []) (joined v w)
  joins_more passes v w p g one knows owns = record {
    tokens = omega (arith, g.tokens, one, length-append passes (p ∷ []));
    joined_lists = ap (λ (l : List (List T)). l ++ w.known ∷ []) g.joined_lists ∙ ap (λ (l : List T). map list_known passes ++ l ∷ []) knows
        ∙ sym (map-append list_known passes (p ∷ []));
    own = λ n. omega (arith, g.own n, times_append n v.own w.own, ap (times n) owns, total_append (λ (x : P). times n (places_of x)) passes (p ∷ []));
    rests = g.rests;
  }

  pub prefixes_of : (passes : List P) (v : TokenView T) (ys : List T) → JoinsTokens list_known places_of passes v
      → ((i : ℕ) (xs : List T) → get_elem? v.joined_lists i ≡ some xs → IsPrefix xs ys) → All (λ p. IsPrefix (list_known p) ys) passes
  prefixes_of passes v ys g h k d le =
      h k (list_known (slice_index_or passes k d)) (ap (λ (l : List (List T)). get_elem? l k) g.joined_lists
      ∙ at_map list_known passes k (slice_index_or passes k d) (at_or passes k d le))

at_length : {A : Type 0} (xs ys : List A) (y : A) → slice_index_or (xs ++ y ∷ ys) (length xs) y ≡ y
at_length [] ys y = refl
at_length (x ∷ xs) ys y = at_length xs ys y

-- what holds of all holds of the next one
pub all_next : {A : Type 0} (P : A → Type 0) (xs ys zs rest : List A) (y : A) → All P zs → xs ++ rest ≡ zs → rest ≡ y ∷ ys → P y
all_next P xs ys zs rest y all whole here =
    let e : xs ++ y ∷ ys ≡ zs = ap (λ (l : List _). xs ++ l) (sym here) ∙ whole in
    subst P (at_length xs ys y) (subst (λ (l : List _). All P l) (sym e) all (length xs) y (omega (arith, length-append xs (y ∷ ys))))
