-- The numbers of two tallies together.
use Rattle.std.proofs.Common.{◌≡◌, ℕ, zero, suc, ◌+◌, ◌<◌, ◌⊎◌, List, [], ◌∷◌, ◌++◌, get_or, length, take, slice_set, refl, sym, ap, ap₂, ◌∙◌, arith, subst, inl, inr}
use Rattle.std.proofs.lemmas.Bool.{cases_eq}
use Rattle.std.proofs.lemmas.List.{get_or-set_same, get_or-set_other}
use Rattle.rule_stats.specs.declared.numbers.RuleNumbers.{RuleNumbers}
use Rattle.rule_stats.specs.Statistics.{Note, nothing, added}
use Rattle.rule_stats.specs.Sums.{plus, sums, numbers_at, AreSums, IsBelow, AreBelow, AllBelow}
use Rattle.rule_stats.proofs.Adding.{plus_nothing, nothing_plus, plus_in_turn, any_default}

-- the item at the end of a front
take_end : {X : Type 0} → (xs : List X) (p : ℕ) (d : X) → get_or (take p xs) p d ≡ d
take_end [] zero d = refl
take_end [] (suc p) d = refl
take_end (x ∷ xs) zero d = refl
take_end (x ∷ xs) (suc p) d = take_end xs p d

-- a front with one item more has it
take_same : {X : Type 0} → (xs : List X) (p : ℕ) (d : X) → get_or (take (suc p) xs) p d ≡ get_or xs p d
take_same [] zero d = refl
take_same [] (suc p) d = refl
take_same (x ∷ xs) zero d = refl
take_same (x ∷ xs) (suc p) d = take_same xs p d

-- and the others are what they were
take_other : {X : Type 0} → (xs : List X) (p i : ℕ) (d : X) → (p ≡ i → ⊥) → get_or (take (suc p) xs) i d ≡ get_or (take p xs) i d
take_other [] zero i d other = refl
take_other [] (suc p) i d other = refl
take_other (x ∷ xs) zero zero d other = absurd (other refl)
take_other (x ∷ xs) zero (suc i) d other = refl
take_other (x ∷ xs) (suc p) zero d other = refl
take_other (x ∷ xs) (suc p) (suc i) d other = take_other xs p i d (λ e. other (ap suc e))

one_behind : (n : ℕ) → suc n ≡ n + 1
one_behind n = omega arith

-- Versions `ys` that have the numbers of `os` added to those of `xs` up to a place, at which `old` and `other` stand.
module _ (xs ys os : List (List RuleNumbers)) (p : ℕ) (there : p < length ys)
    (have : (v r : ℕ) → numbers_at ys v r ≡ plus (numbers_at xs v r) (numbers_at (take p os) v r))
    (old : List RuleNumbers) (is_old : old ≡ get_or ys p old) where
  here : (r : ℕ) → get_or old r nothing ≡ numbers_at xs p r
  here r = ap (λ (ns : List RuleNumbers). get_or ns r nothing) (is_old ∙ any_default ys p old [] there) ∙ have p r
      ∙ ap (λ (ns : List RuleNumbers). plus (numbers_at xs p r) (get_or ns r nothing)) (take_end os p []) ∙ plus_nothing (numbers_at xs p r)

  pub here_below : (n : ℕ) → AllBelow n xs → AreBelow n old
  here_below n below r = subst (IsBelow n) (sym (here r)) (below p r)

  -- With the next they have those of one place more.
  pub next_version : (other : List RuleNumbers) → p < length os → other ≡ get_or os p other → (new : List RuleNumbers)
      → ((r : ℕ) → get_or new r nothing ≡ plus (get_or old r nothing) (get_or other r nothing))
      → (v r : ℕ) → numbers_at (slice_set ys p new) v r ≡ plus (numbers_at xs v r) (numbers_at (take (p + 1) os) v r)
  next_version other h is_other new is v r =
      subst (λ (n : ℕ). numbers_at (slice_set ys p new) v r ≡ plus (numbers_at xs v r) (numbers_at (take n os) v r)) (one_behind p) (by (cases_eq p v))
    where
      at : List RuleNumbers → RuleNumbers
      at ns = get_or ns r nothing

      by : (p ≡ v) ⊎ (p ≡ v → ⊥) → numbers_at (slice_set ys p new) v r ≡ plus (numbers_at xs v r) (numbers_at (take (suc p) os) v r)
      by (inl e) = subst (λ (k : ℕ). numbers_at (slice_set ys p new) k r ≡ plus (numbers_at xs k r) (numbers_at (take (suc p) os) k r)) e
          (ap at (get_or-set_same ys p new [] there) ∙ is r
          ∙ ap₂ plus (here r) (ap at (is_other ∙ any_default os p other [] h ∙ sym (take_same os p []))))
      by (inr differs) = ap at (get_or-set_other ys p v new [] (λ e. differs (sym e))) ∙ have v r
          ∙ ap (λ (ns : List RuleNumbers). plus (numbers_at xs v r) (get_or ns r nothing)) (sym (take_other os p v [] differs))

-- a version that is there is as far below as all are
pub there_below : (n : ℕ) (os : List (List RuleNumbers)) (p : ℕ) (other : List RuleNumbers) → p < length os → other ≡ get_or os p other
    → AllBelow n os → AreBelow n other
there_below n os p other h is_other below = subst (AreBelow n) (sym (is_other ∙ any_default os p other [] h)) (below p)

-- The sums over two lists are those over both together.
pub sums_both : (version rule : ℕ) (ns ms : List Note) → sums version rule (ns ++ ms) ≡ plus (sums version rule ns) (sums version rule ms)
sums_both version rule [] ms = sym (nothing_plus (sums version rule ms))
sums_both version rule (n ∷ ns) ms = ap (plus (added version rule n)) (sums_both version rule ns ms)
    ∙ plus_in_turn (added version rule n) (sums version rule ns) (sums version rule ms)

-- Versions that have the numbers of two others added are summed up from the statuses of both.
pub merged_sums : (xs os zs : List (List RuleNumbers)) → ((v r : ℕ) → numbers_at zs v r ≡ plus (numbers_at xs v r) (numbers_at os v r))
    → (mine others : List Note) → AreSums mine xs → AreSums others os → AreSums (mine ++ others) zs
merged_sums xs os zs merged mine others these those v r = merged v r ∙ ap₂ plus (these v r) (those v r) ∙ sym (sums_both v r mine others)
