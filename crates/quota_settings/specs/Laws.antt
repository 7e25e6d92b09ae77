-- Inside: laws that proofs cite, here and in other crates. Equal names of buckets are the same list, by the order of names and by
-- their equality.
use Rattle.std.proofs.Common.{◌≡◌, ℕ, ◌&&◌, Bool, true, false, List, [], ◌∷◌, refl, ap, arith}
use Rattle.std.specs.declared.cmp.Ordering.{Ordering}
use Rattle.std.specs.declared.cmp.Ordering.TheVariants.{Less, Equal, Greater}
use Rattle.std.specs.Ordering.{nat_cmp, is_eq, ordering_then}
use Rattle.std.specs.Bool.{Decides}
use Rattle.std.specs.Cmp.{Equal-is}
use Rattle.std.specs.Cmp.Lexicographic.{slice_cmp, pointwise_decides, bytes_decides}
use Rattle.std.specs.FinMap.{IsAntisymmetric, nat_cmp-IsAntisymmetric, slice_cmp-IsAntisymmetric}
use Rattle.std.proofs.lemmas.Bool.Decides.{nat_tests}
use Rattle.rate_types.specs.Counters.{text_cmp, same_text}
use Rattle.quota_settings.specs.declared.pair.Pair.{Pair}
use Rattle.quota_settings.specs.Pairs.{pair_cmp, same_pair, pairs_cmp, same_pairs}

text_antisymmetric : IsAntisymmetric text_cmp
text_antisymmetric = slice_cmp-IsAntisymmetric nat_cmp-IsAntisymmetric

-- two orderings one after the other tie where both do
record BothEqual (r s : Ordering) : Type 0 where
  pub first : r ≡ Equal
  pub second : s ≡ Equal

both_equal : (r s : Ordering) → ordering_then r s ≡ Equal → BothEqual r s
both_equal Less s is = absurd (cc)
both_equal Equal s is = record { first = refl; second = is }
both_equal Greater s is = absurd (cc)

same_pair_by : (p q : Pair) → p.name ≡ q.name → p.value ≡ q.value → p ≡ q
same_pair_by p q n v = λ i. record { name = n i; value = v i }

pair_antisymmetric : IsAntisymmetric pair_cmp
pair_antisymmetric p q is =
    let both = both_equal (text_cmp p.name q.name) (text_cmp p.value q.value) is in
    same_pair_by p q (text_antisymmetric p.name q.name both.first) (text_antisymmetric p.value q.value both.second)

pairs_antisymmetric : IsAntisymmetric pairs_cmp
pairs_antisymmetric = slice_cmp-IsAntisymmetric pair_antisymmetric

-- names that the order holds equal are the same
pub same_by_cmp : (a b : List Pair) → is_eq (pairs_cmp a b) ≡ true → a ≡ b
same_by_cmp a b is = pairs_antisymmetric a b ((Equal-is (pairs_cmp a b)).0 is)

slice_itself : {X : Type 0} (R : X → X → Ordering) → ((x : X) → R x x ≡ Equal) → (xs : List X) → slice_cmp R xs xs ≡ Equal
slice_itself R same [] = refl
slice_itself R same (x ∷ xs) = rw (same x) (slice_itself R same xs)

nat_itself : (n : ℕ) → nat_cmp n n ≡ Equal
nat_itself n = grind (arith, nat_tests)

pair_itself : (p : Pair) → pair_cmp p p ≡ Equal
pair_itself p = rw (slice_itself nat_cmp nat_itself p.name, slice_itself nat_cmp nat_itself p.value) refl

pub cmp_of_same : (a : List Pair) → is_eq (pairs_cmp a a) ≡ true
cmp_of_same a = rw (slice_itself pair_cmp pair_itself a) refl

both_true : (s t : Bool) → (s && t) ≡ true → (s ≡ true) × (t ≡ true)
both_true true true is = (refl, refl)
both_true true false is = absurd (cc)
both_true false t is = absurd (cc)

pair_decides : (p q : Pair) → Decides (same_pair p q) (p ≡ q)
pair_decides p q = (
  λ is. (let both = both_true (same_text p.name q.name) (same_text p.value q.value) is in
      same_pair_by p q ((bytes_decides p.name q.name).0 both.0) ((bytes_decides p.value q.value).0 both.1)),
  λ e. rw ((bytes_decides p.name q.name).1 (ap (λ (x : Pair). x.name) e), (bytes_decides p.value q.value).1 (ap (λ (x : Pair). x.value) e))
      refl,
)

pub pairs_decides : (a b : List Pair) → Decides (same_pairs a b) (a ≡ b)
pairs_decides = pointwise_decides pair_decides

pub same_by_eq : (a b : List Pair) → same_pairs a b ≡ true → a ≡ b
same_by_eq a b is = (pairs_decides a b).0 is

pub eq_of_same : (a b : List Pair) → a ≡ b → same_pairs a b ≡ true
eq_of_same a b is = (pairs_decides a b).1 is
