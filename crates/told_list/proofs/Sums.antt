-- Sums over the views after a step of one of them, and the places of a list.
use Rattle.std.proofs.Common.{◌≡◌, ◌≢◌, ℕ, zero, suc, ◌+◌, ◌≤◌, ◌<◌, ◌==◌, List, [], ◌∷◌, ◌++◌, length, Bool, true, false, refl, sym, ap, ◌∙◌, subst, ⊎_elim, arith}
use Rattle.std.proofs.Common.{length-append, append_assoc, drop}
use Rattle.std.proofs.lemmas.Bool.Decides.{nat_tests}
use Rattle.std.proofs.Math.Seq.{drop-append_seam}
use mathlib.Core.Option.{some}
use mathlib.Core.List.{IsPrefix}
use lib.ListN.{get_elem?}
use native.Mathlib.Decide.{dec_lt}
use Rattle.atomic_table.proofs.Lists.{at_snoc}
use Rattle.rate_types.specs.Sums.{one_if, times}
use Rattle.rate_types.proofs.Sums.{total_append}
use Rattle.told_list.specs.Lists.{count_from, IsOwnedOnce}

module _ {A : Type 0} where
  pub prefix_self : (xs : List A) → IsPrefix xs xs
  prefix_self [] = ([], refl)
  prefix_self (x ∷ xs) = (let r = prefix_self xs in r.0, ap (λ ys. x ∷ ys) (prefix_self xs).1)

  pub prefix_more : (xs ys zs : List A) → IsPrefix xs ys → IsPrefix xs (ys ++ zs)
  prefix_more xs ys zs p = (p.0 ++ zs, sym (append_assoc xs p.0 zs) ∙ ap (λ l. l ++ zs) p.1)

  pub prefix_length : (xs ys : List A) → IsPrefix xs ys → length xs ≤ length ys
  prefix_length xs ys p = omega (arith, length-append xs p.0, ap length p.1)

  pub each_snoc : (P : A → Type 0) (views : List A) (w : A) → ((j : ℕ) (u : A) → get_elem? views j ≡ some u → P u) → P w → (j : ℕ) (u : A) → get_elem? (views ++ w ∷ []) j ≡ some u
      → P u
  each_snoc P views w others mine j u e = ⊎_elim (λ x. others j u x) (λ (x : w ≡ u). subst P x mine) (at_snoc views w u j e)

pub one_true : (b : Bool) → one_if b ≡ 0 → b ≡ false
one_true false e = refl
one_true true e = absurd (omega arith)

pub true_one : (b : Bool) → b ≡ true → one_if b ≡ 1
true_one b e = ap one_if e

pub false_none : (b : Bool) → b ≡ false → one_if b ≡ 0
false_none b e = ap one_if e

from_more : (p n k owned : ℕ) (b : Bool) → (n == p) ≡ b → IsOwnedOnce (suc n) (suc n + k) p owned → IsOwnedOnce n (n + suc k) p (one_if b + owned)
from_more p n k owned true is r =
    let at : p ≡ n = grind (arith, nat_tests) in let e : owned ≡ 0 = r.early (omega arith) in
    record { early = λ h. absurd (omega arith); there = λ a b. omega arith; late = λ h. absurd (omega arith) }
from_more p n k owned false is r =
    let off : p ≢ n = grind (arith, nat_tests) in
    record {
      early = λ h. let e = r.early (omega arith) in omega arith;
      there = λ a b. let e = r.there (omega arith) (omega arith) in omega arith;
      late = λ h. let e = r.late (omega arith) in omega arith;
    }

-- the k numbers from n on have each of them once
pub times_from : (p n k : ℕ) → IsOwnedOnce n (n + k) p (times p (count_from n k))
times_from p n zero = record { early = λ h. refl; there = λ a b. absurd (omega arith); late = λ h. refl }
times_from p n (suc k) = from_more p n k (times p (count_from (suc n) k)) (n == p) refl (times_from p (suc n) k)

pub times_append : (p : ℕ) (xs ys : List ℕ) → times p (xs ++ ys) ≡ times p xs + times p ys
times_append p xs ys = total_append (λ x. one_if (x == p)) xs ys

-- a turn's places come behind those that were there
pub owned_more : (first len now p old new after k : ℕ) → IsOwnedOnce first len p old → IsOwnedOnce len (len + k) p new → after ≡ old + new → now ≡ len + k → first ≤ len
    → IsOwnedOnce first now p after
owned_more first len now p old new after k r n sum is le = record {
  early = λ h. let a = r.early h in let b = n.early (omega arith) in omega arith;
  there = λ a b. split (dec_lt p len) a b;
  late = λ h. let a = r.late (omega arith) in let b = n.late (omega arith) in omega arith;
}
  where
    split : Dec (p < len) → first ≤ p → p < now → after ≡ 1
    split (yes d) a b = let x = r.there a d in let y = n.early d in omega arith
    split (no d) a b = let x = r.late (omega arith) in let y = n.there (omega arith) (omega arith) in omega arith

-- what lies behind a prefix, put behind it
pub prefix_rest : {A : Type 0} (xs ys : List A) → IsPrefix xs ys → xs ++ drop (length xs) ys ≡ ys
prefix_rest xs ys p = ap (λ (l : List _). xs ++ l) (ap (drop (length xs)) (sym p.1) ∙ drop-append_seam xs p.0) ∙ p.1
