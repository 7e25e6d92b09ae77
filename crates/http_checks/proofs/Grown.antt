-- What a pass knew and did it still knows and has done.
use Rattle.std.proofs.Common.{◌≡◌, ℕ, ◌+◌, ◌≤◌, ◌==◌, ◌&&◌, List, [], ◌∷◌, ◌++◌, sym, ap, ◌∙◌, subst, arith, append_assoc}
use Rattle.std.proofs.lemmas.List.{append-nil}
use Rattle.std.specs.List.{AllByRecursion}
use mathlib.Core.List.{IsPrefix}
use Rattle.rate_types.specs.Sums.{total, one_if}
use Rattle.rate_types.proofs.Sums.{total_append}
use Rattle.rate_types.specs.Counters.{same_counter}
use Rattle.rate_types.specs.Ledger.{Charge, Sight}
use Rattle.rate_types.specs.declared.counter_key.CounterKey.{CounterKey}
use Rattle.counter_cells.specs.declared.view.CellView.{CellView}
use Rattle.counter_cells.specs.declared.view.Charge as cell_charge
use Rattle.counter_directory.specs.declared.claim.Claim.{Claim}
use Rattle.rate_limiter.specs.Named.{claimed_as, AreNamed}
use Rattle.rate_limiter.specs.Values.{HasValue, HasSight, HasSights}
use Rattle.rate_limiter.proofs.Places.{all_weaker}

module _ {A : Type 0} where
  pub prefix_self : (xs : List A) → IsPrefix xs xs
  prefix_self xs = ([], append-nil xs)

  pub prefix_same : (xs ys : List A) → ys ≡ xs → IsPrefix xs ys
  prefix_same xs ys e = subst (λ (l : List A). IsPrefix xs l) (sym e) (prefix_self xs)

  pub prefix_on : (xs ys zs : List A) → IsPrefix xs ys → IsPrefix ys zs → IsPrefix xs zs
  prefix_on xs ys zs p q = (p.0 ++ q.0, sym (append_assoc xs p.0 q.0) ∙ ap (λ l. l ++ q.0) p.1 ∙ q.1)

  pub prefix_added : (xs ys zs ws : List A) → IsPrefix xs ys → ws ≡ ys ++ zs → IsPrefix xs ws
  prefix_added xs ys zs ws p e = (p.0 ++ zs, sym (append_assoc xs p.0 zs) ∙ ap (λ l. l ++ zs) p.1 ∙ sym e)

claimed_grows : (q : CounterKey) (n : ℕ) (xs ys : List Claim) → IsPrefix xs ys → claimed_as q n xs ≤ claimed_as q n ys
claimed_grows q n xs ys p =
    let a = total_append (λ (x : Claim). one_if (same_counter x.key q && (x.claim == n))) xs p.0 in
    let e = ap (claimed_as q n) p.1 in
    omega arith

-- a ledger that was named by earlier claims is named by all
pub named_grows : (xs ys : List Claim) → IsPrefix xs ys → (us : List (Charge ℕ)) (vs : List (Charge CounterKey)) → AreNamed xs us vs → AreNamed ys us vs
named_grows xs ys p [] [] a = tt
named_grows xs ys p [] (v ∷ vs) a = absurd a
named_grows xs ys p (u ∷ us) [] a = absurd a
named_grows xs ys p (u ∷ us) (v ∷ vs) a =
    let g = claimed_grows v.counter u.counter xs ys p in
    let o = a.0.bound in
    (record { bound = omega arith; before = a.0.before; hits = a.0.hits }, named_grows xs ys p us vs a.1)

pub named_append : (c : List Claim) (us : List (Charge ℕ)) (vs : List (Charge CounterKey)) (us' : List (Charge ℕ)) (vs' : List (Charge CounterKey))
    → AreNamed c us vs → AreNamed c us' vs' → AreNamed c (us ++ us') (vs ++ vs')
named_append c [] [] us' vs' a b = b
named_append c [] (v ∷ vs) us' vs' a b = absurd a
named_append c (u ∷ us) [] us' vs' a b = absurd a
named_append c (u ∷ us) (v ∷ vs) us' vs' a b = (a.0, named_append c us vs us' vs' a.1 b)

value_grows : (claim value : ℕ) (v w : CellView) → IsPrefix v.looks w.looks → IsPrefix v.charges w.charges → HasValue claim value v → HasValue claim value w
value_grows claim value v w looks charges h =
    let a = total_append (λ (p : ℕ × ℕ). one_if ((p.0 == claim) && (p.1 == value))) v.looks looks.0 in
    let c = total_append (λ (x : cell_charge.Charge). one_if ((x.claim == claim) && (x.before + x.hits == value))) v.charges charges.0 in
    let e = ap (total (λ (p : ℕ × ℕ). one_if ((p.0 == claim) && (p.1 == value)))) looks.1 in
    let f = ap (total (λ (x : cell_charge.Charge). one_if ((x.claim == claim) && (x.before + x.hits == value)))) charges.1 in
    omega arith

pub sight_grows : (c d : List Claim) (v w : CellView) → IsPrefix c d → IsPrefix v.looks w.looks → IsPrefix v.charges w.charges → (x : Sight CounterKey) → HasSight c v x
    → HasSight d w x
sight_grows c d v w claims looks charges x h =
    let g = claimed_grows x.counter h.0 c d claims in
    let o = h.1 in
    (h.0, omega arith, value_grows h.0 x.seen v w looks charges h.2)

-- sights that a pass had it has
pub sights_grow : (c d : List Claim) (v w : CellView) → IsPrefix c d → IsPrefix v.looks w.looks → IsPrefix v.charges w.charges → (xs : List (Sight CounterKey)) → HasSights c v xs
    → HasSights d w xs
sights_grow c d v w claims looks charges xs h = all_weaker (HasSight c v) (HasSight d w) (sight_grows c d v w claims looks charges) xs h
