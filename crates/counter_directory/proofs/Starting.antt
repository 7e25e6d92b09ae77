-- The start.
use Rattle.std.proofs.Common.{◌≡◌, ℕ, zero, suc, ◌%◌, ◌≤◌, List, [], ◌∷◌, ◌++◌, length, refl, sym, ap, ◌∙◌, subst, arith, ⊎_elim}
use Rattle.std.specs.Prelude.{ltb, vec_capacity}
use Rattle.std.proofs.lemmas.Bool.{le-ltb}
use mathlib.Core.Option.{some, some-ne-none}
use lib.ListN.{get_elem?}
use Rattle.counter_directory.proofs.Lists.{at_snoc}
use Rattle.rate_types.specs.Sums.{one_if, times}
use Rattle.counter_cells.specs.declared.view.CellView.{CellView}
use Rattle.counter_directory.specs.declared.claim.Claim.{Claim}
use Rattle.counter_directory.specs.declared.ring.Ring.{Ring}
use Rattle.counter_cells.specs.declared.answers.Spot.{Spot}
use Rattle.counter_directory.specs.Claims.{IsLawfulClaims}
use Rattle.counter_directory.specs.Pool.{IsLawfulPool, ring_times}
use Rattle.counter_directory.specs.TableFits.{GatesFit}
use Rattle.counter_directory.specs.Windows.{RingWindows, AreEmpty, AreRoomy, len_of}

none_in : (k : ℕ) (rings : List Ring) → AreEmpty rings → ring_times k rings ≡ 0
none_in k [] e = refl
none_in k (r ∷ rs) e = let a : times k r.cells.items ≡ 0 = ap (times k) (e 0 r refl).0 in let b = none_in k rs (λ u s at. e (suc u) s at) in omega arith

pub pool_start : (cells last : ℕ) (claims : List Claim) (rings : List Ring) (expired held : List ℕ) (reserved : List Spot) → claims ≡ [] → expired ≡ [] → held ≡ []
    → reserved ≡ [] → AreEmpty rings → IsLawfulPool cells last 0 0 claims rings expired held reserved
pool_start cells last claims rings expired held reserved c o h t e =
    subst (λ l. IsLawfulPool cells last 0 0 l rings expired held reserved) (sym c) (subst (λ l. IsLawfulPool cells last 0 0 [] rings l held reserved) (sym o)
    (subst (λ l. IsLawfulPool cells last 0 0 [] rings [] l reserved) (sym h) (subst (λ l. IsLawfulPool cells last 0 0 [] rings [] [] l) (sym t) (record {
      once = λ k. let a = none_in k rings e in let b : one_if (ltb k 0) ≡ 0 = ap one_if (le-ltb k 0 (omega arith)) in omega arith;
      most = omega arith;
      never = λ k l. refl;
      ringed = λ u r at k l. let z : times k r.cells.items ≡ 0 = ap (times k) (e u r at).0 in absurd (omega arith);
      ended = λ k l. absurd (omega arith);
      numbered = λ k. omega arith;
      moment = omega arith;
    }))))

pub lawful_start : (cells most : ℕ) (claims : List Claim) → claims ≡ [] → IsLawfulClaims cells most claims
lawful_start cells most claims e = subst (λ (l : List Claim). IsLawfulClaims cells most l) (sym e) (λ i x at. absurd (some-ne-none x (sym at)))

zero_mod : (u : ℕ) → 0 % len_of u ≡ 0
zero_mod zero = refl
zero_mod (suc zero) = refl
zero_mod (suc (suc zero)) = refl
zero_mod (suc (suc (suc n))) = refl

pub windows_start : (last : ℕ) (rings : List Ring) → AreEmpty rings → RingWindows last rings
windows_start last rings e u r at = let z = (e u r at).1 in (ap (λ n. n % len_of u) z ∙ zero_mod u, omega arith)

pub empty_more : (rings new : List Ring) (r : Ring) → new ≡ rings ++ r ∷ [] → r.cells.items ≡ [] → r.end ≡ 0 → AreEmpty rings → AreEmpty new
empty_more rings new r e none end all u s at =
    ⊎_elim (λ h. all u s h) (λ h. (ap (λ (q : Ring). q.cells.items) (sym h) ∙ none, ap (λ (q : Ring). q.end) (sym h) ∙ end))
    (at_snoc rings r s u (subst (λ l. get_elem? l u ≡ some s) e at))

pub gates_start : (v : CellView) (cells n last next_claim : ℕ) (claims : List Claim) (waiting : List Spot) → length v.cells ≡ n → cells ≡ n → v.used_claims ≡ [] → next_claim ≡ 0
    → claims ≡ [] → waiting ≡ [] → GatesFit v cells last next_claim claims waiting
gates_start v cells n last next_claim claims waiting long size none none_used c w = record {
  long = long ∙ sym size;
  count = ap (λ (l : List ℕ). length l) none ∙ sym none_used;
  new = λ k l. ap (times k) none;
  shut = λ i p at. absurd (some-ne-none p (sym (subst (λ (l : List Spot). get_elem? l i ≡ some p) w at)));
  opened = λ i x at l. absurd (some-ne-none x (sym (subst (λ (l : List Claim). get_elem? l i ≡ some x) c at)));
}

pub roomy_more : (n : ℕ) (rings new : List Ring) (r : Ring) → new ≡ rings ++ r ∷ [] → n ≤ vec_capacity r.cells → AreRoomy n rings → AreRoomy n new
roomy_more n rings new r e room all u s at =
    ⊎_elim (λ h. all u s h) (λ h. subst (λ (q : Ring). n ≤ vec_capacity q.cells) h room) (at_snoc rings r s u (subst (λ l. get_elem? l u ≡ some s) e at))
