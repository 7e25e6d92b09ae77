-- What moves a cell from one list to another keeps the pool lawful.
use Rattle.std.proofs.Common.{◌≡◌, ◌≢◌, ◌⊎◌, ℕ, zero, suc, ◌+◌, ◌≤◌, ◌<◌, ◌==◌, List, [], ◌∷◌, ◌++◌, length, take, set, Bool, true, false, cond, refl, sym, ap, ◌∙◌, subst, arith}
use Rattle.std.specs.Prelude.{ltb, vec_capacity}
use native.Mathlib.Decide.{ℕ_discrete}
use Rattle.std.proofs.Common.{inl, inr, ⊎_elim, eq-eqb}
use Rattle.std.proofs.lemmas.Bool.{ne_eqb}
use Rattle.rate_types.proofs.Sums.{cond_yes, cond_no}
use mathlib.Core.Option.{some-ne-none, some-injective}
use Rattle.counter_directory.proofs.Lists.{at_set, empty}
use Rattle.std.proofs.lemmas.Bool.Decides.{nat_tests}
use mathlib.Core.Option.{some}
use lib.ListN.{get_elem?}
use Rattle.rate_types.specs.Sums.{one_if, times}
use Rattle.counter_directory.specs.declared.claim.Claim.{Claim}
use Rattle.counter_directory.specs.declared.ring.Ring.{Ring}
use Rattle.counter_directory.specs.Claims.{claims_of, Fits, IsLawfulClaims, last_end, end_of}
use Rattle.counter_cells.specs.declared.answers.Spot.{Spot}
use Rattle.counter_directory.specs.Pool.{IsLawfulPool, ring_times, spot, reserved_on}
use Rattle.counter_directory.specs.Windows.{ExpiredBelow, KeepsFits, AreRoomy}
use Rattle.rate_types.proofs.Sums.{total_append, total_push, total_set, total_one}
use Rattle.counter_directory.proofs.Sums.{last_end_push, last_of_push}

pub one_most : (b : Bool) → one_if b ≤ 1
one_most true = omega arith
one_most false = omega arith

pub one_more : (c next_claim : ℕ) → one_if (ltb c next_claim) + one_if (next_claim == c) ≡ one_if (ltb c (next_claim + 1))
one_more c next_claim = grind (arith, nat_tests)

pub expired_to_reserved : (cells last fresh next_claim k : ℕ) (claims : List Claim) (rings : List Ring) (expired held : List ℕ) (reserved : List Spot)
    → IsLawfulPool cells last fresh next_claim claims rings (expired ++ k ∷ []) held reserved
    → IsLawfulPool cells last fresh (next_claim + 1) claims rings expired held (reserved ++ (spot k next_claim) ∷ [])
expired_to_reserved cells last fresh next_claim k claims rings expired held reserved f = record {
  once = λ j. let a = total_push (λ x. one_if (x == j)) expired k in let b = total_push (λ (p : Spot). one_if (p.cell == j)) reserved (spot k next_claim) in let o = f.once j in
      omega arith;
  most = f.most;
  never = f.never;
  ringed = f.ringed;
  ended = λ j h. let a = total_push (λ x. one_if (x == j)) expired k in let b = total_push (λ (p : Spot). one_if (p.cell == j)) reserved (spot k next_claim) in
      f.ended j (omega arith);
  numbered = λ c. let b = total_push (λ (p : Spot). one_if (p.claim == c)) reserved (spot k next_claim) in let o = f.numbered c in let m = one_more c next_claim in omega arith;
  moment = f.moment;
}

pub expired_to_held : (cells last fresh next_claim k : ℕ) (claims : List Claim) (rings : List Ring) (expired held : List ℕ) (reserved : List Spot)
    → IsLawfulPool cells last fresh next_claim claims rings (expired ++ k ∷ []) held reserved
    → IsLawfulPool cells last fresh next_claim claims rings expired (held ++ k ∷ []) reserved
expired_to_held cells last fresh next_claim k claims rings expired held reserved f = record {
  once = λ j. let a = total_push (λ x. one_if (x == j)) expired k in let b = total_push (λ x. one_if (x == j)) held k in let o = f.once j in omega arith;
  most = f.most;
  never = f.never;
  ringed = f.ringed;
  ended = λ j h. let a = total_push (λ x. one_if (x == j)) expired k in let b = total_push (λ x. one_if (x == j)) held k in f.ended j (omega arith);
  numbered = f.numbered;
  moment = f.moment;
}

pub held_to_expired : (cells last fresh next_claim : ℕ) (claims : List Claim) (rings : List Ring) (expired held : List ℕ) (reserved : List Spot)
    → IsLawfulPool cells last fresh next_claim claims rings expired held reserved → IsLawfulPool cells last fresh next_claim claims rings (expired ++ held) [] reserved
held_to_expired cells last fresh next_claim claims rings expired held reserved f = record {
  once = λ j. let a = total_append (λ x. one_if (x == j)) expired held in let o = f.once j in omega arith;
  most = f.most;
  never = f.never;
  ringed = f.ringed;
  ended = λ j h. let a = total_append (λ x. one_if (x == j)) expired held in f.ended j (omega arith);
  numbered = f.numbered;
  moment = f.moment;
}

pub fresh_to_reserved : (cells last fresh next_claim : ℕ) (claims : List Claim) (rings : List Ring) (expired held : List ℕ) (reserved : List Spot) → fresh < cells
    → IsLawfulPool cells last fresh next_claim claims rings expired held reserved
    → IsLawfulPool cells last (fresh + 1) (next_claim + 1) claims rings expired held (reserved ++ (spot fresh next_claim) ∷ [])
fresh_to_reserved cells last fresh next_claim claims rings expired held reserved room f = record {
  once = λ j. let b = total_push (λ (p : Spot). one_if (p.cell == j)) reserved (spot fresh next_claim) in let o = f.once j in let m = one_more j fresh in omega arith;
  most = omega arith;
  never = λ j h. f.never j (omega arith);
  ringed = f.ringed;
  ended = λ j h. let b = total_push (λ (p : Spot). one_if (p.cell == j)) reserved (spot fresh next_claim) in pick j h b (ℕ_discrete j fresh);
  numbered = λ c. let b = total_push (λ (p : Spot). one_if (p.claim == c)) reserved (spot fresh next_claim) in let o = f.numbered c in let m = one_more c next_claim in
      omega arith;
  moment = f.moment;
}
  where
    pick : (j : ℕ) → 1 ≤ times j expired + times j held + reserved_on j (reserved ++ (spot fresh next_claim) ∷ [])
        → reserved_on j (reserved ++ (spot fresh next_claim) ∷ []) ≡ reserved_on j reserved + one_if (fresh == j) → Dec (j ≡ fresh) → last_end 0 j claims ≤ last
    pick j h b (yes e) = let z = f.never j (omega arith) in omega arith
    pick j h b (no n) = let z : one_if (fresh == j) ≡ 0 = grind (arith, nat_tests) in f.ended j (omega arith)

-- the moment goes up
pub later : (cells last m fresh next_claim : ℕ) (claims : List Claim) (rings : List Ring) (expired held : List ℕ) (reserved : List Spot) → last ≤ m
    → IsLawfulPool cells last fresh next_claim claims rings expired held reserved → IsLawfulPool cells m fresh next_claim claims rings expired held reserved
later cells last m fresh next_claim claims rings expired held reserved le f = record {
  once = f.once;
  most = f.most;
  never = f.never;
  ringed = f.ringed;
  ended = λ j h. let e = f.ended j h in omega arith;
  numbered = f.numbered;
  moment = let e = f.moment in omega arith;
}

-- a ring whose window has ended is emptied
pub ring_to_expired : (cells last fresh next_claim u : ℕ) (r s : Ring) (claims : List Claim) (rings : List Ring) (expired held : List ℕ) (reserved : List Spot)
    → get_elem? rings u ≡ some r → r.end ≤ last → s.end ≡ r.end → s.cells.items ≡ [] → IsLawfulPool cells last fresh next_claim claims rings expired held reserved
    → IsLawfulPool cells last fresh next_claim claims (set rings u s) (expired ++ r.cells.items) held reserved
ring_to_expired cells last fresh next_claim u r s claims rings expired held reserved at le end none f = record {
  once = λ j. let a = total_append (λ x. one_if (x == j)) expired r.cells.items in let b = total_set (λ (t : Ring). times j t.cells.items) rings u r s at in
      let z : times j s.cells.items ≡ 0 = ap (times j) none in let o = f.once j in omega arith;
  most = f.most;
  never = f.never;
  ringed = λ v t e j h. others v t e j h (at_set rings u v s t e);
  ended = λ j h. let a = total_append (λ x. one_if (x == j)) expired r.cells.items in both j h a;
  numbered = f.numbered;
  moment = f.moment;
}
  where
    others : (v : ℕ) (t : Ring) → get_elem? (set rings u s) v ≡ some t → (j : ℕ) → 1 ≤ times j t.cells.items → ((v ≡ u) × (s ≡ t)) ⊎ ((v ≢ u) × (get_elem? rings v ≡ some t))
        → last_end 0 j claims ≡ t.end
    others v t e j h (inl x) = let z : times j t.cells.items ≡ 0 = ap (λ (q : Ring). times j q.cells.items) (sym x.1) ∙ ap (times j) none in absurd (omega arith)
    others v t e j h (inr x) = f.ringed v t x.1 j h

    both : (j : ℕ) → 1 ≤ times j (expired ++ r.cells.items) + times j held + reserved_on j reserved → times j (expired ++ r.cells.items) ≡ times j expired + times j r.cells.items
        → last_end 0 j claims ≤ last
    both j h a = pick (ltb 0 (times j r.cells.items)) refl
      where
        pick : (b : Bool) → ltb 0 (times j r.cells.items) ≡ b → last_end 0 j claims ≤ last
        pick true is = let z : 1 ≤ times j r.cells.items = grind (arith, nat_tests) in let q = f.ringed u r at j z in omega arith
        pick false is = let z : times j r.cells.items ≡ 0 = grind (arith, nat_tests) in f.ended j (omega arith)

-- the same, with the lists as the code names them
pub reserves_expired : (cells last fresh next_claim k : ℕ) (claims : List Claim) (rings : List Ring) (expired expired' held : List ℕ) (reserved reserved' : List Spot)
    → expired ≡ expired' ++ k ∷ [] → reserved' ≡ reserved ++ (spot k next_claim) ∷ [] → IsLawfulPool cells last fresh next_claim claims rings expired held reserved
    → IsLawfulPool cells last fresh (next_claim + 1) claims rings expired' held reserved'
reserves_expired cells last fresh next_claim k claims rings expired expired' held reserved reserved' e d f =
    subst (λ t. IsLawfulPool cells last fresh (next_claim + 1) claims rings expired' held t) (sym d)
    (expired_to_reserved cells last fresh next_claim k claims rings expired' held reserved
    (subst (λ o. IsLawfulPool cells last fresh next_claim claims rings o held reserved) e f))

pub holds_expired : (cells last fresh next_claim k : ℕ) (claims : List Claim) (rings : List Ring) (expired expired' held held' : List ℕ) (reserved : List Spot)
    → expired ≡ expired' ++ k ∷ [] → held' ≡ held ++ k ∷ [] → IsLawfulPool cells last fresh next_claim claims rings expired held reserved
    → IsLawfulPool cells last fresh next_claim claims rings expired' held' reserved
holds_expired cells last fresh next_claim k claims rings expired expired' held held' reserved e d f =
    subst (λ t. IsLawfulPool cells last fresh next_claim claims rings expired' t reserved) (sym d)
    (expired_to_held cells last fresh next_claim k claims rings expired' held reserved (subst (λ o. IsLawfulPool cells last fresh next_claim claims rings o held reserved) e f))

pub reserves_fresh : (cells last fresh next_claim : ℕ) (claims : List Claim) (rings : List Ring) (expired held : List ℕ) (reserved reserved' : List Spot) → fresh < cells
    → reserved' ≡ reserved ++ (spot fresh next_claim) ∷ [] → IsLawfulPool cells last fresh next_claim claims rings expired held reserved
    → IsLawfulPool cells last (fresh + 1) (next_claim + 1) claims rings expired held reserved'
reserves_fresh cells last fresh next_claim claims rings expired held reserved reserved' h d f =
    subst (λ t. IsLawfulPool cells last (fresh + 1) (next_claim + 1) claims rings expired held t) (sym d)
    (fresh_to_reserved cells last fresh next_claim claims rings expired held reserved h f)

-- the held cells joined to the expired ones, or not
pub joins_held : (b : Bool) (cells last fresh next_claim : ℕ) (claims : List Claim) (rings : List Ring) (expired expired' held held' : List ℕ) (reserved : List Spot)
    → expired' ≡ cond b (expired ++ held) expired → held' ≡ cond b [] held → IsLawfulPool cells last fresh next_claim claims rings expired held reserved
    → IsLawfulPool cells last fresh next_claim claims rings expired' held' reserved
joins_held true cells last fresh next_claim claims rings expired expired' held held' reserved e d f =
    subst (λ o. IsLawfulPool cells last fresh next_claim claims rings o held' reserved) (sym e)
    (subst (λ h. IsLawfulPool cells last fresh next_claim claims rings (expired ++ held) h reserved) (sym d)
    (held_to_expired cells last fresh next_claim claims rings expired held reserved f))
joins_held false cells last fresh next_claim claims rings expired expired' held held' reserved e d f =
    subst (λ o. IsLawfulPool cells last fresh next_claim claims rings o held' reserved) (sym e)
    (subst (λ h. IsLawfulPool cells last fresh next_claim claims rings expired h reserved) (sym d) f)

-- a ring whose cells stay
pub ring_stays : (cells last fresh next_claim u : ℕ) (r s : Ring) (claims : List Claim) (rings : List Ring) (expired held : List ℕ) (reserved : List Spot)
    → get_elem? rings u ≡ some r → s.end ≡ r.end → s.cells.items ≡ r.cells.items → IsLawfulPool cells last fresh next_claim claims rings expired held reserved
    → IsLawfulPool cells last fresh next_claim claims (set rings u s) expired held reserved
ring_stays cells last fresh next_claim u r s claims rings expired held reserved at end same f = record {
  once = λ j. let b = total_set (λ (t : Ring). times j t.cells.items) rings u r s at in let z : times j s.cells.items ≡ times j r.cells.items = ap (times j) same in
      let o = f.once j in omega arith;
  most = f.most;
  never = f.never;
  ringed = λ v t e j h. others v t e j h (at_set rings u v s t e);
  ended = f.ended;
  numbered = f.numbered;
  moment = f.moment;
}
  where
    others : (v : ℕ) (t : Ring) → get_elem? (set rings u s) v ≡ some t → (j : ℕ) → 1 ≤ times j t.cells.items → ((v ≡ u) × (s ≡ t)) ⊎ ((v ≢ u) × (get_elem? rings v ≡ some t))
        → last_end 0 j claims ≡ t.end
    others v t e j h (inl x) =
        let z : times j t.cells.items ≡ times j r.cells.items = ap (λ (q : Ring). times j q.cells.items) (sym x.1) ∙ ap (times j) same in
        f.ringed u r at j (omega arith) ∙ sym end ∙ ap (λ (q : Ring). q.end) x.1
    others v t e j h (inr x) = f.ringed v t x.1 j h

pub empties_ring : (b : Bool) (cells last fresh next_claim u : ℕ) (r s : Ring) (claims : List Claim) (rings : List Ring) (expired expired' held : List ℕ) (reserved : List Spot)
    → get_elem? rings u ≡ some r → r.end ≤ last → s.end ≡ r.end → expired' ≡ cond b (expired ++ r.cells.items) expired → s.cells.items ≡ cond b [] r.cells.items
    → IsLawfulPool cells last fresh next_claim claims rings expired held reserved → IsLawfulPool cells last fresh next_claim claims (set rings u s) expired' held reserved
empties_ring true cells last fresh next_claim u r s claims rings expired expired' held reserved at le end e d f =
    subst (λ o. IsLawfulPool cells last fresh next_claim claims (set rings u s) o held reserved) (sym e)
    (ring_to_expired cells last fresh next_claim u r s claims rings expired held reserved at le end d f)
empties_ring false cells last fresh next_claim u r s claims rings expired expired' held reserved at le end e d f =
    subst (λ o. IsLawfulPool cells last fresh next_claim claims (set rings u s) o held reserved) (sym e)
    (ring_stays cells last fresh next_claim u r s claims rings expired held reserved at end d f)

pub expired_more : (n m : ℕ) (s : Ring) (rings : List Ring) → (s.end ≤ m → s.cells.items ≡ []) → ExpiredBelow n m rings → ExpiredBelow (n + 1) m (set rings n s)
expired_more n m s rings here below u lt r at expired = pick (at_set rings n u s r at)
  where
    pick : ((u ≡ n) × (s ≡ r)) ⊎ ((u ≢ n) × (get_elem? rings u ≡ some r)) → r.cells.items ≡ []
    pick (inl x) = let e = ap (λ (q : Ring). q.end) x.1 in ap (λ (q : Ring). q.cells.items) (sym x.1) ∙ here (omega arith)
    pick (inr x) = let n = x.0 in below u (omega arith) r x.1 expired

-- a claim of a reserved cell
pub binds_last : (cells last fresh next_claim u : ℕ) (r s : Ring) (x : Claim) (claims : List Claim) (rings : List Ring) (expired held : List ℕ) (reserved : List Spot)
    → x.moment ≤ last → get_elem? rings u ≡ some r → (r.cells.items ≡ []) ⊎ (r.end ≡ (end_of x)) → s.end ≡ (end_of x) → s.cells.items ≡ r.cells.items ++ x.cell ∷ []
    → IsLawfulPool cells last fresh next_claim claims rings expired held (reserved ++ (spot x.cell x.claim) ∷ [])
    → IsLawfulPool cells last fresh next_claim (claims ++ x ∷ []) (set rings u s) expired held reserved
binds_last cells last fresh next_claim u r s x claims rings expired held reserved le at fits end more f = record {
  once = λ j. let p = pushed j in let b = total_set (λ (t : Ring). times j t.cells.items) rings u r s at in let z = added j in let o = f.once j in omega arith;
  most = f.most;
  never = λ j h. let n = below in last_end_push 0 j claims x ∙ cond_no x.cell j (end_of x) (last_end 0 j claims) (λ e. omega arith) ∙ f.never j h;
  ringed = λ v t e j h. others v t e j h (at_set rings u v s t e);
  ended = λ j h. let p = pushed j in let o = f.once j in let e = f.ended j (omega arith) in elsewhere j (λ d. absurd (twice j d h)) e;
  numbered = λ c. let a = total_push (λ (y : Claim). one_if (y.claim == c)) claims x in let b = total_push (λ (p : Spot). one_if (p.claim == c)) reserved (spot x.cell x.claim) in
      let o = f.numbered c in omega arith;
  moment = let e = last_of_push 0 claims x in omega arith;
}
  where
    pushed : (j : ℕ) → reserved_on j (reserved ++ (spot x.cell x.claim) ∷ []) ≡ reserved_on j reserved + one_if (x.cell == j)
    pushed j = total_push (λ (p : Spot). one_if (p.cell == j)) reserved (spot x.cell x.claim)

    added : (j : ℕ) → times j s.cells.items ≡ times j r.cells.items + one_if (x.cell == j)
    added j = ap (times j) more ∙ total_push (λ y. one_if (y == j)) r.cells.items x.cell

    same : (j : ℕ) → x.cell ≡ j → one_if (x.cell == j) ≡ 1
    same j e = ap one_if (eq-eqb x.cell j e)

    below : x.cell < fresh
    below = let p = pushed x.cell in let e = same x.cell refl in let o = f.once x.cell in let w : 1 ≤ one_if (ltb x.cell fresh) = omega arith in grind (arith, nat_tests)

    twice : (j : ℕ) → x.cell ≡ j → 1 ≤ times j expired + times j held + reserved_on j reserved → ⊥
    twice j d h = let p = pushed j in let e = same j d in let o = f.once j in let q = one_most (ltb j fresh) in omega arith

    elsewhere : (j : ℕ) → (x.cell ≡ j → ⊥) → last_end 0 j claims ≤ last → last_end 0 j (claims ++ x ∷ []) ≤ last
    elsewhere j n e = let a = last_end_push 0 j claims x ∙ cond_no x.cell j (end_of x) (last_end 0 j claims) n in omega arith

    mine : (j : ℕ) → 1 ≤ times j r.cells.items + one_if (x.cell == j) → (r.cells.items ≡ []) ⊎ (r.end ≡ (end_of x)) → Dec (x.cell ≡ j) → last_end 0 j (claims ++ x ∷ []) ≡ s.end
    mine j h q (yes e) = last_end_push 0 j claims x ∙ cond_yes x.cell j (end_of x) (last_end 0 j claims) e ∙ sym end
    mine j h (inl none) (no n) = let z : times j r.cells.items ≡ 0 = ap (times j) none in let w = ap one_if (ne_eqb x.cell j n) in absurd (omega arith)
    mine j h (inr e) (no n) =
        let w : one_if (x.cell == j) ≡ 0 =
        ap one_if (ne_eqb x.cell j n) in last_end_push 0 j claims x ∙ cond_no x.cell j (end_of x) (last_end 0 j claims) n ∙ f.ringed u r at j (omega arith) ∙ e ∙ sym end

    others : (v : ℕ) (t : Ring) → get_elem? (set rings u s) v ≡ some t → (j : ℕ) → 1 ≤ times j t.cells.items → ((v ≡ u) × (s ≡ t)) ⊎ ((v ≢ u) × (get_elem? rings v ≡ some t))
        → last_end 0 j (claims ++ x ∷ []) ≡ t.end
    others v t e j h (inl q) =
        let z : times j t.cells.items ≡ times j s.cells.items = ap (λ (w : Ring). times j w.cells.items) (sym q.1) in let a = added j in
        mine j (omega arith) fits (ℕ_discrete x.cell j) ∙ ap (λ (w : Ring). w.end) q.1
    others v t e j h (inr q) =
        let one = total_one (λ (w : Ring). times j w.cells.items) rings v t q.1 in
        last_end_push 0 j claims x ∙ cond_no x.cell j (end_of x) (last_end 0 j claims) (λ d. ringed_twice j d (omega arith)) ∙ f.ringed v t q.1 j h
      where
        ringed_twice : (j : ℕ) → x.cell ≡ j → 1 ≤ ring_times j rings → ⊥
        ringed_twice j d h = let p = pushed j in let e = same j d in let o = f.once j in let q = one_most (ltb j fresh) in omega arith

-- it fits behind the claims that are there
pub fits_there : (cells last most fresh next_claim : ℕ) (x : Claim) (claims : List Claim) (rings : List Ring) (expired held : List ℕ) (reserved : List Spot) → x.moment ≡ last
    → next_claim ≤ most → claims_of x.key claims ≡ 0 → x.key.start ≤ last → last < (end_of x)
    → IsLawfulPool cells last fresh next_claim claims rings expired held (reserved ++ (spot x.cell x.claim) ∷ []) → Fits cells most claims x
fits_there cells last most fresh next_claim x claims rings expired held reserved now few new from to f =
    let p = total_push (λ (p : Spot). one_if (p.cell == x.cell)) reserved (spot x.cell x.claim) in
    let q = total_push (λ (p : Spot). one_if (p.claim == x.claim)) reserved (spot x.cell x.claim) in
    let a : one_if (x.cell == x.cell) ≡ 1 = ap one_if (eq-eqb x.cell x.cell refl) in
    let b : one_if (x.claim == x.claim) ≡ 1 = ap one_if (eq-eqb x.claim x.claim refl) in
    let o = f.once x.cell in
    let n = f.numbered x.claim in
    let m = one_most (ltb x.claim next_claim) in
    let lt : x.cell < fresh = let w : 1 ≤ one_if (ltb x.cell fresh) = omega arith in grind (arith, nat_tests) in
    let small : x.claim < next_claim = let w : 1 ≤ one_if (ltb x.claim next_claim) = omega arith in grind (arith, nat_tests) in
    let e = f.ended x.cell (omega arith) in
    let mo = f.moment in
    let le = f.most in
    record {
      counter = new;
      number = omega arith;
      small = omega arith;
      cell = omega arith;
      moment = omega arith;
      window = (omega arith, omega arith);
      expired = omega arith;
    }

pub lawful_more : (cells most : ℕ) (xs : List Claim) (y : Claim) → Fits cells most xs y → IsLawfulClaims cells most xs → IsLawfulClaims cells most (xs ++ y ∷ [])
lawful_more cells most xs y fits law i x at = pick (place xs y x i at)
  where
    place : (l : List Claim) (a b : Claim) (j : ℕ) → get_elem? (l ++ a ∷ []) j ≡ some b → ((get_elem? l j ≡ some b) × (take j (l ++ a ∷ []) ≡ take j l))
        ⊎ ((a ≡ b) × (take j (l ++ a ∷ []) ≡ l))
    place [] a b zero e = inr (some-injective a b e, refl)
    place [] a b (suc j) e = absurd (some-ne-none b (sym e))
    place (z ∷ zs) a b zero e = inl (e, refl)
    place (z ∷ zs) a b (suc j) e = ⊎_elim (λ t. inl (t.0, ap (λ q. z ∷ q) t.1)) (λ t. inr (t.0, ap (λ q. z ∷ q) t.1)) (place zs a b j e)

    pick : ((get_elem? xs i ≡ some x) × (take i (xs ++ y ∷ []) ≡ take i xs)) ⊎ ((y ≡ x) × (take i (xs ++ y ∷ []) ≡ xs)) → Fits cells most (take i (xs ++ y ∷ [])) x
    pick (inl t) = subst (λ l. Fits cells most l x) (sym t.1) (law i x t.0)
    pick (inr t) = subst (λ l. Fits cells most l x) (sym t.1) (subst (λ z. Fits cells most xs z) t.0 fits)

pub with_claims : (cells last fresh next_claim : ℕ) (claims claims' : List Claim) (rings : List Ring) (expired held : List ℕ) (reserved : List Spot) → claims' ≡ claims
    → IsLawfulPool cells last fresh next_claim claims rings expired held reserved → IsLawfulPool cells last fresh next_claim claims' rings expired held reserved
with_claims cells last fresh next_claim claims claims' rings expired held reserved e f =
    subst (λ l. IsLawfulPool cells last fresh next_claim l rings expired held reserved) (sym e) f

pub fits_kept : (u end : ℕ) (s : Ring) (rings : List Ring) → s.end ≡ end → KeepsFits u end rings (set rings u s)
fits_kept u end s rings is v e h fits r at = pick (at_set rings u v s r at)
  where
    pick : ((v ≡ u) × (s ≡ r)) ⊎ ((v ≢ u) × (get_elem? rings v ≡ some r)) → (r.cells.items ≡ []) ⊎ (r.end ≡ e)
    pick (inl x) = inr (ap (λ (q : Ring). q.end) (sym x.1) ∙ is ∙ sym (h x.0))
    pick (inr x) = fits r x.1

pub pool_more : (cells last fresh next_claim u : ℕ) (r s : Ring) (x : Claim) (claims claims' : List Claim) (rings : List Ring) (expired held : List ℕ)
    (reserved reserved' : List Spot) → reserved ≡ reserved' ++ (spot x.cell x.claim) ∷ [] → claims' ≡ claims ++ x ∷ [] → x.moment ≤ last → get_elem? rings u ≡ some r
    → (r.cells.items ≡ []) ⊎ (r.end ≡ (end_of x)) → s.end ≡ (end_of x) → s.cells.items ≡ r.cells.items ++ x.cell ∷ []
    → IsLawfulPool cells last fresh next_claim claims rings expired held reserved → IsLawfulPool cells last fresh next_claim claims' (set rings u s) expired held reserved'
pool_more cells last fresh next_claim u r s x claims claims' rings expired held reserved reserved' t e le at fits end more f =
    subst (λ l. IsLawfulPool cells last fresh next_claim l (set rings u s) expired held reserved') (sym e)
    (binds_last cells last fresh next_claim u r s x claims rings expired held reserved' le at fits end more
    (subst (λ l. IsLawfulPool cells last fresh next_claim claims rings expired held l) t f))

pub lawful_bound : (cells last most fresh next_claim : ℕ) (x : Claim) (claims claims' : List Claim) (rings : List Ring) (expired held : List ℕ) (reserved reserved' : List Spot)
    → reserved ≡ reserved' ++ (spot x.cell x.claim) ∷ [] → claims' ≡ claims ++ x ∷ [] → x.moment ≡ last → next_claim ≤ most → claims_of x.key claims ≡ 0 → x.key.start ≤ last
    → last < (end_of x) → IsLawfulPool cells last fresh next_claim claims rings expired held reserved → IsLawfulClaims cells most claims → IsLawfulClaims cells most claims'
lawful_bound cells last most fresh next_claim x claims claims' rings expired held reserved reserved' t e now few new from to f law =
    subst (λ (l : List Claim). IsLawfulClaims cells most l) (sym e)
    (lawful_more cells most claims x (fits_there cells last most fresh next_claim x claims rings expired held reserved' now few new from to
    (subst (λ l. IsLawfulPool cells last fresh next_claim claims rings expired held l) t f)) law)

pub swaps_held : (cells last fresh next_claim : ℕ) (claims : List Claim) (rings : List Ring) (expired expired' held held' : List ℕ) (reserved : List Spot) → length expired ≡ 0
    → expired' ≡ held → held' ≡ expired → IsLawfulPool cells last fresh next_claim claims rings expired held reserved
    → IsLawfulPool cells last fresh next_claim claims rings expired' held' reserved
swaps_held cells last fresh next_claim claims rings expired expired' held held' reserved none e d f =
    let z : expired ≡ [] = empty expired none in
    subst (λ o. IsLawfulPool cells last fresh next_claim claims rings o held' reserved) (sym e)
    (subst (λ h. IsLawfulPool cells last fresh next_claim claims rings held h reserved) (sym (d ∙ z))
    (held_to_expired cells last fresh next_claim claims rings [] held reserved (subst (λ o. IsLawfulPool cells last fresh next_claim claims rings o held reserved) z f)))

pub roomy_set : (n u : ℕ) (s : Ring) (rings : List Ring) → n ≤ vec_capacity s.cells → AreRoomy n rings → AreRoomy n (set rings u s)
roomy_set n u s rings here all v t at = pick (at_set rings u v s t at)
  where
    pick : ((v ≡ u) × (s ≡ t)) ⊎ ((v ≢ u) × (get_elem? rings v ≡ some t)) → n ≤ vec_capacity t.cells
    pick (inl x) = subst (λ (q : Ring). n ≤ vec_capacity q.cells) x.1 here
    pick (inr x) = all v t x.1
