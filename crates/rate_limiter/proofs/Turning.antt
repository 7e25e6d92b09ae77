-- What a turn at the directory leaves of a pass.
use Rattle.std.proofs.Common.{◌≡◌, ℕ, ◌+◌, ◌-◌, ◌≤◌, ◌==◌, ◌&&◌, nat_lt, List, [], ◌∷◌, ◌++◌, length, All, refl, sym, ap, ◌∙◌, subst, arith, length-append, eq-eqb}
use Rattle.std.specs.Prelude.{Ok, Err, Result, OnOk, OnErr, IfErr}
use Rattle.std.proofs.lemmas.List.{append-nil}
use Rattle.std.proofs.lemmas.Bool.Decides.{nat_tests}
use mathlib.Core.Option.{some}
use mathlib.Core.List.{IsPrefix}
use lib.ListN.{get_elem?}
use Rattle.rate_types.specs.Sums.{one_if}
use Rattle.rate_types.specs.Counters.{same_counter}
use Rattle.rate_types.specs.declared.counter_key.CounterKey.{CounterKey}
use Rattle.rate_types.specs.declared.counter_name.CounterName.{CounterName}
use Rattle.told_list.specs.Lists.{count_from}
use Rattle.counter_directory.specs.Passes.{HasTurned, KnownClaims}
use Rattle.counter_cells.specs.Steps.{number_of, good_pin}
use Rattle.counter_cells.specs.declared.view.CellView.{CellView}
use Rattle.counter_cells.specs.declared.answers.Spot.{Spot}
use Rattle.counter_directory.specs.declared.claim.Claim.{Claim}
use Rattle.counter_directory.specs.declared.acquired.Acquired.{Acquired}
use Rattle.counter_directory.specs.declared.acquired.AcquireFault.{AcquireFault}
use Rattle.counter_directory.specs.declared.acquired.AcquireFault.TheVariants.{OutOfMemory, ClaimsSpent, CountersFull}
use Rattle.counter_directory.specs.Claims.{claims_of}
use Rattle.counter_directory.specs.Keys.{keys_at, key_count}
use Rattle.counter_directory.specs.Spots.{Bound, pinned_on}
use Rattle.counter_directory.specs.Answered.{answered}
use Rattle.counter_directory.specs.Acquired.{Bounds, ClaimTableView, HasTicked, PinsAfterMisses, HasBound, IsWanted, AreHeld}
use Rattle.counter_directory.specs.Turns.{Turned}
use Rattle.rate_limiter.specs.Known.{pins_under, PinsGrow, AreClaimedOnce}
use Rattle.rate_limiter.specs.PassStep.{HasClaimed}
use Rattle.rate_limiter.specs.Pinned.{HasWaited, HasPins, HasNoPins}
use Rattle.window_keys.proofs.Counters.{is_same}
use Rattle.rate_limiter.proofs.Knowing.{grow_self, grow_then}
use Rattle.rate_limiter.proofs.Making.{all_cons}
use Rattle.rate_limiter.proofs.Claiming.{lawful_once}
use Rattle.rate_limiter.proofs.Lists.{total_at, total_more, parts}

-- what pins leave of a view
pub record Stands (v w : CellView) : Type 0 where
  pub number : number_of w ≡ number_of v
  pub looks : w.looks ≡ v.looks
  pub charges : w.charges ≡ v.charges
  pub ticks : w.ticks ≡ v.ticks
  pub moment : w.moment ≡ v.moment

pinned_stands : (ss : List Spot) (v : CellView) → Stands v (pinned_on ss v)
pinned_stands [] v = record { number = refl; looks = refl; charges = refl; ticks = refl; moment = refl }
pinned_stands (s ∷ ss) v =
    let r = pinned_stands ss (good_pin s.cell s.claim v) in
    record { number = r.number; looks = r.looks; charges = r.charges; ticks = r.ticks; moment = r.moment }

pins_stand : (ss : List Spot) (v w : CellView) → PinsAfterMisses ss v w → Stands v w
pins_stand ss v w p =
    let r = pinned_stands ss (record v { others = v.others ++ p.0 }) in
    record {
      number = ap number_of p.1 ∙ r.number;
      looks = ap (λ (x : CellView). x.looks) p.1 ∙ r.looks;
      charges = ap (λ (x : CellView). x.charges) p.1 ∙ r.charges;
      ticks = ap (λ (x : CellView). x.ticks) p.1 ∙ r.ticks;
      moment = ap (λ (x : CellView). x.moment) p.1 ∙ r.moment;
    }

ticked_waited : (v w : CellView) → HasTicked v w → HasWaited v w
ticked_waited v w t = record {
  ticked = record {
    number = ap number_of t.view;
    added = t.added;
    ticks = ap (λ (x : CellView). x.ticks) t.view;
    offers = t.ticks;
    moment = ap (λ (x : CellView). x.moment) t.view;
    later = t.later;
  };
  keeps = record { looks = ap (λ (x : CellView). x.looks) t.view; charges = ap (λ (x : CellView). x.charges) t.view };
}

waited_stands : (v w x : CellView) → HasWaited v w → Stands w x → HasWaited v x
waited_stands v w x h s = record {
  ticked = record {
    number = s.number ∙ h.ticked.number;
    added = h.ticked.added;
    ticks = s.ticks ∙ h.ticked.ticks;
    offers = h.ticked.offers;
    moment = s.moment ∙ h.ticked.moment;
    later = subst (λ n. v.moment ≤ n) (sym s.moment) h.ticked.later;
  };
  keeps = record { looks = s.looks ∙ h.keeps.looks; charges = s.charges ∙ h.keeps.charges };
}

-- a claim that was added is of one of the counters
added_named : (b : Bounds) (m : ℕ) (keys : List CounterKey) (found left : ClaimTableView) → (h : HasBound b m keys found left) → (i : ℕ) (x : Claim)
    → get_elem? h.grows.0 i ≡ some x → 1 ≤ key_count x.key keys
added_named b m keys found left h i x at =
    let q = x.key in
    let added = h.grows.0 in
    let f : Claim → ℕ = λ z. one_if (same_counter z.key q) in
    let one : one_if (same_counter q q) ≡ 1 = ap one_if (is_same q q refl) in
    let many = total_at f added i x at in
    let both = total_more f found.claims added in
    let left_is : claims_of q left.claims ≡ claims_of q (found.claims ++ added) = ap (claims_of q) h.grows.1 in
    let adds = h.adds q in
    let are = h.are q in
    let some : 1 ≤ one_if ((claims_of q found.claims == 0) && nat_lt 0 (key_count q keys)) = omega arith in
    let there = (parts (claims_of q found.claims == 0) (nat_lt 0 (key_count q keys)) some).1 in
    grind (arith, nat_tests)

claimed_of : (b : Bounds) (m : ℕ) (keys : List CounterKey) (found left : ClaimTableView) (t u : KnownClaims) → HasBound b m keys found left
    → HasTurned found.claims left.claims t u → HasClaimed keys m t u
claimed_of b m keys found left t u h turn =
    let added = h.grows.0 in
    let len : length left.claims ≡ length found.claims + length added = ap length h.grows.1 ∙ length-append found.claims added in
    let rest : length left.claims - length found.claims ≡ length added = omega arith in
    record {
      found = found.claims;
      added = added;
      knew = turn.knew;
      known = turn.known ∙ h.grows.1;
      own = turn.own ∙ ap (λ n. t.own ++ count_from (length found.claims) n) rest;
      named = added_named b m keys found left h;
      made = h.grows.2;
    }

turned_ok : (b : Bounds) (names : List CounterName) (a : Acquired) (v w : CellView) (t u : KnownClaims) → Turned b names v (Ok a) w t u
    → HasPins names a.spots.items v w t u
turned_ok b names a v w t u h =
    let d = h.did.0 in
    let s = pins_stand a.spots.items d.ticked w d.pins in
    record {
      waited = waited_stands v d.ticked w (ticked_waited v d.ticked d.ticks) s;
      count = d.count;
      bound = subst (λ ks. Bound ks (keys_at w.moment names) a.spots.items) (sym h.turn.known) (subst (λ n. Bound h.left.claims (keys_at n names) a.spots.items) d.moment d.bound);
      under = d.under;
      claimed = subst (λ n. HasClaimed (keys_at n names) n t u) d.moment (claimed_of b a.moment (keys_at a.moment names) h.found h.left t u h.did.1 h.turn);
    }

-- a turn that added nothing
module _ (t u : KnownClaims) (found left : List Claim) (turn : HasTurned found left t u) (same : left ≡ found) where
  knew_still : IsPrefix t.known u.known
  knew_still = subst (λ (l : List Claim). IsPrefix t.known l) (sym (turn.known ∙ same)) turn.knew

  own_still : u.own ≡ t.own
  own_still =
      let none : length left - length found ≡ 0 = let e : length left ≡ length found = ap length same in omega arith in
      turn.own ∙ ap (λ n. t.own ++ count_from (length found) n) none ∙ append-nil t.own

-- a pass that claimed nothing
pub claimed_none : (keys : List CounterKey) (moment : ℕ) (t u : KnownClaims) → IsPrefix t.known u.known → u.own ≡ t.own → HasClaimed keys moment t u
claimed_none keys moment t u knew own = record {
  found = u.known;
  added = [];
  knew = knew;
  known = sym (append-nil u.known);
  own = own ∙ sym (append-nil t.own);
  named = λ i x a. absurd (mathlib.Core.Option.some-ne-none x (sym a));
  made = λ i x a. absurd (mathlib.Core.Option.some-ne-none x (sym a));
}

turned_err : (b : Bounds) (names : List CounterName) (fault : AcquireFault) (v w : CellView) (t u : KnownClaims) → w.good ≡ []
    → Turned b names v (Err fault) w t u → HasNoPins b names fault v w t u
turned_err b names OutOfMemory v w t u bare h =
    let same : h.left.claims ≡ h.found.claims = ap (λ (x : ClaimTableView). x.claims) h.did.1 in
    record {
      waited = ticked_waited v w h.did.0;
      bare = bare;
      knew = knew_still t u h.found.claims h.left.claims h.turn same;
      own = claimed_none (keys_at w.moment names) w.moment t u (knew_still t u h.found.claims h.left.claims h.turn same)
          (own_still t u h.found.claims h.left.claims h.turn same);
      cause = tt;
    }
turned_err b names (ClaimsSpent claims wanted) v w t u bare h =
    let s = h.did.1 in
    let same : h.left.claims ≡ h.found.claims = ap (λ (x : ClaimTableView). x.claims) s.same in
    let known : u.known ≡ h.found.claims = h.turn.known ∙ same in
    record {
      waited = ticked_waited v w h.did.0;
      bare = bare;
      knew = knew_still t u h.found.claims h.left.claims h.turn same;
      own = own_still t u h.found.claims h.left.claims h.turn same;
      cause = record {
        claims_is = s.claims_is ∙ ap length (sym known);
        wanted_is = subst (λ ks. IsWanted ks (keys_at w.moment names) wanted) (sym known) s.wanted_is;
        spent = s.spent;
      };
    }
turned_err b names (CountersFull moment live held wanted) v w t u bare h =
    let f = h.did.2 in
    let same = f.same in
    let known : u.known ≡ h.found.claims = h.turn.known ∙ same in
    let at = h.did.1 in
    record {
      waited = ticked_waited v w h.did.0;
      bare = bare;
      knew = knew_still t u h.found.claims h.left.claims h.turn same;
      own = own_still t u h.found.claims h.left.claims h.turn same;
      cause = record {
        moment_is = at;
        wanted_is = subst (λ ks. IsWanted ks (keys_at w.moment names) wanted) (sym known) (subst (λ n. IsWanted h.found.claims (keys_at n names) wanted) at f.wanted_is);
        some = f.some;
        live_is = f.live_is ∙ ap (Rattle.counter_directory.specs.Claims.live_below b.cells moment) (sym known);
        held_is = subst (λ ks. AreHeld b.cells ks moment v w held) (sym known) f.held_is;
        few = f.few;
        full = f.full;
      };
    }

-- a turn that pinned the counters, or didn't
pub turned_pins : (b : Bounds) (names : List CounterName) (r : Result (Unit {0}) AcquireFault) (a : Acquired) (v w : CellView) (t u : KnownClaims)
    → Turned b names v (answered r a) w t u → OnOk r (HasPins names a.spots.items v w t u)
turned_pins b names (Ok x) a v w t u h = turned_ok b names a v w t u h
turned_pins b names (Err fault) a v w t u h = tt

pub turned_not : (b : Bounds) (names : List CounterName) (r : Result (Unit {0}) AcquireFault) (a : Acquired) (v w : CellView) (t u : KnownClaims)
    → OnErr r (w.good ≡ []) → Turned b names v (answered r a) w t u → IfErr r (λ fault. HasNoPins b names fault v w t u)
turned_not b names (Ok x) a v w t u bare h = tt
turned_not b names (Err fault) a v w t u bare h = turned_err b names fault v w t u bare h

-- ---- pins that were good

had_here : (cell claim : ℕ) (pins : List (ℕ × ℕ)) → 1 ≤ pins_under cell claim ((cell, claim) ∷ pins)
had_here cell claim pins =
    let one : one_if ((cell == cell) && (claim == claim)) ≡ 1 = λ i. one_if (eq-eqb cell cell refl i && eq-eqb claim claim refl i) in
    omega arith

pinned_grow : (ss : List Spot) (v : CellView) → PinsGrow v.pairs (pinned_on ss v).pairs
pinned_grow [] v = grow_self v.pairs
pinned_grow (s ∷ ss) v =
    let w = good_pin s.cell s.claim v in
    grow_then v.pairs w.pairs (pinned_on ss w).pairs (λ cell number. omega arith) (pinned_grow ss w)

pinned_had : (ss : List Spot) (v : CellView) → All (λ (s : Spot). 1 ≤ pins_under s.cell s.claim (pinned_on ss v).pairs) ss
pinned_had [] v = λ k d lt. absurd (omega arith)
pinned_had (s ∷ ss) v =
    let w = good_pin s.cell s.claim v in
    let h = had_here s.cell s.claim v.pairs in
    let g = pinned_grow ss w s.cell s.claim in
    all_cons (λ (t : Spot). 1 ≤ pins_under t.cell t.claim (pinned_on ss w).pairs) s ss (omega arith) (pinned_had ss w)

ticked_grow : (v w : CellView) → HasTicked v w → PinsGrow v.pairs w.pairs
ticked_grow v w h = subst (PinsGrow v.pairs) (sym (ap (λ (x : CellView). x.pairs) h.view)) (grow_self v.pairs)

pins_grow : (ss : List Spot) (v w : CellView) → PinsAfterMisses ss v w → PinsGrow v.pairs w.pairs
pins_grow ss v w p = subst (PinsGrow v.pairs) (sym (ap (λ (x : CellView). x.pairs) p.1)) (pinned_grow ss (record v { others = v.others ++ p.0 }))

-- after a turn as many pins were good as before, or more, and one on each spot
pub turned_grow : (b : Bounds) (names : List CounterName) (r : Result Acquired AcquireFault) (v w : CellView) (t u : KnownClaims) → Turned b names v r w t u
    → PinsGrow v.pairs w.pairs
turned_grow b names (Ok a) v w t u h =
    let d = h.did.0 in
    grow_then v.pairs d.ticked.pairs w.pairs (ticked_grow v d.ticked d.ticks) (pins_grow a.spots.items d.ticked w d.pins)
turned_grow b names (Err OutOfMemory) v w t u h = ticked_grow v w h.did.0
turned_grow b names (Err (ClaimsSpent claims wanted)) v w t u h = ticked_grow v w h.did.0
turned_grow b names (Err (CountersFull moment live held wanted)) v w t u h = ticked_grow v w h.did.0

pub turned_had : (b : Bounds) (names : List CounterName) (r : Result (Unit {0}) AcquireFault) (a : Acquired) (v w : CellView) (t u : KnownClaims)
    → Turned b names v (answered r a) w t u → OnOk r (All (λ (s : Spot). 1 ≤ pins_under s.cell s.claim w.pairs) a.spots.items)
turned_had b names (Ok x) a v w t u h =
    let p = h.did.0.pins in
    subst (λ (x : CellView). All (λ (s : Spot). 1 ≤ pins_under s.cell s.claim x.pairs) a.spots.items) (sym p.1)
    (pinned_had a.spots.items (record h.did.0.ticked { others = h.did.0.ticked.others ++ p.0 }))
turned_had b names (Err fault) a v w t u h = tt

-- after a turn the pass knows a lawful list of claims
pub turned_once : (b : Bounds) (names : List CounterName) (r : Result Acquired AcquireFault) (v w : CellView) (t u : KnownClaims) → Turned b names v r w t u
    → AreClaimedOnce u.known
turned_once b names r v w t u h = subst AreClaimedOnce (sym h.turn.known) (lawful_once b.cells b.claims h.left.claims h.lawful)

-- ---- pins that missed

pinned_others : (ss : List Spot) (v : CellView) → (pinned_on ss v).others ≡ v.others
pinned_others [] v = refl
pinned_others (s ∷ ss) v = pinned_others ss (good_pin s.cell s.claim v)

ticked_others : (v w : CellView) → HasTicked v w → length v.others ≤ length w.others
ticked_others v w h = let e = ap (λ (x : CellView). length x.others) h.view in omega arith

-- no pin that missed is forgotten in a turn
pub turned_others : (b : Bounds) (names : List CounterName) (r : Result Acquired AcquireFault) (v w : CellView) (t u : KnownClaims) → Turned b names v r w t u
    → length v.others ≤ length w.others
turned_others b names (Ok a) v w t u h =
    let d = h.did.0 in
    let l = ticked_others v d.ticked d.ticks in
    let e = ap (λ (x : CellView). length x.others) d.pins.1 in
    let f = ap (λ xs. length xs) (pinned_others a.spots.items (record d.ticked { others = d.ticked.others ++ d.pins.0 })) in
    let n = length-append d.ticked.others d.pins.0 in
    omega arith
turned_others b names (Err OutOfMemory) v w t u h = ticked_others v w h.did.0
turned_others b names (Err (ClaimsSpent claims wanted)) v w t u h = ticked_others v w h.did.0
turned_others b names (Err (CountersFull moment live held wanted)) v w t u h = ticked_others v w h.did.0
