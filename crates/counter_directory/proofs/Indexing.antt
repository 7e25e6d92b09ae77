-- Where counters of the present windows are found.
use Rattle.std.proofs.Common.{◌≡◌, ◌≢◌, ◌⊎◌, ℕ, zero, suc, ◌+◌, ◌≤◌, ◌<◌, ◌==◌, ◌&&◌, List, [], ◌∷◌, ◌++◌, length, set, Bool, true, false, true≢false, cond, refl, sym}
use Rattle.std.proofs.Common.{ap, ◌∙◌, subst, arith}
use Rattle.std.proofs.Common.{inl, inr, eq-eqb, length-set}
use Rattle.std.specs.Prelude.{Option, Some, None, IfSome, IfNone}
use Rattle.std.specs.HashMap.{get, spare}
use Rattle.std.specs.Map.{lookup}
use native.Mathlib.Decide.{dec_le}
use mathlib.Core.Option.{some, some-ne-none, some-injective}
use lib.ListN.{get_elem?}
use Rattle.rate_types.specs.declared.counter_key.CounterKey.{CounterKey}
use Rattle.rate_types.specs.declared.counter_name.CounterName.{CounterName}
use Rattle.rate_types.specs.declared.unit.Unit.{Unit}
use Rattle.rate_types.specs.declared.unit.Unit.TheVariants.{Second, Minute, Hour, Day}
use Rattle.rate_types.specs.Counters.{same_name, same_counter}
use Rattle.rate_types.specs.Units.{unit_rank, seconds_of}
use Rattle.rate_types.specs.Sums.{one_if}
use Rattle.rate_types.proofs.Sums.{total_push}
use Rattle.window_keys.specs.Window.{window_start, window_end}
use Rattle.window_keys.proofs.Counters.{same_is, is_same, not_same, same_unit}
use Rattle.counter_cells.specs.declared.answers.Spot.{Spot}
use Rattle.counter_directory.specs.declared.claim.Claim.{Claim}
use Rattle.counter_directory.specs.declared.unit_index.UnitIndex.{UnitIndex}
use Rattle.counter_directory.specs.Claims.{claims_of, bindings_of}
use Rattle.counter_directory.specs.Keys.{key_at}
use Rattle.counter_directory.specs.Index.{IsNew, AreNew, Turns, TurnEach, FindsTheSame, FindTheSame, HaveRoom, UnitFits, NoneLater, IndexFits}
use Rattle.counter_directory.proofs.Lists.{at_set, at_within}

clash : {A P : Type 0} {x : A} {o : Option A} → o ≡ Some x → o ≡ None → P
clash a b = let e = sym a ∙ b in cc

-- ---- names, and their counters in the window of a moment

-- a name is the same exactly where its counter is
pub same_at : (m : ℕ) (a b : CounterName) → same_counter (key_at m a) (key_at m b) ≡ same_name a b
same_at m a b = pick (same_name a b) refl
  where
    whole : CounterName → CounterKey
    whole n = record { name = n; start = 0 }

    same_whole : same_counter (whole a) (whole b) ≡ same_name a b && (0 == 0)
    same_whole = refl

    left : (x y : Bool) → (x && y) ≡ true → x ≡ true
    left true y h = refl
    left false y h = h

    pick : (t : Bool) → same_name a b ≡ t → same_counter (key_at m a) (key_at m b) ≡ same_name a b
    pick true e =
        let w : whole a ≡ whole b = same_is (whole a) (whole b) (same_whole ∙ ap (λ t. t && (0 == 0)) e) in
        is_same (key_at m a) (key_at m b) (ap (λ (k : CounterKey). key_at m k.name) w) ∙ sym e
    pick false e =
        not_same (key_at m a) (key_at m b)
        (λ same. true≢false (sym (left (same_name a b) (0 == 0) (sym same_whole ∙ is_same (whole a) (whole b) (ap (λ (k : CounterKey). whole k.name) same))) ∙ e))
        ∙ sym e

pub named : (a b : CounterName) → same_name a b ≡ true → a ≡ b
named a b e = ap (λ (k : CounterKey). k.name) (same_is (key_at 0 a) (key_at 0 b) (same_at 0 a b ∙ e))

-- ---- windows

first_window : (u : Unit) → seconds_of u ≡ window_end u 0
first_window Second = refl
first_window Minute = refl
first_window Hour = refl
first_window Day = refl

-- a moment before the window's end is in it
pub same_start : (u : Unit) (last m : ℕ) → last ≤ m → m < window_end u last → window_start u m ≡ window_start u last
same_start Second last m le lt = omega arith
same_start Minute last m le lt = omega arith
same_start Hour last m le lt = omega arith
same_start Day last m le lt = omega arith

-- a later window begins behind the moment
later_start : (u : Unit) (last m : ℕ) → window_end u last ≤ m → last < window_start u m
later_start Second last m le = omega arith
later_start Minute last m le = omega arith
later_start Hour last m le = omega arith
later_start Day last m le = omega arith

whole_start : (u : Unit) (m : ℕ) → window_start u m ≡ window_start u (window_start u m)
whole_start Second m = omega arith
whole_start Minute m = omega arith
whole_start Hour m = omega arith
whole_start Day m = omega arith

start_past : (u : Unit) (m : ℕ) → window_start u m ≤ m
start_past u m = omega arith

-- ---- the index

pub four_new : (a b c d : UnitIndex) → (unit_rank a.unit ≡ 0) × IsNew a → (unit_rank b.unit ≡ 1) × IsNew b → (unit_rank c.unit ≡ 2) × IsNew c → (unit_rank d.unit ≡ 3) × IsNew d
    → AreNew (a ∷ b ∷ c ∷ d ∷ [])
four_new a b c d p q r s zero x at = subst (λ (y : UnitIndex). (unit_rank y.unit ≡ 0) × IsNew y) (some-injective a x at) p
four_new a b c d p q r s (suc zero) x at = subst (λ (y : UnitIndex). (unit_rank y.unit ≡ 1) × IsNew y) (some-injective b x at) q
four_new a b c d p q r s (suc (suc zero)) x at = subst (λ (y : UnitIndex). (unit_rank y.unit ≡ 2) × IsNew y) (some-injective c x at) r
four_new a b c d p q r s (suc (suc (suc zero))) x at = subst (λ (y : UnitIndex). (unit_rank y.unit ≡ 3) × IsNew y) (some-injective d x at) s
four_new a b c d p q r s (suc (suc (suc (suc u)))) x at = absurd (some-ne-none x (sym at))

pub index_start : (last : ℕ) (claims : List Claim) (units : List UnitIndex) → last ≡ 0 → claims ≡ [] → length units ≡ 4 → AreNew units → IndexFits last claims units
index_start last claims units zero_is none four new = record {
  four = four;
  each = λ u x at. let n = new u x at in record {
    rank = n.0;
    window = n.1.0 ∙ first_window x.unit ∙ ap (λ t. window_end x.unit t) (sym zero_is);
    there = λ k s e. clash e (ap (lookup (same_name k)) n.1.1);
    none = λ k same e. ap (claims_of (key_at last k)) none;
  };
  later = λ q lt. ap (claims_of q) none;
  whole = λ q h. let e = ap (claims_of q) none in absurd (omega arith);
}

-- the same claims at the same moment
pub index_to : (last last' : ℕ) (claims claims' : List Claim) (units : List UnitIndex) → last' ≡ last → claims' ≡ claims → IndexFits last claims units
    → IndexFits last' claims' units
index_to last last' claims claims' units at same f = subst (λ l. IndexFits l claims' units) (sym at) (subst (λ l. IndexFits last l units) (sym same) f)

unit_turned : (u last m : ℕ) (claims : List Claim) (x y : UnitIndex) → last ≤ m → NoneLater last claims → Turns m x y → UnitFits u last claims x → UnitFits u m claims y
unit_turned u last m claims x y le later t f = pick (dec_le x.end m)
  where
    pick : Dec (x.end ≤ m) → UnitFits u m claims y
    pick (yes ended) =
        let e = t.ends ended in
        let w = f.window in
        record {
          rank = ap unit_rank t.unit ∙ f.rank;
          window = e.0 ∙ ap (λ z. window_end z m) (sym t.unit);
          there = λ n s found. clash found (ap (lookup (same_name n)) e.1);
          none = λ n same found. later (key_at m n)
              (subst (λ z. last < window_start z m) (sym (same ∙ t.unit)) (later_start x.unit last m (omega arith)));
        }
    pick (no n) =
        let s = t.stays (omega arith) in
        let w = f.window in
        let start : window_start x.unit m ≡ window_start x.unit last = same_start x.unit last m le (omega arith) in
        let key : (n : CounterName) → n.unit ≡ x.unit → key_at m n ≡ key_at last n =
        λ n same. let e : window_start n.unit m ≡ window_start n.unit last = subst (λ z. window_start z m ≡ window_start z last) (sym same) start in
        λ i. record { name = n; start = e i } in
        record {
          rank = ap unit_rank t.unit ∙ f.rank;
          window = s.0 ∙ w ∙ ap (λ z. z + seconds_of x.unit) (sym start) ∙ ap (λ z. window_end z m) (sym t.unit);
          there = λ n p found. let h = f.there n p (ap (λ z. get same_name z n) (sym s.1) ∙ found) in
              (h.0 ∙ sym t.unit, subst (λ (k : CounterKey). 1 ≤ bindings_of k p.cell p.claim claims) (sym (key n h.0)) h.1);
          none = λ n same found. ap (λ (k : CounterKey). claims_of k claims) (key n (same ∙ t.unit)) ∙ f.none n (same ∙ t.unit) (ap (λ z. get same_name z n) (sym s.1) ∙ found);
        }

-- the index turned to the windows of a later moment
pub index_turned : (last m : ℕ) (claims : List Claim) (units new : List UnitIndex) → last ≤ m → length new ≡ 4 → TurnEach m units new → IndexFits last claims units
    → IndexFits m claims new
index_turned last m claims units new le four turn f = record {
  four = four;
  each = λ u y at. let t = turn u y at in unit_turned u last m claims t.0 y le f.later t.2 (f.each u t.0 t.1);
  later = λ q lt. f.later q (omega arith);
  whole = f.whole;
}

-- more room
pub index_same : (last : ℕ) (claims : List Claim) (units new : List UnitIndex) → length new ≡ 4 → FindTheSame units new → IndexFits last claims units → IndexFits last claims new
index_same last claims units new four same f = record {
  four = four;
  each = λ u y at.
      let t = same u y at in
      let g = f.each u t.0 t.1 in
      record {
        rank = ap unit_rank t.2.unit ∙ g.rank;
        window = t.2.end ∙ g.window ∙ ap (λ z. window_end z last) (sym t.2.unit);
        there = λ n s found. let h = g.there n s (sym (t.2.found n) ∙ found) in (h.0 ∙ sym t.2.unit, h.1);
        none = λ n is found. g.none n (is ∙ t.2.unit) (sym (t.2.found n) ∙ found);
      };
  later = f.later;
  whole = f.whole;
}

-- ---- one more claim

claims_same : (q : CounterKey) (claims : List Claim) (z : Claim) → same_counter z.key q ≡ false → claims_of q (claims ++ z ∷ []) ≡ claims_of q claims
claims_same q claims z e =
    let p = total_push (λ (y : Claim). one_if (same_counter y.key q)) claims z in
    let o : one_if (same_counter z.key q) ≡ 0 = ap one_if e in
    omega arith

bindings_more : (q : CounterKey) (k c : ℕ) (claims : List Claim) (z : Claim) → 1 ≤ bindings_of q k c claims → 1 ≤ bindings_of q k c (claims ++ z ∷ [])
bindings_more q k c claims z h =
    let p = total_push (λ (y : Claim). one_if (same_counter y.key q && ((y.cell == k) && (y.claim == c)))) claims z in omega arith

bindings_here : (q : CounterKey) (k c : ℕ) (claims : List Claim) (z : Claim) → same_counter z.key q ≡ true → z.cell ≡ k → z.claim ≡ c
    → 1 ≤ bindings_of q k c (claims ++ z ∷ [])
bindings_here q k c claims z same cell claim =
    let p = total_push (λ (y : Claim). one_if (same_counter y.key q && ((y.cell == k) && (y.claim == c)))) claims z in
    let one : one_if (same_counter z.key q && ((z.cell == k) && (z.claim == c))) ≡ 1 = rw (same, eq-eqb z.cell k cell, eq-eqb z.claim c claim) refl in
    omega arith

none_later_more : (last : ℕ) (claims : List Claim) (z : Claim) → z.key.start ≤ last → NoneLater last claims → NoneLater last (claims ++ z ∷ [])
none_later_more last claims z le f q lt =
    claims_same q claims z (not_same z.key q (λ e. let s = ap (λ (k : CounterKey). k.start) e in absurd (omega arith))) ∙ f q lt

same_from : (last : ℕ) (k n : CounterName) (z : Claim) → z.key ≡ key_at last k → same_counter z.key (key_at last n) ≡ same_name k n
same_from last k n z e = ap (λ (q : CounterKey). same_counter q (key_at last n)) e ∙ same_at last k n

unit_other : (u last : ℕ) (claims : List Claim) (t : UnitIndex) (k : CounterName) (z : Claim) → z.key ≡ key_at last k → unit_rank k.unit ≢ u → UnitFits u last claims t
    → UnitFits u last (claims ++ z ∷ []) t
unit_other u last claims t k z key ne f = record {
  rank = f.rank;
  window = f.window;
  there = λ n s found. let h = f.there n s found in (h.0, bindings_more (key_at last n) s.cell s.claim claims z h.1);
  none = λ n same found. claims_same (key_at last n) claims z (differs n same) ∙ f.none n same found;
}
  where
    differs : (n : CounterName) → n.unit ≡ t.unit → same_counter z.key (key_at last n) ≡ false
    differs n same = not_same z.key (key_at last n)
        (λ e. ne (ap (λ (q : CounterKey). unit_rank q.name.unit) (sym key ∙ e) ∙ ap unit_rank same ∙ f.rank))

unit_more : (u last : ℕ) (claims : List Claim) (x y : UnitIndex) (k : CounterName) (s : Spot) (z : Claim) → unit_rank k.unit ≡ u → z.key ≡ key_at last k → z.cell ≡ s.cell → z.claim
    ≡ s.claim
    → y.unit ≡ x.unit → y.end ≡ x.end → ((n : CounterName) → get same_name y.spots n ≡ cond (same_name k n) (Some s) (get same_name x.spots n)) → UnitFits u last claims x
    → UnitFits u last (claims ++ z ∷ []) y
unit_more u last claims x y k s z rank key cell claim unit end put f = record {
  rank = ap unit_rank unit ∙ f.rank;
  window = end ∙ f.window ∙ ap (λ v. window_end v last) (sym unit);
  there = λ n p found. there n p found (same_name k n) refl;
  none = λ n same found. none n (same ∙ unit) found (same_name k n) refl;
}
  where
    own : k.unit ≡ y.unit
    own = same_unit k.unit y.unit (rank ∙ sym f.rank ∙ ap unit_rank (sym unit))

    there : (n : CounterName) (p : Spot) → get same_name y.spots n ≡ Some p → (t : Bool) → same_name k n ≡ t
        → (n.unit ≡ y.unit) × (1 ≤ bindings_of (key_at last n) p.cell p.claim (claims ++ z ∷ []))
    there n p found true e =
        let a : Some s ≡ Some p = sym (put n ∙ ap (λ b. cond b (Some s) (get same_name x.spots n)) e) ∙ found in
        let is : s ≡ p = cc in (
          ap (λ (v : CounterName). v.unit) (sym (named k n e)) ∙ own,
          bindings_here (key_at last n) p.cell p.claim claims z (same_from last k n z key ∙ e) (cell ∙ ap (λ (v : Spot). v.cell) is) (claim ∙ ap (λ (v : Spot). v.claim) is),
        )
    there n p found false e =
        let a : get same_name x.spots n ≡ Some p = sym (put n ∙ ap (λ b. cond b (Some s) (get same_name x.spots n)) e) ∙ found in
        let h = f.there n p a in
        (h.0 ∙ sym unit, bindings_more (key_at last n) p.cell p.claim claims z h.1)

    none : (n : CounterName) → n.unit ≡ x.unit → get same_name y.spots n ≡ None → (t : Bool) → same_name k n ≡ t → claims_of (key_at last n) (claims ++ z ∷ []) ≡ 0
    none n same found true e = clash (put n ∙ ap (λ b. cond b (Some s) (get same_name x.spots n)) e) found
    none n same found false e =
        let a : get same_name x.spots n ≡ None = sym (put n ∙ ap (λ b. cond b (Some s) (get same_name x.spots n)) e) ∙ found in
        claims_same (key_at last n) claims z (same_from last k n z key ∙ e) ∙ f.none n same a

-- a counter of the unit is bound, and found there
pub index_more : (last u : ℕ) (claims claims' : List Claim) (units : List UnitIndex) (x y : UnitIndex) (k : CounterName) (s : Spot) (z : Claim) → get_elem? units u ≡ some x
    → unit_rank k.unit ≡ u → y.unit ≡ x.unit → y.end ≡ x.end → ((n : CounterName) → get same_name y.spots n ≡ cond (same_name k n) (Some s) (get same_name x.spots n))
    → claims' ≡ claims ++ z ∷ [] → z.key ≡ key_at last k → z.cell ≡ s.cell → z.claim ≡ s.claim → IndexFits last claims units → IndexFits last claims' (set units u y)
index_more last u claims claims' units x y k s z at rank unit end put more key cell claim f =
    subst (λ l. IndexFits last l (set units u y)) (sym more) (record {
      four = length-set units u y ∙ f.four;
      each = λ v t here. pick v t (at_set units u v y t here);
      later = none_later_more last claims z
          (subst (λ (q : CounterKey). q.start ≤ last) (sym key) (start_past k.unit last)) f.later;
      whole = λ q h. whole q h (same_counter z.key q) refl;
    })
  where
    whole : (q : CounterKey) → 1 ≤ claims_of q (claims ++ z ∷ []) → (t : Bool) → same_counter z.key q ≡ t → q.start ≡ window_start q.name.unit q.start
    whole q h true e = subst (λ (p : CounterKey). p.start ≡ window_start p.name.unit p.start) (sym key ∙ same_is z.key q e) (whole_start k.unit last)
    whole q h false e = f.whole q (let s = claims_same q claims z e in omega arith)

    pick : (v : ℕ) (t : UnitIndex) → ((v ≡ u) × (y ≡ t)) ⊎ ((v ≢ u) × (get_elem? units v ≡ some t)) → UnitFits v last (claims ++ z ∷ []) t
    pick v t (inl h) =
        subst (λ n. UnitFits n last (claims ++ z ∷ []) t) (sym h.0) (subst (λ (n : UnitIndex). UnitFits u last (claims ++ z ∷ []) n) h.1
        (unit_more u last claims x y k s z rank key cell claim unit end put (f.each u x at)))
    pick v t (inr h) = unit_other v last claims t k z key (λ e. h.0 (sym e ∙ rank)) (f.each v t h.1)

-- a place less in each
pub room_less : (n u : ℕ) (units : List UnitIndex) (x y : UnitIndex) → get_elem? units u ≡ some x → spare x.spots ≤ spare y.spots + 1 → HaveRoom (n + 1) units
    → HaveRoom n (set units u y)
room_less n u units x y at le room v t here = pick (at_set units u v y t here)
  where
    pick : ((v ≡ u) × (y ≡ t)) ⊎ ((v ≢ u) × (get_elem? units v ≡ some t)) → n ≤ spare t.spots
    pick (inl h) = let r = room u x at in subst (λ (w : UnitIndex). n ≤ spare w.spots) h.1 (omega arith)
    pick (inr h) = let r = room v t h.1 in omega arith

-- ---- what a look-up tells

pub found_bound : (o : Option Spot) (u last : ℕ) (claims : List Claim) (x : UnitIndex) (n : CounterName) → UnitFits u last claims x → o ≡ get same_name x.spots n
    → IfSome o (λ s. 1 ≤ bindings_of (key_at last n) s.cell s.claim claims)
found_bound (Some s) u last claims x n f e = (f.there n s (sym e)).1
found_bound None u last claims x n f e = tt

pub found_none : (o : Option Spot) (u last : ℕ) (claims : List Claim) (x : UnitIndex) (n : CounterName) → UnitFits u last claims x → unit_rank n.unit ≡ u
    → o ≡ get same_name x.spots n → IfNone o (claims_of (key_at last n) claims ≡ 0)
found_none (Some s) u last claims x n f rank e = tt
found_none None u last claims x n f rank e = f.none n (same_unit n.unit x.unit (rank ∙ sym f.rank)) (sym e)

-- ---- one unit after the other

-- the first p units were changed by R, and the others weren't
pub record Along (R : UnitIndex → UnitIndex → Type 0) (p : ℕ) (first units : List UnitIndex) : Type 0 where
  pub done : (v : ℕ) (y : UnitIndex) → v < p → get_elem? units v ≡ some y → (x : UnitIndex) × (get_elem? first v ≡ some x) × R x y
  pub rest : (v : ℕ) (y : UnitIndex) → p ≤ v → get_elem? units v ≡ some y → get_elem? first v ≡ some y

pub along_start : (R : UnitIndex → UnitIndex → Type 0) (first : List UnitIndex) → Along R 0 first first
along_start R first = record { done = λ v y lt at. absurd (omega arith); rest = λ v y le at. at }

pub along_more : (R : UnitIndex → UnitIndex → Type 0) (p : ℕ) (first units : List UnitIndex) (x y : UnitIndex) → get_elem? units p ≡ some x → R x y → Along R p first units
    → Along R (p + 1) first (set units p y)
along_more R p first units x y at step a = record {
  done = λ v z lt here. done v z lt (at_set units p v y z here);
  rest = λ v z le here. rest v z le (at_set units p v y z here);
}
  where
    done : (v : ℕ) (z : UnitIndex) → v < p + 1 → ((v ≡ p) × (y ≡ z)) ⊎ ((v ≢ p) × (get_elem? units v ≡ some z)) → (w : UnitIndex) × (get_elem? first v ≡ some w) × R w z
    done v z lt (inl h) = (x, ap (get_elem? first) h.0 ∙ a.rest p x (omega arith) at, subst (R x) h.1 step)
    done v z lt (inr h) = let ne = h.0 in a.done v z (omega arith) h.1

    rest : (v : ℕ) (z : UnitIndex) → p + 1 ≤ v → ((v ≡ p) × (y ≡ z)) ⊎ ((v ≢ p) × (get_elem? units v ≡ some z)) → get_elem? first v ≡ some z
    rest v z le (inl h) = let e = h.0 in absurd (omega arith)
    rest v z le (inr h) = a.rest v z (omega arith) h.1

pub along_all : (R : UnitIndex → UnitIndex → Type 0) (p : ℕ) (first units : List UnitIndex) → length units ≤ p → Along R p first units
    → (v : ℕ) (y : UnitIndex) → get_elem? units v ≡ some y → (x : UnitIndex) × (get_elem? first v ≡ some x) × R x y
along_all R p first units le a v y at = let w = at_within units v y at in a.done v y (omega arith) at

pub along_any : (R : UnitIndex → UnitIndex → Type 0) (p : ℕ) (first units : List UnitIndex) → ((x : UnitIndex) → R x x) → Along R p first units
    → (v : ℕ) (y : UnitIndex) → get_elem? units v ≡ some y → (x : UnitIndex) × (get_elem? first v ≡ some x) × R x y
along_any R p first units same a v y at = pick (dec_le p v)
  where
    pick : Dec (p ≤ v) → (x : UnitIndex) × (get_elem? first v ≡ some x) × R x y
    pick (yes le) = (y, a.rest v y le at, same y)
    pick (no n) = a.done v y (omega arith) at

pub finds_itself : (x : UnitIndex) → FindsTheSame x x
finds_itself x = record { unit = refl; end = refl; found = λ n. refl }

-- room in the first p units
abbrev pub RoomBelow : ℕ → ℕ → List UnitIndex → Type 0
RoomBelow p n units = (v : ℕ) (y : UnitIndex) → v < p → get_elem? units v ≡ some y → n ≤ spare y.spots

pub room_more : (p n : ℕ) (units : List UnitIndex) (y : UnitIndex) → n ≤ spare y.spots → RoomBelow p n units → RoomBelow (p + 1) n (set units p y)
room_more p n units y le room v z lt here = pick (at_set units p v y z here)
  where
    pick : ((v ≡ p) × (y ≡ z)) ⊎ ((v ≢ p) × (get_elem? units v ≡ some z)) → n ≤ spare z.spots
    pick (inl h) = subst (λ (w : UnitIndex). n ≤ spare w.spots) h.1 le
    pick (inr h) = let ne = h.0 in room v z (omega arith) h.1

pub room_all : (p n : ℕ) (units : List UnitIndex) → length units ≤ p → RoomBelow p n units → HaveRoom n units
room_all p n units le room v y at = let w = at_within units v y at in room v y (omega arith) at
