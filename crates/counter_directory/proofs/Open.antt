-- The claims whose windows haven't ended, gathered unit by unit.
use Rattle.std.proofs.Common.{◌≡◌, ◌⊎◌, ℕ, zero, suc, ◌+◌, ◌≤◌, ◌<◌, List, [], ◌∷◌, ◌++◌, length, map, Bool, true, false, refl, sym, ap, ◌∙◌, subst, arith, inl, inr}
use Rattle.std.specs.Prelude.{All, Option, Some, None, slice_get}
use Rattle.std.specs.HashMap.{get, IsUnique}
use Rattle.std.specs.List.{AllByRecursion, IsDistinct}
use Rattle.std.specs.Map.{keys_of}
use Rattle.std.proofs.lemmas.Map.Entries.{place_from_lookup}
use native.Mathlib.Decide.{dec_le, ℕ_discrete}
use mathlib.Core.Option.{some, some-injective, some-ne-none}
use lib.ListN.{get_elem?}
use Rattle.rate_types.specs.declared.counter_key.CounterKey.{CounterKey}
use Rattle.rate_types.specs.declared.counter_name.CounterName.{CounterName}
use Rattle.rate_types.specs.Counters.{same_name, same_counter}
use Rattle.rate_types.specs.Sums.{one_if}
use Rattle.rate_types.proofs.Sums.{total_append, total_none}
use Rattle.rate_types.specs.Units.{unit_rank}
use Rattle.window_keys.specs.Window.{window_start}
use Rattle.window_keys.specs.Counter.{window_end_of}
use Rattle.counter_cells.specs.declared.answers.Spot.{Spot}
use Rattle.counter_directory.specs.declared.claim.Claim.{Claim}
use Rattle.counter_directory.specs.declared.closed.OpenClaim.{OpenClaim}
use Rattle.counter_directory.specs.declared.unit_index.UnitIndex.{UnitIndex}
use Rattle.counter_directory.specs.Claims.{claims_of, bindings_of}
use Rattle.counter_directory.specs.Keys.{key_at}
use Rattle.counter_directory.specs.Index.{UnitFits, IndexFits}
use Rattle.counter_directory.specs.Open.{open_at, open_claims_of, AreOpenClaims}
use Rattle.window_keys.proofs.Counters.{same_unit, same_is, not_same, same_either}
use Rattle.counter_directory.proofs.Indexing.{named, same_start, same_at}
use Rattle.counter_directory.proofs.Ringing.{end_later, rank_few}

-- what was gathered of the first n units
pub record OpenBelow (n last : ℕ) (claims : List Claim) (xs : List OpenClaim) : Type 0 where
  pub are : (i : ℕ) (x : OpenClaim) → get_elem? xs i ≡ some x → (last < window_end_of x.key) × (1 ≤ bindings_of x.key x.spot.cell x.spot.claim claims)
  pub once : (q : CounterKey) → open_claims_of q xs ≤ 1
  pub later : (q : CounterKey) → n ≤ unit_rank q.name.unit → open_claims_of q xs ≡ 0
  pub all : (q : CounterKey) → unit_rank q.name.unit < n → last < window_end_of q → 1 ≤ claims_of q claims
      → (i : ℕ) × (x : OpenClaim) × (get_elem? xs i ≡ some x) × (x.key ≡ q)

module _ {A B : Type 0} (f : A → B) where
  at_map : (es : List A) (j : ℕ) (y : B) → get_elem? (map f es) j ≡ some y → (e : A) × (get_elem? es j ≡ some e) × (f e ≡ y)
  at_map [] j y at = absurd (some-ne-none y (sym at))
  at_map (e ∷ es) zero y at = (e, refl, some-injective (f e) y at)
  at_map (e ∷ es) (suc j) y at = at_map es j y at

  map_at : (es : List A) (j : ℕ) (e : A) → get_elem? es j ≡ some e → get_elem? (map f es) j ≡ some (f e)
  map_at [] j e at = absurd (some-ne-none e (sym at))
  map_at (x ∷ es) zero e at = ap (λ z. some (f z)) (some-injective x e at)
  map_at (x ∷ es) (suc j) e at = map_at es j e at

module _ {A : Type 0} where
  at_join : (xs ys : List A) (i : ℕ) (x : A) → get_elem? (xs ++ ys) i ≡ some x → (get_elem? xs i ≡ some x) ⊎ ((j : ℕ) × (get_elem? ys j ≡ some x))
  at_join [] ys i x at = inr (i, at)
  at_join (z ∷ zs) ys zero x at = inl at
  at_join (z ∷ zs) ys (suc i) x at = at_join zs ys i x at

  at_left : (xs ys : List A) (i : ℕ) (x : A) → get_elem? xs i ≡ some x → get_elem? (xs ++ ys) i ≡ some x
  at_left [] ys i x at = absurd (some-ne-none x (sym at))
  at_left (z ∷ zs) ys zero x at = at
  at_left (z ∷ zs) ys (suc i) x at = at_left zs ys i x at

  at_right : (xs ys : List A) (j : ℕ) (x : A) → get_elem? ys j ≡ some x → get_elem? (xs ++ ys) (length xs + j) ≡ some x
  at_right [] ys j x at = let e : j ≡ 0 + j = omega arith in subst (λ n. get_elem? ys n ≡ some x) e at
  at_right (z ∷ zs) ys j x at =
      let e : suc (length zs + j) ≡ length (z ∷ zs) + j = omega arith in subst (λ n. get_elem? (z ∷ (zs ++ ys)) n ≡ some x) e (at_right zs ys j x at)

  all_at : (P : A → Type 0) (xs : List A) (i : ℕ) (x : A) → All P xs → get_elem? xs i ≡ some x → P x
  all_at P [] i x all at = absurd (some-ne-none x (sym at))
  all_at P (z ∷ zs) zero x all at = subst P (some-injective z x at) (all 0 z (omega arith))
  all_at P (z ∷ zs) (suc i) x all at = all_at P zs i x (λ k d h. all (suc k) d (omega arith)) at

  slice_at : (xs : List A) (i : ℕ) (x : A) → slice_get xs i ≡ Some x → get_elem? xs i ≡ some x
  slice_at [] i x e = cc
  slice_at (z ∷ zs) zero x e = let a : z ≡ x = cc in ap some a
  slice_at (z ∷ zs) (suc i) x e = slice_at zs i x e

-- a counter of a window that has begun and hasn't ended is that of its name at the moment
current : (last : ℕ) (q : CounterKey) → q.start ≤ last → last < window_end_of q → q.start ≡ window_start q.name.unit q.start → key_at last q.name ≡ q
current last q le lt whole =
    let e : window_start q.name.unit last ≡ window_start q.name.unit q.start = same_start q.name.unit q.start last le (omega (arith, whole)) in
    let s : window_start q.name.unit last ≡ q.start = e ∙ sym whole in
    λ i. record { name = q.name; start = s i }

-- no other of these names is the first, so none of their counters is its
module _ (last : ℕ) where
  no_twin : (n : CounterName) (es : List (CounterName × Spot)) → AllByRecursion (λ m. same_name n m ≡ false) (keys_of es)
      → open_claims_of (key_at last n) (map (open_at last) es) ≡ 0
  no_twin n [] h = refl
  no_twin n (d ∷ es) h =
      let other : same_counter (key_at last d.0) (key_at last n) ≡ false = same_either (key_at last d.0) (key_at last n) ∙ same_at last n d.0 ∙ h.0 in
      let first = ap one_if other in
      let rest = no_twin n es h.1 in
      omega arith

  -- names that differ have counters that differ
  names_once : (es : List (CounterName × Spot)) → IsDistinct same_name (keys_of es) → (q : CounterKey) → open_claims_of q (map (open_at last) es) ≤ 1
  unfolding IsDistinct
  names_once [] h q = omega arith
  names_once (e ∷ es) h q = by (same_counter (key_at last e.0) q) refl (names_once es h.1 q)
    where
      by : (b : Bool) → same_counter (key_at last e.0) q ≡ b → open_claims_of q (map (open_at last) es) ≤ 1
          → open_claims_of q (map (open_at last) (e ∷ es)) ≤ 1
      by true is more =
          let first = ap one_if is in
          let none = subst (λ k. open_claims_of k (map (open_at last) es) ≡ 0) (same_is (key_at last e.0) q is) (no_twin e.0 es h.0) in
          omega arith
      by false is more = let first = ap one_if is in omega arith

pub open_none : (last : ℕ) (claims : List Claim) (xs : List OpenClaim) → xs ≡ [] → OpenBelow 0 last claims xs
open_none last claims xs e = record {
  are = λ i x at. absurd (some-ne-none x (sym (subst (λ l. get_elem? l i ≡ some x) e at)));
  once = λ q. let none = ap (open_claims_of q) e in omega arith;
  later = λ q le. ap (open_claims_of q) e;
  all = λ q lt now some_one. absurd (omega arith);
}

pub open_more : (n last : ℕ) (claims : List Claim) (units : List UnitIndex) (x : UnitIndex) (xs new : List OpenClaim) → IndexFits last claims units → get_elem? units n ≡ some x
    → All (λ e. get same_name x.spots e.0 ≡ Some e.1) x.spots.entries → IsUnique same_name x.spots → new ≡ xs ++ map (open_at last) x.spots.entries → OpenBelow n last claims xs
    → OpenBelow (n + 1) last claims new
open_more n last claims units x xs new fits at found unique more o = subst (OpenBelow (n + 1) last claims) (sym more) (record {
  are = λ i y here. are i y (at_join xs (map (open_at last) x.spots.entries) i y here);
  once = once;
  later = λ q le.
      let front = o.later q (omega arith) in
      let back = foreign q (λ h. omega arith) in
      let both = count q in
      omega arith;
  all = λ q lt now some_one. all q lt now some_one;
})
  where
    f : UnitFits n last claims x
    f = fits.each n x at

    are : (i : ℕ) (y : OpenClaim) → (get_elem? xs i ≡ some y) ⊎ ((j : ℕ) × (get_elem? (map (open_at last) x.spots.entries) j ≡ some y))
        → (last < window_end_of y.key) × (1 ≤ bindings_of y.key y.spot.cell y.spot.claim claims)
    are i y (inl here) = o.are i y here
    are i y (inr here) =
        let e = at_map (open_at last) x.spots.entries here.0 y here.1 in
        let g = all_at (λ (e : CounterName × Spot). get same_name x.spots e.0 ≡ Some e.1) x.spots.entries here.0 e.0 found e.1 in
        let t = f.there e.0.0 e.0.1 g in
        subst (λ (z : OpenClaim). (last < window_end_of z.key) × (1 ≤ bindings_of z.key z.spot.cell z.spot.claim claims)) e.2
        (end_later last (key_at last e.0.0) refl, t.1)

    count : (q : CounterKey) → open_claims_of q (xs ++ map (open_at last) x.spots.entries) ≡ open_claims_of q xs + open_claims_of q (map (open_at last) x.spots.entries)
    count q = total_append (λ (y : OpenClaim). one_if (same_counter y.key q)) xs (map (open_at last) x.spots.entries)

    -- none of the unit's counters is of another unit
    foreign : (q : CounterKey) → ¬ (unit_rank q.name.unit ≡ n) → open_claims_of q (map (open_at last) x.spots.entries) ≡ 0
    foreign q ne = total_none (λ (y : OpenClaim). one_if (same_counter y.key q)) (map (open_at last) x.spots.entries) (λ k y here.
        let e = at_map (open_at last) x.spots.entries k y here in
        let g = all_at (λ (e : CounterName × Spot). get same_name x.spots e.0 ≡ Some e.1) x.spots.entries k e.0 found e.1 in
        let t = f.there e.0.0 e.0.1 g in
        let rank : unit_rank y.key.name.unit ≡ n = ap (λ (z : OpenClaim). unit_rank z.key.name.unit) (sym e.2) ∙ ap unit_rank t.0 ∙ f.rank in
        ap one_if (not_same y.key q (λ is. ne (ap (λ (k : CounterKey). unit_rank k.name.unit) (sym is) ∙ rank))))

    once : (q : CounterKey) → open_claims_of q (xs ++ map (open_at last) x.spots.entries) ≤ 1
    once q = pick (ℕ_discrete (unit_rank q.name.unit) n)
      where
        pick : Dec (unit_rank q.name.unit ≡ n) → open_claims_of q (xs ++ map (open_at last) x.spots.entries) ≤ 1
        pick (yes e) =
            let front = o.later q (omega arith) in
            let back = names_once last x.spots.entries unique q in
            let both = count q in
            omega arith
        pick (no ne) =
            let front = o.once q in
            let back = foreign q ne in
            let both = count q in
            omega arith

    begun : (q : CounterKey) → 1 ≤ claims_of q claims → q.start ≤ last
    begun q h = pick (dec_le q.start last)
      where
        pick : Dec (q.start ≤ last) → q.start ≤ last
        pick (yes le) = le
        pick (no gt) = let z = fits.later q (omega arith) in absurd (omega arith)

    Listed : CounterKey → Type 0
    Listed q = (i : ℕ) × (y : OpenClaim) × (get_elem? (xs ++ map (open_at last) x.spots.entries) i ≡ some y) × (y.key ≡ q)

    here : (q : CounterKey) → unit_rank q.name.unit ≡ n → last < window_end_of q → 1 ≤ claims_of q claims → Listed q
    here q rank now some_one = by (get same_name x.spots q.name) refl
      where
        is : key_at last q.name ≡ q
        is = current last q (begun q some_one) now (fits.whole q some_one)

        by : (r : Option Spot) → get same_name x.spots q.name ≡ r → Listed q
        by None e =
            let z : claims_of q claims ≡ 0 = ap (λ k. claims_of k claims) (sym is) ∙ f.none q.name (same_unit q.name.unit x.unit (rank ∙ sym f.rank)) e in
            absurd (omega arith)
        by (Some s) e =
            let p = place_from_lookup (same_name q.name) x.spots.entries s e in
            let m = map_at (open_at last) x.spots.entries p.0 (p.1, s) (slice_at x.spots.entries p.0 (p.1, s) p.2) in (
              length xs + p.0,
              open_at last (p.1, s),
              at_right xs (map (open_at last) x.spots.entries) p.0 (open_at last (p.1, s)) m,
              ap (key_at last) (sym (named q.name p.1 p.3)) ∙ is,
            )

    all : (q : CounterKey) → unit_rank q.name.unit < n + 1 → last < window_end_of q → 1 ≤ claims_of q claims → Listed q
    all q lt now some_one = pick (ℕ_discrete (unit_rank q.name.unit) n)
      where
        pick : Dec (unit_rank q.name.unit ≡ n) → Listed q
        pick (yes e) = here q e now some_one
        pick (no ne) =
            let r = o.all q (omega arith) now some_one in
            (r.0, r.1, at_left xs (map (open_at last) x.spots.entries) r.0 r.1 r.2, r.3)

pub open_all : (n last : ℕ) (claims : List Claim) (xs : List OpenClaim) → 4 ≤ n → OpenBelow n last claims xs → AreOpenClaims last claims xs
open_all n last claims xs four o = record { are = o.are; once = o.once; all = λ q now some_one. o.all q (let r = rank_few q.name.unit in omega arith) now some_one }
