-- The spots of the first counters of a call.
use Rattle.std.proofs.Common.{◌≡◌, ◌⊎◌, ℕ, zero, suc, ◌+◌, ◌≤◌, ◌<◌, ◌==◌, ◌&&◌, nat_lt, List, [], ◌∷◌, ◌++◌, length, take, get_or, ◌-◌, Bool, true, false, refl, sym, ap, ◌∙◌, subst, arith}
use Rattle.std.proofs.Common.{inl, inr, eq-eqb, length-append}
use Rattle.std.proofs.lemmas.Bool.{ne_eqb}
use Rattle.std.proofs.lemmas.Grind.{common_steps}
use mathlib.Core.Option.{some, some-injective, some-ne-none}
use mathlib.Core.List.{IsPrefix}
use lib.ListN.{get_elem?}
use Rattle.window_keys.proofs.Counters.{is_same}
use Rattle.atomic_table.proofs.Lists.{at_map}
use Rattle.rate_types.specs.declared.counter_key.CounterKey.{CounterKey}
use Rattle.rate_types.specs.declared.counter_name.CounterName.{CounterName}
use Rattle.rate_types.specs.Counters.{same_counter}
use Rattle.rate_types.specs.Sums.{one_if}
use Rattle.rate_types.proofs.Sums.{total_append, total_push}
use Rattle.counter_cells.specs.declared.answers.Spot.{Spot}
use Rattle.counter_directory.specs.declared.claim.Claim.{Claim}
use Rattle.counter_directory.specs.Claims.{claims_of, bindings_of}
use Rattle.counter_directory.specs.Keys.{key_at, keys_at, key_count, IsMissing}
use Rattle.counter_directory.specs.Pool.{spot}
use Rattle.counter_directory.specs.Spots.{Bound}
use Rattle.counter_directory.specs.Acquired.{Grows}
use Rattle.counter_directory.specs.Acquiring.{AreFirstBound, IsBoundAt, IsUnclaimedAt}
use Rattle.counter_directory.proofs.Lists.{at_cut, at_read, some_at, last_expired}
use Rattle.counter_directory.proofs.Pinning.{all_claimed}

-- one spot more
pub bound_next : (claims : List Claim) (keys : List CounterKey) (spots new : List Spot) (s : Spot) → length spots < length keys → new ≡ spots ++ s ∷ []
    → IsBoundAt (length spots) keys claims s → AreFirstBound claims keys spots → AreFirstBound claims keys new
bound_next claims keys spots new s lt e here b = (
  omega (arith, ap (λ (l : List Spot). length l) e, length-append spots (s ∷ [])),
  λ j k t at there. pick j k t at (at_cut spots s t j (subst (λ (l : List Spot). get_elem? l j ≡ some t) e there)),
)
  where
    pick : (j : ℕ) (k : CounterKey) (t : Spot) → get_elem? keys j ≡ some k
        → ((j < length spots) × (get_elem? spots j ≡ some t)) ⊎ ((j ≡ length spots) × (s ≡ t)) → 1 ≤ bindings_of k t.cell t.claim claims
    pick j k t at (inl y) = b.1 j k t at y.1
    pick j k t at (inr y) = subst (λ (r : Spot). 1 ≤ bindings_of k r.cell r.claim claims) y.1 (here k (ap (get_elem? keys) (sym y.0) ∙ at))

-- the counter at the place is bound
pub bound_at : (claims : List Claim) (keys : List CounterKey) (i : ℕ) (d : CounterKey) (s : Spot) → i < length keys
    → 1 ≤ bindings_of (get_or keys i d) s.cell s.claim claims → IsBoundAt i keys claims s
bound_at claims keys i d s lt here k at =
    subst (λ (u : CounterKey). 1 ≤ bindings_of u s.cell s.claim claims) (some-injective _ _ (sym (at_read keys i d lt) ∙ at)) here

-- the counter at the place has no claim
pub unclaimed_at : (claims : List Claim) (keys : List CounterKey) (i : ℕ) (d : CounterKey) → i < length keys → claims_of (get_or keys i d) claims ≡ 0 → IsUnclaimedAt i keys claims
unclaimed_at claims keys i d lt none =
    (lt, λ k at. subst (λ (u : CounterKey). claims_of u claims ≡ 0) (some-injective _ _ (sym (at_read keys i d lt) ∙ at)) none)

-- spots stay bound while claims are added
pub bound_grows : (m : ℕ) (found left : List Claim) (keys : List CounterKey) (spots : List Spot) → Grows m found left → AreFirstBound found keys spots → AreFirstBound left keys spots
bound_grows m found left keys spots g b = (
  b.0,
  λ i k s at there.
      let t : bindings_of k s.cell s.claim left ≡ bindings_of k s.cell s.claim found + bindings_of k s.cell s.claim g.0
      = ap (bindings_of k s.cell s.claim) g.1 ∙ total_append (λ (x : Claim). one_if (same_counter x.key k && ((x.cell == s.cell) && (x.claim == s.claim)))) found g.0 in
      omega (arith, b.1 i k s at there, t),
)

-- where each counter has a spot, none is missing
pub none_missing : (keys : List CounterKey) (spots : List Spot) (claims : List Claim) → length spots ≡ length keys → Bound claims keys spots → IsMissing claims keys []
none_missing keys spots claims len bound q = none (claims_of q claims) (key_count q keys) (all_claimed keys spots claims len bound q)
  where
    none : (n k : ℕ) → (1 ≤ k → 1 ≤ n) → 0 ≡ one_if ((n == 0) && nat_lt 0 k)
    none n zero h = by (n == 0)
      where
        by : (t : Bool) → 0 ≡ one_if (t && false)
        by true = refl
        by false = refl
    none n (suc k) h = let some_one = h (omega arith) in ap (λ t. one_if (t && nat_lt 0 (suc k))) (sym (ne_eqb n 0 (λ e. omega arith)))

at_taken : (keys : List CounterKey) (n i : ℕ) (k : CounterKey) → get_elem? (take n keys) i ≡ some k → get_elem? keys i ≡ some k
at_taken [] zero i k e = absurd (some-ne-none k (sym e))
at_taken [] (suc n) i k e = absurd (some-ne-none k (sym e))
at_taken (x ∷ xs) zero i k e = absurd (some-ne-none k (sym e))
at_taken (x ∷ xs) (suc n) zero k e = e
at_taken (x ∷ xs) (suc n) (suc i) k e = at_taken xs n i k e

-- so none is missing among the first
pub none_before : (keys : List CounterKey) (spots : List Spot) (claims : List Claim) → AreFirstBound claims keys spots → IsMissing claims (take (length spots) keys) []
none_before keys spots claims b =
    let few = b.0 in
    let n : length (take (length spots) keys) ≡ length spots = grind (arith, common_steps) in
    none_missing (take (length spots) keys) spots claims (sym n) (λ i k s at there. b.1 i k s (at_taken keys (length spots) i k at) there)

-- Until the first of the counters is bound, the spot is the one that is reserved last
pub record BindsFirst (s : Spot) (start reserved : List Spot) (keys : List CounterKey) (claims : List Claim) : Type 0 where
  pub none : keys ≡ [] → reserved ≡ start
  pub bound : IsBoundAt 0 keys claims s

pub first_none : (s : Spot) (start : List Spot) (claims : List Claim) → BindsFirst s start start [] claims
first_none s start claims = record { none = λ e. refl; bound = λ k at. absurd (some-ne-none k (sym at)) }

binding_more : (q : CounterKey) (k c : ℕ) (claims after : List Claim) (x : Claim) → after ≡ claims ++ x ∷ []
    → bindings_of q k c after ≡ bindings_of q k c claims + one_if (same_counter x.key q && ((x.cell == k) && (x.claim == c)))
binding_more q k c claims after x e =
    ap (bindings_of q k c) e ∙ total_push (λ (y : Claim). one_if (same_counter y.key q && ((y.cell == k) && (y.claim == c)))) claims x

-- one counter more is bound, to the spot reserved last
pub first_more : (s : Spot) (start reserved after : List Spot) (keys : List CounterKey) (claims claims' : List Claim) (x : Claim) (d : Spot)
    → s ≡ get_or start (length start - 1) d → claims' ≡ claims ++ x ∷ [] → reserved ≡ after ++ spot x.cell x.claim ∷ [] → BindsFirst s start reserved keys claims
    → BindsFirst s start after (keys ++ x.key ∷ []) claims'
first_more s start reserved after [] claims claims' x d last e was b = record {
  none = λ h. absurd (some-ne-none x.key (ap (λ (l : List CounterKey). get_elem? l 0) h));
  bound = λ k at.
      let same : x.key ≡ k = some-injective _ _ at in
      let here : s ≡ spot x.cell x.claim = last_expired start after (spot x.cell x.claim) d s (length start) (sym (b.none refl) ∙ was) refl last in
      let one : one_if (same_counter x.key k && ((x.cell == s.cell) && (x.claim == s.claim))) ≡ 1 = all _ _ _ (is_same x.key k same)
      (eq-eqb x.cell s.cell (sym (ap (λ (t : Spot). t.cell) here))) (eq-eqb x.claim s.claim (sym (ap (λ (t : Spot). t.claim) here))) in
      let m = binding_more k s.cell s.claim claims claims' x e in
      omega arith;
}
  where
    all : (a b c : Bool) → a ≡ true → b ≡ true → c ≡ true → one_if (a && (b && c)) ≡ 1
    all a b c p q r = ap (λ t. one_if (t && (b && c))) p ∙ ap (λ t. one_if (t && c)) q ∙ ap one_if r
first_more s start reserved after (y ∷ ys) claims claims' x d last e was b = record {
  none = λ h. absurd (some-ne-none y (ap (λ (l : List CounterKey). get_elem? l 0) h));
  bound = λ k at. let o = b.bound k at in let m = binding_more k s.cell s.claim claims claims' x e in omega arith;
}

-- the first item stays while others come behind it
pub first_stays : {A : Type 0} (xs ys : List A) (a : A) → IsPrefix xs ys → get_elem? xs 0 ≡ some a → get_elem? ys 0 ≡ some a
first_stays [] ys a p e = absurd (some-ne-none a (sym e))
first_stays (x ∷ xs) ys a p e = ap (λ (l : List _). get_elem? l 0) (sym p.1) ∙ e

-- the counter of the first name that was missing
pub first_named : (m : ℕ) (names missing : List CounterName) (i : ℕ) (claims : List Claim) (s : Spot) → i < length names
    → get_elem? missing 0 ≡ get_elem? names i → IsBoundAt 0 (keys_at m missing) claims s → IsBoundAt i (keys_at m names) claims s
first_named m names missing i claims s lt e b k at =
    let a = some_at names i lt in
    let here : key_at m a.0 ≡ k = some-injective _ _ (sym (at_map (key_at m) names i a.0 a.1) ∙ at) in
    b k (at_map (key_at m) missing 0 a.0 (e ∙ a.1) ∙ ap some here)
