-- The one pool of a bucket among all pools.
use Rattle.std.proofs.Common.{◌≡◌, ℕ, zero, suc, ◌≤◌, if◌then◌else◌, Bool, true, false, List, [], ◌∷◌, Some, None, option_map, refl, ap, sym, ◌∙◌}
use Rattle.std.proofs.Common.{arith, map}
use Rattle.std.specs.Prelude.{find, slice_get, slice_set}
use Rattle.std.specs.List.{AllByRecursion}
use Rattle.std.proofs.lemmas.Bool.{true≢false}
use Rattle.quota_settings.specs.declared.pair.Pair.{Pair}
use Rattle.quota_settings.specs.Laws.{same_by_eq, eq_of_same}
use Rattle.quota_pools.specs.Pools.{OnePool, has_pool}
use Rattle.quota_pools.specs.Places.{AreAt, places_of}
use Rattle.quota_pools.specs.declared.pool_places.PoolPlaces.{PoolPlaces}
use Rattle.quota_server.specs.Written.{WrittenShares}
use Rattle.quota_server.specs.Servers.{is_for, without_share}

abbrev pub pools_of : List WrittenShares → List OnePool
pools_of ws = map (λ w. w.pool) ws

-- one of the pools changed, where it is that of the bucket
abbrev pub changed : List Pair → (WrittenShares → WrittenShares) → List WrittenShares → List WrittenShares
changed bucket h ws = map (λ w. if is_for bucket w then h w else w) ws

-- a bucket without a pool finds none, and none changes
pub none_found : (bucket : List Pair) (ws : List WrittenShares) → has_pool (pools_of ws) bucket ≡ false → find (is_for bucket) ws ≡ None
none_found bucket [] none = refl
none_found bucket (w ∷ ws) none = by (none_found bucket ws) (is_for bucket w) refl
  where
    by : (has_pool (pools_of ws) bucket ≡ false → find (is_for bucket) ws ≡ None) → (b : Bool) → is_for bucket w ≡ b → find (is_for bucket) (w ∷ ws) ≡ None
    by rest true is = absurd (true≢false (rw is at none))
    by rest false is = rw is (rest (rw is at none))

pub none_changed : (bucket : List Pair) (h : WrittenShares → WrittenShares) (ws : List WrittenShares) → has_pool (pools_of ws) bucket ≡ false
    → changed bucket h ws ≡ ws
none_changed bucket h [] none = refl
none_changed bucket h (w ∷ ws) none = by (none_changed bucket h ws) (is_for bucket w) refl
  where
    by : (has_pool (pools_of ws) bucket ≡ false → changed bucket h ws ≡ ws) → (b : Bool) → is_for bucket w ≡ b → changed bucket h (w ∷ ws) ≡ w ∷ ws
    by rest true is = absurd (true≢false (rw is at none))
    by rest false is = rw is (ap (λ xs. w ∷ xs) (rest (rw is at none)))

-- no other place is that of the bucket
abbrev pub IsOnlyAt : List Pair → List WrittenShares → ℕ → Type 0
IsOnlyAt bucket ws i = (j : ℕ) (v : WrittenShares) → slice_get ws j ≡ Some v → is_for bucket v ≡ true → j ≡ i

none_here : (bucket : List Pair) (ws : List WrittenShares) → ((j : ℕ) (v : WrittenShares) → slice_get ws j ≡ Some v → is_for bucket v ≡ true → ⊥)
    → has_pool (pools_of ws) bucket ≡ false
none_here bucket [] never = refl
none_here bucket (w ∷ ws) never = by (none_here bucket ws (λ j v at is. never (suc j) v at is)) (is_for bucket w) refl
  where
    by : has_pool (pools_of ws) bucket ≡ false → (b : Bool) → is_for bucket w ≡ b → has_pool (pools_of (w ∷ ws)) bucket ≡ false
    by rest true is = absurd (never zero w refl is)
    by rest false is = rw is rest

-- the one pool is found
pub one_found : (bucket : List Pair) (ws : List WrittenShares) (i : ℕ) (w : WrittenShares) → slice_get ws i ≡ Some w → is_for bucket w ≡ true
    → IsOnlyAt bucket ws i → find (is_for bucket) ws ≡ Some w
one_found bucket [] i w at is only = absurd (cc)
one_found bucket (v ∷ ws) zero w at is only =
    let same : v ≡ w = cc in
    let here : is_for bucket v ≡ true = ap (is_for bucket) same ∙ is in
    rw here (ap Some same)
one_found bucket (v ∷ ws) (suc i) w at is only = by (one_found bucket ws i w at is (λ j u there for_. one_less (only (suc j) u there for_))) (is_for bucket v) refl
  where
    one_less : {j : ℕ} → suc j ≡ suc i → j ≡ i
    one_less e = omega (arith, e)

    by : find (is_for bucket) ws ≡ Some w → (b : Bool) → is_for bucket v ≡ b → find (is_for bucket) (v ∷ ws) ≡ Some w
    by rest true for_ = absurd (let first = only zero v refl for_ in omega (arith, first))
    by rest false for_ = rw for_ rest

-- and it alone changes
pub one_changed : (bucket : List Pair) (h : WrittenShares → WrittenShares) (ws : List WrittenShares) (i : ℕ) (w : WrittenShares) → slice_get ws i ≡ Some w
    → is_for bucket w ≡ true → IsOnlyAt bucket ws i → changed bucket h ws ≡ slice_set ws i (h w)
one_changed bucket h [] i w at is only = absurd (cc)
one_changed bucket h (v ∷ ws) zero w at is only =
    let same : v ≡ w = cc in
    let here : is_for bucket v ≡ true = ap (is_for bucket) same ∙ is in
    let rest = none_changed bucket h ws (none_here bucket ws (λ j u there for_. not_zero (only (suc j) u there for_))) in
    rw here (ap (λ x. h x ∷ changed bucket h ws) same ∙ ap (λ xs. h w ∷ xs) rest)
  where
    not_zero : {j : ℕ} → suc j ≡ zero → ⊥
    not_zero e = omega (arith, e)
one_changed bucket h (v ∷ ws) (suc i) w at is only = by (one_changed bucket h ws i w at is (λ j u there for_. one_less (only (suc j) u there for_))) (is_for bucket v) refl
  where
    one_less : {j : ℕ} → suc j ≡ suc i → j ≡ i
    one_less e = omega (arith, e)

    by : changed bucket h ws ≡ slice_set ws i (h w) → (b : Bool) → is_for bucket v ≡ b → changed bucket h (v ∷ ws) ≡ v ∷ slice_set ws i (h w)
    by rest true for_ = absurd (let first = only zero v refl for_ in omega (arith, first))
    by rest false for_ = rw for_ (ap (λ xs. v ∷ xs) rest)

-- the pool at a place
get_pool : (ws : List WrittenShares) (i : ℕ) → slice_get (pools_of ws) i ≡ option_map (λ (w : WrittenShares). w.pool) (slice_get ws i)
get_pool [] i = refl
get_pool (w ∷ ws) zero = refl
get_pool (w ∷ ws) (suc i) = get_pool ws i

-- The place of a bucket's pool: the pool there is that of the bucket, and no other one is.
pub record IsFoundAt (bucket : List Pair) (ws : List WrittenShares) (i : ℕ) (w : WrittenShares) : Type 0 where
  pub at : slice_get ws i ≡ Some w
  pub is : is_for bucket w ≡ true
  pub only : IsOnlyAt bucket ws i

pub found_at : (places : PoolPlaces) (bucket : List Pair) (ws : List WrittenShares) (i : ℕ) (w : WrittenShares) → AreAt places (pools_of ws)
    → option_map (λ (p : OnePool). p.bucket) (slice_get (pools_of ws) i) ≡ Some bucket → slice_get ws i ≡ Some w → IsFoundAt bucket ws i w
found_at places bucket ws i w placed named at = record {
  at = at;
  is = eq_of_same w.pool.bucket bucket own;
  only = λ j v there is. (
      let pool : slice_get (pools_of ws) j ≡ Some v.pool = get_pool ws j ∙ ap (option_map (λ (x : WrittenShares). x.pool)) there in
      let other : places_of places v.pool.bucket ≡ Some j = placed.placed j v.pool pool in
      let here : places_of places w.pool.bucket ≡ Some i = placed.placed i w.pool (get_pool ws i ∙ ap (option_map (λ (x : WrittenShares). x.pool)) at) in
      let same : v.pool.bucket ≡ w.pool.bucket = same_by_eq v.pool.bucket bucket is ∙ sym own in
      some_same (sym other ∙ ap (places_of places) same ∙ here));
}
  where
    own : w.pool.bucket ≡ bucket
    own = some_texts (sym (ap (option_map (λ (p : OnePool). p.bucket)) (get_pool ws i ∙ ap (option_map (λ (x : WrittenShares). x.pool)) at)) ∙ named)
      where
        some_texts : {a b : List Pair} → Some a ≡ Some b → a ≡ b
        some_texts e = cc

    some_same : {a b : ℕ} → Some a ≡ Some b → a ≡ b
    some_same e = cc

-- ---- one of the pools is set

pub set_all : (P : WrittenShares → Type 0) (ws : List WrittenShares) (i : ℕ) (w : WrittenShares) → AllByRecursion P ws → P w
    → AllByRecursion P (slice_set ws i w)
set_all P [] i w all one = tt
set_all P (v ∷ ws) zero w all one = (one, all.1)
set_all P (v ∷ ws) (suc i) w all one = (all.0, set_all P ws i w all.1 one)

pub get_all : (P : WrittenShares → Type 0) (ws : List WrittenShares) (i : ℕ) (w : WrittenShares) → AllByRecursion P ws → slice_get ws i ≡ Some w → P w
get_all P [] i w all at = absurd (cc)
get_all P (v ∷ ws) zero w all at = let same : v ≡ w = cc in rw (← same) all.0
get_all P (v ∷ ws) (suc i) w all at = get_all P ws i w all.1 at

pub set_pools : (ws : List WrittenShares) (i : ℕ) (w v : WrittenShares) → slice_get ws i ≡ Some w → v.pool ≡ w.pool → pools_of (slice_set ws i v) ≡ pools_of ws
set_pools [] i w v at same = refl
set_pools (x ∷ ws) zero w v at same = let here : x ≡ w = cc in ap (λ p. p ∷ pools_of ws) (same ∙ ap (λ (y : WrittenShares). y.pool) (sym here))
set_pools (x ∷ ws) (suc i) w v at same = ap (λ ps. x.pool ∷ ps) (set_pools ws i w v at same)

-- a place past the pools is that of no bucket
pub none_past : (ws : List WrittenShares) (i : ℕ) (bucket : List Pair) → option_map (λ (p : OnePool). p.bucket) (slice_get (pools_of ws) i) ≡ Some bucket
    → slice_get ws i ≡ None → ⊥
none_past ws i bucket named past = no_text (sym (ap (option_map (λ (p : OnePool). p.bucket)) (get_pool ws i ∙ ap (option_map (λ (w : WrittenShares). w.pool)) past)) ∙ named)
  where
    no_text : {a : List Pair} → None ≡ Some a → ⊥
    no_text e = cc

-- ---- pools without a share

pub pools_without : (ps : List OnePool) → pools_of (map without_share ps) ≡ ps
pools_without [] = refl
pools_without (p ∷ ps) = ap (λ qs. p ∷ qs) (pools_without ps)

pub begun_without : (time : ℕ) (ps : List OnePool) → AllByRecursion (λ w. w.last ≤ time) (map without_share ps)
begun_without time [] = tt
begun_without time (p ∷ ps) = (omega arith, begun_without time ps)
