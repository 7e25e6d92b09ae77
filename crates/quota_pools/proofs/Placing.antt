-- What an index of the buckets of pools tells, and what stays of it as a pool is added.
use Rattle.std.proofs.Common.{◌≡◌, ℕ, zero, suc, ◌<◌, ◌⊎◌, inl, inr, Bool, true, false, List, [], ◌∷◌, ◌++◌, refl, ap, sym, ◌∙◌, arith, Option, Some, None, option_map}
use Rattle.std.proofs.Common.{length, cond}
use Rattle.std.specs.Prelude.{slice_get, is_some}
use Rattle.std.specs.Ordering.{is_eq}
use Rattle.std.proofs.lemmas.Bool.{cases_eq, true≢false}
use Rattle.std.proofs.lemmas.Option.{slice_get_within}
use Rattle.quota_settings.specs.declared.pair.Pair.{Pair}
use Rattle.quota_settings.specs.Pairs.{pairs_cmp, same_pairs}
use Rattle.quota_settings.specs.Laws.{same_by_cmp, cmp_of_same, same_by_eq, eq_of_same}
use Rattle.quota_pools.specs.Pools.{OnePool, has_pool, IsPlaceIn}
use Rattle.quota_pools.specs.Places.{IsPlaces}

-- no pool is that of the bucket
none_among : (pools : List OnePool) (id : List Pair) → ((i : ℕ) (p : OnePool) → slice_get pools i ≡ Some p → p.bucket ≡ id → ⊥)
    → has_pool pools id ≡ false
none_among [] id never = refl
none_among (p ∷ ps) id never = by (none_among ps id (λ i q at e. never (suc i) q at e)) (same_pairs p.bucket id) refl
  where
    by : has_pool ps id ≡ false → (b : Bool) → same_pairs p.bucket id ≡ b → has_pool (p ∷ ps) id ≡ false
    by rest true is = absurd (never zero p refl (same_by_eq p.bucket id is))
    by rest false is = rw is rest

-- one pool is
some_among : (pools : List OnePool) (id : List Pair) (i : ℕ) → option_map (λ (p : OnePool). p.bucket) (slice_get pools i) ≡ Some id
    → has_pool pools id ≡ true
some_among [] id i at = absurd (cc)
some_among (p ∷ ps) id zero at = rw (eq_of_same p.bucket id (cc)) refl
some_among (p ∷ ps) id (suc i) at = by (some_among ps id i at) (same_pairs p.bucket id) refl
  where
    by : has_pool ps id ≡ true → (b : Bool) → same_pairs p.bucket id ≡ b → has_pool (p ∷ ps) id ≡ true
    by rest true is = rw is refl
    by rest false is = rw is rest

-- what the index has of a bucket is the place of its pool
pub place_in : (index : List Pair → Option ℕ) (pools : List OnePool) (id : List Pair) (found : Option ℕ) → IsPlaces index pools
    → index id ≡ found → IsPlaceIn pools id found
place_in index pools id None places is = none_among pools id never
  where
    never : (i : ℕ) (p : OnePool) → slice_get pools i ≡ Some p → p.bucket ≡ id → ⊥
    never i p at e = (let placed : index id ≡ Some i = ap index (sym e) ∙ places.placed i p at in cc)
place_in index pools id (Some i) places is = places.named id i is

-- there is a place exactly where there is a pool
pub has_place : (pools : List OnePool) (id : List Pair) (found : Option ℕ) → IsPlaceIn pools id found → is_some found ≡ has_pool pools id
has_place pools id None is = sym is
has_place pools id (Some i) is = sym (some_among pools id i is)

same_names : (a b : List Pair) → a ≡ b → is_eq (pairs_cmp a b) ≡ true
same_names a b e = ap (λ c. is_eq (pairs_cmp a c)) (sym e) ∙ cmp_of_same a

apart_names : (a b : List Pair) → (a ≡ b → ⊥) → is_eq (pairs_cmp a b) ≡ false
apart_names a b ne = by (is_eq (pairs_cmp a b)) refl
  where
    by : (c : Bool) → is_eq (pairs_cmp a b) ≡ c → is_eq (pairs_cmp a b) ≡ false
    by true is = absurd (ne (same_by_cmp a b is))
    by false is = is

cases_names : (a b : List Pair) → (a ≡ b) ⊎ (a ≡ b → ⊥)
cases_names a b = by (is_eq (pairs_cmp a b)) refl
  where
    by : (c : Bool) → is_eq (pairs_cmp a b) ≡ c → (a ≡ b) ⊎ (a ≡ b → ⊥)
    by true is = inl (same_by_cmp a b is)
    by false is = inr (λ e. true≢false (sym (same_names a b e) ∙ is))

-- the pool that is added last
get_last : {X : Type 0} (xs : List X) (x : X) → slice_get (xs ++ x ∷ []) (length xs) ≡ Some x
get_last [] x = refl
get_last (y ∷ ys) x = get_last ys x

-- the pools before it
get_before : {X : Type 0} (xs : List X) (x : X) (i : ℕ) → (i ≡ length xs → ⊥) → slice_get (xs ++ x ∷ []) i ≡ slice_get xs i
get_before [] x zero ne = absurd (ne refl)
get_before [] x (suc i) ne = refl
get_before (y ∷ ys) x zero ne = refl
get_before (y ∷ ys) x (suc i) ne = get_before ys x i (λ e. ne (ap suc e))

-- a pool that is added
pub places_more : (index more : List Pair → Option ℕ) (pools : List OnePool) (pool : OnePool) → IsPlaces index pools
    → has_pool pools pool.bucket ≡ false → ((q : List Pair) → more q ≡ cond (is_eq (pairs_cmp pool.bucket q)) (Some (length pools)) (index q))
    → IsPlaces more (pools ++ pool ∷ [])
places_more index more pools pool places new added = record {
  placed = λ i p at. placed_at i p at (cases_eq i (length pools));
  named = λ id i found. named_at id i found (cases_names pool.bucket id);
}
  where
    placed_at : (i : ℕ) (p : OnePool) → slice_get (pools ++ pool ∷ []) i ≡ Some p → (i ≡ length pools) ⊎ (i ≡ length pools → ⊥)
        → more p.bucket ≡ Some i
    placed_at i p at (inl e) =
        let here : slice_get (pools ++ pool ∷ []) i ≡ Some pool = rw e (get_last pools pool) in
        let same : pool ≡ p = cc (here, at) in
        rw (added p.bucket, same_names pool.bucket p.bucket (ap (λ (x : OnePool). x.bucket) same), e) refl
    placed_at i p at (inr ne) =
        let old : slice_get pools i ≡ Some p = sym (get_before pools pool i ne) ∙ at in
        let before : index p.bucket ≡ Some i = places.placed i p old in
        let apart : pool.bucket ≡ p.bucket → ⊥ = λ e. (
        let there : has_pool pools pool.bucket ≡ true = some_among pools pool.bucket i (ap (option_map (λ (x : OnePool). x.bucket)) old ∙ ap Some (sym e)) in
        true≢false (sym there ∙ new)) in
        rw (added p.bucket, apart_names pool.bucket p.bucket apart) before

    named_at : (id : List Pair) (i : ℕ) → more id ≡ Some i → (pool.bucket ≡ id) ⊎ (pool.bucket ≡ id → ⊥)
        → option_map (λ (x : OnePool). x.bucket) (slice_get (pools ++ pool ∷ []) i) ≡ Some id
    named_at id i found (inl e) =
        let last : Some (length pools) ≡ Some i = sym (rw (same_names pool.bucket id e) at (added id)) ∙ found in
        let is : i ≡ length pools = cc in
        rw (is, get_last pools pool) (ap Some e)
    named_at id i found (inr ne) =
        let before : index id ≡ Some i = sym (rw (apart_names pool.bucket id ne) at (added id)) ∙ found in
        let named : option_map (λ (x : OnePool). x.bucket) (slice_get pools i) ≡ Some id = places.named id i before in
        let apart : i ≡ length pools → ⊥ = λ e. past pools i id named e in
        rw (get_before pools pool i apart) named
      where
        past : (ps : List OnePool) (k : ℕ) (q : List Pair) → option_map (λ (x : OnePool). x.bucket) (slice_get ps k) ≡ Some q → k ≡ length ps → ⊥
        past [] k q at e = absurd (cc)
        past (p ∷ ps) zero q at e = absurd (omega (arith, e))
        past (p ∷ ps) (suc k) q at e = past ps k q at (omega (arith, e))

pub no_places : (index : List Pair → Option ℕ) → ((q : List Pair) → index q ≡ None) → IsPlaces index []
no_places index none = record {
  placed = λ i p at. absurd (cc);
  named = λ id i found. absurd (let no = none id in cc);
}
