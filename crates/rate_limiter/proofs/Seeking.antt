-- What is known of the counters of a request, and pins of it.
use Rattle.std.proofs.Common.{◌≡◌, ◌⊎◌, inl, inr, ℕ, zero, suc, ◌<◌, List, [], ◌∷◌, ◌++◌, length, true≢false, Option}
use Rattle.std.proofs.Common.{refl, sym, ap, ◌∙◌, subst, arith, length-append}
use Rattle.std.specs.Prelude.{IsSome}
use Rattle.std.specs.List.{AllByRecursion}
use mathlib.Core.Option.{some, some-injective}
use lib.ListN.{get_elem?}
use Rattle.rate_types.specs.Requests.{RequestParts}
use Rattle.rate_types.specs.declared.counter_key.CounterKey.{CounterKey}
use Rattle.rate_types.specs.declared.request.Descriptor.{Descriptor}
use Rattle.rule_lookup.specs.declared.found.Found.{Found}
use Rattle.counter_cells.specs.declared.view.CellView.{CellView}
use Rattle.counter_cells.specs.declared.answers.Spot.{Spot}
use Rattle.over_cache.specs.Entries.{Entries}
use Rattle.rate_limiter.specs.Known.{spot_of, SameSpots, KnowsCounter}
use Rattle.rate_limiter.specs.declared.missed.Missed.{Missed}
use Rattle.rate_limiter.specs.declared.missed.Missed.TheVariants.{Unknown, Reclaimed}
use Rattle.rate_limiter.specs.Sought.{SameKnown, HasMissCause, KnowsUnder, IsUnknownAt}
use Rattle.rate_limiter.proofs.Knowing.{at_less, at_append}

-- ---- one key

pub same_known_then : (a b c : Entries) → SameKnown a b → SameKnown b c → SameKnown a c
same_known_then a b c p q key = q key ∙ p key

pub spots_then : (a b c : Entries) → SameSpots a b → SameSpots b c → SameSpots a c
spots_then a b c p q key = q key ∙ p key

-- ---- places

module _ {A : Type 0} where
  -- there is an item at each place
  pub some_at : (xs : List A) (i : ℕ) → i < length xs → (x : A) × (get_elem? xs i ≡ some x)
  some_at [] i lt = absurd (omega arith)
  some_at (x ∷ xs) zero lt = (x, refl)
  some_at (x ∷ xs) (suc i) lt = some_at xs i (omega arith)

  -- and one alone
  pub one_at : (xs : List A) (i : ℕ) (x y : A) → get_elem? xs i ≡ some x → get_elem? xs i ≡ some y → x ≡ y
  one_at xs i x y a b = some-injective x y (sym a ∙ b)

-- a miss of counters that are known is one more pin that missed
module _ (request : RequestParts) (moment : ℕ) (entries : Entries) (ds : List Descriptor) (fs : List Found) where
  unknown_none : (d : Descriptor) (f : Found) → IsUnknownAt request moment entries d f → KnowsCounter request moment entries d f → ⊥
  unknown_none d f u known =
      let h = subst (λ (l : List CounterKey). AllByRecursion (λ q. IsSome (spot_of q entries)) l) u.counter known in
      let e = subst (λ (o : Option Spot). IsSome o) u.unknown h.0 in
      true≢false (sym e)

  pub missed_more : (m : Missed) (v w : CellView) → HasMissCause request moment entries ds fs m v w → KnowsUnder (length ds) request moment entries ds fs
      → length v.others < length w.others
  missed_more (Unknown place) v w c knows =
      let lt = at_less ds place c.0.d c.0.at.descriptor in
      absurd (unknown_none c.0.d c.0.f c.0.unknown (knows place c.0.d c.0.f lt c.0.at.descriptor c.0.at.found))
  missed_more (Reclaimed place claim) v w c knows =
      let e = ap length c.0.missed.noted in
      let n = length-append v.others ((record { cell = c.0.s.cell; claim = claim; is_open = c.0.missed.is_open }) ∷ []) in
      omega arith

-- one more, for the next descriptor
pub each_next : {A : Type 0} (P : Descriptor → A → Type 0) (ds : List Descriptor) (xs : List A) (d : Descriptor) (x : A)
    → ((i : ℕ) (e : Descriptor) (y : A) → get_elem? ds i ≡ some e → get_elem? xs i ≡ some y → P e y) → get_elem? ds (length xs) ≡ some d → P d x
    → (i : ℕ) (e : Descriptor) (y : A) → get_elem? ds i ≡ some e → get_elem? (xs ++ x ∷ []) i ≡ some y → P e y
each_next {A} P ds xs d x all at_d here i e y a b = by (at_append xs x i y b)
  where
    by : (get_elem? xs i ≡ some y) ⊎ ((i ≡ length xs) × (x ≡ y)) → P e y
    by (inl h) = all i e y a h
    by (inr h) = subst (λ (z : A). P e z) h.1 (subst (λ (f : Descriptor). P f x) (one_at ds (length xs) d e at_d (subst (λ n. get_elem? ds n ≡ some e) h.0 a)) here)
