-- Notes of several counters: what is noted is known still when the next are noted.
use Rattle.std.proofs.Common.{◌≡◌, ◌⊎◌, inl, inr, ℕ, zero, suc, ◌-◌, ◌≤◌, ◌<◌, List, [], ◌∷◌, ◌++◌, length, map, take, cond, Bool, true, false, true≢false, Option, Some, None}
use Rattle.std.proofs.Common.{refl, sym, ap, ◌∙◌, subst, arith}
use Rattle.std.specs.Prelude.{IsSome}
use Rattle.std.specs.Cmp.Lexicographic.{bytes_decides}
use mathlib.Core.Option.{some, some-injective, some-ne-none}
use lib.ListN.{get_elem?}
use Rattle.rate_types.specs.Requests.{RequestParts}
use Rattle.rate_types.specs.declared.counter_name.CounterName.{CounterName}
use Rattle.rate_types.specs.declared.request.Descriptor.{Descriptor}
use Rattle.window_keys.specs.Counter.{counter_of}
use Rattle.rule_lookup.specs.declared.found.Found.{Found}
use Rattle.rule_lookup.specs.declared.found.Found.TheVariants.{NoRule, Unlimited, Limited}
use Rattle.counter_cells.specs.declared.answers.Spot.{Spot}
use Rattle.counter_directory.specs.Keys.{key_at}
use Rattle.over_cache.specs.Entries.{Entries, is_key, known_of, known_then, noted, without}
use Rattle.over_cache.specs.declared.known.Known.{Known}
use Rattle.over_cache.specs.declared.over_cache.TheConstants.{MOST_KNOWN}
use Rattle.rls_core.specs.Reply.{found_for}
use Rattle.rate_limiter.specs.Passes.{PassView}
use Rattle.rate_limiter.specs.Known.{key_of, spot_in, SameSpots, KnowsCounter}
use Rattle.rate_limiter.specs.PassStep.{KnowsAll}
use Rattle.rate_limiter.specs.Names.{name_under, names_under}
use Rattle.rate_limiter.specs.Sought.{AreNoted, KnowsUnder}
use Rattle.rate_limiter.proofs.Knowing.{at_less}
use Rattle.rate_limiter.proofs.Lists.{map_some}

-- ---- the first entries

-- what is known of the key stands among the first n entries
abbrev pub IsWithin : List ℕ → ℕ → Entries → Type 0
IsWithin key n entries = IsSome (known_of key (take n entries))

module _ (key : List ℕ) where
  within_known : (n : ℕ) (xs : Entries) → IsWithin key n xs → IsSome (known_of key xs)
  within_known zero xs h = absurd (true≢false (sym h))
  within_known (suc n) [] h = h
  within_known (suc n) (x ∷ xs) h = by (is_key key x.0) h (within_known n xs)
    where
      by : (b : Bool) → IsSome (cond b (Some x.1) (known_of key (take n xs))) → (IsWithin key n xs → IsSome (known_of key xs))
          → IsSome (cond b (Some x.1) (known_of key xs))
      by true there rest = refl
      by false there rest = rest there

  more_within : (n : ℕ) (xs : Entries) → IsWithin key n xs → IsWithin key (suc n) xs
  more_within zero xs h = absurd (true≢false (sym h))
  more_within (suc n) [] h = h
  more_within (suc n) (x ∷ xs) h = by (is_key key x.0) h (more_within n xs)
    where
      by : (b : Bool) → IsSome (cond b (Some x.1) (known_of key (take n xs))) → (IsWithin key n xs → IsWithin key (suc n) xs)
          → IsSome (cond b (Some x.1) (known_of key (take (suc n) xs)))
      by true there rest = refl
      by false there rest = rest there

  take_within : (n m : ℕ) (xs : Entries) → n ≤ m → IsWithin key n xs → IsWithin key n (take m xs)
  take_within zero m xs le h = absurd (true≢false (sym h))
  take_within (suc n) zero xs le h = absurd (omega arith)
  take_within (suc n) (suc m) [] le h = h
  take_within (suc n) (suc m) (x ∷ xs) le h = by (is_key key x.0) h (take_within n m xs (omega arith))
    where
      by : (b : Bool) → IsSome (cond b (Some x.1) (known_of key (take n xs))) → (IsWithin key n xs → IsWithin key n (take m xs))
          → IsSome (cond b (Some x.1) (known_of key (take n (take m xs))))
      by true there rest = refl
      by false there rest = rest there

  module _ (other : List ℕ) (differs : is_key key other ≡ false) where
    without_within : (n : ℕ) (xs : Entries) → IsWithin key n xs → IsWithin key n (without other xs)
    without_within zero xs h = absurd (true≢false (sym h))
    without_within (suc n) [] h = h
    without_within (suc n) (x ∷ xs) h = by (is_key other x.0) refl (is_key key x.0) refl h (without_within n xs)
      where
        by : (b : Bool) → is_key other x.0 ≡ b → (c : Bool) → is_key key x.0 ≡ c → IsSome (cond c (Some x.1) (known_of key (take n xs)))
            → (IsWithin key n xs → IsWithin key n (without other xs)) → IsSome (known_of key (take (suc n) (cond b xs (x ∷ without other xs))))
        by true is true at there rest =
            let same : key ≡ other = (bytes_decides key x.0).0 at ∙ sym ((bytes_decides other x.0).0 is) in
            absurd (true≢false (sym ((bytes_decides key other).1 same) ∙ differs))
        by true is false at there rest = more_within n xs there
        by false is true at there rest = subst (λ b. IsSome (cond b (Some x.1) (known_of key (take n (without other xs))))) (sym at) refl
        by false is false at there rest = subst (λ b. IsSome (cond b (Some x.1) (known_of key (take n (without other xs))))) (sym at) (rest there)

  -- a note of another counter moves what is known by one place at most
  noted_within : (other : List ℕ) (s : Spot) (n : ℕ) (xs : Entries) → n ≤ MOST_KNOWN - 1 → IsWithin key n xs → IsWithin key (suc n) (noted other s 0 xs)
  noted_within other s n xs few h = by (is_key key other) refl
    where
      by : (b : Bool) → is_key key other ≡ b
          → IsSome (cond b (Some (known_then (known_of other xs) s 0)) (known_of key (take n (take (MOST_KNOWN - 1) (without other xs)))))
      by true is = refl
      by false is = take_within n (MOST_KNOWN - 1) (without other xs) few (without_within other is n xs h)

  first_within : (s : Spot) (n : ℕ) (xs : Entries) → IsWithin key (suc n) (noted key s 0 xs)
  first_within s n xs =
      subst (λ b. IsSome (cond b (Some (known_then (known_of key xs) s 0)) (known_of key (take n (take (MOST_KNOWN - 1) (without key xs))))))
      (sym ((bytes_decides key key).1 refl)) refl

-- ---- the counters of names

-- the first n names are those of counters that stand among the first n entries
abbrev pub AreWithin : List CounterName → ℕ → ℕ → Entries → Type 0
AreWithin names n moment entries =
    (i : ℕ) (name : CounterName) → i < n → get_elem? names i ≡ some name → IsWithin (key_of (key_at moment name)) n entries

below_or_at : (i n : ℕ) → i < suc n → (i < n) ⊎ (i ≡ n)
below_or_at zero zero lt = inr refl
below_or_at zero (suc n) lt = inl (omega arith)
below_or_at (suc i) zero lt = absurd (omega arith)
below_or_at (suc i) (suc n) lt = by (below_or_at i n (omega arith))
  where
    by : (i < n) ⊎ (i ≡ n) → (suc i < suc n) ⊎ (suc i ≡ suc n)
    by (inl h) = inl (omega arith)
    by (inr e) = inr (ap suc e)

within_suc : (names : List CounterName) (n moment : ℕ) (name : CounterName) (s : Spot) (entries new : Entries) → get_elem? names n ≡ some name → n ≤ MOST_KNOWN - 1
    → new ≡ noted (key_of (key_at moment name)) s 0 entries → AreWithin names n moment entries → AreWithin names (suc n) moment new
within_suc names n moment name s entries new here few is all i other lt at = by (below_or_at i n lt)
  where
    by : (i < n) ⊎ (i ≡ n) → IsWithin (key_of (key_at moment other)) (suc n) new
    by (inl below) =
        subst (IsWithin (key_of (key_at moment other)) (suc n)) (sym is)
        (noted_within (key_of (key_at moment other)) (key_of (key_at moment name)) s n entries few (all i other below at))
    by (inr e) =
        let same : name ≡ other = some-injective name other (sym here ∙ ap (get_elem? names) (sym e) ∙ at) in
        subst (λ (x : CounterName). IsWithin (key_of (key_at moment x)) (suc n) new) same
        (subst (IsWithin (key_of (key_at moment name)) (suc n)) (sym is) (first_within (key_of (key_at moment name)) s n entries))

-- one more is noted
pub within_next : (names : List CounterName) (n moment : ℕ) (name : CounterName) (s : Spot) (entries new : Entries) → get_elem? names n ≡ some name → n ≤ MOST_KNOWN - 1
    → new ≡ noted (key_of (key_at moment name)) s 0 entries → AreWithin names n moment entries → (next : ℕ) → next ≡ suc n → AreWithin names next moment new
within_next names n moment name s entries new here few is all next next_is =
    subst (λ m. AreWithin names m moment new) (sym next_is) (within_suc names n moment name s entries new here few is all)

-- all are noted
pub noted_all_names : (names : List CounterName) (n moment : ℕ) (entries : Entries) → length names ≤ n → AreWithin names n moment entries → AreNoted names moment entries
noted_all_names names n moment entries all h i name at =
    let key = key_of (key_at moment name) in
    let less = at_less names i name at in
    by (known_of key entries) (within_known key n entries (h i name (omega arith) at))
  where
    by : (o : Option Known) → IsSome o → IsSome (spot_in o)
    by None there = there
    by (Some known) there = refl

-- ---- the counters of descriptors

module _ (request : RequestParts) (moment : ℕ) where
  module _ (entries : Entries) where
    one_noted : (e : Descriptor) (g : Found) (rest : List CounterName) → AreNoted (name_under request e g ++ rest) moment entries → KnowsCounter request moment entries e g
    one_noted e NoRule rest all = tt
    one_noted e (Unlimited rule) rest all = tt
    one_noted e (Limited limit unit shadow rule) rest all = (all 0 (record { domain = request.domain; entries = e.entries; unit = unit }) refl, tt)

    rest_noted : (e : Descriptor) (g : Found) (rest : List CounterName) → AreNoted (name_under request e g ++ rest) moment entries → AreNoted rest moment entries
    rest_noted e NoRule rest all = all
    rest_noted e (Unlimited rule) rest all = all
    rest_noted e (Limited limit unit shadow rule) rest all = λ i name at. all (suc i) name at

    -- where the names of the counters are noted, the counters are known
    pub noted_under : (ds : List Descriptor) (fs : List Found) → AreNoted (names_under request ds fs) moment entries → (n : ℕ) → KnowsUnder n request moment entries ds fs
    noted_under [] fs all n i d f lt a b = absurd (some-ne-none d (sym a))
    noted_under (e ∷ ds) [] all n i d f lt a b = absurd (some-ne-none f (sym b))
    noted_under (e ∷ ds) (g ∷ fs) all n zero d f lt a b =
        subst (λ (x : Found). KnowsCounter request moment entries d x) (some-injective g f b)
        (subst (λ (x : Descriptor). KnowsCounter request moment entries x g) (some-injective e d a) (one_noted e g (names_under request ds fs) all))
    noted_under (e ∷ ds) (g ∷ fs) all n (suc i) d f lt a b = noted_under ds fs (rest_noted e g (names_under request ds fs) all) (suc i) i d f (omega arith) a b

  module _ (old new : Entries) (same : SameSpots old new) where
    counter_still : (d : Descriptor) (f : Found) → KnowsCounter request moment old d f → KnowsCounter request moment new d f
    counter_still d NoRule h = tt
    counter_still d (Unlimited rule) h = tt
    counter_still d (Limited limit unit shadow rule) h =
        (subst (λ (o : Option Spot). IsSome o) (sym (same (key_of (counter_of request.domain d unit moment)))) h.0, tt)

    -- counters whose spots are the same are known still
    pub knows_still : (ds : List Descriptor) (fs : List Found) (n : ℕ) → KnowsUnder n request moment old ds fs → KnowsUnder n request moment new ds fs
    knows_still ds fs n h i d f lt a b = counter_still d f (h i d f lt a b)

-- the pass knows what it knew before it counted
pub knows_all : (request : RequestParts) (q : PassView) (known : Entries) (moment : ℕ) (rules : List Found)
    → rules ≡ map (found_for q.version.index request) request.descriptors → q.cells.moment ≡ moment → SameSpots known q.known
    → KnowsUnder (length request.descriptors) request moment known request.descriptors rules → KnowsAll request q
knows_all request q known moment rules are at same h i d e =
    let f = found_for q.version.index request d in
    let here = map_some (found_for q.version.index request) request.descriptors i d e in
    let there = subst (λ (l : List Found). get_elem? l i ≡ some f) (sym are) here in
    subst (λ n. KnowsCounter request n q.known d f) (sym at)
    (knows_still request moment known q.known same request.descriptors rules (length request.descriptors) h i d f (at_less request.descriptors i d e) e there)
