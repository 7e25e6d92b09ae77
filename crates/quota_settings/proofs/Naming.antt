-- The pairs that parts give are the name of a bucket.
use Rattle.std.proofs.Common.{◌≡◌, ℕ, ◌+◌, ◌&&◌, Bool, true, false, List, [], ◌∷◌, ◌++◌, refl, arith, sym, ◌∙◌, length, Option, Some, None, is_some}
use Rattle.std.specs.Option.{IfNone, IsSome}
use Rattle.quota_settings.specs.declared.pair.Pair.{Pair}
use Rattle.quota_settings.specs.Pairs.{AllAfter, IsSorted, IsBucketId}
use Rattle.quota_settings.specs.Parts.{NamePart, PartsAfter, ArePartsSorted, AreParts, part_value, pair_if, all_given, pairs_of}

pairs_after : (name : List ℕ) (parts : List NamePart) (attributes : List Pair) → PartsAfter name parts
    → AllAfter name (pairs_of parts attributes)
pairs_after name [] attributes after = tt
pairs_after name (p ∷ ps) attributes after =
    over (part_value attributes p) (pairs_after name ps attributes after.1)
  where
    over : (value : Option (List ℕ)) → AllAfter name (pairs_of ps attributes) → AllAfter name (pair_if p.name value ++ pairs_of ps attributes)
    over None rest = rest
    over (Some value) rest = (after.0, rest)

pairs_sorted : (parts : List NamePart) (attributes : List Pair) → ArePartsSorted parts → IsSorted (pairs_of parts attributes)
pairs_sorted [] attributes sorted = tt
pairs_sorted (p ∷ ps) attributes sorted =
    over (part_value attributes p) (pairs_after p.name ps attributes sorted.0) (pairs_sorted ps attributes sorted.1)
  where
    over : (value : Option (List ℕ)) → AllAfter p.name (pairs_of ps attributes) → IsSorted (pairs_of ps attributes)
        → IsSorted (pair_if p.name value ++ pairs_of ps attributes)
    over None after rest = rest
    over (Some value) after rest = (after, rest)

given_step : (name : List ℕ) (value : Option (List ℕ)) (others : Bool) (ps : List Pair) (n : ℕ) → (is_some value && others) ≡ true
    → (others ≡ true → length ps ≡ n) → length (pair_if name value ++ ps) ≡ n + 1
given_step name None others ps n given rest = absurd (cc)
given_step name (Some value) true ps n given rest = let is = rest refl in omega arith
given_step name (Some value) false ps n given rest = absurd (cc)

given_rest : (p : NamePart) (ps : List NamePart) (attributes : List Pair) → length (p ∷ ps) ≡ length ps + 1
given_rest p ps attributes = omega arith

pairs_length : (parts : List NamePart) (attributes : List Pair) → all_given parts attributes ≡ true
    → length (pairs_of parts attributes) ≡ length parts
pairs_length [] attributes given = refl
pairs_length (p ∷ ps) attributes given =
    given_step p.name (part_value attributes p) (all_given ps attributes) (pairs_of ps attributes) (length ps) given
    (λ h. pairs_length ps attributes h)
    ∙ sym (given_rest p ps attributes)

-- the list of the pairs that were given
pub given_sorted : (parts kept : List NamePart) (attributes pairs : List Pair) → kept ≡ parts → pairs ≡ pairs_of kept attributes → AreParts parts
    → IsSorted pairs
given_sorted parts kept attributes pairs same is are = rw (is, same) (pairs_sorted parts attributes are.sorted)

pub given_named : (parts kept : List NamePart) (attributes pairs : List Pair) → kept ≡ parts → pairs ≡ pairs_of kept attributes → AreParts parts
    → all_given parts attributes ≡ true → IsBucketId pairs
given_named parts kept attributes pairs same is are given =
    let size = pairs_length parts attributes given in rw (is, same) (omega (arith, are.some), omega (arith, are.few))

pub some_named : (of : Option (List Pair)) (pairs : List Pair) → IfNone of (IsBucketId pairs → ⊥) → IsBucketId pairs → IsSome of
some_named None pairs none is = absurd (none is)
some_named (Some id) pairs none is = refl
