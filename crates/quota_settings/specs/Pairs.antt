-- Names with values.
use Rattle.std.specs.Prelude.{◌≡◌, ℕ, ◌<◌, ◌≤◌, Bool, false, ⊤, List, [], ◌∷◌, find, length, Option, Some, None, option_map}
use Rattle.std.specs.declared.cmp.Ordering.{Ordering}
use Rattle.std.specs.declared.cmp.Ordering.TheVariants.{Less}
use Rattle.std.specs.Ordering.{on, then_cmp, eq_of_both}
use Rattle.std.specs.Cmp.Lexicographic.{slice_cmp, pointwise}
use Rattle.rate_types.specs.Counters.{text_cmp, same_text}
use Rattle.rate_types.specs.declared.limits.TheConstants.{MOST_PARTS}
use Rattle.quota_settings.specs.declared.pair.Pair.{Pair}

-- pairs by the bytes of their names, then of their values
abbrev pub pair_cmp : Pair → Pair → Ordering
pair_cmp = then_cmp (on (λ p. p.name) text_cmp) (on (λ p. p.value) text_cmp)

abbrev pub same_pair : Pair → Pair → Bool
same_pair = eq_of_both (on (λ p. p.name) same_text) (on (λ p. p.value) same_text)

-- lists of pairs item by item
abbrev pub pairs_cmp : List Pair → List Pair → Ordering
pairs_cmp = slice_cmp pair_cmp

abbrev pub same_pairs : List Pair → List Pair → Bool
same_pairs = pointwise same_pair

-- each name comes after another one
abbrev pub AllAfter : List ℕ → List Pair → Type 0
AllAfter name [] = ⊤
AllAfter name (p ∷ ps) = (text_cmp name p.name ≡ Less) × AllAfter name ps

-- the names rise, so they differ
abbrev pub IsSorted : List Pair → Type 0
IsSorted [] = ⊤
IsSorted (p ∷ ps) = AllAfter p.name ps × IsSorted ps

-- the name of a bucket: 1 to 32 pairs, sorted by name
abbrev pub IsBucketId : List Pair → Type 0
IsBucketId pairs = (0 < length pairs) × (length pairs ≤ MOST_PARTS)

-- the value of a name
abbrev pub value_of : List ℕ → List Pair → Option (List ℕ)
value_of name pairs = option_map (λ p. p.value) (find (λ p. same_text p.name name) pairs)

-- whether a value is there and equal
abbrev pub is_value : List ℕ → Option (List ℕ) → Bool
is_value value None = false
is_value value (Some other) = same_text other value

-- whether a name has this value
abbrev pub has_pair : List Pair → Pair → Bool
has_pair pairs pair = is_value pair.value (value_of pair.name pairs)
