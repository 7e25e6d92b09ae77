-- The parts of a bucket's name.
use Rattle.std.specs.Prelude.{◌≡◌, ℕ, ◌<◌, ◌≤◌, Bool, ⊤, List, [], ◌∷◌, Option, Some, None, is_some, length}
use Rattle.std.specs.declared.cmp.Ordering.TheVariants.{Less}
use Rattle.std.specs.List.{flat_map, list_all}
use Rattle.rate_types.specs.Counters.{text_cmp}
use Rattle.rate_types.specs.declared.limits.TheConstants.{MOST_PARTS}
use Rattle.quota_settings.specs.Pairs.{value_of}
use Rattle.quota_settings.specs.declared.pair.Pair.{Pair}
use Rattle.quota_settings.specs.declared.part.PartSource.{PartSource}
use Rattle.quota_settings.specs.declared.part.PartSource.TheVariants.{Fixed, Attribute}

-- a part: its name, and where its value comes from
pub record NamePart : Type 0 where
  pub name : List ℕ
  pub source : PartSource

-- each part's name comes after another one
abbrev pub PartsAfter : List ℕ → List NamePart → Type 0
PartsAfter name [] = ⊤
PartsAfter name (p ∷ ps) = (text_cmp name p.name ≡ Less) × PartsAfter name ps

-- the names of the parts rise, so they differ
abbrev pub ArePartsSorted : List NamePart → Type 0
ArePartsSorted [] = ⊤
ArePartsSorted (p ∷ ps) = PartsAfter p.name ps × ArePartsSorted ps

-- 1 to 32 parts, sorted by name
pub record AreParts (parts : List NamePart) : Type 0 where
  pub sorted : ArePartsSorted parts
  pub some : 0 < length parts
  pub few : length parts ≤ MOST_PARTS

-- the value of a part for these attributes
abbrev pub source_value : List Pair → PartSource → Option (List ℕ)
source_value attributes (Fixed text) = Some text
source_value attributes (Attribute name) = value_of name attributes

abbrev pub part_value : List Pair → NamePart → Option (List ℕ)
part_value attributes part = source_value attributes part.source

-- the pair of a name and a value, where there is one
abbrev pub pair_if : List ℕ → Option (List ℕ) → List Pair
pair_if name None = []
pair_if name (Some value) = record { name = name; value = value } ∷ []

abbrev pub pair_of : List Pair → NamePart → List Pair
pair_of attributes part = pair_if part.name (part_value attributes part)

-- each part has a value
abbrev pub all_given : List NamePart → List Pair → Bool
all_given parts attributes = list_all (λ p. is_some (part_value attributes p)) parts

-- the pairs that parts give
abbrev pub pairs_of : List NamePart → List Pair → List Pair
pairs_of parts attributes = flat_map (pair_of attributes) parts
