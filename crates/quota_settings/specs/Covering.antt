-- Which settings a request has, and the bucket's name that they give.
use Rattle.std.specs.Prelude.{ℕ, ◌&&◌, Bool, List, find, Option}
use Rattle.std.specs.List.{list_all}
use Rattle.quota_bucket.specs.declared.rules.BucketRules.{BucketRules}
use Rattle.quota_settings.specs.Pairs.{has_pair}
use Rattle.quota_settings.specs.Parts.{NamePart, all_given, pairs_of}
use Rattle.quota_settings.specs.declared.pair.Pair.{Pair}

-- the settings of one kind of bucket
pub record OneSettings : Type 0 where
  pub matches : List Pair
  pub parts : List NamePart
  pub rules : BucketRules

-- the settings of a domain
pub record AllSettings : Type 0 where
  pub domain : List ℕ
  pub buckets : List OneSettings

-- each name to match is an attribute with that value
abbrev pub matches_all : List Pair → List Pair → Bool
matches_all matches attributes = list_all (λ p. has_pair attributes p) matches

-- settings fit attributes that match and that give each part a value
abbrev pub covers : OneSettings → List Pair → Bool
covers settings attributes = matches_all settings.matches attributes && all_given settings.parts attributes

-- the bucket's name for attributes that the settings fit
abbrev pub id_of : OneSettings → List Pair → List Pair
id_of settings attributes = pairs_of settings.parts attributes

-- the first settings that fit the attributes
abbrev pub covering : AllSettings → List Pair → Option OneSettings
covering settings attributes = find (λ s. covers s attributes) settings.buckets
