-- A bucket with what happened to it.
use Rattle.std.specs.Prelude.{List, ◌∷◌, Bool, not}
use Rattle.quota_settings.specs.Pairs.{same_pairs}
use Rattle.quota_settings.specs.declared.pair.Pair.{Pair}
use Rattle.quota_bucket.specs.History.{Event, phase_after, is_gone}
use Rattle.quota_bucket.specs.declared.rules.BucketRules.{BucketRules}

-- a bucket: its name, the rules by which it was made, and what happened to it, the latest first
pub record Past : Type 0 where
  pub id : List Pair
  pub rules : BucketRules
  pub history : List Event

-- one more event of a bucket
abbrev pub happened : Event → Past → Past
happened event past = record past { history = event ∷ past.history }

-- whether it wasn't erased
abbrev pub is_there : Past → Bool
is_there past = not (is_gone (phase_after past.rules past.history))

-- whether it has this name
abbrev pub is_named : List Pair → Past → Bool
is_named id past = same_pairs past.id id
