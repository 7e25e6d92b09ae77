-- Inside: what is stored of a stream is that of its history.
use Rattle.std.specs.Prelude.{◌≡◌, ℕ, Bool, true, List, [], ◌∷◌, ⊤, map}
use Rattle.quota_settings.specs.Covering.{AllSettings}
use Rattle.quota_bucket.specs.Reports.{present}
use Rattle.quota_bucket.specs.TimeOrder.{IsInOrder}
use Rattle.quota_buckets.specs.Pasts.{Past, is_there}
use Rattle.quota_buckets.specs.Streams.{Stream}
use Rattle.quota_buckets.specs.Tables.{Table, stored_of}

-- a bucket's history is in order and reaches the present, and the bucket is there
pub record IsOnTime (time : ℕ) (past : Past) : Type 0 where
  pub now : present past.history ≡ time
  pub in_order : IsInOrder past.history
  pub there : is_there past ≡ true

-- each bucket is on time
abbrev pub AllOnTime : ℕ → List Past → Type 0
AllOnTime time [] = ⊤
AllOnTime time (past ∷ pasts) = IsOnTime time past × AllOnTime time pasts

-- settings, whether the stream is up, and the table are those of the stream
pub record IsHeld (settings : AllSettings) (up : Bool) (table : Table) (s : Stream) : Type 0 where
  pub settings_are : s.settings ≡ settings
  pub is_up : s.up ≡ up
  pub time_is : s.time ≡ table.time
  pub stored_are : table.stored ≡ map stored_of s.buckets
  pub on_time : AllOnTime s.time s.buckets
