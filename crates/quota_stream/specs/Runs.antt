-- The replay of several streams.
use Rattle.std.specs.Prelude.{◌≡◌, ℕ, ◌<◌, List, length, Some, slice_get, slice_index_or, ⊤}
use Rattle.quota_settings.specs.Covering.{AllSettings}
use Rattle.quota_stream.specs.Tasks.{Task, Stands, output_text, IsTooLong, IsShort}
use Rattle.quota_stream.specs.declared.replay_fault.ReplayFault.{ReplayFault}
use Rattle.quota_stream.specs.declared.replay_fault.ReplayFault.TheVariants.{TooLong, OutOfMemory}

-- this stream is the first that has more bytes or lines than may be
pub record HasTooLong (streams : List (List ℕ)) (read : ℕ) : Type 0 where
  pub index : ℕ
  pub bytes : List ℕ
  pub first : (k : ℕ) (d : List ℕ) → k < index → IsShort (slice_index_or streams k d)
  pub stream : slice_get streams index ≡ Some bytes
  pub long : IsTooLong bytes read

-- what a fault says of streams that are in memory
abbrev pub IsFaultOfOne : List (List ℕ) → ReplayFault → Type 0
IsFaultOfOne streams (TooLong read) = HasTooLong streams read
IsFaultOfOne streams OutOfMemory = ⊤
IsFaultOfOne streams fault = ⊥

-- Inside: a task for each stream, which stands for it
pub record StandEach (settings : AllSettings) (streams : List (List ℕ)) (tasks : List Task) : Type 0 where
  pub one_each : length tasks ≡ length streams
  pub each : (k : ℕ) (bytes : List ℕ) (task : Task) → k < length streams
      → Stands (output_text settings k (slice_index_or streams k bytes)) (slice_index_or streams k bytes) (slice_index_or tasks k task)
