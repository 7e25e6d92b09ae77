-- The replay of a stream from a source to a sink.
use Rattle.std.specs.Prelude.{◌≡◌, ℕ, List, [], ◌∷◌, ◌++◌, map, true, Result, Ok, Err, ⊤}
use Rattle.rate_io.specs.Events.{Event, wrote, write_failed, given, has_ended, has_failed}
use Rattle.quota_settings.specs.Covering.{AllSettings}
use Rattle.quota_stream.specs.Output.{quota_output}
use Rattle.quota_stream.specs.Tasks.{IsShort, IsTooLong}
use Rattle.quota_stream.specs.declared.replay_fault.ReplayFault.{ReplayFault}
use Rattle.quota_stream.specs.declared.replay_fault.ReplayFault.TheVariants.{Read, Write, TooLong, OutOfMemory}

-- these are the first of all lines
abbrev pub IsFront : List (List ℕ) → List (List ℕ) → Type 0
IsFront front all = (rest : List (List ℕ)) × (all ≡ front ++ rest)

-- so many of these lines were written, each by one call, and then the write of the next one failed
pub record WroteUpTo (lines : List (List ℕ)) (writes : List Event) : Type 0 where
  pub front : List (List ℕ)
  pub piece : List ℕ
  pub rest : List (List ℕ)
  pub all : lines ≡ front ++ piece ∷ rest
  pub each : writes ≡ map wrote front ++ write_failed piece ∷ []

-- Lines of this kind were written, each by one call, before a fault; after a fault of writing the last of them is the one whose
-- write failed.
abbrev pub WrotePart : ReplayFault → (List (List ℕ) → Type 0) → List Event → Type 0
WrotePart Write F writes =
    (front : List (List ℕ)) × (piece : List ℕ) × (writes ≡ map wrote front ++ write_failed piece ∷ []) × F (front ++ piece ∷ [])
WrotePart fault F writes = (front : List (List ℕ)) × (writes ≡ map wrote front) × F front

-- why a replay stopped, by the reads of its source
abbrev pub HasStopCause : ReplayFault → List Event → Type 0
HasStopCause Read reads = has_failed reads ≡ true
HasStopCause Write reads = ⊤
HasStopCause (TooLong read) reads = IsTooLong (given reads) read
HasStopCause OutOfMemory reads = ⊤

-- With Ok the whole output of the bytes read was written, line by line, and the source was read to its end. After a fault the
-- first lines of the output of the bytes read were written.
abbrev pub IsReplay : AllSettings → ℕ → Result ⊤ ReplayFault → List Event → List Event → Type 0
IsReplay settings index (Ok done) reads writes =
    (writes ≡ map wrote (quota_output settings index (given reads))) × (has_ended reads ≡ true) × IsShort (given reads)
IsReplay settings index (Err fault) reads writes =
    HasStopCause fault reads × WrotePart fault (λ front. IsFront front (quota_output settings index (given reads))) writes
