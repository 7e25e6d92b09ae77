-- Inside: how far a stream was replayed, and what is still to be written.
use Rattle.std.specs.Prelude.{◌≡◌, ℕ, ◌+◌, ◌==◌, ◌<◌, ◌≤◌, List, [], ◌∷◌, ◌++◌, length, map, Bool, true, false, All, ⊤}
use Rattle.rate_types.specs.declared.limits.TheConstants.{MOST_LINES}
use Rattle.rate_io.specs.Events.{Event, wrote}
use Rattle.quota_buckets.specs.Streams.{Stream}
use Rattle.quota_stream.specs.Outcomes.{Outcome, outcome_of}
use Rattle.text_lines.specs.Lines.{cut}
use Rattle.quota_stream.specs.Output.{outputs}
use Rattle.quota_stream.specs.Replays.{IsFront, WrotePart}
use Rattle.quota_stream.specs.declared.replay_fault.ReplayFault.{ReplayFault}
use Rattle.quota_stream.specs.declared.replay_fault.ReplayFault.TheVariants.{Read, TooLong, OutOfMemory}

-- the index of the stream, the lines so far, the stream after them, and the bytes of a line that hasn't ended
pub record Progress : Type 0 where
  pub index : ℕ
  pub lines : ℕ
  pub stream : Stream
  pub pending : List ℕ

-- no line feed is among these bytes
abbrev pub IsPlain : List ℕ → Type 0
IsPlain bytes = All (λ b. (b == 10) ≡ false) bytes

-- a line has begun
abbrev pub has_bytes : List ℕ → Bool
has_bytes [] = false
has_bytes (b ∷ bs) = true

-- what is still to be written, if these bytes follow and no others
abbrev pub output_left : Progress → List ℕ → List (List ℕ)
output_left p more = outputs p.index p.lines p.stream (cut (p.pending ++ more))

-- how many lines there are in all then
abbrev pub lines_with : Progress → List ℕ → ℕ
lines_with p more = p.lines + length (cut (p.pending ++ more))

-- what comes of the bytes that are pending, as a line
abbrev pub next_outcome : Progress → Outcome
next_outcome p = outcome_of (record { stream = p.index; line = p.lines + 1 }) p.pending p.stream

-- after that line
abbrev pub after_line : Progress → Progress
after_line p = record p { lines = p.lines + 1; stream = (next_outcome p).stream; pending = [] }

-- These bytes were taken and these lines written: whatever follows, what was to be written is what was written and what is left.
pub record Takes (p : Progress) (bytes : List ℕ) (q : Progress) (writes : List Event) : Type 0 where
  pub written : List (List ℕ)
  pub each : writes ≡ map wrote written
  pub output : (more : List ℕ) → output_left p (bytes ++ more) ≡ written ++ output_left q more
  pub lines : (more : List ℕ) → lines_with p (bytes ++ more) ≡ lines_with q more

-- whatever follows these bytes, these are the first lines of what was to be written
abbrev pub IsFrontOf : Progress → List ℕ → List (List ℕ) → Type 0
IsFrontOf p bytes front = (more : List ℕ) → IsFront front (output_left p (bytes ++ more))

-- a fault of lines comes only where there are too many, whatever follows; one of reading doesn't come
abbrev pub AreTooMany : Progress → List ℕ → ReplayFault → Type 0
AreTooMany p bytes Read = ⊥
AreTooMany p bytes (TooLong read) = (MOST_LINES < read) × ((more : List ℕ) → read ≤ lines_with p (bytes ++ more))
AreTooMany p bytes fault = ⊤

-- a fault while these bytes were taken
pub record Stops (p : Progress) (bytes : List ℕ) (fault : ReplayFault) (writes : List Event) : Type 0 where
  pub part : WrotePart fault (IsFrontOf p bytes) writes
  pub many : AreTooMany p bytes fault

-- the faults of ending a line
abbrev pub IsLineFault : Progress → ReplayFault → Type 0
IsLineFault p (TooLong read) = (MOST_LINES < read) × (read ≡ p.lines + 1)
IsLineFault p OutOfMemory = ⊤
IsLineFault p fault = ⊥

-- the line that is pending was ended, and what comes of it was written
pub record EndsLine (p q : Progress) (writes : List Event) : Type 0 where
  pub next : q ≡ after_line p
  pub few : q.lines ≤ MOST_LINES
  pub each : writes ≡ map wrote (next_outcome p).written

-- too many lines, if one more is ended
abbrev pub IsOneTooMany : Progress → ReplayFault → Type 0
IsOneTooMany p Read = ⊥
IsOneTooMany p (TooLong read) = (MOST_LINES < read) × (read ≡ p.lines + 1)
IsOneTooMany p fault = ⊤

-- a fault while it was ended
pub record StopsLine (p : Progress) (fault : ReplayFault) (writes : List Event) : Type 0 where
  pub part : WrotePart fault (λ front. IsFront front (next_outcome p).written) writes
  pub many : IsOneTooMany p fault

-- all was written, and there are not too many lines
pub record Finishes (p : Progress) (writes : List Event) : Type 0 where
  pub each : writes ≡ map wrote (output_left p [])
  pub few : lines_with p [] ≤ MOST_LINES

-- too many lines, at the end
abbrev pub AreTooManyAtEnd : Progress → ReplayFault → Type 0
AreTooManyAtEnd p Read = ⊥
AreTooManyAtEnd p (TooLong read) = (MOST_LINES < read) × (read ≤ lines_with p [])
AreTooManyAtEnd p fault = ⊤

-- a fault while the last line was ended
pub record StopsAtEnd (p : Progress) (fault : ReplayFault) (writes : List Event) : Type 0 where
  pub part : WrotePart fault (λ front. IsFront front (output_left p [])) writes
  pub many : AreTooManyAtEnd p fault
