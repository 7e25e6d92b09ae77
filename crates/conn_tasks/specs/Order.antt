-- In which order a connection that is polled reads, asks the clock and writes.
use Rattle.std.specs.Prelude.{◌≡◌, ◌⊎◌, ℕ, Bool, true, false, List, [], ◌∷◌, ◌++◌, take, drop, Option, Some, None, ⊤}
use Rattle.std.specs.List.{flat_map}
use Rattle.rate_io.specs.Events.{Event, wrote, write_failed, given, pieces_written}
use Rattle.http_front.specs.Front.{IsFront, used_of}
use Rattle.http_endpoint.specs.Answers.{Turn, turn_bytes}
use Rattle.http_endpoint.specs.Order.{ReadsOn, told_for, OffersWithin}

-- all bytes that writes took, in order
abbrev pub bytes_written : List Event → List ℕ
bytes_written events = flat_map (λ piece. piece) (pieces_written events)

abbrev pub is_wrote : Event → Bool
is_wrote (wrote piece) = true
is_wrote other = false

-- writes that were done, and no other call
abbrev pub AreWrites : List Event → Type 0
AreWrites [] = ⊤
AreWrites (e ∷ events) = (is_wrote e ≡ true) × AreWrites events

-- writes of these bytes, in one piece or several
pub record Writes (bytes : List ℕ) (events : List Event) : Type 0 where
  pub are : AreWrites events
  pub bytes_are : bytes_written events ≡ bytes

-- writes of the first of these bytes, and then one that failed, of bytes that come next
pub record WritesUpTo (bytes : List ℕ) (events : List Event) : Type 0 where
  pub done : List Event
  pub sent : ℕ
  pub count : ℕ
  pub events_are : events ≡ done ++ write_failed (take count (drop sent bytes)) ∷ []
  pub first : Writes (take sent bytes) done

-- The calls of a connection, from the bytes that are not used yet to those that are left. For each answer: reads, until its request was
-- whole; then what the clock told for its check; then writes of its bytes. Behind the last answer there may be reads for the next request.
abbrev pub TaskCalls : Option (ℕ × ℕ) → List ℕ → List Turn → List Event → List ℕ → Type 0
TaskCalls bounds bytes [] events rest = ReadsOn bytes events × (rest ≡ bytes ++ given events)
TaskCalls bounds bytes (t ∷ turns) events rest = (reads : List Event) × (writes : List Event) × (later : List Event)
    × (events ≡ reads ++ (told_for t.asked ++ (writes ++ later))) × ReadsOn bytes reads × IsFront (bytes ++ given reads) t.front
    × OffersWithin bounds t.asked × Writes (turn_bytes t) writes
    × TaskCalls bounds (drop (used_of t.front) (bytes ++ given reads)) turns later rest

-- all calls of a connection, with those for a last answer where there is one: what the clock told for its check, and its writes, of which
-- the last may have failed
abbrev pub AllTaskCalls : Option (ℕ × ℕ) → List Turn → Option Turn → List Event → List ℕ → Type 0
AllTaskCalls bounds turns None events rest = TaskCalls bounds [] turns events rest
AllTaskCalls bounds turns (Some t) events rest = (before : List Event) × (writes : List Event)
    × (events ≡ before ++ (told_for t.asked ++ writes)) × (Writes (turn_bytes t) writes ⊎ WritesUpTo (turn_bytes t) writes)
    × OffersWithin bounds t.asked × TaskCalls bounds [] turns before rest
