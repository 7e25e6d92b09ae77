-- Inside: a connection so far: what was read, which answers stand, and which bytes were written.
use Rattle.std.specs.Prelude.{◌≡◌, ℕ, ◌≤◌, false, List, [], ◌++◌, take, drop, Option}
use Rattle.std.specs.List.{flat_map}
use Rattle.std.specs.Io.KnownBytes.{Consumes}
use Rattle.rate_io.specs.Causes.{Rose}
use Rattle.rate_io.specs.Content.{Appends}
use Rattle.rate_io.specs.Events.{Event, given, has_write_failed}
use Rattle.rate_io.specs.Links.{LinkState, StaysLink}
use Rattle.http_front.specs.Front.{IsFront, is_waiting, used_of}
use Rattle.http_front.specs.Part.{Stands}
use Rattle.http_front.specs.declared.front.Front.TheVariants.{Ended as FrontEnded, CutShort as FrontCutShort}
use Rattle.http_endpoint.specs.Answers.{Asked, Turn, turn_bytes}
use Rattle.http_endpoint.specs.Order.{told_for, OffersWithin}
use Rattle.http_endpoint.specs.Steps.{StandAnswers, Awaits, FoundEnd, FailedToRead}
use Rattle.conn_tasks.specs.Order.{bytes_written, Writes, WritesUpTo, TaskCalls}
use Rattle.conn_tasks.specs.Polls.{PollState}
use Rattle.conn_tasks.specs.Reading.{Holds}
use Rattle.conn_tasks.specs.declared.reading.Awaited.{Awaited}
use Rattle.conn_tasks.specs.declared.reading.Awaited.TheVariants.{Head}
use Rattle.conn_tasks.specs.declared.front.NextPoll.{NextPoll}
use Rattle.conn_tasks.specs.declared.front.NextPoll.TheVariants as next
use Rattle.conn_tasks.specs.declared.put.Put.{Put}
use Rattle.conn_tasks.specs.declared.put.Put.TheVariants as put

-- The calls of a connection since it was handed out: these answers stand at the bytes that its reads handed out and leave it open, they
-- were written, and those bytes come behind them.
pub record SoFar (first now : LinkState) (turns : List Turn) (rest : List ℕ) : Type 0 where
  pub events : List Event
  pub history : now.history ≡ first.history ++ events
  pub answered : StandAnswers 0 (given events) turns rest
  pub calls : TaskCalls first.bounds [] turns events rest
  pub written : bytes_written events ≡ flat_map turn_bytes turns
  pub unfailed : has_write_failed events ≡ false
  pub told : Appends first.written now.written (flat_map turn_bytes turns)
  pub left : Consumes first.left now.left (given events)
  pub later : first.faults ≤ now.faults
  pub stays : StaysLink first now

-- what the clock told for a check, and then writes of these bytes
pub record Sends (old new : LinkState) (asked : Option Asked) (sent : List ℕ) : Type 0 where
  pub writes : List Event
  pub history : new.history ≡ old.history ++ (told_for asked ++ writes)
  pub are : Writes sent writes
  pub within : OffersWithin old.bounds asked
  pub told : Appends old.written new.written sent
  pub left : new.left ≡ old.left
  pub later : old.faults ≤ new.faults
  pub stays : StaysLink old new

-- what the clock told for a check, and then writes of the first of these bytes, of which the last failed
pub record FailsToSend (old new : LinkState) (asked : Option Asked) (bytes : List ℕ) : Type 0 where
  pub writes : List Event
  pub history : new.history ≡ old.history ++ (told_for asked ++ writes)
  pub are : WritesUpTo bytes writes
  pub within : OffersWithin old.bounds asked
  pub part : ℕ
  pub told : Appends old.written new.written (take part bytes)
  pub left : new.left ≡ old.left
  pub rose : Rose old.faults new.faults
  pub stays : StaysLink old new

-- a read answered the end, or failed
pub record HasEnded (first now : LinkState) (turns : List Turn) (rest : List ℕ) : Type 0 where
  pub so_far : SoFar first now turns rest
  pub end : FoundEnd now so_far.events

pub record HasFailed (first now : LinkState) (turns : List Turn) (rest : List ℕ) : Type 0 where
  pub so_far : SoFar first now turns rest
  pub fault : FailedToRead first now so_far.events

-- what comes next on a connection
abbrev pub Nexts : LinkState → List Turn → PollState → PollState → Awaited → List ℕ → NextPoll → Type 0
Nexts first turns old new awaited kept (next.Front front) =
    (rest : List ℕ) × SoFar first new.link turns rest × Stands rest front × (kept ≡ drop (used_of front) rest) × (awaited ≡ Head)
Nexts first turns old new awaited kept (next.NoMemory sends_body) =
    (rest : List ℕ) × SoFar first new.link turns rest × Awaits rest sends_body
Nexts first turns old new awaited kept next.Ended = (rest : List ℕ) × HasEnded first new.link turns rest × IsFront rest FrontEnded
Nexts first turns old new awaited kept next.CutShort = (rest : List ℕ) × HasEnded first new.link turns rest × IsFront rest FrontCutShort
Nexts first turns old new awaited kept next.ReadFault = (rest : List ℕ) × HasFailed first new.link turns rest
Nexts first turns old new awaited kept next.Wait =
    (rest : List ℕ) × SoFar first new.link turns rest × Holds rest awaited kept × Rose old.waits new.waits

-- what came of writing a piece on
abbrev pub Puts : LinkState → Option Asked → List ℕ → PollState → PollState → ℕ → Put → Type 0
Puts mid asked piece old new sent put.Done = Sends mid new.link asked piece
Puts mid asked piece old new sent put.Wait = Sends mid new.link asked (take sent piece) × Rose old.waits new.waits
Puts mid asked piece old new sent put.Failed = FailsToSend mid new.link asked piece

-- a front that is found waits for nothing
abbrev pub IsSettled : NextPoll → Type 0
IsSettled (next.Front front) = is_waiting front ≡ false
IsSettled (next.NoMemory sends_body) = Unit {0}
IsSettled next.Ended = Unit {0}
IsSettled next.CutShort = Unit {0}
IsSettled next.ReadFault = Unit {0}
IsSettled next.Wait = Unit {0}
