-- A connection that is polled: where it stands, and what each turn of it does.
use Rattle.std.specs.Prelude.{◌≡◌, ℕ, ◌+◌, ◌≤◌, ◌==◌, ◌||◌, Bool, true, false, List, [], ◌∷◌, ◌++◌, length, take, drop, Option, Some, None}
use Rattle.std.specs.Prelude.{option_to_list, MatchOption, ⊤}
use Rattle.std.specs.List.{flat_map}
use Rattle.std.specs.Io.KnownBytes.{Consumes, IsAtEnd}
use Rattle.rate_types.specs.Requests.{RequestParts}
use Rattle.rate_io.specs.Causes.{Rose}
use Rattle.rate_io.specs.Content.{Appends}
use Rattle.rate_io.specs.Events.{Event, given, has_ended, has_failed, has_write_failed}
use Rattle.rate_io.specs.Links.{LinkState, StaysLink, IsLinkNow}
use Rattle.rate_io.specs.Listeners.{IsNewLink}
use Rattle.http_front.specs.Front.{IsFront, used_of}
use Rattle.http_front.specs.Part.{Stands}
use Rattle.http_front.specs.declared.front.Front.{Front}
use Rattle.http_front.specs.declared.asks.Method.{Method}
use Rattle.http_front.specs.declared.front.Front.TheVariants.{Ended as FrontEnded, CutShort as FrontCutShort, Check as FrontCheck, Stats as FrontStats}
use Rattle.http_endpoint.specs.Answers.{answers_max, Asked, Turn, IsTurn, IsNext, AreAnswers, turn_bytes, asked_in}
use Rattle.http_endpoint.specs.Printing.{PrintsTurn}
use Rattle.http_endpoint.specs.declared.link_end.LinkCause.{LinkCause}
use Rattle.http_endpoint.specs.declared.link_end.LinkCause.TheVariants.{Closed, Ended, CutShort, ReadFault, WriteFault}
use Rattle.conn_tasks.specs.Order.{bytes_written, AllTaskCalls}
use Rattle.conn_tasks.specs.Reading.{Holds}
use Rattle.conn_tasks.specs.SoFar.{SoFar, Sends}
use Rattle.conn_tasks.specs.State.{TaskState}
use Rattle.conn_tasks.specs.declared.reading.Awaited.TheVariants.{Head}
use Rattle.conn_tasks.specs.declared.conn.Mode.{Mode}
use Rattle.conn_tasks.specs.declared.conn.Mode.TheVariants as mode
use Rattle.conn_tasks.specs.declared.conn.Step.{Step}
use Rattle.conn_tasks.specs.declared.conn.Step.TheVariants as step
use Rattle.conn_tasks.specs.declared.conn.Turned.{Turned}
use Rattle.conn_tasks.specs.declared.conn.Turned.TheVariants as turned

-- ---- the end

-- these answers were written, all bytes of them, and no write failed; where it is told, nothing else was written
pub record HasWritten (old new : LinkState) (events : List Event) (turns : List Turn) : Type 0 where
  pub written : bytes_written events ≡ flat_map turn_bytes turns
  pub unfailed : has_write_failed events ≡ false
  pub told : Appends old.written new.written (flat_map turn_bytes turns)

-- these answers were written, and of one more the first bytes, until a write failed
pub record HasWrittenUpTo (old new : LinkState) (events : List Event) (turns : List Turn) (last : Turn) : Type 0 where
  pub sent : ℕ
  pub written : bytes_written events ≡ flat_map turn_bytes turns ++ take sent (turn_bytes last)
  pub failed : has_write_failed events ≡ true
  pub rose : Rose old.faults new.faults
  pub part : ℕ
  pub told : Appends old.written new.written (flat_map turn_bytes turns ++ take part (turn_bytes last))

-- Why it ended, as of a connection that waits for its peer. Closed: behind an answer that closes. Ended, CutShort: a read answered the end,
-- and at the bytes that are left no request begins, or one that isn't whole. A fault: a call failed, and the count of faults rose.
abbrev pub TaskEndsBy : LinkCause → LinkState → LinkState → List Event → List Turn → Option Turn → List ℕ → ℕ → Type 0
TaskEndsBy Closed old new events turns last rest count = (t : Turn) × (last ≡ Some t) × (t.answer.closes ≡ true)
    × HasWritten old new events (turns ++ t ∷ []) × (count ≡ length turns + 1)
TaskEndsBy Ended old new events turns last rest count = (last ≡ None) × IsFront rest FrontEnded × (has_ended events ≡ true)
    × IsAtEnd new.left × HasWritten old new events turns × (count ≡ length turns)
TaskEndsBy CutShort old new events turns last rest count = (last ≡ None) × IsFront rest FrontCutShort × (has_ended events ≡ true)
    × IsAtEnd new.left × HasWritten old new events turns × (count ≡ length turns)
TaskEndsBy ReadFault old new events turns last rest count = (last ≡ None) × (has_failed events ≡ true) × Rose old.faults new.faults
    × HasWritten old new events turns × (count ≡ length turns)
TaskEndsBy WriteFault old new events turns last rest count =
    (t : Turn) × (last ≡ Some t) × HasWrittenUpTo old new events turns t × (count ≡ length turns)

-- A connection that has ended, of which these checks were answered, in order: its calls; the answers that left it open and maybe one more,
-- which are those of the bytes that its reads handed out; the bytes behind them; and the order of its reads, of what the clock told for
-- checks, and of its writes.
pub record TaskServed (first : LinkState) (asked : List Asked) (now : LinkState) (cause : LinkCause) (count : ℕ) : Type 0 where
  pub events : List Event
  pub turns : List Turn
  pub last : Option Turn
  pub rest : List ℕ
  pub history : now.history ≡ first.history ++ events
  pub are_answers : AreAnswers 0 (given events) turns rest
  pub is_next : MatchOption last ⊤ (λ t. IsNext (length turns) rest t)
  pub in_order : AllTaskCalls first.bounds turns last events rest
  pub asked_is : asked ≡ asked_in (turns ++ option_to_list last)
  pub ends : TaskEndsBy cause first now events turns last rest count
  pub left : Consumes first.left now.left (given events)
  pub stays : StaysLink first now

-- ---- on the way

-- Between two answers: all answers so far are written, and of the bytes behind them so much is read.
pub record IsReading (first : LinkState) (asked : List Asked) (s : TaskState) : Type 0 where
  pub turns : List Turn
  pub rest : List ℕ
  pub so_far : SoFar first s.link.link turns rest
  pub holds : Holds rest s.awaited s.kept
  pub count : s.answers ≡ length turns
  pub last : s.closes ≡ (s.answers + 1 == answers_max)
  pub asked_is : asked ≡ asked_in turns

-- The front of a check stands there, with this request. The clock told this moment for it, and the check waits for its answer.
pub record IsChecking (first : LinkState) (asked : List Asked) (request : RequestParts) (now : ℕ) (s : TaskState) : Type 0 where
  pub turns : List Turn
  pub rest : List ℕ
  pub mid : LinkState
  pub so_far : SoFar first mid turns rest
  pub told : IsLinkNow mid s.link.link now
  pub asks_close : Bool
  pub used : ℕ
  pub stands : Stands rest (FrontCheck request asks_close used)
  pub behind : s.kept ≡ drop used rest
  pub awaits : s.awaited ≡ Head
  pub count : s.answers ≡ length turns
  pub closes : s.closes ≡ (asks_close || (s.answers + 1 == answers_max))
  pub asked_is : asked ≡ asked_in turns

-- The front of a request for the statistics stands there, with this method, and waits for them.
pub record IsTelling (first : LinkState) (asked : List Asked) (method : Method) (s : TaskState) : Type 0 where
  pub turns : List Turn
  pub rest : List ℕ
  pub so_far : SoFar first s.link.link turns rest
  pub asks_close : Bool
  pub used : ℕ
  pub stands : Stands rest (FrontStats method asks_close used)
  pub behind : s.kept ≡ drop used rest
  pub awaits : s.awaited ≡ Head
  pub count : s.answers ≡ length turns
  pub closes : s.closes ≡ (asks_close || (s.answers + 1 == answers_max))
  pub asked_is : asked ≡ asked_in turns

-- One more answer is printed, and its first bytes are written.
pub record IsWriting (first : LinkState) (asked : List Asked) (s : TaskState) : Type 0 where
  pub turns : List Turn
  pub rest : List ℕ
  pub t : Turn
  pub mid : LinkState
  pub so_far : SoFar first mid turns rest
  pub sends : Sends mid s.link.link t.asked (take s.sent (turn_bytes t))
  pub stands : Stands rest t.front
  pub turn : IsTurn (s.answers + 1 == answers_max) t
  pub prints : PrintsTurn t s.out s.printed
  pub within : s.sent ≤ length (turn_bytes t)
  pub closes : s.closes ≡ t.answer.closes
  pub behind : t.answer.closes ≡ false → Holds (drop (used_of t.front) rest) s.awaited s.kept
  pub count : s.answers ≡ length turns
  pub asked_is : asked ≡ asked_in (turns ++ t ∷ [])

-- One more answer is printed and wholly written.
pub record IsWritten (first : LinkState) (asked : List Asked) (s : TaskState) : Type 0 where
  pub turns : List Turn
  pub rest : List ℕ
  pub t : Turn
  pub mid : LinkState
  pub so_far : SoFar first mid turns rest
  pub sends : Sends mid s.link.link t.asked (turn_bytes t)
  pub stands : Stands rest t.front
  pub turn : IsTurn (s.answers + 1 == answers_max) t
  pub closes : s.closes ≡ t.answer.closes
  pub behind : t.answer.closes ≡ false → Holds (drop (used_of t.front) rest) s.awaited s.kept
  pub count : s.answers ≡ length turns
  pub asked_is : asked ≡ asked_in (turns ++ t ∷ [])

-- This front stands there.
pub record HasFront (first : LinkState) (asked : List Asked) (front : Front) (s : TaskState) : Type 0 where
  pub turns : List Turn
  pub rest : List ℕ
  pub so_far : SoFar first s.link.link turns rest
  pub stands : Stands rest front
  pub behind : s.kept ≡ drop (used_of front) rest
  pub awaits : s.awaited ≡ Head
  pub count : s.answers ≡ length turns
  pub last : s.closes ≡ (s.answers + 1 == answers_max)
  pub asked_is : asked ≡ asked_in turns

-- it stands between two answers, or inside one
abbrev pub Goes : LinkState → List Asked → TaskState → Mode → Type 0
Goes first asked s mode.Reading = IsReading first asked s
Goes first asked s mode.Writing = IsWriting first asked s
Goes first asked s mode.Checking = ⊥
Goes first asked s mode.Telling = ⊥
Goes first asked s mode.Ended = ⊥

-- the connection goes on, and of its checks these were answered
abbrev pub IsOn : LinkState → List Asked → TaskState → Type 0
IsOn first asked s = Goes first asked s s.mode

-- it goes on, from a link that was not used before, with some checks answered
abbrev pub IsGoing : TaskState → Type 0
IsGoing s = (first : LinkState) × (asked : List Asked) × IsNewLink first × IsOn first asked s

-- a check waits, on a link that was not used before, with some checks answered
abbrev pub IsAsking : TaskState → Type 0
IsAsking s = (first : LinkState) × (asked : List Asked) × (request : RequestParts) × (now : ℕ) × IsNewLink first
    × IsChecking first asked request now s

-- a request for the statistics waits, of this method, likewise
abbrev pub IsAskingStats : Method → TaskState → Type 0
IsAskingStats method s = (first : LinkState) × (asked : List Asked) × IsNewLink first × IsTelling first asked method s

-- what one step comes to, before which the link would have waited so often
abbrev pub Steps : LinkState → List Asked → ℕ → TaskState → Step → Type 0
Steps first asked waits new step.On = IsOn first asked new
Steps first asked waits new step.Wait = IsOn first asked new × Rose waits new.link.waits
Steps first asked waits new (step.Check request now) = (new.mode ≡ mode.Checking) × IsChecking first asked request now new
Steps first asked waits new (step.Stats method) = (new.mode ≡ mode.Telling) × IsTelling first asked method new
Steps first asked waits new (step.End link_end) =
    (new.mode ≡ mode.Ended) × TaskServed first asked new.link.link link_end.cause link_end.answers

-- What a turn comes to. It waits only where its link would have waited in this turn.
abbrev pub TurnsTo : LinkState → List Asked → ℕ → TaskState → Turned → Type 0
TurnsTo first asked waits new turned.Pending = IsOn first asked new × Rose waits new.link.waits
TurnsTo first asked waits new (turned.Check request now) = (new.mode ≡ mode.Checking) × IsChecking first asked request now new
TurnsTo first asked waits new (turned.Stats method) = (new.mode ≡ mode.Telling) × IsTelling first asked method new
TurnsTo first asked waits new (turned.End link_end) =
    (new.mode ≡ mode.Ended) × TaskServed first asked new.link.link link_end.cause link_end.answers

-- it goes on behind a turn that didn't end it
abbrev pub StillGoes : TaskState → Turned → Type 0
StillGoes new turned.Pending = IsGoing new
StillGoes new (turned.Check request now) = IsAsking new
StillGoes new (turned.Stats method) = IsAskingStats method new
StillGoes new (turned.End link_end) = ⊤

-- it goes on without a turn
abbrev pub is_on : Step → Bool
is_on step.On = true
is_on step.Wait = false
is_on (step.Check request now) = false
is_on (step.Stats method) = false
is_on (step.End link_end) = false

-- it may be polled
abbrev pub is_live : Mode → Bool
is_live mode.Reading = true
is_live mode.Writing = true
is_live mode.Checking = false
is_live mode.Telling = false
is_live mode.Ended = false

-- 1 while an answer is being written
abbrev pub in_answer : Mode → ℕ
in_answer mode.Writing = 1
in_answer mode.Reading = 0
in_answer mode.Checking = 0
in_answer mode.Telling = 0
in_answer mode.Ended = 0

-- where a step leaves a task
abbrev pub StandsAfter : Step → Mode → Type 0
StandsAfter step.On now = is_live now ≡ true
StandsAfter step.Wait now = is_live now ≡ true
StandsAfter (step.Check request at) now = now ≡ mode.Checking
StandsAfter (step.Stats method) now = now ≡ mode.Telling
StandsAfter (step.End link_end) now = now ≡ mode.Ended

-- where a turn leaves it
abbrev pub StandsBehind : Turned → Mode → Type 0
StandsBehind turned.Pending now = is_live now ≡ true
StandsBehind (turned.Check request at) now = now ≡ mode.Checking
StandsBehind (turned.Stats method) now = now ≡ mode.Telling
StandsBehind (turned.End link_end) now = now ≡ mode.Ended
