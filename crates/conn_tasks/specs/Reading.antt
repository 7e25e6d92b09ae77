-- Inside: what is awaited of a request, and what is kept of the bytes behind the last answer.
use Rattle.std.specs.Prelude.{◌≡◌, ℕ, ◌<◌, ◌≤◌, Bool, true, false, List, [], ◌++◌, length, drop, if◌then◌else◌}
use Rattle.rate_io.specs.Causes.{Rose}
use Rattle.rate_io.specs.Events.{Event, given}
use Rattle.http_front.specs.Head.{head_max}
use Rattle.http_front.specs.Front.{IsFront, is_waiting, sends, used_of}
use Rattle.http_front.specs.Part.{Stands}
use Rattle.http_front.specs.declared.front.Front.{Front}
use Rattle.http_front.specs.declared.front.Front.TheVariants.{Ended as FrontEnded, CutShort as FrontCutShort}
use Rattle.http_endpoint.specs.Order.{Waits}
use Rattle.http_endpoint.specs.Steps.{Drew, Awaits, FoundEnd, FailedToRead}
use Rattle.conn_tasks.specs.Polls.{PollState}
use Rattle.conn_tasks.specs.declared.reading.Awaited.{Awaited}
use Rattle.conn_tasks.specs.declared.reading.Awaited.TheVariants.{Head, Body, Dropped}
use Rattle.conn_tasks.specs.declared.reading.Look.{Look}
use Rattle.conn_tasks.specs.declared.reading.Look.TheVariants as look
use Rattle.conn_tasks.specs.declared.reading.Filled.{Filled}
use Rattle.conn_tasks.specs.declared.reading.Filled.TheVariants as filled

-- the most bytes that are awaited
abbrev pub total_of : Awaited → ℕ
total_of Head = 16384
total_of (Body total sends_body) = total
total_of (Dropped have total sends_body) = total

-- how many of them are there
abbrev pub have_of : Awaited → List ℕ → ℕ
have_of Head kept = length kept
have_of (Body total sends_body) kept = length kept
have_of (Dropped have total sends_body) kept = have

-- a request of so many bytes in all: with fewer it is cut short, with as many it gets an answer, whose body is sent or not
pub record IsAwaited (bytes : List ℕ) (total : ℕ) (sends_body : Bool) : Type 0 where
  pub within : length bytes ≤ total
  pub until : (more : List ℕ) → length (bytes ++ more) < total → IsFront (bytes ++ more) FrontCutShort
  pub later : (more : List ℕ) → total ≤ length (bytes ++ more)
      → (front : Front) × Stands (bytes ++ more) front × (used_of front ≡ total) × (sends_body ≡ sends front)

-- These are the bytes behind the last answer, of which those are kept. Only a request of more bytes than a head may have isn't kept.
abbrev pub Holds : List ℕ → Awaited → List ℕ → Type 0
Holds bytes Head kept = bytes ≡ kept
Holds bytes (Body total sends_body) kept = (bytes ≡ kept) × IsAwaited bytes total sends_body
Holds bytes (Dropped have total sends_body) kept = (length bytes ≡ have) × IsAwaited bytes total sends_body × (head_max < total)

-- what is found without reading
abbrev pub Looks : List ℕ → Awaited → List ℕ → Look → Type 0
Looks bytes awaited kept (look.Front front) = Stands bytes front × (kept ≡ drop (used_of front) bytes) × (awaited ≡ Head)
Looks bytes awaited kept (look.NoMemory sends_body) = Awaits bytes sends_body
Looks bytes awaited kept (look.More is_blank) =
    Holds bytes awaited kept × IsFront bytes (if is_blank then FrontEnded else FrontCutShort)

-- where more is wanted, there is room for it, and a front that is found waits for nothing
abbrev pub HasRoom : Awaited → List ℕ → Look → Type 0
HasRoom awaited kept (look.Front front) = is_waiting front ≡ false
HasRoom awaited kept (look.NoMemory sends_body) = Unit {0}
HasRoom awaited kept (look.More is_blank) = have_of awaited kept < total_of awaited

-- and so many are there
abbrev pub Keeps : ℕ → Awaited → List ℕ → Look → Type 0
Keeps have awaited kept (look.Front front) = Unit {0}
Keeps have awaited kept (look.NoMemory sends_body) = Unit {0}
Keeps have awaited kept (look.More is_blank) = have_of awaited kept ≡ have

-- bytes were added
abbrev pub is_more : Filled → Bool
is_more filled.More = true
is_more filled.End = false
is_more filled.Failed = false
is_more filled.Wait = false

-- these reads of a link, where no request was whole yet, and nothing else
abbrev pub Reads : PollState → PollState → List Event → Type 0
Reads old new events = (bytes : List ℕ) → Waits bytes → Drew bytes old.link new.link events

-- one read added some bytes, found the end, failed, or would have waited
abbrev pub Fills : PollState → PollState → List Event → Filled → Type 0
Fills old new events filled.More = 0 < length (given events)
Fills old new events filled.End = (given events ≡ []) × FoundEnd new.link events
Fills old new events filled.Failed = (given events ≡ []) × FailedToRead old.link new.link events
Fills old new events filled.Wait = (events ≡ []) × Rose old.waits new.waits
