-- Inside: what the steps of serving a connection say, whether they wait for its peer or are polled.
use Rattle.std.specs.Prelude.{◌≡◌, ℕ, ◌+◌, ◌<◌, ◌≤◌, ◌==◌, Bool, true, false, List, [], ◌∷◌, ◌++◌, length, drop, Option, None}
use Rattle.std.specs.Prelude.{option_to_list, if◌then◌else◌}
use Rattle.std.specs.Io.KnownBytes.{Consumes, IsAtEnd}
use Rattle.rate_io.specs.Causes.{Rose}
use Rattle.rate_io.specs.Events.{Event, given, has_ended, has_failed, has_write_failed, pieces_written}
use Rattle.rate_io.specs.Links.{LinkState, StaysLink}
use Rattle.http_endpoint.specs.Order.{Waits, ReadsOn, told_for, OffersWithin, Calls}
use Rattle.http_front.specs.Head.{head_max}
use Rattle.http_front.specs.Front.{IsFront, sends, used_of}
use Rattle.http_front.specs.Part.{Stands, EndsAt}
use Rattle.http_front.specs.declared.front.Front.{Front}
use Rattle.http_front.specs.declared.front.Front.TheVariants.{Ended as FrontEnded, CutShort as FrontCutShort}
use Rattle.http_endpoint.specs.Answers.{answers_max, Asked, Turn, IsTurn, WantsMemory, CheckStep, Lead, asked_in}
use Rattle.http_endpoint.specs.Printing.{PrintsTurn}
use Rattle.http_endpoint.specs.Served.{Wrote}
use Rattle.http_endpoint.specs.declared.inbox.Filled.{Filled}
use Rattle.http_endpoint.specs.declared.inbox.Filled.TheVariants.{More, End, Failed}
use Rattle.http_endpoint.specs.declared.next.HeadLook.{HeadLook}
use Rattle.http_endpoint.specs.declared.next.HeadLook.TheVariants as look
use Rattle.http_endpoint.specs.declared.next.HeadRead.{HeadRead}
use Rattle.http_endpoint.specs.declared.next.HeadRead.TheVariants as head
use Rattle.http_endpoint.specs.declared.next.Next.{Next}
use Rattle.http_endpoint.specs.declared.next.Next.TheVariants as next
use Rattle.http_endpoint.specs.declared.turn.Printed.{Printed}
use Rattle.http_endpoint.specs.declared.serve.NextAnswer.{NextAnswer}
use Rattle.http_endpoint.specs.declared.serve.NextAnswer.TheVariants as answer

-- ---- reads

-- with fewer bytes in all than this, no request is whole
abbrev pub WaitsUntil : List ℕ → ℕ → Type 0
WaitsUntil bytes total = (more : List ℕ) → length (bytes ++ more) < total → Waits (bytes ++ more)

-- these reads of a link, from these bytes on, and nothing else
pub record Drew (bytes : List ℕ) (old new : LinkState) (events : List Event) : Type 0 where
  pub history : new.history ≡ old.history ++ events
  pub on : ReadsOn bytes events
  pub quiet : pieces_written events ≡ []
  pub unfailed : has_write_failed events ≡ false
  pub left : Consumes old.left new.left (given events)
  pub written : new.written ≡ old.written
  pub later : old.faults ≤ new.faults
  pub stays : StaysLink old new

-- a read answered the end, and no byte is left where it is told
pub record FoundEnd (new : LinkState) (events : List Event) : Type 0 where
  pub ended : has_ended events ≡ true
  pub empty : IsAtEnd new.left

-- a read failed, and the count rose
pub record FailedToRead (old new : LinkState) (events : List Event) : Type 0 where
  pub failed : has_failed events ≡ true
  pub rose : Rose old.faults new.faults

-- one read added some bytes, found the end, or failed
abbrev pub FillsTo : LinkState → LinkState → List Event → Filled → Type 0
FillsTo old new events More = 0 < length (given events)
FillsTo old new events End = (given events ≡ []) × FoundEnd new events
FillsTo old new events Failed = FailedToRead old new events

-- the whole is there, the end was found before, or a read failed
abbrev pub Completes : ℕ → ℕ → LinkState → LinkState → List Event → Filled → Type 0
Completes total count old new events More = count ≡ total
Completes total count old new events End = FoundEnd new events × (count < total)
Completes total count old new events Failed = FailedToRead old new events

-- ---- fronts

-- a front that takes memory stands at these bytes, and the body of its answer is sent or not
abbrev pub Awaits : List ℕ → Bool → Type 0
Awaits bytes sends_body = (front : Front) × Stands bytes front × (sends_body ≡ sends front) × WantsMemory front None

-- a front stands at these bytes and uses them all
abbrev pub IsWhole : List ℕ → Type 0
IsWhole bytes = (front : Front) × Stands bytes front × (used_of front ≡ length bytes)

-- what stands at these bytes; where more are read, they are fewer than a head may have
abbrev pub Looks : List ℕ → HeadLook → Type 0
Looks bytes (look.Whole front) = Stands bytes front
Looks bytes (look.Long total sends_body) = EndsAt bytes total sends_body × (head_max < total)
Looks bytes (look.NoMemory sends_body) = Awaits bytes sends_body
Looks bytes (look.Short is_blank) = IsFront bytes (if is_blank then FrontEnded else FrontCutShort) × (length bytes < head_max)

-- what the reading of a head came to, over these bytes
abbrev pub HeadFinds : List ℕ → LinkState → LinkState → List Event → HeadRead → Type 0
HeadFinds bytes old new events (head.Whole front) = Stands bytes front
HeadFinds bytes old new events (head.NoBody total sends_body) = EndsAt bytes total sends_body × (head_max < total)
HeadFinds bytes old new events (head.NoMemory sends_body) = Awaits bytes sends_body
HeadFinds bytes old new events head.Ended = IsFront bytes FrontEnded × FoundEnd new events
HeadFinds bytes old new events head.CutShort = IsFront bytes FrontCutShort × FoundEnd new events
HeadFinds bytes old new events head.ReadFault = FailedToRead old new events

-- what comes of a request that is whole, and what is unread after it
abbrev pub Comes : List ℕ → List ℕ → Next → Type 0
Comes bytes unread (next.Front front) = Stands bytes front × (used_of front ≡ length bytes) × (unread ≡ [])
Comes bytes unread (next.NoMemory sends_body) = Awaits bytes sends_body
Comes bytes unread next.Ended = ⊥
Comes bytes unread next.CutShort = ⊥
Comes bytes unread next.ReadFault = ⊥

-- what comes of a request whose rest was read and not kept
abbrev pub ComesTo : ℕ → ℕ → Bool → LinkState → LinkState → List Event → Next → Type 0
ComesTo total count sends_body old new events (next.NoMemory sent) = (count ≡ total) × (sent ≡ sends_body)
ComesTo total count sends_body old new events next.CutShort = FoundEnd new events × (count < total)
ComesTo total count sends_body old new events next.ReadFault = FailedToRead old new events
ComesTo total count sends_body old new events next.Ended = ⊥
ComesTo total count sends_body old new events (next.Front front) = ⊥

-- what was found at the front of these bytes, and what is unread after it
abbrev pub Finds : List ℕ → List ℕ → LinkState → LinkState → List Event → Next → Type 0
Finds bytes unread old new events (next.Front front) = Stands bytes front × (unread ≡ drop (used_of front) bytes)
Finds bytes unread old new events (next.NoMemory sends_body) = Awaits bytes sends_body
Finds bytes unread old new events next.Ended = IsFront bytes FrontEnded × FoundEnd new events
Finds bytes unread old new events next.CutShort = IsFront bytes FrontCutShort × FoundEnd new events
Finds bytes unread old new events next.ReadFault = FailedToRead old new events

-- ---- answers

-- what the clock told for a check, and nothing else
pub record Tells (old new : LinkState) (asked : Option Asked) : Type 0 where
  pub history : new.history ≡ old.history ++ told_for asked
  pub within : OffersWithin old.bounds asked
  pub left : new.left ≡ old.left
  pub written : new.written ≡ old.written
  pub faults : new.faults ≡ old.faults
  pub stays : StaysLink old new

-- the answer of a front: what was printed for it, what the clock told, and the check that was made
pub record TurnsOut {S : Type 0} (answers : CheckStep S)
    (is_last : Bool) (front : Front) (old new : LinkState) (checks checks_after : S) (out : List ℕ) (printed : Printed) : Type 0 where
  pub t : Turn
  pub front_is : t.front ≡ front
  pub turn : IsTurn is_last t
  pub prints : PrintsTurn t out printed
  pub tells : Tells old new t.asked
  pub lead : Lead answers checks (option_to_list t.asked) checks_after

-- the next answer to these bytes
pub record TakesTurn {S : Type 0} (answers : CheckStep S)
    (is_last : Bool) (bytes unread : List ℕ) (mid new : LinkState) (checks checks_after : S) (out : List ℕ) (printed : Printed) : Type 0 where
  pub t : Turn
  pub stands : Stands bytes t.front
  pub turn : IsTurn is_last t
  pub prints : PrintsTurn t out printed
  pub tells : Tells mid new t.asked
  pub lead : Lead answers checks (option_to_list t.asked) checks_after
  pub unread_is : t.answer.closes ≡ false → unread ≡ drop (used_of t.front) bytes

-- the next answer, or why none comes; the reads led from the first state to the second
abbrev pub Takes : {S : Type 0} → CheckStep S
    → Bool → List ℕ → List ℕ → LinkState → LinkState → LinkState → List Event → S → S → List ℕ → NextAnswer → Type 0
Takes answers is_last bytes unread old mid new events checks checks_after out (answer.Answer printed) =
    TakesTurn answers is_last bytes unread mid new checks checks_after out printed
Takes answers is_last bytes unread old mid new events checks checks_after out answer.Ended =
    (new ≡ mid) × IsFront bytes FrontEnded × FoundEnd mid events × (checks_after ≡ checks)
Takes answers is_last bytes unread old mid new events checks checks_after out answer.CutShort =
    (new ≡ mid) × IsFront bytes FrontCutShort × FoundEnd mid events × (checks_after ≡ checks)
Takes answers is_last bytes unread old mid new events checks checks_after out answer.ReadFault =
    (new ≡ mid) × FailedToRead old mid events × (checks_after ≡ checks)

-- ---- the connection so far

-- answers that leave the connection open, whatever bytes follow, and the bytes after them
abbrev pub StandAnswers : ℕ → List ℕ → List Turn → List ℕ → Type 0
StandAnswers before bytes [] rest = rest ≡ bytes
StandAnswers before bytes (t ∷ turns) rest = Stands bytes t.front × IsTurn (before + 1 == answers_max) t × (t.answer.closes ≡ false)
    × StandAnswers (before + 1) (drop (used_of t.front) bytes) turns rest

-- its answers leave it open
pub record Goes {S : Type 0} (answers : CheckStep S)
    (checks checks_now : S) (old now : LinkState) (count : ℕ) (unread : List ℕ) : Type 0 where
  pub events : List Event
  pub turns : List Turn
  pub history : now.history ≡ old.history ++ events
  pub are_answers : StandAnswers 0 (given events) turns unread
  pub wrote : Wrote old now events turns
  pub calls : Calls old.bounds [] turns events unread
  pub lead : Lead answers checks (asked_in turns) checks_now
  pub left : Consumes old.left now.left (given events)
  pub later : old.faults ≤ now.faults
  pub stays : StaysLink old now
  pub count_is : count ≡ length turns
