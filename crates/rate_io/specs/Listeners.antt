-- A listener for connections: its calls in order, and what each does.
use Rattle.std.specs.Prelude.{◌≡◌, ◌⊎◌, ℕ, ◌<◌, ◌==◌, List, [], count_by, Option, None, Some, Result, Ok, Err, Bool, true, false}
use Rattle.std.specs.List.{filter_map}
use Rattle.rate_io.specs.Events.{Event}
use Rattle.rate_io.specs.Links.{LinkState}

-- one call of a listener
pub data ListenEvent : Type 0 where
  -- it was asked for this port, and is bound to this one
  bound : ℕ → ℕ → ListenEvent
  -- it was asked for this port, and wasn't bound
  bind_failed : ℕ → ListenEvent
  -- it handed out the next link
  accepted : ListenEvent
  -- it handed out none
  accept_failed : ListenEvent
  -- the link of this number came back, with its calls, and shut or not
  gave_back : ℕ → List Event → Bool → ListenEvent

abbrev pub is_accepted : ListenEvent → Bool
is_accepted accepted = true
is_accepted other = false

-- how many links were handed out; they are numbered from 0
abbrev pub accepted_count : List ListenEvent → ℕ
accepted_count events = count_by is_accepted events

-- the number of a link that came back
abbrev pub number_back : ListenEvent → Option ℕ
number_back (gave_back number calls shut) = Some number
number_back other = None

-- the link of this number was handed out and hasn't come back
pub record IsOut (events : List ListenEvent) (number : ℕ) : Type 0 where
  pub accepted : number < accepted_count events
  pub not_back : count_by (λ n. n == number) (filter_map number_back events) ≡ 0

-- a port that is had where this one was asked for: any for 0, else that one
abbrev pub IsPortFor : ℕ → ℕ → Type 0
IsPortFor asked port = (asked ≡ 0) ⊎ (port ≡ asked)

-- the event of a call for a port that answered so
abbrev pub bind_event : {E : Type 0} → ℕ → Result ℕ E → ListenEvent
bind_event port (Ok got) = bound port got
bind_event port (Err e) = bind_failed port

-- the event of a call for the next link that answered so
abbrev pub accept_event : {L E : Type 0} → Result L E → ListenEvent
accept_event (Ok link) = accepted
accept_event (Err e) = accept_failed

-- a link that was not used yet
pub record IsNewLink (link : LinkState) : Type 0 where
  pub history : link.history ≡ []
  pub is_open : link.is_shut ≡ false
