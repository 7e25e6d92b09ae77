-- A listener whose accepts don't wait.
use Rattle.std.specs.Prelude.{◌≡◌, ◌≤◌, ◌<◌, ℕ, Bool, List, [], ◌∷◌, ◌++◌, length, get_or, Option, Some, None, Result, Ok, Err}
use Rattle.rate_io.specs.Causes.{HasCause, Rose}
use Rattle.rate_io.specs.Listeners.{ListenEvent, accept_event, IsNewLink}
use Rattle.conn_tasks.specs.Polls.{PollState}
use Rattle.conn_tasks.specs.declared.polled.Polled.{Polled}
use Rattle.conn_tasks.specs.declared.polled.Polled.TheVariants.{Ready, Pending}
use Rattle.conn_tasks.specs.declared.woke.Woke.{Woke}
use Rattle.conn_tasks.specs.declared.woke.Woke.TheVariants.{Listener, Link}

-- an answer is in the history, a wait isn't
abbrev pub AcceptsTo : {L E : Type 0} → List ListenEvent → List ListenEvent → Polled (Result L E) → Type 0
AcceptsTo old new (Ready result) = new ≡ old ++ accept_event result ∷ []
AcceptsTo old new Pending = new ≡ old

-- the link that is handed out wasn't used
abbrev pub IsFresh : {L E : Type 0} → (L → PollState) → Polled (Result L E) → Type 0
IsFresh state (Ready (Ok link)) = IsNewLink (state link).link
IsFresh state (Ready (Err e)) = Unit {0}
IsFresh state Pending = Unit {0}

-- the count of faults rose where the call failed
abbrev pub HasPolledCause : {L E : Type 0} → ℕ → ℕ → Polled (Result L E) → Type 0
HasPolledCause before now (Ready result) = HasCause before now result
HasPolledCause before now Pending = now ≡ before

-- the count of waits rose where the call would have waited
abbrev pub HasWaited : {L E : Type 0} → ℕ → ℕ → Polled (Result L E) → Type 0
HasWaited before now (Ready result) = now ≡ before
HasWaited before now Pending = (before ≤ now) × Rose before now

-- one of the things that a sleep told, where there are so many
abbrev pub IsWoke : List Woke → ℕ → Option Woke → Type 0
IsWoke told i (Some woke) = (i < length told) × (woke ≡ get_or told i Listener)
IsWoke told i None = length told ≤ i

-- a sleep told that something happened at the link of this place
abbrev pub ToldOf : List Woke → ℕ → Type 0
ToldOf told place = (i : ℕ) × (is_closed : Bool) × (i < length told) × (get_or told i Listener ≡ Link place is_closed)
