-- A connection whose calls don't wait: what contracts see of it, and what each call does to it.
use Rattle.std.specs.Prelude.{◌≡◌, ℕ, ◌<◌, ◌≤◌, List, length, take, Result, Ok, Err}
use Rattle.rate_io.specs.Causes.{Rose}
use Rattle.rate_io.specs.Links.{LinkState, IsLinkRead, IsLinkWrite, IsLinkNow, IsLinkEnd}
use Rattle.conn_tasks.specs.declared.polled.Polled.{Polled}
use Rattle.conn_tasks.specs.declared.polled.Polled.TheVariants.{Ready, Pending}

-- what contracts see of it
pub record PollState : Type 0 where
  -- as of a link that waits
  pub link : LinkState
  -- how often it would have waited; the count stops at the last value of a counter of 64 bits
  pub waits : ℕ

-- it would have waited: nothing else changed
pub record Waited (old new : PollState) : Type 0 where
  pub link : new.link ≡ old.link
  pub later : old.waits ≤ new.waits
  pub rose : Rose old.waits new.waits

-- a read that answered so and left this room
abbrev pub IsPollRead : {E : Type 0} → PollState → PollState → Polled (Result ℕ E) → List ℕ → Type 0
IsPollRead old new (Ready result) room = IsLinkRead old.link new.link result room × (new.waits ≡ old.waits)
IsPollRead old new Pending room = Waited old new

-- a write of this piece that answered so: the first bytes were written, at least one where there is one, or that failed
abbrev pub IsPollWrite : {E : Type 0} → PollState → PollState → Polled (Result ℕ E) → List ℕ → Type 0
IsPollWrite {E} old new (Ready (Ok count)) piece = IsLinkWrite {T = Unit {0}} {E = E} old.link new.link (Ok tt) (take count piece)
    × (new.waits ≡ old.waits) × (count ≤ length piece) × (0 < length piece → 0 < count)
IsPollWrite {E} old new (Ready (Err e)) piece =
    (part : ℕ) × IsLinkWrite {T = Unit {0}} {E = E} old.link new.link (Err e) (take part piece) × (new.waits ≡ old.waits)
IsPollWrite old new Pending piece = Waited old new

-- it told this moment
abbrev pub IsPollNow : PollState → PollState → ℕ → Type 0
IsPollNow old new now = IsLinkNow old.link new.link now × (new.waits ≡ old.waits)

-- the end of a link
pub record IsPollEnd (old new : PollState) : Type 0 where
  pub link : IsLinkEnd old.link new.link
  pub waits : new.waits ≡ old.waits
