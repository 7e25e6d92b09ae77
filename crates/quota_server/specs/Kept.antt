-- Inside: what is kept of the live shares of each client.
use Rattle.std.specs.Prelude.{ℕ, List, [], Option, None, Some}
use Rattle.std.specs.HashMap.{get}
use Rattle.rate_types.specs.Counters.{same_text}
use Rattle.quota_server.specs.Holds.{OneHold}
use Rattle.quota_server.specs.declared.holds.Holds.{Holds}

abbrev pub counts_or_none : Option OneHold → List ℕ
counts_or_none None = []
counts_or_none (Some hold) = hold.counts

abbrev pub room_or_none : Option OneHold → ℕ
room_or_none None = 0
room_or_none (Some hold) = hold.room

-- the counts that are kept of a client
abbrev pub counts_in : Holds → List ℕ → List ℕ
counts_in holds c = counts_or_none (get same_text holds.map c)

-- for how many more counts of a client there is room
abbrev pub room_in : Holds → List ℕ → ℕ
room_in holds c = room_or_none (get same_text holds.map c)
