-- Shares of a pool: what its clients hold by the assignments that were written, and what a client is granted.
use Rattle.std.specs.Prelude.{ℕ, ◌+◌, ◌-◌, ◌/◌, ◌≤◌, ◌&&◌, not, List, [], ◌∷◌, Bool, filter, map, max, min, nat_lt, if◌then◌else◌}
use Rattle.std.specs.List.{list_any}
use Rattle.rate_types.specs.Sums.{total}
use Rattle.rate_types.specs.Counters.{same_text}

-- an assignment that was written: the client that it was for, its count, and from when until when it is live
pub record Share : Type 0 where
  pub client : List ℕ
  pub count : ℕ
  pub from : ℕ
  pub until : ℕ

-- whether a share hasn't ended at a moment
abbrev pub lasts_until : ℕ → Share → Bool
lasts_until t s = nat_lt t s.until

-- whether a share is live at a moment: it has begun, and not ended
abbrev pub is_live_at : ℕ → Share → Bool
is_live_at t s = not (nat_lt t s.from) && lasts_until t s

-- the shares that are live at a moment
abbrev pub live_at : ℕ → List Share → List Share
live_at t shares = filter (is_live_at t) shares

-- whether a share is a client's
abbrev pub is_of : List ℕ → Share → Bool
is_of client s = same_text s.client client

-- the greatest of these numbers, 0 where there is none
abbrev pub greatest : List ℕ → ℕ
greatest [] = 0
greatest (n ∷ ns) = max n (greatest ns)

-- the greatest count of a client's shares
abbrev pub greatest_of : List Share → List ℕ → ℕ
greatest_of shares client = greatest (map (λ s. s.count) (filter (is_of client) shares))

-- What a client holds at a moment: the greatest count of its live shares.
abbrev pub held_by : List Share → List ℕ → ℕ → ℕ
held_by shares client t = greatest_of (live_at t shares) client

-- the clients of shares, each once
abbrev pub clients_of : List Share → List (List ℕ)
clients_of [] = []
clients_of (s ∷ ss) = if list_any (is_of s.client) ss then clients_of ss else s.client ∷ clients_of ss

-- a number of each client, but 0 of this one
abbrev pub but_for : List ℕ → (List ℕ → ℕ) → List ℕ → ℕ
but_for client number other = if same_text other client then 0 else number other

-- what all clients of these live shares hold together
abbrev pub held_of : List Share → ℕ
held_of live = total (greatest_of live) (clients_of live)

-- what the other clients hold together
abbrev pub others_of : List Share → List ℕ → ℕ
others_of live client = total (but_for client (greatest_of live)) (clients_of live)

-- how many clients share the pool: this one, and the others with a live share
abbrev pub sharing_of : List Share → List ℕ → ℕ
sharing_of live client = 1 + total (but_for client (λ c. 1)) (clients_of live)

-- what a client is granted of a pool of so many, by the live shares: its fair part, which is at least 1, but no more than the others leave
abbrev pub granted_of : ℕ → List Share → List ℕ → ℕ
granted_of count live client = min (max (count / sharing_of live client) 1) (count - others_of live client)

-- What all clients hold together at a moment.
abbrev pub held_together : List Share → ℕ → ℕ
held_together shares t = held_of (live_at t shares)

-- What a client is granted at a moment.
abbrev pub granted : ℕ → List Share → List ℕ → ℕ → ℕ
granted count shares client t = granted_of count (live_at t shares) client

-- The shares fit a pool of so many: at each moment what all clients hold together is at most that.
abbrev pub SharesFitPool : ℕ → List Share → Type 0
SharesFitPool count shares = (t : ℕ) → held_together shares t ≤ count
