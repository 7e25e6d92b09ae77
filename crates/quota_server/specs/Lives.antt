-- Inside: the live shares of a pool, and what is kept of them.
use Rattle.std.specs.Prelude.{◌≡◌, ℕ, ◌-◌, ◌≤◌, List, [], ◌∷◌, Bool, false, filter, map, not, ⊤}
use Rattle.std.specs.List.{AllByRecursion}
use Rattle.rate_types.specs.Sums.{total}
use Rattle.quota_server.specs.Shares.{Share, lasts_until, is_of, clients_of, held_of}
use Rattle.quota_server.specs.Holds.{first_of, skyline}
use Rattle.quota_server.specs.Kept.{counts_in}
use Rattle.quota_server.specs.declared.live.Live.{Live}

-- the counts of a client's shares
abbrev pub counts_of : List Share → List ℕ → List ℕ
counts_of live c = map (λ s. s.count) (filter (is_of c) live)

-- each share ends by this moment
abbrev pub EndBy : ℕ → List Share → Type 0
EndBy until live = AllByRecursion (λ s. s.until ≤ until) live

-- each share ends no earlier than those before it
abbrev pub EndsRise : List Share → Type 0
EndsRise [] = ⊤
EndsRise (s ∷ ss) = AllByRecursion (λ x. s.until ≤ x.until) ss × EndsRise ss

-- what is kept of live shares
pub record IsKept (live : List Share) (counts : List ℕ → List ℕ) (held clients : ℕ) : Type 0 where
  pub ends : EndsRise live
  pub sum : held ≡ held_of live
  pub number : clients ≡ total (λ c. 1) (clients_of live)
  pub kept : (c : List ℕ) → counts c ≡ skyline (counts_of live c)

-- the same of what a pool keeps
abbrev pub IsLawful : Live → Type 0
IsLawful l = IsKept l.shares.items (counts_in l.holds) l.held l.clients

-- what the other clients hold, as a pool keeps it
abbrev pub others_hold : Live → List ℕ → ℕ
others_hold l client = l.held - first_of (counts_in l.holds client)

-- whether the first share has ended at a moment
abbrev pub first_has_ended : List Share → ℕ → Bool
first_has_ended [] t = false
first_has_ended (s ∷ ss) t = not (lasts_until t s)
