-- What `pool` makes of a file of pools and of events, and what its exits say.
use Rattle.std.specs.Prelude.{◌≡◌, ℕ, ◌<◌, ◌≤◌, List, [], ◌∷◌, length, Option, Some, Result, Ok, Err, ⊤}
use Rattle.rate_types.specs.declared.limits.TheConstants.{MOST_LINES}
use Rattle.rate_types.specs.declared.refused.Refused.{Refused}
use Rattle.text_lines.specs.Lines.{cut}
use Rattle.proto_json.specs.Said.{reading_of}
use Rattle.quota_pools.specs.Pools.{AllPools}
use Rattle.quota_pools.specs.ReadPools as reading
use Rattle.quota_server.specs.Outcomes.{pool_output, server_after}
use Rattle.quota_server.specs.Servers.{AllFit}
use Rattle.command_words.specs.Words.{command_of}
use Rattle.cli_exits.specs.Jobs.{files_of}
use Rattle.cli_exits.specs.World.{World, AreFilesOf, NothingRead}
use Rattle.command_words.specs.declared.command.Command.TheVariants.{Pool}
use Rattle.command_words.specs.declared.command.PoolJob.{PoolJob}

-- what the bytes of a file of pools spell: pools, or their first refusal
abbrev pub pools_of : List ℕ → Result (Option AllPools) Refused
pools_of bytes = reading_of (reading.pools bytes)

-- `pool` read its pools and its events, and this is what the file of pools spells: pools, or their first refusal
pub record PoolSays (w : World) (job : PoolJob) (reading : Result (Option AllPools) Refused) : Type 0 where
  pub named : command_of w.words ≡ Some (Pool job)
  pub file : List ℕ
  pub events : List ℕ
  pub contents : AreFilesOf w.content (files_of (Pool job)) w.files (file ∷ events ∷ [])
  pub spells : pools_of file ≡ reading

-- the file of pools of `pool` is refused
abbrev pub ArePoolsRefused : World → Refused → Type 0
ArePoolsRefused w refused = (job : PoolJob) × PoolSays w job (Err refused)

-- the file of pools of `pool` spells pools, and its events have more lines than may be
abbrev pub HasLongEvents : World → Type 0
HasLongEvents w = (job : PoolJob) × ((pools : AllPools) × ((says : PoolSays w job (Ok (Some pools)))
    × (MOST_LINES < length (cut says.events))))

-- Each event of `pool` answered by its pools, line by line, and all shares that were given fit the pools at each moment; the
-- input wasn't read.
pub record IsPooled (w : World) (job : PoolJob) (pieces : List (List ℕ)) : Type 0 where
  pub pools : AllPools
  pub says : PoolSays w job (Ok (Some pools))
  pub few : length (cut says.events) ≤ MOST_LINES
  pub unread : NothingRead w
  pub answered : pieces ≡ pool_output pools says.events
  pub fit : AllFit (server_after pools says.events)

-- a file of pools without refusal, and events that aren't too long
abbrev pub ArePoolable : List (List ℕ) → Type 0
ArePoolable (file ∷ events ∷ []) = ((refused : Refused) → pools_of file ≡ Err refused → ⊥) × (length (cut events) ≤ MOST_LINES)
ArePoolable files = ⊤
