-- What the parts of `quota` and of `pool` answer: reading settings and pools, and making the output.
use Rattle.std.specs.Prelude.{◌≡◌, ℕ, ◌<◌, ◌≤◌, List, length, Some, Ok, Err, All, ⊤}
use Rattle.rate_types.specs.declared.limits.TheConstants.{MOST_LINES}
use Rattle.text_lines.specs.Lines.{cut}
use Rattle.quota_settings.specs.Covering.{AllSettings}
use Rattle.quota_stream.specs.Tasks.{IsShort}
use Rattle.quota_stream.specs.Runs.{HasTooLong}
use Rattle.quota_pools.specs.Pools.{AllPools}
use Rattle.quota_server.specs.Outcomes.{pool_output, server_after}
use Rattle.quota_server.specs.Servers.{AllFit}
use Rattle.cli_quota.specs.Quota.{settings_of, streams_output}
use Rattle.cli_quota.specs.Pooled.{pools_of}
use Rattle.cli_exits.specs.declared.exit.Exit.{Exit}
use Rattle.cli_exits.specs.declared.exit.Exit.TheVariants.{TooLong, OutOfMemory, SettingsRefused}

-- why these streams weren't replayed
abbrev pub IsOfStreams : List (List ℕ) → Exit → Type 0
IsOfStreams streams TooLong = (read : ℕ) × HasTooLong streams read
IsOfStreams streams OutOfMemory = ⊤
IsOfStreams streams other = ⊥

-- why these streams weren't replayed by this settings file
abbrev pub IsOfReplay : List ℕ → List (List ℕ) → Exit → Type 0
IsOfReplay file streams (SettingsRefused refused) = settings_of file ≡ Err refused
IsOfReplay file streams TooLong =
    (settings : AllSettings) × (settings_of file ≡ Ok (Some settings)) × ((read : ℕ) × HasTooLong streams read)
IsOfReplay file streams OutOfMemory = ⊤
IsOfReplay file streams other = ⊥

-- these are the lines of the outputs of these streams by this settings file
pub record Replays (file : List ℕ) (streams pieces : List (List ℕ)) : Type 0 where
  pub settings : AllSettings
  pub spells : settings_of file ≡ Ok (Some settings)
  pub short : All IsShort streams
  pub replayed : pieces ≡ streams_output settings streams

-- why these events weren't answered by this file of pools
abbrev pub IsOfSharing : List ℕ → List ℕ → Exit → Type 0
IsOfSharing file events (SettingsRefused refused) = pools_of file ≡ Err refused
IsOfSharing file events TooLong = (pools : AllPools) × (pools_of file ≡ Ok (Some pools)) × (MOST_LINES < length (cut events))
IsOfSharing file events OutOfMemory = ⊤
IsOfSharing file events other = ⊥

-- these are the lines of the answers to these events by this file of pools
pub record Answers (file events : List ℕ) (pieces : List (List ℕ)) : Type 0 where
  pub pools : AllPools
  pub spells : pools_of file ≡ Ok (Some pools)
  pub few : length (cut events) ≤ MOST_LINES
  pub answered : pieces ≡ pool_output pools events
  pub fit : AllFit (server_after pools events)
