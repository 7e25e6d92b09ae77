-- From what a file of settings or of pools spells to why nothing was made of it.
use Rattle.std.proofs.Common.{◌≡◌, ℕ, List, Some, Ok}
use Rattle.quota_settings.specs.Covering.{AllSettings}
use Rattle.cli_quota.specs.Quota.{settings_of}
use Rattle.cli_quota.specs.Pooled.{pools_of}
use Rattle.cli_exits.specs.Parts.{IsOfSettings}
use Rattle.cli_quota.specs.Parts.{IsOfStreams, IsOfReplay, IsOfSharing}
use Rattle.cli_exits.specs.declared.exit.Exit.{Exit}
use Rattle.cli_exits.specs.declared.exit.Exit.TheVariants.{Done, Usage, ConfigRefused, TooLong, ReadFault, WriteFault, FileFault}
use Rattle.cli_exits.specs.declared.exit.Exit.TheVariants.{OutOfMemory, ListenFault, SettingsRefused}

-- what a settings file says, and what its streams say
pub settings_fault : (file : List ℕ) (streams : List (List ℕ)) (e : Exit) → IsOfSettings (settings_of file) e → IsOfReplay file streams e
settings_fault file streams (SettingsRefused refused) h = h
settings_fault file streams OutOfMemory h = h
settings_fault file streams TooLong h = absurd h
settings_fault file streams Done h = absurd h
settings_fault file streams Usage h = absurd h
settings_fault file streams (ConfigRefused at) h = absurd h
settings_fault file streams ReadFault h = absurd h
settings_fault file streams ListenFault h = absurd h
settings_fault file streams WriteFault h = absurd h
settings_fault file streams (FileFault index) h = absurd h

pub streams_fault : (file : List ℕ) (streams : List (List ℕ)) (settings : AllSettings) → settings_of file ≡ Ok (Some settings)
    → (e : Exit) → IsOfStreams streams e → IsOfReplay file streams e
streams_fault file streams settings spells TooLong h = (settings, spells, h)
streams_fault file streams settings spells OutOfMemory h = h
streams_fault file streams settings spells (SettingsRefused refused) h = absurd h
streams_fault file streams settings spells Done h = absurd h
streams_fault file streams settings spells Usage h = absurd h
streams_fault file streams settings spells (ConfigRefused at) h = absurd h
streams_fault file streams settings spells ReadFault h = absurd h
streams_fault file streams settings spells ListenFault h = absurd h
streams_fault file streams settings spells WriteFault h = absurd h
streams_fault file streams settings spells (FileFault index) h = absurd h

-- what a file of pools says
pub pools_fault : (file events : List ℕ) (e : Exit) → IsOfSettings (pools_of file) e → IsOfSharing file events e
pools_fault file events (SettingsRefused refused) h = h
pools_fault file events OutOfMemory h = h
pools_fault file events TooLong h = absurd h
pools_fault file events Done h = absurd h
pools_fault file events Usage h = absurd h
pools_fault file events (ConfigRefused at) h = absurd h
pools_fault file events ReadFault h = absurd h
pools_fault file events ListenFault h = absurd h
pools_fault file events WriteFault h = absurd h
pools_fault file events (FileFault index) h = absurd h
