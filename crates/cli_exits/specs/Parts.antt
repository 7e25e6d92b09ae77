-- What the parts of a command answer: reading its files, its configuration and its input, and writing its output.
use Rattle.std.specs.Prelude.{◌≡◌, ℕ, List, [], true, Option, Result, Err, ⊤}
use Rattle.std.specs.List.{concat}
use Rattle.rate_types.specs.declared.refused.At.{At}
use Rattle.rate_types.specs.declared.refused.Refused.{Refused}
use Rattle.rate_io.specs.Causes.{Rose}
use Rattle.rate_io.specs.Content.{Told, Appends}
use Rattle.rate_io.specs.Events.{Event, FileEvent, given, has_failed}
use Rattle.descriptor_tree.specs.Trees.{DomainTree}
use Rattle.cli_exits.specs.Output.{AppendsFront}
use Rattle.cli_exits.specs.Jobs.{AskedFile}
use Rattle.cli_exits.specs.World.{StopsAt, IsLong, IsUnread, IsTooLong, all_written, WroteUpTo}
use Rattle.cli_exits.specs.declared.exit.Exit.{Exit}
use Rattle.cli_exits.specs.declared.exit.Exit.TheVariants.{Done, ConfigRefused, TooLong, ReadFault, WriteFault, FileFault}
use Rattle.cli_exits.specs.declared.exit.Exit.TheVariants.{OutOfMemory, SettingsRefused}

-- why these files weren't read, after these calls for them
abbrev pub IsOfFiles : (List ℕ → Option (List ℕ)) → List AskedFile → ℕ × ℕ → Exit → List FileEvent → Type 0
IsOfFiles content asked faults TooLong calls = (index : ℕ) × StopsAt content asked calls index (IsLong content)
IsOfFiles content asked faults (FileFault index) calls = StopsAt content asked calls index IsUnread × Rose faults.0 faults.1
IsOfFiles content asked faults OutOfMemory calls = ⊤
IsOfFiles content asked faults other calls = ⊥

-- why the files are no configuration
abbrev pub IsOfConfig : Result (List DomainTree) At → Exit → Type 0
IsOfConfig reading (ConfigRefused at) = reading ≡ Err at
IsOfConfig reading OutOfMemory = ⊤
IsOfConfig reading other = ⊥

-- why the input wasn't read, after these reads
abbrev pub IsOfInput : Option (List ℕ) → ℕ × ℕ → Exit → List Event → Type 0
IsOfInput left faults TooLong reads = IsTooLong (given reads) × Told left IsTooLong
IsOfInput left faults ReadFault reads = (has_failed reads ≡ true) × Rose faults.0 faults.1
IsOfInput left faults OutOfMemory reads = ⊤
IsOfInput left faults other reads = ⊥

-- what a sink told, what it tells, and its counts of faults before and after
pub record Sinks : Type 0 where
  pub written : Option (List ℕ)
  pub after : Option (List ℕ)
  pub faults : ℕ × ℕ

-- pieces of which this holds were written, and flushed
pub record Wrote (Is : List (List ℕ) → Type 0) (s : Sinks) (writes : List Event) : Type 0 where
  pub pieces : List (List ℕ)
  pub are : Is pieces
  pub each : writes ≡ all_written pieces
  pub bytes : Appends s.written s.after (concat pieces)

-- the first of them were written, or all and not flushed
pub record WroteFront (Is : List (List ℕ) → Type 0) (s : Sinks) (writes : List Event) : Type 0 where
  pub pieces : List (List ℕ)
  pub are : Is pieces
  pub each : WroteUpTo pieces writes
  pub bytes : AppendsFront s.written s.after (concat pieces)

-- how making and writing ended, after these writes
abbrev pub IsOfOutput : (List (List ℕ) → Type 0) → Sinks → Exit → List Event → Type 0
IsOfOutput Is s Done writes = Wrote Is s writes
IsOfOutput Is s WriteFault writes = WroteFront Is s writes × Rose s.faults.0 s.faults.1
IsOfOutput Is s OutOfMemory writes = (writes ≡ []) × (s.after ≡ s.written)
IsOfOutput Is s other writes = ⊥

-- why a file of settings or of pools is none, by what it spells
abbrev pub IsOfSettings : {X : Type 0} → Result (Option X) Refused → Exit → Type 0
IsOfSettings reading (SettingsRefused refused) = reading ≡ Err refused
IsOfSettings reading OutOfMemory = ⊤
IsOfSettings reading other = ⊥
