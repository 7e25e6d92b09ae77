-- What the exits of the commands say that read configurations and an input.
use Rattle.std.specs.Prelude.{◌≡◌, ℕ, ◌≤◌, List, length, true, Option, Result, Ok, Err, Some}
use Rattle.std.specs.Io.KnownBytes.{IsAtEnd}
use Rattle.rate_types.specs.declared.refused.At.{At}
use Rattle.rate_types.specs.declared.limits.TheConstants.{MOST_BYTES, MOST_LINES}
use Rattle.rate_io.specs.Content.{Told}
use Rattle.rate_io.specs.Events.{Event, given, has_ended}
use Rattle.descriptor_tree.specs.Trees.{DomainTree}
use Rattle.config_json.specs.Reading.{reading_of}
use Rattle.text_lines.specs.Lines.{cut}
use Rattle.command_words.specs.Words.{command_of}
use Rattle.cli_exits.specs.Jobs.{files_of, ReadsConfigs, configs_among}
use Rattle.command_words.specs.declared.command.Command.{Command}
use Rattle.cli_exits.specs.World.{World, AreFilesOf}

-- a command read all its files, and this is the configuration that they spell, or their first refusal
pub record FilesSay (w : World) (command : Command) (reading : Result (List DomainTree) At) : Type 0 where
  pub named : command_of w.words ≡ Some command
  pub kind : ReadsConfigs command
  pub files : List (List ℕ)
  pub contents : AreFilesOf w.content (files_of command) w.files files
  pub spells : reading_of (configs_among command files) ≡ reading

-- the files of a command are refused
abbrev pub AreRefused : World → At → Type 0
AreRefused w at = (command : Command) × FilesSay w command (Err at)

-- the files of a command spell a configuration
abbrev pub IsConfigured : World → Type 0
IsConfigured w = (command : Command) × ((config : List DomainTree) × FilesSay w command (Ok config))

-- The reads of the source handed out the bytes of an input that isn't too long, and then answered the end. Where the source
-- tells what it had left, it is these bytes.
pub record IsInput (left : Option (List ℕ)) (reads : List Event) : Type 0 where
  pub ended : has_ended reads ≡ true
  pub bytes : length (given reads) ≤ MOST_BYTES
  pub few : length (cut (given reads)) ≤ MOST_LINES
  pub told : Told left (λ bytes. given reads ≡ bytes)

-- a command read its files, which spell this configuration, and its input to the end
pub record HasRead (w : World) (command : Command) (config : List DomainTree) : Type 0 where
  pub say : FilesSay w command (Ok config)
  pub input : IsInput w.left w.reads
  pub rest : IsAtEnd w.rest
