-- What `lookup` and `drive` make of a configuration and an input.
use Rattle.std.specs.Prelude.{◌≡◌, ℕ, List}
use Rattle.rate_io.specs.Events.{given}
use Rattle.descriptor_tree.specs.Trees.{DomainTree}
use Rattle.command_words.specs.declared.command.Command.{Command}
use Rattle.command_words.specs.declared.command.Command.TheVariants.{Plain, Threads}
use Rattle.command_words.specs.declared.command.ThreadJob.TheVariants.{Drive}
use Rattle.cli_exits.specs.World.{World}
use Rattle.cli_exits.specs.Configured.{HasRead}
use Rattle.cli_drive.specs.Driven.{IsRunText}
use Rattle.cli_lookup.specs.Lookup.{lookup_output}

-- what a command makes of a configuration and an input
abbrev pub IsMadeBy : Command → List DomainTree → List ℕ → List (List ℕ) → Type 0
IsMadeBy (Plain configs) config bytes pieces = pieces ≡ lookup_output config bytes
IsMadeBy (Threads (Drive configs workers cells start global_shadow stats)) config bytes pieces =
    IsRunText config workers cells start global_shadow stats bytes pieces
IsMadeBy other config bytes pieces = ⊥

-- a text that a command makes of its files and its input
pub record IsMade (w : World) (command : Command) (pieces : List (List ℕ)) : Type 0 where
  pub config : List DomainTree
  pub read : HasRead w command config
  pub made : IsMadeBy command config (given w.reads) pieces
