-- Inside: what the parts of the top call do and answer.
use Rattle.std.specs.Prelude.{◌≡◌, ℕ, List, Some}
use Rattle.rate_io.specs.declared.files.Files.{Ghosts as FilesMeaning}
use Rattle.rate_io.specs.declared.source.Source.{Ghosts as SourceMeaning}
use Rattle.rate_io.specs.declared.sink.Sink.{Ghosts as SinkMeaning}
use Rattle.rate_io.specs.declared.listen.Listen.{Ghosts as ListenMeaning}
use Rattle.conn_tasks.specs.declared.poll_listen.PollListen.{Ghosts as PollListenMeaning}
use Rattle.descriptor_tree.specs.Trees.{DomainTree}
use Rattle.command_words.specs.declared.command.Command.{Command}
use Rattle.command_words.specs.declared.command.Command.TheVariants.{Plain, Threads}
use Rattle.command_words.specs.declared.command.ThreadJob.TheVariants as job
use Rattle.command_words.specs.Words.{command_of}
use Rattle.cli_drive.specs.Driven.{IsRunText}
use Rattle.cli_exits.specs.declared.exit.Exit.{Exit}
use Rattle.cli_lookup.specs.Lookup.{lookup_output}
use Rattle.ratelimit_cli.specs.Exits.{ExplainsCall}
use Rattle.ratelimit_cli.specs.Outside.{world_between, listeners_between}
use Rattle.ratelimit_cli.specs.declared.outside.Outside.{Outside}
use Rattle.ratelimit_cli.specs.declared.work.Work.{Work}
use Rattle.ratelimit_cli.specs.declared.work.Work.TheVariants.{Lookup, Drive}

-- the command that does this work by these configuration files
abbrev pub command_with : List (List ℕ) → Work → Command
command_with configs Lookup = Plain configs
command_with configs (Drive setup stats) = Threads (job.Drive configs setup.workers setup.cells setup.start setup.global_shadow stats)

-- what this work makes of a configuration and an input
abbrev pub IsOfWork : Work → List DomainTree → List ℕ → List (List ℕ) → Type 0
IsOfWork Lookup config bytes pieces = pieces ≡ lookup_output config bytes
IsOfWork (Drive setup stats) config bytes pieces =
    IsRunText config setup.workers setup.cells setup.start setup.global_shadow stats bytes pieces

-- the cause of the exit of this command, whatever the words are that name it
module _ {F S K L P N M : Type 0} (f : FilesMeaning F) (s : SourceMeaning S) (k : SinkMeaning K)
    (l : ListenMeaning L N) (p : PollListenMeaning P M) where
  abbrev pub ExplainsCommand : Command → Exit → Outside F S K L P → Outside F S K L P → Type 0
  ExplainsCommand command exit old new = (words : List (List ℕ)) → command_of words ≡ Some command
      → ExplainsCall exit (world_between f s k words old new) (listeners_between l p old new)
