-- From what the parts of the top call answer to what its exit says.
use Rattle.std.proofs.Common.{◌≡◌, ℕ, List, ◌∷◌, map, Some, Result, Ok, inl, inr, refl, subst, sym, ◌∙◌}
use Rattle.rate_types.specs.declared.limits.TheConstants.{MOST_BYTES}
use Rattle.rate_types.specs.declared.refused.At.{At}
use Rattle.descriptor_tree.specs.Trees.{DomainTree}
use Rattle.rate_io.specs.Events.{given}
use Rattle.command_words.specs.Words.{command_of}
use Rattle.cli_exits.specs.Jobs.{asked, files_of, configs_among, ReadsConfigs}
use Rattle.ratelimit_cli.specs.Parts.{command_with, IsOfWork}
use Rattle.cli_exits.specs.World.{World, AreFilesOf, NothingRead, NothingWritten}
use Rattle.cli_exits.specs.Configured.{FilesSay, HasRead}
use Rattle.ratelimit_cli.specs.Exits.{IsOutput, Explains, ExplainsCall}
use Rattle.cli_serve.specs.Served.{Listeners, NothingListened, used, unused, ExplainsServe}
use Rattle.cli_serve.specs.Serving.{Found}
use Rattle.command_words.specs.declared.command.Command.TheVariants.{Threads}
use Rattle.command_words.specs.declared.command.ThreadJob.TheVariants.{Serve}
use Rattle.command_words.specs.declared.command.ServeBy.{ServeBy}
use Rattle.command_words.specs.declared.command.ServeJob.{ServeJob}
use Rattle.cli_exits.specs.Parts.{IsOfFiles, IsOfConfig, IsOfInput, IsOfOutput, Sinks}
use Rattle.command_words.specs.declared.command.Command.{Command}
use Rattle.ratelimit_cli.specs.declared.work.Work.{Work}
use Rattle.ratelimit_cli.specs.declared.work.Work.TheVariants.{Lookup, Drive}
use Rattle.cli_exits.specs.declared.exit.Exit.{Exit}
use Rattle.cli_exits.specs.declared.exit.Exit.TheVariants.{Done, Usage, ConfigRefused, TooLong, ReadFault, WriteFault, FileFault}
use Rattle.cli_exits.specs.declared.exit.Exit.TheVariants.{OutOfMemory, ListenFault, SettingsRefused}

-- a command by its work reads these files
pub configs_same : (configs : List (List ℕ)) (work : Work) → map (asked MOST_BYTES) configs ≡ files_of (command_with configs work)
configs_same configs Lookup = refl
configs_same configs (Drive setup stats) = refl

-- and no others
pub configs_all : (configs : List (List ℕ)) (work : Work) (files : List (List ℕ)) → configs_among (command_with configs work) files ≡ files
configs_all configs Lookup files = refl
configs_all configs (Drive setup stats) files = refl

-- such a command reads configuration files
pub reads_configs : (configs : List (List ℕ)) (work : Work) → ReadsConfigs (command_with configs work)
reads_configs configs Lookup = tt
reads_configs configs (Drive setup stats) = tt

pub explain_files : (w : World) (command : Command) → command_of w.words ≡ Some command → NothingRead w → NothingWritten w
    → (e : Exit) → IsOfFiles w.content (files_of command) w.file_faults e w.files → Explains e w
explain_files w command is unread none TooLong h = (inl (inl (command, is, h), unread), none)
explain_files w command is unread none (FileFault index) h = ((command, is, h.0), h.1, unread, none)
explain_files w command is unread none OutOfMemory h = (inl (command, is), none)
explain_files w command is unread none Done h = absurd h
explain_files w command is unread none Usage h = absurd h
explain_files w command is unread none (ConfigRefused at) h = absurd h
explain_files w command is unread none ReadFault h = absurd h
explain_files w command is unread none ListenFault h = absurd h
explain_files w command is unread none WriteFault h = absurd h
explain_files w command is unread none (SettingsRefused refused) h = absurd h

-- what the files of a command spell, and why they are no configuration
pub explain_config : (w : World) (command : Command) (reading : Result (List DomainTree) At) → FilesSay w command reading → NothingRead w → NothingWritten w
    → (e : Exit) → IsOfConfig reading e → Explains e w
explain_config w command reading say unread none (ConfigRefused at) h = (
  (command, record { named = say.named; kind = say.kind; files = say.files; contents = say.contents; spells = say.spells ∙ h }),
  unread,
  none,
)
explain_config w command reading say unread none OutOfMemory h = (inl (command, say.named), none)
explain_config w command reading say unread none Done h = absurd h
explain_config w command reading say unread none Usage h = absurd h
explain_config w command reading say unread none TooLong h = absurd h
explain_config w command reading say unread none ReadFault h = absurd h
explain_config w command reading say unread none ListenFault h = absurd h
explain_config w command reading say unread none WriteFault h = absurd h
explain_config w command reading say unread none (SettingsRefused refused) h = absurd h
explain_config w command reading say unread none (FileFault index) h = absurd h

module _ (w : World) (command : Command) (config : List DomainTree) (say : FilesSay w command (Ok config)) where
  pub explain_input : NothingWritten w → (e : Exit) → IsOfInput w.left w.source_faults e w.reads → Explains e w
  explain_input none TooLong h = (inr ((command, (config, say)), h.0, h.1), none)
  explain_input none ReadFault h = ((command, (config, say)), h.0, h.1, none)
  explain_input none ListenFault h = absurd h
  explain_input none OutOfMemory h = (inl (command, say.named), none)
  explain_input none Done h = absurd h
  explain_input none Usage h = absurd h
  explain_input none (ConfigRefused at) h = absurd h
  explain_input none WriteFault h = absurd h
  explain_input none (SettingsRefused refused) h = absurd h
  explain_input none (FileFault index) h = absurd h

abbrev sinks : World → Sinks
sinks w = record { written = w.written; after = w.after; faults = w.sink_faults }

-- pieces of which this holds are the output of the command that the words name
module _ (w : World) (command : Command) (named : command_of w.words ≡ Some command) (Is : List (List ℕ) → Type 0)
    (output : (pieces : List (List ℕ)) → Is pieces → IsOutput w command pieces) where
  pub explain_output : (e : Exit) → IsOfOutput Is (sinks w) e w.writes → Explains e w
  explain_output Done h = record { command = command; pieces = h.pieces; output = output h.pieces h.are; each = h.each; bytes = h.bytes }
  explain_output WriteFault h = (
    record { command = command; pieces = h.0.pieces; output = output h.0.pieces h.0.are; each = h.0.each; bytes = h.0.bytes },
    h.1,
  )
  explain_output OutOfMemory h = (inl (command, named), h)
  explain_output Usage h = absurd h
  explain_output (ConfigRefused at) h = absurd h
  explain_output TooLong h = absurd h
  explain_output ReadFault h = absurd h
  explain_output ListenFault h = absurd h
  explain_output (SettingsRefused refused) h = absurd h
  explain_output (FileFault index) h = absurd h

-- what a work makes is the output of its command
pub made_output : (w : World) (configs : List (List ℕ)) (work : Work) (config : List DomainTree) (bytes : List ℕ)
    → HasRead w (command_with configs work) config → given w.reads ≡ bytes
    → (pieces : List (List ℕ)) → IsOfWork work config bytes pieces → IsOutput w (command_with configs work) pieces
made_output w configs Lookup config bytes read are pieces made = record {
  config = config;
  read = read;
  made = subst (λ (b : List ℕ). IsOfWork Lookup config b pieces) (sym are) made;
}
made_output w configs (Drive setup stats) config bytes read are pieces made = record {
  config = config;
  read = read;
  made = subst (λ (b : List ℕ). IsOfWork (Drive setup stats) config b pieces) (sym are) made;
}

-- what was found and done beside the sink
abbrev pub found_of : World → Found
found_of w = record {
  words = w.words;
  files = w.files;
  reads = w.reads;
  file_faults = w.file_faults;
  source_faults = w.source_faults;
  content = w.content;
  left = w.left;
  rest = w.rest;
}

-- the links were served at the listener of the job
pub serve_call : (by : ServeBy) (job : ServeJob) → job.by ≡ by → (e : Exit) (w : World) (l : Listeners)
    → command_of w.words ≡ Some (Threads (Serve job)) → ExplainsServe e w (used by l) job → NothingListened (unused by l) → ExplainsCall e w l
serve_call by job is e w l named h none = inr (
  job,
  named,
  subst (λ (b : ServeBy). ExplainsServe e w (used b l) job) (sym is) h,
  subst (λ (b : ServeBy). NothingListened (unused b l)) (sym is) none,
)
