-- What a command reads.
use Rattle.std.specs.Prelude.{ℕ, List, [], ◌∷◌, ◌++◌, length, map, take, ⊤}
use Rattle.rate_types.specs.declared.limits.TheConstants.{MOST_BYTES}
use Rattle.cli_exits.specs.declared.limits.TheConstants.{MOST_RUN_BYTES}
use Rattle.command_words.specs.declared.command.Command.{Command}
use Rattle.command_words.specs.declared.command.Command.TheVariants.{Plain, Quota, Pool, Audit, Threads, Help, Version}
use Rattle.command_words.specs.declared.command.ThreadJob.TheVariants as job

-- a file that a command reads: its name, and the most bytes that it may have
pub record AskedFile : Type 0 where
  pub name : List ℕ
  pub most : ℕ

-- the file of this name, with at most so many bytes
abbrev pub asked : ℕ → List ℕ → AskedFile
asked most name = record { name = name; most = most }

-- The files that a command reads, in order: its configuration files, its settings file and then its streams, its pools and then its
-- events, or its configuration files and then a printed run. A run may have 1,073,741,824 bytes, any other file 67,108,864.
abbrev pub files_of : Command → List AskedFile
files_of (Plain configs) = map (asked MOST_BYTES) configs
files_of (Quota replay) = asked MOST_BYTES replay.settings ∷ map (asked MOST_BYTES) replay.streams
files_of (Pool job) = asked MOST_BYTES job.pools ∷ asked MOST_BYTES job.events ∷ []
files_of (Audit job) = map (asked MOST_BYTES) job.configs ++ asked MOST_RUN_BYTES job.run ∷ []
files_of (Threads (job.Drive configs workers cells start global_shadow stats)) = map (asked MOST_BYTES) configs
files_of (Threads (job.Serve serving)) = map (asked MOST_BYTES) serving.configs
files_of (Threads (job.Gen number checks)) = []
files_of Help = []
files_of Version = []

-- a command that reads configuration files
abbrev pub ReadsConfigs : Command → Type 0
ReadsConfigs (Plain configs) = ⊤
ReadsConfigs (Audit job) = ⊤
ReadsConfigs (Threads (job.Drive configs workers cells start global_shadow stats)) = ⊤
ReadsConfigs (Threads (job.Serve serving)) = ⊤
ReadsConfigs other = ⊥

-- those of the files of a command that spell its configuration: all of them, but for the run of `audit`, which is the last
abbrev pub configs_among : Command → List (List ℕ) → List (List ℕ)
configs_among (Audit job) files = take (length job.configs) files
configs_among command files = files
