-- What each exit of the program says.
use Rattle.std.specs.Prelude.{◌≡◌, ℕ, ◌⊎◌, List, [], ◌∷◌, map, true, false, None, Some, Err}
use Rattle.std.specs.List.{concat}
use Rattle.rate_types.specs.declared.refused.At.{At}
use Rattle.rate_io.specs.Causes.{Rose}
use Rattle.rate_io.specs.Content.{Told, Appends}
use Rattle.rate_io.specs.Events.{given, has_failed, has_write_failed}
use Rattle.config_json.specs.Reading.{reading_of}
use Rattle.cli_exits.specs.Output.{AppendsFront}
use Rattle.command_words.specs.Words.{command_of}
use Rattle.cli_exits.specs.Jobs.{files_of, configs_among}
use Rattle.command_words.specs.declared.command.Command.{Command}
use Rattle.command_words.specs.declared.command.Command.TheVariants.{Quota, Pool, Audit, Threads, Help, Version}
use Rattle.command_words.specs.declared.command.ThreadJob.TheVariants.{Serve, Gen}
use Rattle.command_words.specs.declared.command.ServeJob.{ServeJob}
use Rattle.command_words.specs.declared.help.TheConstants.{HELP, VERSION}
use Rattle.cli_exits.specs.declared.exit.Exit.{Exit}
use Rattle.cli_exits.specs.declared.exit.Exit.TheVariants.{Done, Usage, ConfigRefused, TooLong, ReadFault, WriteFault, FileFault}
use Rattle.cli_exits.specs.declared.exit.Exit.TheVariants.{OutOfMemory, ListenFault, SettingsRefused}
use Rattle.cli_exits.specs.World.{World, IsTooLong, HasLongFile, FileFails, AreWithin, NoFileAsked, NothingRead, NothingWritten, IsCommand, all_written, WroteUpTo}
use Rattle.cli_exits.specs.Configured.{AreRefused, IsConfigured}
use Rattle.ratelimit_cli.specs.Made.{IsMade}
use Rattle.cli_serve.specs.Served.{Listeners, NothingListened, used, unused, has_listen_failed, ExplainsServe}
use Rattle.cli_quota.specs.Replayed.{IsSettingsRefused, HasLongStream, IsReplayed, AreReplayable}
use Rattle.cli_drive.specs.Generated.{load_text}
use Rattle.cli_audit.specs.Audited.{IsAudited}
use Rattle.cli_quota.specs.Pooled.{ArePoolsRefused, HasLongEvents, IsPooled, ArePoolable}

-- a text that a command has, whatever files and input hold
pub record IsFixed (w : World) (command : Command) (text : List ℕ) (pieces : List (List ℕ)) : Type 0 where
  pub named : command_of w.words ≡ Some command
  pub unasked : NoFileAsked w
  pub unread : NothingRead w
  pub text_alone : pieces ≡ text ∷ []

-- The output of a command, piece by piece: the help, the version, the summary of a made-up load, what comes of streams or of events, the
-- verdict on a printed run, or what is made of the configuration and the input.
abbrev pub IsOutput : World → Command → List (List ℕ) → Type 0
IsOutput w Help pieces = IsFixed w Help HELP.now pieces
IsOutput w Version pieces = IsFixed w Version VERSION.now pieces
IsOutput w (Quota job) pieces = IsReplayed w job pieces
IsOutput w (Pool job) pieces = IsPooled w job pieces
IsOutput w (Audit job) pieces = IsAudited w job pieces
IsOutput w (Threads (Gen number checks)) pieces = IsFixed w (Threads (Gen number checks)) (load_text number checks) pieces
IsOutput w command pieces = IsMade w command pieces

-- The output of a command was written, each piece by one call, and then flushed once, and nothing else.
pub record Writes (w : World) : Type 0 where
  pub command : Command
  pub pieces : List (List ℕ)
  pub output : IsOutput w command pieces
  pub each : w.writes ≡ all_written pieces
  pub bytes : Appends w.written w.after (concat pieces)

-- only the first pieces of the output of a command were written, or all of them and the flush failed
pub record WritesFront (w : World) : Type 0 where
  pub command : Command
  pub pieces : List (List ℕ)
  pub output : IsOutput w command pieces
  pub each : WroteUpTo pieces w.writes
  pub bytes : AppendsFront w.written w.after (concat pieces)

-- the files of a command have no refusal, and its streams and its events aren't too long
abbrev pub AreLawful : Command → List (List ℕ) → Type 0
AreLawful (Quota job) files = AreReplayable files
AreLawful (Pool job) files = ArePoolable files
AreLawful command files = (at : At) → reading_of (configs_among command files) ≡ Err at → ⊥

-- The words are a command; no read, no write and no flush failed; files and input are within the limits; and the bytes that came of the
-- files have no refusal.
pub record HasNoCause (w : World) : Type 0 where
  pub command : Command
  pub named : command_of w.words ≡ Some command
  pub files : AreWithin (files_of command) w.files
  pub lawful : AreLawful command (map (λ call. given call.1) w.files)
  pub read : has_failed w.reads ≡ false
  pub fits : IsTooLong (given w.reads) → ⊥
  pub written : has_write_failed w.writes ≡ false

-- When each exit comes, and what stands then. An exit says that all steps before it succeeded and that none after it was
-- begun, so each comes exactly where its cause is the first; want of memory alone is free. It comes in reading the words,
-- before anything is asked for or read, or in the work of a command, before its first write.
abbrev pub Explains : Exit → World → Type 0
Explains Done w = Writes w
Explains Usage w = (command_of w.words ≡ None) × NoFileAsked w × NothingRead w × NothingWritten w
Explains (ConfigRefused at) w = AreRefused w at × NothingRead w × NothingWritten w
Explains TooLong w =
    (((HasLongFile w ⊎ HasLongStream w ⊎ HasLongEvents w) × NothingRead w)
    ⊎ (IsConfigured w × IsTooLong (given w.reads) × Told w.left IsTooLong))
    × NothingWritten w
Explains ReadFault w = IsConfigured w × (has_failed w.reads ≡ true) × Rose w.source_faults.0 w.source_faults.1 × NothingWritten w
Explains WriteFault w = WritesFront w × Rose w.sink_faults.0 w.sink_faults.1
Explains (FileFault index) w = FileFails w index × Rose w.file_faults.0 w.file_faults.1 × NothingRead w × NothingWritten w
Explains (SettingsRefused refused) w = (IsSettingsRefused w refused ⊎ ArePoolsRefused w refused) × NothingRead w × NothingWritten w
Explains ListenFault w = ⊥
Explains OutOfMemory w = (IsCommand w ⊎ (NoFileAsked w × NothingRead w)) × NothingWritten w

-- the same, where `serve` may have listened: at one of the listeners, and the other wasn't touched
abbrev pub ExplainsCall : Exit → World → Listeners → Type 0
ExplainsCall exit w l = (Explains exit w × NothingListened l.threads × NothingListened l.tasks)
    ⊎ ((job : ServeJob) × (command_of w.words ≡ Some (Threads (Serve job))) × ExplainsServe exit w (used job.by l) job
    × NothingListened (unused job.by l))

-- What the call answers: the exit's cause, and that it is Done, or want of memory, where there is no other cause.
pub record IsExitOf (exit : Exit) (w : World) (l : Listeners) : Type 0 where
  pub cause : ExplainsCall exit w l
  pub complete : HasNoCause w → has_listen_failed l.threads.listens ≡ false → (Rose l.tasks.faults.0 l.tasks.faults.1 → ⊥)
      → (exit ≡ Done) ⊎ (exit ≡ OutOfMemory)
