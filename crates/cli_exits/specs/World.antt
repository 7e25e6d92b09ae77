-- What the top call found and did: words, files, reads and writes.
use Rattle.std.specs.Prelude.{◌≡◌, ℕ, ◌<◌, ◌≤◌, ◌⊎◌, List, [], ◌∷◌, ◌++◌, length, map, take, true, false, Option, Some, slice_get}
use Rattle.std.specs.Prelude.{Result, Ok, Err, ⊤}
use Rattle.rate_types.specs.declared.limits.TheConstants.{MOST_BYTES, MOST_LINES}
use Rattle.rate_io.specs.Content.{Told}
use Rattle.rate_io.specs.Events.{Event, wrote, write_failed, flushed, flush_failed, FileEvent, given, has_ended, has_failed}
use Rattle.text_lines.specs.Lines.{cut}
use Rattle.command_words.specs.Words.{command_of}
use Rattle.cli_exits.specs.Jobs.{AskedFile, files_of}
use Rattle.command_words.specs.declared.command.Command.{Command}
use Rattle.cli_exits.specs.declared.exit.Exit.{Exit}
use Rattle.cli_exits.specs.declared.exit.Exit.TheVariants.{Done}

-- What the call found and did: the words; its calls for files, its reads of the source and its writes and flushes of the sink, as their
-- histories have them, in order; the counts of faults before and after; and what versions in memory tell besides of files,
-- source and sink, before and after.
pub record World : Type 0 where
  pub words : List (List ℕ)
  pub files : List FileEvent
  pub reads : List Event
  pub writes : List Event
  pub file_faults : ℕ × ℕ
  pub source_faults : ℕ × ℕ
  pub sink_faults : ℕ × ℕ
  pub content : List ℕ → Option (List ℕ)
  pub left : Option (List ℕ)
  pub rest : Option (List ℕ)
  pub written : Option (List ℕ)
  pub after : Option (List ℕ)

-- The reads of a file handed out these bytes, at most so many of them, and then answered the end. Where its content is told, it is
-- these bytes.
abbrev pub IsFileOf : ℕ → Option (List ℕ) → List Event → List ℕ → Type 0
IsFileOf most content reads bytes =
    (given reads ≡ bytes) × (has_ended reads ≡ true) × (length bytes ≤ most) × Told content (λ told. bytes ≡ told)

-- these calls asked for these files, in order, and these are their bytes
abbrev pub AreFilesOf : (List ℕ → Option (List ℕ)) → List AskedFile → List FileEvent → List (List ℕ) → Type 0
AreFilesOf content [] [] [] = ⊤
AreFilesOf content (file ∷ asked) (call ∷ calls) (bytes ∷ files) =
    (call.0 ≡ file.name) × IsFileOf file.most (content file.name) call.1 bytes × AreFilesOf content asked calls files
AreFilesOf content asked calls files = ⊥

-- The files before the one of this index were read, then it was asked for, and this holds of its reads; no other was asked for.
pub record StopsAt (content : List ℕ → Option (List ℕ)) (asked : List AskedFile) (calls : List FileEvent) (index : ℕ)
    (P : AskedFile → List Event → Type 0) : Type 0 where
  pub files : List (List ℕ)
  pub earlier : List FileEvent
  pub read : AreFilesOf content (take index asked) earlier files
  pub file : AskedFile
  pub named : slice_get asked index ≡ Some file
  pub reads : List Event
  pub last : calls ≡ earlier ++ (file.name, reads) ∷ []
  pub stops : P file reads

-- the reads of a file handed out more bytes than it may have
abbrev pub IsLong : (List ℕ → Option (List ℕ)) → AskedFile → List Event → Type 0
IsLong content file reads = (file.most < length (given reads)) × Told (content file.name) (λ bytes. file.most < length bytes)

-- a read of a file failed
abbrev pub IsUnread : AskedFile → List Event → Type 0
IsUnread file reads = has_failed reads ≡ true

-- no read of these files failed, and none of them handed out more bytes than it may have
abbrev pub AreWithin : List AskedFile → List FileEvent → Type 0
AreWithin (file ∷ asked) (call ∷ calls) =
    (has_failed call.1 ≡ false) × (length (given call.1) ≤ file.most) × AreWithin asked calls
AreWithin asked calls = ⊤

-- the input has more bytes, or more lines, than may be
abbrev pub IsTooLong : List ℕ → Type 0
IsTooLong bytes = (MOST_BYTES < length bytes) ⊎ (MOST_LINES < length (cut bytes))

-- a file has more bytes than may be, and those before it were read
abbrev pub HasLongFile : World → Type 0
HasLongFile w = (command : Command) × (command_of w.words ≡ Some command)
    × ((index : ℕ) × StopsAt w.content (files_of command) w.files index (IsLong w.content))

-- the file of this index couldn't be read, and those before it were
abbrev pub FileFails : World → ℕ → Type 0
FileFails w index = (command : Command) × (command_of w.words ≡ Some command)
    × StopsAt w.content (files_of command) w.files index IsUnread

-- no file was asked for
abbrev pub NoFileAsked : World → Type 0
NoFileAsked w = w.files ≡ []

-- the source wasn't read
abbrev pub NothingRead : World → Type 0
NothingRead w = w.reads ≡ []

-- nothing was written, and nothing flushed
abbrev pub NothingWritten : World → Type 0
NothingWritten w = (w.writes ≡ []) × (w.after ≡ w.written)

-- the words are a command
abbrev pub IsCommand : World → Type 0
IsCommand w = (command : Command) × (command_of w.words ≡ Some command)

-- the calls that write these pieces whole: each of them by one call, and then one flush, all of which were done
abbrev pub all_written : List (List ℕ) → List Event
all_written pieces = map wrote pieces ++ flushed ∷ []

-- so many of these pieces were written, each by one call, and then the write of the next one failed
pub record WroteSome (pieces : List (List ℕ)) (writes : List Event) : Type 0 where
  pub count : ℕ
  pub piece : List ℕ
  pub next : slice_get pieces count ≡ Some piece
  pub each : writes ≡ map wrote (take count pieces) ++ write_failed piece ∷ []

-- the write of one of these pieces failed, after those before it; or all were written, each by one call, and the flush failed
abbrev pub WroteUpTo : List (List ℕ) → List Event → Type 0
WroteUpTo pieces writes = WroteSome pieces writes ⊎ (writes ≡ map wrote pieces ++ flush_failed ∷ [])

-- the exit of steps that all succeeded, or of the first that failed
abbrev pub exit_of : Result ⊤ Exit → Exit
exit_of (Ok done) = Done
exit_of (Err exit) = exit
