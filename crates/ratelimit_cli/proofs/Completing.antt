-- Where nothing but want of memory stands against it, the exit is Done.
use Rattle.std.proofs.Common.{◌≡◌, ℕ, ◌<◌, ◌≤◌, ◌⊎◌, ◌||◌, List, [], ◌∷◌, ◌++◌, Bool, true, false, map, take}
use Rattle.std.proofs.Common.{zero, suc, length, Option, Some, slice_get, Result, Ok, Err, inl, inr, refl, sym, ap, ◌∙◌, subst, arith, true≢false}
use Rattle.std.specs.List.{AllByRecursion}
use Rattle.std.proofs.lemmas.Option.{same_Some, none-some}
use Rattle.std.proofs.lemmas.List.Folds.{list_any-append}
use Rattle.rate_types.specs.declared.limits.TheConstants.{MOST_LINES}
use Rattle.rate_types.specs.declared.refused.At.{At}
use Rattle.rate_types.specs.declared.refused.Refused.{Refused}
use Rattle.rate_io.specs.Events.{Event, wrote, write_failed, flush_failed, FileEvent, Grew, given, has_failed, has_write_failed, is_write_failed}
use Rattle.text_lines.specs.Lines.{cut}
use Rattle.config_json.specs.Reading.{reading_of}
use Rattle.quota_settings.specs.Covering.{AllSettings}
use Rattle.quota_stream.specs.Tasks.{IsShort}
use Rattle.quota_stream.specs.Runs.{HasTooLong}
use Rattle.quota_pools.specs.Pools.{AllPools}
use Rattle.http_serve.specs.Links.{ends_of}
use Rattle.command_words.specs.Words.{command_of}
use Rattle.cli_exits.specs.Jobs.{AskedFile, files_of, configs_among, ReadsConfigs}
use Rattle.command_words.specs.declared.command.Command.{Command}
use Rattle.command_words.specs.declared.command.Command.TheVariants.{Plain, Quota, Pool, Audit, Threads, Help, Version}
use Rattle.command_words.specs.declared.command.ThreadJob.TheVariants.{Drive, Serve, Gen}
use Rattle.command_words.specs.declared.command.QuotaJob.{QuotaJob}
use Rattle.command_words.specs.declared.command.PoolJob.{PoolJob}
use Rattle.cli_exits.specs.World.{World, AreFilesOf, AreWithin, StopsAt, IsLong, IsUnread, all_written, WroteUpTo}
use Rattle.cli_exits.specs.Configured.{FilesSay}
use Rattle.ratelimit_cli.specs.Exits.{HasNoCause, Explains, ExplainsCall, IsExitOf, AreLawful}
use Rattle.cli_serve.specs.Served.{Listening, Listeners, used, HasTasks, has_listen_failed, port_line, end_lines, ExplainsServe}
use Rattle.command_words.specs.declared.command.ServeBy.{ServeBy}
use Rattle.command_words.specs.declared.command.ServeBy.TheVariants.{Workers, Tasks}
use Rattle.command_words.specs.declared.command.ServeJob.{ServeJob}
use Rattle.rate_io.specs.Causes.{Rose}
use Rattle.cli_quota.specs.Replayed.{QuotaSays, AreReplayable}
use Rattle.cli_quota.specs.Pooled.{PoolSays, ArePoolable}
use Rattle.cli_exits.specs.declared.exit.Exit.{Exit}
use Rattle.cli_exits.specs.declared.exit.Exit.TheVariants.{Done, Usage, ConfigRefused, TooLong, ReadFault, WriteFault, FileFault}
use Rattle.cli_exits.specs.declared.exit.Exit.TheVariants.{OutOfMemory, ListenFault, SettingsRefused}

-- the bytes of the files are those that their reads handed out
same_files : (content : List ℕ → Option (List ℕ)) (asked : List AskedFile) (calls : List FileEvent) (files : List (List ℕ)) → AreFilesOf content asked calls files
    → files ≡ map (λ call. given call.1) calls
same_files content [] [] [] h = refl
same_files content [] [] (b ∷ files) h = absurd h
same_files content [] (c ∷ calls) files h = absurd h
same_files content (a ∷ asked) [] files h = absurd h
same_files content (a ∷ asked) (c ∷ calls) [] h = absurd h
same_files content (a ∷ asked) (c ∷ calls) (b ∷ files) h = λ i. sym h.1.0 i ∷ same_files content asked calls files h.2 i

abbrev Fits : AskedFile → FileEvent → Type 0
Fits file call = (has_failed call.1 ≡ false) × (length (given call.1) ≤ file.most)

-- the last call for a file, behind those before it
last_fits : (content : List ℕ → Option (List ℕ)) (asked : List AskedFile) (earlier : List FileEvent) (files : List (List ℕ)) (index : ℕ)
    (file : AskedFile) (call : FileEvent) → AreFilesOf content (take index asked) earlier files → slice_get asked index ≡ Some file
    → AreWithin asked (earlier ++ call ∷ []) → Fits file call
last_fits content [] earlier files index file call read named all = absurd (none-some file named)
last_fits content (a ∷ asked) [] files zero file call read named all =
    subst (λ (f : AskedFile). Fits f call) (same_Some a file named) (all.0, all.1)
last_fits content (a ∷ asked) (c ∷ earlier) files zero file call read named all = absurd read
last_fits content (a ∷ asked) [] files (suc index) file call read named all = absurd read
last_fits content (a ∷ asked) (c ∷ earlier) [] (suc index) file call read named all = absurd read
last_fits content (a ∷ asked) (c ∷ earlier) (b ∷ files) (suc index) file call read named all =
    last_fits content asked earlier files index file call read.2 named all.2

stopped : (content : List ℕ → Option (List ℕ)) (asked : List AskedFile) (calls : List FileEvent) (index : ℕ) (P : AskedFile → List Event → Type 0)
    → AreWithin asked calls → (s : StopsAt content asked calls index P) → Fits s.file (s.file.name, s.reads)
stopped content asked calls index P all s =
    last_fits content asked s.earlier s.files index s.file (s.file.name, s.reads) s.read s.named
    (subst (λ (cs : List FileEvent). AreWithin asked cs) s.last all)

or_true : (b : Bool) → (b || true) ≡ true
or_true true = refl
or_true false = refl

write_fails : (pieces : List (List ℕ)) (writes : List Event) → WroteUpTo pieces writes → has_write_failed writes ≡ true
write_fails pieces writes (inl h) =
    ap has_write_failed h.each ∙ list_any-append is_write_failed (map wrote (take h.count pieces)) (write_failed h.piece ∷ [])
    ∙ or_true (has_write_failed (map wrote (take h.count pieces)))
write_fails pieces writes (inr h) =
    ap has_write_failed h ∙ list_any-append is_write_failed (map wrote pieces) (flush_failed ∷ []) ∙ or_true (has_write_failed (map wrote pieces))

-- and so where other pieces were written before
later_fails : (before pieces : List (List ℕ)) (writes : List Event) → Grew (all_written before) writes (WroteUpTo pieces) → has_write_failed writes ≡ true
later_fails before pieces writes h =
    ap has_write_failed h.grew ∙ list_any-append is_write_failed (all_written before) h.events
    ∙ ap (λ (b : Bool). has_write_failed (all_written before) || b) (write_fails pieces h.events h.are) ∙ or_true (has_write_failed (all_written before))

-- files that are no configuration's are those of another command
lawful_at : (command : Command) (files : List (List ℕ)) → ReadsConfigs command → AreLawful command files → (at : At)
    → reading_of (configs_among command files) ≡ Err at → ⊥
lawful_at (Plain configs) files kind lawful at is = lawful at is
lawful_at (Audit job) files kind lawful at is = lawful at is
lawful_at (Threads (Drive configs workers cells start global_shadow stats)) files kind lawful at is = lawful at is
lawful_at (Threads (Serve serving)) files kind lawful at is = lawful at is
lawful_at (Threads (Gen number checks)) files kind lawful at is = absurd kind
lawful_at (Quota job) files kind lawful at is = absurd kind
lawful_at (Pool job) files kind lawful at is = absurd kind
lawful_at Help files kind lawful at is = absurd kind
lawful_at Version files kind lawful at is = absurd kind

-- what holds of all holds at each place
short_at : (streams : List (List ℕ)) (i : ℕ) (bytes : List ℕ) → AllByRecursion IsShort streams → slice_get streams i ≡ Some bytes → IsShort bytes
short_at [] i bytes all is = absurd (none-some bytes is)
short_at (s ∷ streams) zero bytes all is = subst IsShort (same_Some s bytes is) all.0
short_at (s ∷ streams) (suc i) bytes all is = short_at streams i bytes all.1 is

not_too_long : (streams : List (List ℕ)) (read : ℕ) → AllByRecursion IsShort streams → HasTooLong streams read → ⊥
not_too_long streams read all long =
    let short = short_at streams long.index long.bytes all long.stream in
    elim long.long [ inl many ↦ omega (arith, many.0, short.few_bytes) | inr many ↦ omega (arith, many.1, many.2, short.few_lines) ]

few_and_many : (n : ℕ) → n ≤ MOST_LINES → MOST_LINES < n → ⊥
few_and_many n few many = omega (arith, few, many)

module _ (w : World) (no : HasNoCause w) where
  same_command : (command : Command) → command_of w.words ≡ Some command → AreLawful command (map (λ call. given call.1) w.files)
  same_command command is =
      subst (λ (c : Command). AreLawful c (map (λ call. given call.1) w.files)) (same_Some no.command command (sym no.named ∙ is)) no.lawful

  replayable : (job : QuotaJob) (reading : Result (Option AllSettings) Refused) (says : QuotaSays w job reading) → AreReplayable (says.file ∷ says.streams)
  replayable job reading says =
      subst AreReplayable (sym (same_files w.content (files_of (Quota job)) w.files (says.file ∷ says.streams) says.contents))
      (same_command (Quota job) says.named)

  poolable : (job : PoolJob) (reading : Result (Option AllPools) Refused) (says : PoolSays w job reading) → ArePoolable (says.file ∷ says.events ∷ [])
  poolable job reading says =
      subst ArePoolable (sym (same_files w.content (files_of (Pool job)) w.files (says.file ∷ says.events ∷ []) says.contents))
      (same_command (Pool job) says.named)

  not_refused : (at : At) (command : Command) → FilesSay w command (Err at) → ⊥
  not_refused at command say =
      lawful_at command (map (λ call. given call.1) w.files) say.kind (same_command command say.named) at
      (subst (λ (files : List (List ℕ)). reading_of (configs_among command files) ≡ Err at)
      (same_files w.content (files_of command) w.files say.files say.contents) say.spells)

  within : (command : Command) → command_of w.words ≡ Some command → AreWithin (files_of command) w.files
  within command is =
      subst (λ (c : Command). AreWithin (files_of c) w.files) (same_Some no.command command (sym no.named ∙ is)) no.files

  not_long : (command : Command) → command_of w.words ≡ Some command → (index : ℕ)
      → StopsAt w.content (files_of command) w.files index (IsLong w.content) → ⊥
  not_long command is index s =
      let fits = stopped w.content (files_of command) w.files index (IsLong w.content) (within command is) s in
      omega (arith, fits.1, s.stops.0)

  not_unread : (command : Command) → command_of w.words ≡ Some command → (index : ℕ)
      → StopsAt w.content (files_of command) w.files index IsUnread → ⊥
  not_unread command is index s =
      true≢false (sym s.stops ∙ (stopped w.content (files_of command) w.files index IsUnread (within command is) s).0)

  complete_exit : (e : Exit) → Explains e w → (e ≡ Done) ⊎ (e ≡ OutOfMemory)
  complete_exit Done h = inl (λ i. Done)
  complete_exit OutOfMemory h = inr (λ i. OutOfMemory)
  complete_exit Usage h = absurd (none-some no.command (sym h.0 ∙ no.named))
  complete_exit (ConfigRefused at) h = absurd (not_refused at h.0.0 h.0.1)
  complete_exit TooLong (inl (inl long, unread), none) = absurd (not_long long.0 long.1 long.2.0 long.2.1)
  complete_exit TooLong (inl (inr (inr long), unread), none) =
      absurd (few_and_many (length (cut long.1.1.0.events)) (poolable long.0 (Ok (Some long.1.0)) long.1.1.0).1 long.1.1.1)
  complete_exit TooLong (inl (inr (inl long), unread), none) =
      absurd (not_too_long long.1.1.0.streams long.1.1.1.0 (replayable long.0 (Ok (Some long.1.0)) long.1.1.0).1 long.1.1.1.1)
  complete_exit (SettingsRefused refused) (inl h, unread, none) =
      absurd ((replayable h.0 (Err refused) h.1).0 refused h.1.spells)
  complete_exit (SettingsRefused refused) (inr h, unread, none) =
      absurd ((poolable h.0 (Err refused) h.1).0 refused h.1.spells)
  complete_exit TooLong (inr long, none) = absurd (no.fits long.1)
  complete_exit ReadFault h = absurd (true≢false (sym h.1 ∙ no.read))
  complete_exit WriteFault h = absurd (true≢false (sym (write_fails _ w.writes h.0.each) ∙ no.written))
  complete_exit ListenFault h = absurd h
  complete_exit (FileFault index) h = absurd (not_unread h.0.0 h.0.1 index h.0.2)

  port_fails : (port : List ℕ) → WroteUpTo (port ∷ []) w.writes → ⊥
  port_fails port h = true≢false (sym (write_fails (port ∷ []) w.writes h) ∙ no.written)

  listen_fails : (by : ServeBy) (job : ServeJob) (l : Listeners) → job.by ≡ by → has_listen_failed l.threads.listens ≡ false
      → (Rose l.tasks.faults.0 l.tasks.faults.1 → ⊥) → ExplainsServe ListenFault w (used by l) job → ⊥
  listen_fails (Tasks tasks) job l is heard quiet h = quiet h.1
  listen_fails (Workers workers) job l is heard quiet (inl h, rose) = true≢false (sym h.1 ∙ heard)
  listen_fails (Workers workers) job l is heard quiet (inr h, rose) = subst HasTasks is h.tasks

  complete_serve : (l : Listening) (job : ServeJob) → (ExplainsServe ListenFault w l job → ⊥) → (e : Exit) → ExplainsServe e w l job
      → (e ≡ Done) ⊎ (e ≡ OutOfMemory)
  complete_serve l job heard Done h = inl (λ i. Done)
  complete_serve l job heard OutOfMemory h = inr (λ i. OutOfMemory)
  complete_serve l job heard WriteFault (inl front, rose) =
      absurd (true≢false (sym (later_fails (port_line front.port ∷ []) (end_lines 0 (ends_of front.services)) w.writes front.each) ∙ no.written))
  complete_serve l job heard WriteFault (inr port, rose) = absurd (port_fails _ port.each)
  complete_serve l job heard ListenFault h = absurd (heard h)
  complete_serve l job heard Usage h = absurd h
  complete_serve l job heard (ConfigRefused at) h = absurd h
  complete_serve l job heard TooLong h = absurd h
  complete_serve l job heard ReadFault h = absurd h
  complete_serve l job heard (FileFault index) h = absurd h
  complete_serve l job heard (SettingsRefused refused) h = absurd h

  complete_call : (l : Listeners) → has_listen_failed l.threads.listens ≡ false → (Rose l.tasks.faults.0 l.tasks.faults.1 → ⊥) → (e : Exit)
      → ExplainsCall e w l → (e ≡ Done) ⊎ (e ≡ OutOfMemory)
  complete_call l heard quiet e (inl h) = complete_exit e h.0
  complete_call l heard quiet e (inr h) = complete_serve (used h.0.by l) h.0 (listen_fails h.0.by h.0 l refl heard quiet) e h.2

pub answers : (e : Exit) (w : World) (l : Listeners) → ExplainsCall e w l → IsExitOf e w l
answers e w l h = record { cause = h; complete = λ no heard quiet. complete_call w no l heard quiet e h }
