-- From what the parts of `quota` answer to what its exit says.
use Rattle.std.proofs.Common.{◌≡◌, ℕ, List, ◌∷◌, Some, Ok, inl, inr, refl, sym, subst}
use Rattle.rate_io.specs.Events.{Grew}
use Rattle.rate_io.specs.declared.files.Files.{Ghosts as FilesMeaning}
use Rattle.rate_io.specs.declared.source.Source.{Ghosts as SourceMeaning}
use Rattle.rate_io.specs.declared.sink.Sink.{Ghosts as SinkMeaning}
use Rattle.rate_io.specs.declared.listen.Listen.{Ghosts as ListenMeaning}
use Rattle.conn_tasks.specs.declared.poll_listen.PollListen.{Ghosts as PollListenMeaning}
use Rattle.command_words.specs.Words.{command_of}
use Rattle.command_words.specs.declared.command.Command.TheVariants.{Quota}
use Rattle.command_words.specs.declared.command.QuotaJob.{QuotaJob}
use Rattle.cli_exits.specs.Jobs.{AskedFile, files_of}
use Rattle.cli_exits.specs.World.{World, AreFilesOf, NothingRead, NothingWritten}
use Rattle.cli_exits.specs.Parts.{IsOfOutput}
use Rattle.cli_exits.specs.declared.exit.Exit.{Exit}
use Rattle.cli_exits.specs.declared.exit.Exit.TheVariants.{Done, Usage, ConfigRefused, TooLong, ReadFault, WriteFault, FileFault}
use Rattle.cli_exits.specs.declared.exit.Exit.TheVariants.{OutOfMemory, ListenFault, SettingsRefused}
use Rattle.cli_quota.specs.Replayed.{QuotaSays, IsReplayed}
use Rattle.cli_quota.specs.Parts.{IsOfReplay, Replays}
use Rattle.ratelimit_cli.specs.Exits.{IsOutput, Explains}
use Rattle.ratelimit_cli.specs.declared.outside.Outside.{Outside}
use Rattle.cli_exits.proofs.Histories.{none_since}
use Rattle.cli_quota.proofs.Allowing.{allowances_kept}
use Rattle.ratelimit_cli.proofs.Steps.{found, Call, plain, contents_of, put}

-- `quota` read its settings file and its streams
module _ (w : World) (job : QuotaJob) (is : command_of w.words ≡ Some (Quota job)) (file : List ℕ) (streams : List (List ℕ))
    (contents : AreFilesOf w.content (files_of (Quota job)) w.files (file ∷ streams)) (unread : NothingRead w) where
  explain_replay : NothingWritten w → (e : Exit) → IsOfReplay file streams e → Explains e w
  explain_replay none TooLong h =
      let says : QuotaSays w job (Ok (Some h.0)) = record { named = is; file = file; streams = streams; contents = contents; spells = h.1 } in
      (inl (inr (inl (job, (h.0, (says, h.2)))), unread), none)
  explain_replay none (SettingsRefused refused) h =
      (inl (job, record { named = is; file = file; streams = streams; contents = contents; spells = h }), unread, none)
  explain_replay none OutOfMemory h = (inl (Quota job, is), none)
  explain_replay none Done h = absurd h
  explain_replay none Usage h = absurd h
  explain_replay none (ConfigRefused at) h = absurd h
  explain_replay none ReadFault h = absurd h
  explain_replay none ListenFault h = absurd h
  explain_replay none WriteFault h = absurd h
  explain_replay none (FileFault index) h = absurd h

  replay_output : (pieces : List (List ℕ)) → Replays file streams pieces → IsOutput w (Quota job) pieces
  replay_output pieces h = record {
    settings = h.settings;
    says = record { named = is; file = file; streams = streams; contents = contents; spells = h.spells };
    short = h.short;
    unread = unread;
    replayed = h.replayed;
    allowances = allowances_kept h.settings 0 streams;
  }

-- its settings file and its streams were read
module _ {F S K L P N M : Type 0} (f : FilesMeaning F) (s : SourceMeaning S) (k : SinkMeaning K)
    (l : ListenMeaning L N) (p : PollListenMeaning P M) (o : Outside F S K L P) (words : List (List ℕ)) (job : QuotaJob) (is : command_of words ≡ Some (Quota job))
    (files : F) (names : List AskedFile) (file : List ℕ) (streams : List (List ℕ)) (same : names ≡ files_of (Quota job))
    (contents : Grew (f.history o.files) (f.history files) (λ calls. AreFilesOf (f.content o.files) names calls (file ∷ streams))) where
  -- the settings are refused, or a stream is too long
  pub no_replay : (e : Exit) → IsOfReplay file streams e → Call f s k l p o words (Quota job) is e files o.source o.sink
  no_replay e h =
      plain f s k l p o words (Quota job) is e files o.source o.sink
      (explain_replay (found f s k l p o words (Quota job) is files o.source o.sink) job is file streams
      (contents_of f s k l p o words (Quota job) is files names (file ∷ streams) same contents) (none_since (s.history o.source))
      (none_since (k.history o.sink), refl) e h)

  -- the outputs were written, or the first of their lines
  pub put_replay : (lines : List (List ℕ)) → Replays file streams lines → (sink : K) (e : Exit)
      → Grew (k.history o.sink) (k.history sink) (IsOfOutput (λ pieces. pieces ≡ lines)
      (record { written = k.written o.sink; after = k.written sink; faults = (k.faults o.sink, k.faults sink) }) e)
      → Call f s k l p o words (Quota job) is e files o.source sink
  put_replay lines replays sink e h =
      let w = found f s k l p o words (Quota job) is files o.source sink in
      put f s k l p o words (Quota job) is files o.source sink (λ pieces. pieces ≡ lines)
      (λ pieces are. subst (λ (ps : List (List ℕ)). IsReplayed w job ps) (sym are)
      (replay_output w job is file streams (contents_of f s k l p o words (Quota job) is files names (file ∷ streams) same contents)
      (none_since (s.history o.source)) lines replays))
      e h
