-- From what the parts of `pool` answer to what its exit says.
use Rattle.std.proofs.Common.{◌≡◌, ℕ, List, [], ◌∷◌, Some, Ok, inl, inr, refl, sym, subst}
use Rattle.rate_io.specs.Events.{Grew}
use Rattle.rate_io.specs.declared.files.Files.{Ghosts as FilesMeaning}
use Rattle.rate_io.specs.declared.source.Source.{Ghosts as SourceMeaning}
use Rattle.rate_io.specs.declared.sink.Sink.{Ghosts as SinkMeaning}
use Rattle.rate_io.specs.declared.listen.Listen.{Ghosts as ListenMeaning}
use Rattle.conn_tasks.specs.declared.poll_listen.PollListen.{Ghosts as PollListenMeaning}
use Rattle.command_words.specs.Words.{command_of}
use Rattle.command_words.specs.declared.command.Command.TheVariants.{Pool}
use Rattle.command_words.specs.declared.command.PoolJob.{PoolJob}
use Rattle.cli_exits.specs.Jobs.{AskedFile, files_of}
use Rattle.cli_exits.specs.World.{World, AreFilesOf, NothingRead, NothingWritten}
use Rattle.cli_exits.specs.Parts.{IsOfOutput}
use Rattle.cli_exits.specs.declared.exit.Exit.{Exit}
use Rattle.cli_exits.specs.declared.exit.Exit.TheVariants.{Done, Usage, ConfigRefused, TooLong, ReadFault, WriteFault, FileFault}
use Rattle.cli_exits.specs.declared.exit.Exit.TheVariants.{OutOfMemory, ListenFault, SettingsRefused}
use Rattle.cli_quota.specs.Pooled.{PoolSays, IsPooled}
use Rattle.cli_quota.specs.Parts.{IsOfSharing, Answers}
use Rattle.ratelimit_cli.specs.Exits.{IsOutput, Explains}
use Rattle.ratelimit_cli.specs.declared.outside.Outside.{Outside}
use Rattle.cli_exits.proofs.Histories.{none_since}
use Rattle.ratelimit_cli.proofs.Steps.{found, Call, plain, contents_of, put}

-- `pool` read its pools and its events
module _ (w : World) (job : PoolJob) (is : command_of w.words ≡ Some (Pool job)) (file events : List ℕ)
    (contents : AreFilesOf w.content (files_of (Pool job)) w.files (file ∷ events ∷ [])) (unread : NothingRead w) where
  explain_sharing : NothingWritten w → (e : Exit) → IsOfSharing file events e → Explains e w
  explain_sharing none TooLong h =
      let says : PoolSays w job (Ok (Some h.0)) = record { named = is; file = file; events = events; contents = contents; spells = h.1 } in
      (inl (inr (inr (job, (h.0, (says, h.2)))), unread), none)
  explain_sharing none (SettingsRefused refused) h =
      (inr (job, record { named = is; file = file; events = events; contents = contents; spells = h }), unread, none)
  explain_sharing none OutOfMemory h = (inl (Pool job, is), none)
  explain_sharing none Done h = absurd h
  explain_sharing none Usage h = absurd h
  explain_sharing none (ConfigRefused at) h = absurd h
  explain_sharing none ReadFault h = absurd h
  explain_sharing none ListenFault h = absurd h
  explain_sharing none WriteFault h = absurd h
  explain_sharing none (FileFault index) h = absurd h

  sharing_output : (pieces : List (List ℕ)) → Answers file events pieces → IsOutput w (Pool job) pieces
  sharing_output pieces h = record {
    pools = h.pools;
    says = record { named = is; file = file; events = events; contents = contents; spells = h.spells };
    few = h.few;
    unread = unread;
    answered = h.answered;
    fit = h.fit;
  }

-- its pools and its events were read
module _ {F S K L P N M : Type 0} (f : FilesMeaning F) (s : SourceMeaning S) (k : SinkMeaning K)
    (l : ListenMeaning L N) (p : PollListenMeaning P M) (o : Outside F S K L P) (words : List (List ℕ)) (job : PoolJob) (is : command_of words ≡ Some (Pool job))
    (files : F) (names : List AskedFile) (file events : List ℕ) (same : names ≡ files_of (Pool job))
    (contents : Grew (f.history o.files) (f.history files) (λ calls. AreFilesOf (f.content o.files) names calls (file ∷ events ∷ []))) where
  -- the pools are refused, or the events are too long
  pub no_answers : (e : Exit) → IsOfSharing file events e → Call f s k l p o words (Pool job) is e files o.source o.sink
  no_answers e h =
      plain f s k l p o words (Pool job) is e files o.source o.sink
      (explain_sharing (found f s k l p o words (Pool job) is files o.source o.sink) job is file events
      (contents_of f s k l p o words (Pool job) is files names (file ∷ events ∷ []) same contents) (none_since (s.history o.source))
      (none_since (k.history o.sink), refl) e h)

  -- the answers were written, or the first of their lines
  pub put_answers : (lines : List (List ℕ)) → Answers file events lines → (sink : K) (e : Exit)
      → Grew (k.history o.sink) (k.history sink) (IsOfOutput (λ pieces. pieces ≡ lines)
      (record { written = k.written o.sink; after = k.written sink; faults = (k.faults o.sink, k.faults sink) }) e)
      → Call f s k l p o words (Pool job) is e files o.source sink
  put_answers lines answers sink e h =
      let w = found f s k l p o words (Pool job) is files o.source sink in
      put f s k l p o words (Pool job) is files o.source sink (λ pieces. pieces ≡ lines)
      (λ pieces are. subst (λ (ps : List (List ℕ)). IsPooled w job ps) (sym are)
      (sharing_output w job is file events (contents_of f s k l p o words (Pool job) is files names (file ∷ events ∷ []) same contents)
      (none_since (s.history o.source)) lines answers))
      e h
