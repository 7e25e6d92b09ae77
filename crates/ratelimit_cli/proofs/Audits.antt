-- From what the parts of `audit` answer to what its exit says.
use Rattle.std.proofs.Common.{◌≡◌, ℕ, List, [], ◌∷◌, ◌++◌, length, map, take, Some, slice_get, Ok, refl, sym, ap, ◌∙◌, subst, arith, Option}
use Rattle.std.proofs.Math.Seq.{take-append_seam}
use Rattle.std.proofs.lemmas.List.{length-append, length-map}
use Rattle.std.specs.Io.KnownBytes.{IsAtEnd}
use Rattle.rate_types.specs.declared.limits.TheConstants.{MOST_BYTES}
use Rattle.rate_io.specs.Events.{FileEvent, Grew, since}
use Rattle.rate_io.specs.declared.files.Files.{Ghosts as FilesMeaning}
use Rattle.rate_io.specs.declared.source.Source.{Ghosts as SourceMeaning}
use Rattle.rate_io.specs.declared.sink.Sink.{Ghosts as SinkMeaning}
use Rattle.rate_io.specs.declared.listen.Listen.{Ghosts as ListenMeaning}
use Rattle.conn_tasks.specs.declared.poll_listen.PollListen.{Ghosts as PollListenMeaning}
use Rattle.descriptor_tree.specs.Trees.{DomainTree}
use Rattle.config_json.specs.Reading.{reading_of}
use Rattle.script_text.specs.Script.{script_of}
use Rattle.run_audit.specs.Verdict.{IsVerdict}
use Rattle.cli_exits.specs.declared.limits.TheConstants.{MOST_RUN_BYTES}
use Rattle.command_words.specs.Words.{command_of}
use Rattle.cli_exits.specs.Jobs.{asked, files_of, configs_among}
use Rattle.cli_exits.specs.World.{AreFilesOf}
use Rattle.cli_exits.specs.Parts.{IsOfConfig, IsOfInput, IsOfOutput}
use Rattle.cli_exits.specs.declared.exit.Exit.{Exit}
use Rattle.cli_audit.specs.Audited.{setup_of, IsOfVerdict}
use Rattle.ratelimit_cli.specs.declared.outside.Outside.{Outside}
use Rattle.command_words.specs.declared.command.Command.TheVariants.{Audit}
use Rattle.command_words.specs.declared.command.AuditJob.{AuditJob}
use Rattle.cli_exits.proofs.Told.{files_count}
use Rattle.cli_audit.proofs.Behind.{behind_all}
use Rattle.ratelimit_cli.proofs.Steps.{Call, InputGrew, contents_of, unspelled, no_input, has_read, input_since, put}

-- a job has as many configuration files as names of them, and the run stands behind them
module _ (content : List ℕ → Option (List ℕ)) (job : AuditJob) (calls : List FileEvent) (configs : List (List ℕ)) (run : List ℕ)
    (read : AreFilesOf content (files_of (Audit job)) calls (configs ++ run ∷ [])) where
  configs_count : length configs ≡ length job.configs
  configs_count =
      let all = files_count content (files_of (Audit job)) calls (configs ++ run ∷ []) read in
      let one = length-append configs (run ∷ []) in
      let two = length-append (map (asked MOST_BYTES) job.configs) (asked MOST_RUN_BYTES job.run ∷ []) in
      let names = length-map job.configs (asked MOST_BYTES) in
      omega (arith, all, one, two, names)

  configs_first : take (length job.configs) (configs ++ run ∷ []) ≡ configs
  configs_first = ap (λ (n : ℕ). take n (configs ++ run ∷ [])) (sym configs_count) ∙ take-append_seam configs (run ∷ [])

  run_last : slice_get (configs ++ run ∷ []) (length job.configs) ≡ Some run
  run_last = ap (slice_get (configs ++ run ∷ [])) (sym configs_count) ∙ behind_all configs run

-- `audit` read its configuration files and the run
module _ {F S K L P N M : Type 0} (f : FilesMeaning F) (s : SourceMeaning S) (k : SinkMeaning K)
    (l : ListenMeaning L N) (p : PollListenMeaning P M) (o : Outside F S K L P) (words : List (List ℕ)) (job : AuditJob) (is : command_of words ≡ Some (Audit job))
    (files : F) (configs : List (List ℕ)) (run : List ℕ)
    (contents : Grew (f.history o.files) (f.history files) (λ calls. AreFilesOf (f.content o.files) (files_of (Audit job)) calls (configs ++ run ∷ []))) where
  bytes_of : AreFilesOf (f.content o.files) (files_of (Audit job)) (since (f.history o.files) (f.history files)) (configs ++ run ∷ [])
  bytes_of = contents_of f s k l p o words (Audit job) is files (files_of (Audit job)) (configs ++ run ∷ []) refl contents

  first : configs_among (Audit job) (configs ++ run ∷ []) ≡ configs
  first = configs_first (f.content o.files) job (since (f.history o.files) (f.history files)) configs run bytes_of

  -- its configuration files are refused
  pub no_configs : (e : Exit) → IsOfConfig (reading_of configs) e → Call f s k l p o words (Audit job) is e files o.source o.sink
  no_configs e h = unspelled f s k l p o words (Audit job) is files (files_of (Audit job)) (configs ++ run ∷ []) configs refl contents tt first e h

  module _ (config : List DomainTree) (spells : reading_of configs ≡ Ok config) where
    -- the script wasn't read
    pub no_script : (source : S) (e : Exit)
        → Grew (s.history o.source) (s.history source) (IsOfInput (s.left o.source) (s.faults o.source, s.faults source) e)
        → Call f s k l p o words (Audit job) is e files source o.sink
    no_script source e h =
        no_input f s k l p o words (Audit job) is files (files_of (Audit job)) (configs ++ run ∷ []) configs refl contents tt first config spells source e h

    -- the verdict was written, or not
    pub put_verdict : (source : S) (bytes : List ℕ) → InputGrew f s k l p o words (Audit job) is source bytes → IsAtEnd (s.left source)
        → (sink : K) (e : Exit) → Grew (k.history o.sink) (k.history sink) (IsOfOutput (IsOfVerdict config (setup_of job) bytes run)
        (record { written = k.written o.sink; after = k.written sink; faults = (k.faults o.sink, k.faults sink) }) e)
        → Call f s k l p o words (Audit job) is e files source sink
    put_verdict source bytes input rest sink e h =
        put f s k l p o words (Audit job) is files source sink (IsOfVerdict config (setup_of job) bytes run) (λ pieces v. record {
          config = config;
          read = has_read f s k l p o words (Audit job) is files (files_of (Audit job)) (configs ++ run ∷ []) configs refl contents tt first config spells
              source bytes input rest sink;
          run = run;
          last = run_last (f.content o.files) job (since (f.history o.files) (f.history files)) configs run bytes_of;
          verdict = v.verdict;
          judged = subst (λ (b : List ℕ). IsVerdict config (setup_of job) (script_of b) run v.verdict)
              (sym (input_since f s k l p o words (Audit job) is source bytes input).1) v.judged;
          line = v.line;
        })
        e h
