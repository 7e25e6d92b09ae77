-- From what each step of a command answers, over what is outside, to what its exit says.
use Rattle.std.proofs.Common.{◌≡◌, ℕ, List, [], ◌∷◌, Some, Result, Ok, inl, refl, subst, ap, ◌∙◌}
use Rattle.std.specs.Io.KnownBytes.{IsAtEnd}
use Rattle.rate_types.specs.declared.refused.At.{At}
use Rattle.rate_io.specs.Events.{Event, FileEvent, Grew, since, given}
use Rattle.rate_io.specs.declared.files.Files.{Ghosts as FilesMeaning}
use Rattle.rate_io.specs.declared.source.Source.{Ghosts as SourceMeaning}
use Rattle.rate_io.specs.declared.sink.Sink.{Ghosts as SinkMeaning}
use Rattle.rate_io.specs.declared.listen.Listen.{Ghosts as ListenMeaning}
use Rattle.conn_tasks.specs.declared.poll_listen.PollListen.{Ghosts as PollListenMeaning}
use Rattle.descriptor_tree.specs.Trees.{DomainTree}
use Rattle.config_json.specs.Reading.{reading_of}
use Rattle.command_words.specs.Words.{command_of}
use Rattle.command_words.specs.declared.command.Command.{Command}
use Rattle.cli_exits.specs.Jobs.{AskedFile, files_of, configs_among, ReadsConfigs}
use Rattle.cli_exits.specs.World.{World, AreFilesOf}
use Rattle.cli_exits.specs.Configured.{FilesSay, IsInput, HasRead}
use Rattle.cli_exits.specs.Parts.{IsOfFiles, IsOfConfig, IsOfInput, IsOfOutput, Sinks}
use Rattle.cli_exits.specs.declared.exit.Exit.{Exit}
use Rattle.ratelimit_cli.specs.Exits.{IsFixed, IsOutput, Explains, ExplainsCall}
use Rattle.ratelimit_cli.specs.Outside.{world_between, listeners_between}
use Rattle.ratelimit_cli.specs.declared.outside.Outside.{Outside}
use Rattle.cli_exits.proofs.Histories.{none_since, grew_since}
use Rattle.ratelimit_cli.proofs.Explaining.{explain_files, explain_config, explain_input, explain_output}

module _ {F S K L P N M : Type 0} (f : FilesMeaning F) (s : SourceMeaning S) (k : SinkMeaning K)
    (l : ListenMeaning L N) (p : PollListenMeaning P M) (o : Outside F S K L P) (words : List (List ℕ)) (command : Command) (is : command_of words ≡ Some command) where
  -- what was found and done where these files, source and sink are there now
  abbrev pub now : F → S → K → Outside F S K L P
  now files source sink = record { files = files; source = source; sink = sink; listen = o.listen; polls = o.polls }

  abbrev pub found : F → S → K → World
  found files source sink = world_between f s k words o (now files source sink)

  abbrev pub Call : Exit → F → S → K → Type 0
  Call e files source sink = ExplainsCall e (found files source sink) (listeners_between l p o (now files source sink))

  pub plain : (e : Exit) (files : F) (source : S) (sink : K) → Explains e (found files source sink) → Call e files source sink
  plain e files source sink h = inl (h, (none_since (l.history o.listen), refl), (none_since (p.history o.polls), refl))

  abbrev pub file_calls : F → List FileEvent
  file_calls files = since (f.history o.files) (f.history files)

  abbrev pub reads_of : S → List Event
  reads_of source = since (s.history o.source) (s.history source)

  -- the input of these bytes was read
  abbrev pub InputGrew : S → List ℕ → Type 0
  InputGrew source bytes = Grew (s.history o.source) (s.history source) (λ reads. IsInput (s.left o.source) reads × (given reads ≡ bytes))

  pub input_since : (source : S) (bytes : List ℕ) → InputGrew source bytes
      → IsInput (s.left o.source) (reads_of source) × (given (reads_of source) ≡ bytes)
  input_since source bytes h =
      grew_since (s.history o.source) (s.history source) (λ reads. IsInput (s.left o.source) reads × (given reads ≡ bytes)) h

  -- a file wasn't read
  pub unread : (files : F) (names : List AskedFile) (e : Exit) → names ≡ files_of command
      → Grew (f.history o.files) (f.history files) (IsOfFiles (f.content o.files) names (f.faults o.files, f.faults files) e)
      → Call e files o.source o.sink
  unread files names e same h =
      plain e files o.source o.sink (explain_files (found files o.source o.sink) command is (none_since (s.history o.source))
      (none_since (k.history o.sink), refl) e
      (subst (λ (ns : List AskedFile). IsOfFiles (f.content o.files) ns (f.faults o.files, f.faults files) e (file_calls files)) same
      (grew_since (f.history o.files) (f.history files)
      (IsOfFiles (f.content o.files) names (f.faults o.files, f.faults files) e) h)))

  -- the bytes of the files
  pub contents_of : (files : F) (names : List AskedFile) (blobs : List (List ℕ)) → names ≡ files_of command
      → Grew (f.history o.files) (f.history files) (λ calls. AreFilesOf (f.content o.files) names calls blobs)
      → AreFilesOf (f.content o.files) (files_of command) (file_calls files) blobs
  contents_of files names blobs same h =
      subst (λ (ns : List AskedFile). AreFilesOf (f.content o.files) ns (file_calls files) blobs) same
      (grew_since (f.history o.files) (f.history files) (λ calls. AreFilesOf (f.content o.files) names calls blobs) h)

  -- the output was written, or a first part of it
  pub put : (files : F) (source : S) (sink : K) (Is : List (List ℕ) → Type 0)
      → ((pieces : List (List ℕ)) → Is pieces → IsOutput (found files source sink) command pieces) → (e : Exit)
      → Grew (k.history o.sink) (k.history sink) (IsOfOutput Is
      (record { written = k.written o.sink; after = k.written sink; faults = (k.faults o.sink, k.faults sink) }) e)
      → Call e files source sink
  put files source sink Is output e h =
      let sinks : Sinks = record { written = k.written o.sink; after = k.written sink; faults = (k.faults o.sink, k.faults sink) } in
      plain e files source sink (explain_output (found files source sink) command is Is output e
      (grew_since (k.history o.sink) (k.history sink) (IsOfOutput Is sinks e) h))

  -- a text that the command has, whatever files and input hold
  pub put_fixed : (text : List ℕ) (sink : K)
      → ((pieces : List (List ℕ)) → IsFixed (found o.files o.source sink) command text pieces → IsOutput (found o.files o.source sink) command pieces)
      → (e : Exit)
      → Grew (k.history o.sink) (k.history sink) (IsOfOutput (λ pieces. pieces ≡ text ∷ [])
      (record { written = k.written o.sink; after = k.written sink; faults = (k.faults o.sink, k.faults sink) }) e)
      → Call e o.files o.source sink
  put_fixed text sink output e h =
      put o.files o.source sink (λ pieces. pieces ≡ text ∷ [])
      (λ pieces alone. output pieces (record {
        named = is;
        unasked = none_since (f.history o.files);
        unread = none_since (s.history o.source);
        text_alone = alone;
      }))
      e h

  -- the files were read, and some of them spell a configuration
  module _ (files : F) (names : List AskedFile) (blobs configs : List (List ℕ)) (same : names ≡ files_of command)
      (contents : Grew (f.history o.files) (f.history files) (λ calls. AreFilesOf (f.content o.files) names calls blobs))
      (kind : ReadsConfigs command) (all : configs_among command blobs ≡ configs) where
    abbrev say : (reading : Result (List DomainTree) At) → reading_of configs ≡ reading → (source : S) (sink : K)
        → FilesSay (found files source sink) command reading
    say reading spells source sink = record {
      named = is;
      kind = kind;
      files = blobs;
      contents = contents_of files names blobs same contents;
      spells = ap reading_of all ∙ spells;
    }

    -- they spell none
    pub unspelled : (e : Exit) → IsOfConfig (reading_of configs) e → Call e files o.source o.sink
    unspelled e h =
        plain e files o.source o.sink (explain_config (found files o.source o.sink) command (reading_of configs)
        (say (reading_of configs) refl o.source o.sink) (none_since (s.history o.source)) (none_since (k.history o.sink), refl) e h)

    module _ (config : List DomainTree) (spells : reading_of configs ≡ Ok config) where
      abbrev pub said : (source : S) (sink : K) → FilesSay (found files source sink) command (Ok config)
      said source sink = say (Ok config) spells source sink

      -- the input wasn't read
      pub no_input : (source : S) (e : Exit)
          → Grew (s.history o.source) (s.history source) (IsOfInput (s.left o.source) (s.faults o.source, s.faults source) e)
          → Call e files source o.sink
      no_input source e h =
          plain e files source o.sink (explain_input (found files source o.sink) command config (said source o.sink)
          (none_since (k.history o.sink), refl) e
          (grew_since (s.history o.source) (s.history source) (IsOfInput (s.left o.source) (s.faults o.source, s.faults source) e) h))

      -- the input was read, and these are its bytes
      abbrev pub has_read : (source : S) (bytes : List ℕ) → InputGrew source bytes → IsAtEnd (s.left source) → (sink : K)
          → HasRead (found files source sink) command config
      has_read source bytes input rest sink = record { say = said source sink; input = (input_since source bytes input).0; rest = rest }
