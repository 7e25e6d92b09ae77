-- What a call of the program found and did outside of it.
use Rattle.std.specs.Prelude.{ℕ, List}
use Rattle.rate_io.specs.Events.{Continues, since}
use Rattle.rate_io.specs.declared.files.Files.{Ghosts as FilesMeaning}
use Rattle.rate_io.specs.declared.source.Source.{Ghosts as SourceMeaning}
use Rattle.rate_io.specs.declared.sink.Sink.{Ghosts as SinkMeaning}
use Rattle.rate_io.specs.declared.listen.Listen.{Ghosts as ListenMeaning}
use Rattle.cli_exits.specs.World.{World}
use Rattle.conn_tasks.specs.declared.poll_listen.PollListen.{Ghosts as PollListenMeaning}
use Rattle.cli_serve.specs.Served.{Listeners}
use Rattle.ratelimit_cli.specs.declared.outside.Outside.{Outside}

module _ {F S K L P : Type 0} (f : FilesMeaning F) (s : SourceMeaning S) (k : SinkMeaning K) where
  -- what a call with these words found and did between two moments
  abbrev pub world_between : List (List ℕ) → Outside F S K L P → Outside F S K L P → World
  world_between words old new = record {
    words = words;
    files = since (f.history old.files) (f.history new.files);
    reads = since (s.history old.source) (s.history new.source);
    writes = since (k.history old.sink) (k.history new.sink);
    file_faults = (f.faults old.files, f.faults new.files);
    source_faults = (s.faults old.source, s.faults new.source);
    sink_faults = (k.faults old.sink, k.faults new.sink);
    content = f.content old.files;
    left = s.left old.source;
    rest = s.left new.source;
    written = k.written old.sink;
    after = k.written new.sink;
  }

module _ {F S K L P N M : Type 0} (l : ListenMeaning L N) (p : PollListenMeaning P M) where
  -- what it did on the listeners
  abbrev pub listeners_between : Outside F S K L P → Outside F S K L P → Listeners
  listeners_between old new = record {
    threads = record {
      listens = since (l.history old.listen) (l.history new.listen);
      faults = (l.faults old.listen, l.faults new.listen);
    };
    tasks = record {
      listens = since (p.history old.polls) (p.history new.polls);
      faults = (p.faults old.polls, p.faults new.polls);
    };
  }

module _ {F S K L P N M : Type 0} (f : FilesMeaning F) (s : SourceMeaning S) (k : SinkMeaning K)
    (l : ListenMeaning L N) (p : PollListenMeaning P M) where
  -- each history only grew
  pub record IsLater (old new : Outside F S K L P) : Type 0 where
    pub files : Continues (f.history old.files) (f.history new.files)
    pub source : Continues (s.history old.source) (s.history new.source)
    pub sink : Continues (k.history old.sink) (k.history new.sink)
    pub listen : Continues (l.history old.listen) (l.history new.listen)
    pub polls : Continues (p.history old.polls) (p.history new.polls)
