-- What the exits of `serve` say.
use Rattle.std.specs.Prelude.{◌≡◌, ℕ, ◌+◌, ◌<◌, ◌⊎◌, List, [], ◌∷◌, ◌++◌, length, Bool, true, false, Ok, ⊤}
use Rattle.std.specs.List.{concat, list_any}
use Rattle.rate_io.specs.Causes.{Rose}
use Rattle.rate_io.specs.Content.{Appends}
use Rattle.rate_io.specs.Events.{Event, Grew}
use Rattle.rate_io.specs.Listeners.{ListenEvent, IsPortFor, bound, bind_failed, accept_failed}
use Rattle.descriptor_tree.specs.Trees.{DomainTree}
use Rattle.http_endpoint.specs.ServeLines.{listening_line, link_end_line}
use Rattle.http_endpoint.specs.declared.link_end.LinkEnd.{LinkEnd}
use Rattle.http_serve.specs.Service.{Service}
use Rattle.http_serve.specs.Links.{ends_of}
use Rattle.http_limiter.specs.Limited.{ServedByLimiter}
use Rattle.limiter_tasks.specs.Limited.{TasksServedByLimiter}
use Rattle.cli_exits.specs.Output.{AppendsFront, with_line_feed}
use Rattle.cli_exits.specs.World.{World, NothingRead, NothingWritten, all_written, WroteUpTo}
use Rattle.cli_exits.specs.Configured.{FilesSay}
use Rattle.command_words.specs.declared.command.Command.TheVariants.{Threads}
use Rattle.command_words.specs.declared.command.ThreadJob.TheVariants.{Serve}
use Rattle.command_words.specs.declared.command.ServeBy.{ServeBy}
use Rattle.command_words.specs.declared.command.ServeBy.TheVariants.{Workers, Tasks}
use Rattle.command_words.specs.declared.command.ServeJob.{ServeJob}
use Rattle.cli_exits.specs.declared.exit.Exit.{Exit}
use Rattle.cli_exits.specs.declared.exit.Exit.TheVariants.{Done, WriteFault, OutOfMemory, ListenFault}

-- what the call did on a listener, in order, and its counts of faults before and after
pub record Listening : Type 0 where
  pub listens : List ListenEvent
  pub faults : ℕ × ℕ

-- a listener wasn't touched: it has no further call and no further fault
abbrev pub NothingListened : Listening → Type 0
NothingListened l = (l.listens ≡ []) × (l.faults.1 ≡ l.faults.0)

abbrev pub is_listen_failed : ListenEvent → Bool
is_listen_failed (bind_failed port) = true
is_listen_failed accept_failed = true
is_listen_failed other = false

-- a port couldn't be had, or a connection not accepted
abbrev pub has_listen_failed : List ListenEvent → Bool
has_listen_failed = list_any is_listen_failed

-- the line of the port
abbrev pub port_line : ℕ → List ℕ
port_line port = with_line_feed (listening_line port)

-- the lines of connections, the first of which has this number
abbrev pub end_lines : ℕ → List LinkEnd → List (List ℕ)
end_lines number [] = []
end_lines number (e ∷ ends) = with_line_feed (link_end_line number e) ∷ end_lines (number + 1) ends

-- The output of `serve`, line by line: the port, and then how each connection ended, in the order of accepting.
abbrev pub serve_lines : ℕ → List LinkEnd → List (List ℕ)
serve_lines port ends = port_line port ∷ end_lines 0 ends

-- one thread serves, by tasks
abbrev pub HasTasks : ServeBy → Type 0
HasTasks (Workers workers) = ⊥
HasTasks (Tasks tasks) = ⊤

-- A limiter of the configuration served these links: a pass in each of so many threads, or one pass by tasks on one thread.
abbrev pub ServedFor : ServeBy → List DomainTree → ServeJob → List ListenEvent → List Service → Bool → Type 0
ServedFor (Workers workers) config job more services is_all =
    ServedByLimiter config (record { workers = workers; cells = job.cells; global_shadow = job.global_shadow; stats = job.stats }) [] more services is_all
ServedFor (Tasks tasks) config job more services is_all =
    TasksServedByLimiter config (record { cells = job.cells; global_shadow = job.global_shadow; stats = job.stats }) [] more services is_all

-- `serve` read its files, which spell this configuration, and no input
pub record HasBegun (w : World) (job : ServeJob) (config : List DomainTree) : Type 0 where
  pub say : FilesSay w (Threads (Serve job)) (Ok config)
  pub unread : NothingRead w

-- The port was asked for, and this one was had: that one, or for 0 any. Then these links were accepted, all that were to be or those before an accept that
-- failed; each was served once by a limiter of the configuration, shut, and given back under its number.
pub record HasListened (l : Listening) (job : ServeJob) (config : List DomainTree) (port : ℕ) (services : List Service) (is_all : Bool)
    : Type 0 where
  pub more : List ListenEvent
  pub events : l.listens ≡ bound job.port port ∷ more
  pub port_is : IsPortFor job.port port
  pub served : ServedFor job.by config job more services is_all

-- the line of the port, written and flushed at once
abbrev pub port_line_written : ℕ → List Event
port_line_written port = all_written (port_line port ∷ [])

-- all connections were served, and the output was written, each line by one call, and flushed: the port at once, the other lines at
-- the end
pub record ServesAll (w : World) (l : Listening) (job : ServeJob) : Type 0 where
  pub config : List DomainTree
  pub begun : HasBegun w job config
  pub port : ℕ
  pub services : List Service
  pub count : length services ≡ job.connections
  pub listened : HasListened l job config port services true
  pub each : w.writes ≡ port_line_written port ++ all_written (end_lines 0 (ends_of services))
  pub bytes : Appends w.written w.after (concat (serve_lines port (ends_of services)))

-- all connections were served, and only the first lines were written behind the port's, or all of them and the flush failed
pub record ServesFront (w : World) (l : Listening) (job : ServeJob) : Type 0 where
  pub config : List DomainTree
  pub begun : HasBegun w job config
  pub port : ℕ
  pub services : List Service
  pub count : length services ≡ job.connections
  pub listened : HasListened l job config port services true
  pub each : Grew (port_line_written port) w.writes (WroteUpTo (end_lines 0 (ends_of services)))
  pub bytes : AppendsFront w.written w.after (concat (serve_lines port (ends_of services)))

-- the port was had, and its line wasn't written, or not flushed; no connection was accepted
pub record PortUnwritten (w : World) (l : Listening) (job : ServeJob) : Type 0 where
  pub config : List DomainTree
  pub begun : HasBegun w job config
  pub port : ℕ
  pub listened : l.listens ≡ bound job.port port ∷ []
  pub port_is : IsPortFor job.port port
  pub each : WroteUpTo (port_line port ∷ []) w.writes
  pub bytes : AppendsFront w.written w.after (concat (port_line port ∷ []))

-- the line of this port was written and flushed, and nothing else
pub record PortWritten (w : World) (port : ℕ) : Type 0 where
  pub each : w.writes ≡ port_line_written port
  pub bytes : Appends w.written w.after (concat (port_line port ∷ []))

-- the port wasn't had, and nothing was written
pub record PortRefused (w : World) (l : Listening) (job : ServeJob) : Type 0 where
  pub config : List DomainTree
  pub begun : HasBegun w job config
  pub listened : l.listens ≡ bind_failed job.port ∷ []
  pub unwritten : NothingWritten w

-- an accept failed; the links before it were served and given back, and the port's line alone was written
pub record ServesFirst (w : World) (l : Listening) (job : ServeJob) : Type 0 where
  pub config : List DomainTree
  pub begun : HasBegun w job config
  pub port : ℕ
  pub services : List Service
  pub count : length services < job.connections
  pub listened : HasListened l job config port services false
  pub written : PortWritten w port

-- The port was had, and its line alone was written; then a sleep of the thread that serves by tasks failed. Of the links nothing is said.
pub record SleepFailed (w : World) (l : Listening) (job : ServeJob) : Type 0 where
  pub tasks : HasTasks job.by
  pub config : List DomainTree
  pub begun : HasBegun w job config
  pub port : ℕ
  pub more : List ListenEvent
  pub events : l.listens ≡ bound job.port port ∷ more
  pub port_is : IsPortFor job.port port
  pub written : PortWritten w port

-- When the exits of `serve` come that it has once its files are read, by what was done on the listener that serves. Want of memory is free;
-- then the port's line alone was written, or nothing.
abbrev pub ExplainsServe : Exit → World → Listening → ServeJob → Type 0
ExplainsServe Done w l job = ServesAll w l job
ExplainsServe WriteFault w l job = (ServesFront w l job ⊎ PortUnwritten w l job) × Rose w.sink_faults.0 w.sink_faults.1
ExplainsServe ListenFault w l job =
    (((PortRefused w l job ⊎ ServesFirst w l job) × (has_listen_failed l.listens ≡ true)) ⊎ SleepFailed w l job)
    × Rose l.faults.0 l.faults.1
ExplainsServe OutOfMemory w l job = NothingRead w × (NothingWritten w ⊎ ((port : ℕ) × PortWritten w port))
ExplainsServe other w l job = ⊥

-- what the call did on the listener that serves by threads, and on the one that serves by tasks
pub record Listeners : Type 0 where
  pub threads : Listening
  pub tasks : Listening

-- the listener that serves, and the other
abbrev pub used : ServeBy → Listeners → Listening
used (Workers workers) l = l.threads
used (Tasks tasks) l = l.tasks

abbrev pub unused : ServeBy → Listeners → Listening
unused (Workers workers) l = l.tasks
unused (Tasks tasks) l = l.threads
