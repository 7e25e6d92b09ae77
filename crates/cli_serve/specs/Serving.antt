-- What the parts of `serve` answer.
use Rattle.std.specs.Prelude.{◌≡◌, ℕ, ◌<◌, ◌≤◌, ◌⊎◌, List, [], ◌∷◌, ◌++◌, length, true, false, Option}
use Rattle.rate_io.specs.Causes.{Rose}
use Rattle.rate_io.specs.Events.{Event, FileEvent}
use Rattle.rate_io.specs.Listeners.{ListenEvent}
use Rattle.descriptor_tree.specs.Trees.{DomainTree}
use Rattle.http_serve.specs.Service.{Service}
use Rattle.http_serve.specs.Links.{ends_of}
use Rattle.cli_exits.specs.World.{World}
use Rattle.cli_serve.specs.Served.{port_line, end_lines, HasTasks, ServedFor}
use Rattle.cli_serve.specs.declared.lines.PortLine.{PortLine}
use Rattle.cli_serve.specs.declared.lines.PortLine.TheVariants.{Written, Unwritten, NoMemory}
use Rattle.cli_exits.specs.Parts.{Sinks, Wrote, WroteFront}
use Rattle.command_words.specs.declared.command.ServeJob.{ServeJob}
use Rattle.cli_exits.specs.declared.exit.Exit.{Exit}
use Rattle.cli_exits.specs.declared.exit.Exit.TheVariants.{Done, WriteFault, OutOfMemory, ListenFault}

-- what the call found and did beside the sink
pub record Found : Type 0 where
  pub words : List (List ℕ)
  pub files : List FileEvent
  pub reads : List Event
  pub file_faults : ℕ × ℕ
  pub source_faults : ℕ × ℕ
  pub content : List ℕ → Option (List ℕ)
  pub left : Option (List ℕ)
  pub rest : Option (List ℕ)

-- that, with what was written
abbrev pub world_of : Found → Sinks → List Event → World
world_of f s writes = record {
  words = f.words;
  files = f.files;
  reads = f.reads;
  writes = writes;
  file_faults = f.file_faults;
  source_faults = f.source_faults;
  sink_faults = s.faults;
  content = f.content;
  left = f.left;
  rest = f.rest;
  written = s.written;
  after = s.after;
}

-- what came of the line of the port, after these writes
abbrev pub IsOfPort : ℕ → Sinks → PortLine → List Event → Type 0
IsOfPort port s Written writes = Wrote (λ pieces. pieces ≡ port_line port ∷ []) s writes × (s.faults.0 ≤ s.faults.1)
IsOfPort port s Unwritten writes = WroteFront (λ pieces. pieces ≡ port_line port ∷ []) s writes × Rose s.faults.0 s.faults.1
IsOfPort port s NoMemory writes = (writes ≡ []) × (s.after ≡ s.written)

-- how serving at a port ended, after these calls of the listener and these writes
abbrev pub EndsServing : List DomainTree → ServeJob → ℕ × ℕ → Sinks → List ListenEvent → List Event → Exit → Type 0
EndsServing config job faults s more writes Done =
    (services : List Service) × (length services ≡ job.connections) × ServedFor job.by config job more services true
    × Wrote (λ pieces. pieces ≡ end_lines 0 (ends_of services)) s writes
EndsServing config job faults s more writes WriteFault =
    (services : List Service) × (length services ≡ job.connections) × ServedFor job.by config job more services true
    × WroteFront (λ pieces. pieces ≡ end_lines 0 (ends_of services)) s writes × Rose s.faults.0 s.faults.1
EndsServing config job faults s more writes ListenFault = Rose faults.0 faults.1 × (writes ≡ []) × (s.after ≡ s.written)
    × (((services : List Service) × (length services < job.connections) × ServedFor job.by config job more services false) ⊎ HasTasks job.by)
EndsServing config job faults s more writes OutOfMemory = (writes ≡ []) × (s.after ≡ s.written)
EndsServing config job faults s more writes other = ⊥

-- the histories of a listener and of a sink grew by these, and so serving at a port ended
pub record HasServing (config : List DomainTree) (job : ServeJob) (faults : ℕ × ℕ) (s : Sinks)
    (listens listens_after : List ListenEvent) (history history_after : List Event) (exit : Exit) : Type 0 where
  pub more : List ListenEvent
  pub listened : listens_after ≡ listens ++ more
  pub writes : List Event
  pub wrote : history_after ≡ history ++ writes
  pub ends : EndsServing config job faults s more writes exit
