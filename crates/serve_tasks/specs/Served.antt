-- What serving the links of a listener on one thread comes to.
use Rattle.std.specs.Prelude.{◌≡◌, ℕ, ◌<◌, List, length, Bool, true, false, Result, Ok, Err, ⊤}
use Rattle.rate_io.specs.Causes.{Rose}
use Rattle.rate_io.specs.Events.{Grew}
use Rattle.rate_io.specs.Listeners.{ListenEvent}
use Rattle.http_endpoint.specs.Answers.{CheckStep}
use Rattle.http_endpoint.specs.declared.link_end.LinkEnd.{LinkEnd}
use Rattle.http_serve.specs.Service.{Service}
use Rattle.http_serve.specs.Links.{AreNumbered, HasHandled, ends_of}
use Rattle.http_serve.specs.declared.links.LinksFault.{LinksFault}
use Rattle.http_serve.specs.declared.links.LinksFault.TheVariants.{Listen, OutOfMemory}
use Rattle.serve_tasks.specs.Service.{AreTasksServed}
use Rattle.serve_tasks.specs.declared.tasks_served.TasksServed.{TasksServed}

module _ {S : Type 0} (answers : CheckStep S) where
  -- so many links, numbered from 0, were accepted, served by one checker and given back, each once
  pub record AllTasksServed (before after : S) (old new : List ListenEvent) (services : List Service) (is_all : Bool) : Type 0 where
    pub numbered : AreNumbered 0 services
    pub served : AreTasksServed answers before services after
    pub handled : HasHandled old new services is_all

  -- of so many connections these links were served and given back, all or those before an accept that failed, and these are their ends
  pub record ServesTasksOf (connections : ℕ) (before after : S) (old new : List ListenEvent) (faults : ℕ × ℕ) (ends : List LinkEnd)
      (is_all : Bool) : Type 0 where
    pub services : List Service
    pub each : AllTasksServed before after old new services is_all
    pub ends_are : ends ≡ ends_of services
    pub all : is_all ≡ true → length services ≡ connections
    pub failed : is_all ≡ false → (length services < connections) × Rose faults.0 faults.1

  -- With Ok links were served, all or those before an accept that failed. With Listen a sleep failed, and of the links nothing is said. Want
  -- of memory is free.
  abbrev pub ServesTasks : ℕ → S → S → List ListenEvent → List ListenEvent → ℕ × ℕ → Result TasksServed LinksFault → Type 0
  ServesTasks connections before after old new faults (Ok served) =
      ServesTasksOf connections before after old new faults served.ends.items served.is_all
  ServesTasks connections before after old new faults (Err Listen) = Rose faults.0 faults.1 × Grew old new (λ events. ⊤)
  ServesTasks connections before after old new faults (Err OutOfMemory) = Grew old new (λ events. ⊤)
