-- What serving the links of a listener on one thread by a limiter comes to.
use Rattle.std.specs.Prelude.{◌≡◌, ℕ, ◌<◌, ◌⊎◌, List, [], ◌∷◌, length, map, Bool, true, false, Option, Result, Ok, Err, ⊤}
use Rattle.std.specs.Option.{is_some}
use Rattle.rate_io.specs.Causes.{Rose}
use Rattle.rate_io.specs.Events.{Grew}
use Rattle.rate_io.specs.Listeners.{ListenEvent}
use Rattle.descriptor_tree.specs.Trees.{DomainTree}
use Rattle.http_endpoint.specs.declared.link_end.LinkEnd.{LinkEnd}
use Rattle.rate_limiter.specs.Passes.{LimiterView, PassView}
use Rattle.shared_stats.specs.declared.shared_stats.SharedStats.{SharedStats}
use Rattle.http_endpoint.specs.Answers.{Asked, checks_in}
use Rattle.counted_checks.specs.AtEnd.{AreCounted}
use Rattle.counted_checks.specs.Counting.{Counting, Counts}
use Rattle.counted_checks.specs.Made.{begun}
use Rattle.http_checks.specs.Checker.{Checker, checker, AnswersBy}
use Rattle.http_checks.specs.Made.{IsMade, IsClosedAfter}
use Rattle.http_serve.specs.Service.{Service}
use Rattle.http_serve.specs.Links.{ends_of}
use Rattle.http_serve.specs.declared.links.LinksFault.{LinksFault}
use Rattle.http_serve.specs.declared.links.LinksFault.TheVariants.{Listen, OutOfMemory}
use Rattle.serve_tasks.specs.Served.{AllTasksServed}
use Rattle.limiter_tasks.specs.declared.limited.TaskSetup.{TaskSetup}

-- all that was asked, in the order in which it was asked
abbrev pub asked_in_turn : List (ℕ × Asked) → List Asked
asked_in_turn made = map (λ x. x.1) made

-- A limiter of the configuration, with one pass, which was new at moment 0, served these links: each once, by checks that are steps of the
-- pass, each at the moment that its link was told for it. Where statistics are kept, the checks are noted in a new pass of them. The limiter
-- was closed after the checks of all of them, which are in the order in which they were made, and so were the statistics.
pub record TasksServedByLimiter (config : List DomainTree) (setup : TaskSetup) (old new : List ListenEvent)
    (services : List Service) (is_all : Bool) : Type 0 where
  pub limiter : LimiterView
  pub before : PassView
  pub made : IsMade config 0 1 setup.global_shadow limiter (before ∷ [])
  pub stats : Option SharedStats
  pub kept : is_some stats ≡ setup.stats
  pub after : Counting Checker
  pub served : AllTasksServed (Counts (AnswersBy setup.cells)) (begun stats (checker limiter before)) after old new services is_all
  pub closed : IsClosedAfter config 0 setup.cells limiter (checks_in (asked_in_turn served.served.made) ∷ [])
  pub counted : AreCounted (asked_in_turn served.served.made ∷ [])

-- With Ok all links were served, and these are their ends. With Listen an accept failed, and the links before it were served and given
-- back as well; or a sleep failed, and of the links nothing is said. Want of memory is free.
abbrev pub ServesLimitedTasks : List DomainTree → TaskSetup → ℕ → List ListenEvent → List ListenEvent → ℕ × ℕ
    → Result (List LinkEnd) LinksFault → Type 0
ServesLimitedTasks config setup connections old new faults (Ok ends) =
    (services : List Service) × (length services ≡ connections) × TasksServedByLimiter config setup old new services true
    × (ends ≡ ends_of services)
ServesLimitedTasks config setup connections old new faults (Err Listen) = Rose faults.0 faults.1
    × (((services : List Service) × (length services < connections) × TasksServedByLimiter config setup old new services false)
    ⊎ Grew old new (λ events. ⊤))
ServesLimitedTasks config setup connections old new faults (Err OutOfMemory) = Grew old new (λ events. ⊤)
