-- What serving the links of a listener by a limiter comes to.
use Rattle.std.specs.Prelude.{◌≡◌, ℕ, ◌<◌, ◌≤◌, List, length, map, Bool, true, false, Option, Result, Ok, Err, ⊤}
use Rattle.std.specs.Option.{is_some}
use Rattle.rate_types.specs.declared.limits.TheConstants.{MOST_CELLS, MOST_CONNECTIONS, MOST_WORKERS}
use Rattle.rate_io.specs.Causes.{Rose}
use Rattle.rate_io.specs.Events.{Grew}
use Rattle.rate_io.specs.Listeners.{ListenEvent}
use Rattle.descriptor_tree.specs.Trees.{DomainTree}
use Rattle.http_endpoint.specs.Answers.{checks_in}
use Rattle.http_endpoint.specs.declared.link_end.LinkEnd.{LinkEnd}
use Rattle.rate_limiter.specs.Passes.{LimiterView, PassView}
use Rattle.shared_stats.specs.declared.shared_stats.SharedStats.{SharedStats}
use Rattle.counted_checks.specs.AtEnd.{AreCounted}
use Rattle.counted_checks.specs.Counting.{Counting, Counts}
use Rattle.counted_checks.specs.Made.{begun}
use Rattle.http_checks.specs.Checker.{Checker, AnswersBy}
use Rattle.http_checks.specs.Made.{checkers, IsMade, IsClosedAfter}
use Rattle.http_serve.specs.Service.{Service}
use Rattle.http_serve.specs.Links.{AllServed, ends_of}
use Rattle.http_serve.specs.declared.links.LinksFault.{LinksFault}
use Rattle.http_serve.specs.declared.links.LinksFault.TheVariants.{Listen, OutOfMemory}
use Rattle.http_limiter.specs.declared.limited.Setup.{Setup}

-- so many passes and cells as may be
pub record IsInRange (setup : Setup) (connections : ℕ) : Type 0 where
  pub workers : (1 ≤ setup.workers) × (setup.workers ≤ MOST_WORKERS)
  pub cells : (1 ≤ setup.cells) × (setup.cells ≤ MOST_CELLS)
  pub few : connections ≤ MOST_CONNECTIONS

-- A limiter of the configuration, with a pass for each worker, which were new at moment 0, served these links: each once, by one of the
-- passes, whose checks are steps of the pass, each at the moment that its link was told for it. Where statistics are kept, each worker
-- notes its checks in a new pass of them. The limiter was closed after the checks of all links, and so were the statistics.
pub record ServedByLimiter (config : List DomainTree) (setup : Setup) (old new : List ListenEvent)
    (services : List Service) (is_all : Bool) : Type 0 where
  pub limiter : LimiterView
  pub before : List PassView
  pub made : IsMade config 0 setup.workers setup.global_shadow limiter before
  pub stats : Option SharedStats
  pub kept : is_some stats ≡ setup.stats
  pub after : List (Counting Checker)
  pub served : AllServed (Counts (AnswersBy setup.cells)) (map (begun stats) (checkers limiter before)) after old new services is_all
  pub closed : IsClosedAfter config 0 setup.cells limiter (map checks_in served.asked)
  pub counted : AreCounted served.asked

-- With Ok all links were served, and these are their ends. With Listen an accept failed, and the links before it were served and given
-- back as well. Want of memory is free.
abbrev pub ServesLimited : List DomainTree → Setup → ℕ → List ListenEvent → List ListenEvent → ℕ × ℕ
    → Result (List LinkEnd) LinksFault → Type 0
ServesLimited config setup connections old new faults (Ok ends) =
    (services : List Service) × (length services ≡ connections) × ServedByLimiter config setup old new services true
    × (ends ≡ ends_of services)
ServesLimited config setup connections old new faults (Err Listen) =
    (services : List Service) × (length services < connections) × ServedByLimiter config setup old new services false
    × Rose faults.0 faults.1
ServesLimited config setup connections old new faults (Err OutOfMemory) = Grew old new (λ events. ⊤)
