-- Inside: links that were accepted and served, before they are given back.
use Rattle.std.specs.Prelude.{◌≡◌, ℕ, ◌<◌, List, ◌++◌, length, Bool, true, false}
use Rattle.rate_io.specs.Causes.{Rose}
use Rattle.rate_io.specs.Listeners.{ListenEvent}
use Rattle.http_endpoint.specs.Answers.{CheckStep, Asked}
use Rattle.http_serve.specs.Service.{Service, AreServedBy}
use Rattle.http_serve.specs.Links.{AreNumbered, accepts}

-- of so many connections these links were accepted, all or those before an accept that failed, and each was served by one of the checkers
pub record HasAccepted {S : Type 0} (answers : CheckStep S) (connections : ℕ) (before after : List S)
    (old new : List ListenEvent) (faults : ℕ × ℕ) (services : List Service) (is_all : Bool) : Type 0 where
  pub numbered : AreNumbered 0 services
  pub asked : List (List Asked)
  pub served : AreServedBy answers before after services asked
  pub events : new ≡ old ++ accepts (length services) is_all
  pub all : is_all ≡ true → length services ≡ connections
  pub failed : is_all ≡ false → (length services < connections) × Rose faults.0 faults.1
