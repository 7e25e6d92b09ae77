-- What serving the links of a listener comes to.
use Rattle.std.specs.Prelude.{◌≡◌, ℕ, ◌+◌, ◌<◌, List, [], ◌∷◌, ◌++◌, length, map, replicate, Bool, true, false, Vec}
use Rattle.std.specs.Prelude.{Result, Ok, Err}
use Rattle.std.specs.Prelude.{if◌then◌else◌}
use Rattle.std.specs.List.{filter_map}
use Rattle.rate_io.specs.Causes.{Rose}
use Rattle.rate_io.specs.Listeners.{ListenEvent, accepted, accept_failed, gave_back, accepted_count, number_back}
use Rattle.http_endpoint.specs.Answers.{CheckStep, Asked}
use Rattle.http_endpoint.specs.declared.link_end.LinkEnd.{LinkEnd}
use Rattle.http_serve.specs.Service.{Service, AreServedBy}

-- a listener handed out no link so far, and none came back
pub record IsUnused (events : List ListenEvent) : Type 0 where
  pub none_accepted : accepted_count events ≡ 0
  pub none_back : filter_map number_back events ≡ []

-- the numbers of these links are those from this one on, in order
abbrev pub AreNumbered : ℕ → List Service → Type 0
AreNumbered n [] = Unit {0}
AreNumbered n (s ∷ ss) = (s.number ≡ n) × AreNumbered (n + 1) ss

-- these links came back, in order, each shut
abbrev pub given_back : List Service → List ListenEvent
given_back services = map (λ s. gave_back s.number s.calls true) services

-- so many links were accepted, and then one accept failed, or none
abbrev pub accepts : ℕ → Bool → List ListenEvent
accepts count is_all = replicate count accepted ++ (if is_all then [] else accept_failed ∷ [])

-- the calls of a listener: these links were accepted, and then each came back once
abbrev pub HasHandled : List ListenEvent → List ListenEvent → List Service → Bool → Type 0
HasHandled old new services is_all = new ≡ old ++ (accepts (length services) is_all ++ given_back services)

-- how each link ended
abbrev pub ends_of : List Service → List LinkEnd
ends_of services = map (λ s. s.link_end) services

-- the same of an answer, as a list
abbrev pub ends_in : {E A : Type 0} → Result (Vec LinkEnd A) E → Result (List LinkEnd) E
ends_in (Ok ends) = Ok ends.items
ends_in (Err e) = Err e

module _ {S : Type 0} (answers : CheckStep S) where
  -- so many links, numbered from 0, each served by one of the checkers, accepted and given back
  pub record AllServed (before after : List S) (old new : List ListenEvent) (services : List Service) (is_all : Bool) : Type 0 where
    pub numbered : AreNumbered 0 services
    pub asked : List (List Asked)
    pub served : AreServedBy answers before after services asked
    pub handled : HasHandled old new services is_all

  -- Of so many connections these links were served and given back, all or those before an accept that failed, and these are their ends.
  pub record ServesLinks (connections : ℕ) (before after : List S) (old new : List ListenEvent) (faults : ℕ × ℕ) (ends : List LinkEnd)
      (is_all : Bool) : Type 0 where
    pub services : List Service
    pub each : AllServed before after old new services is_all
    pub ends_are : ends ≡ ends_of services
    pub all : is_all ≡ true → length services ≡ connections
    pub failed : is_all ≡ false → (length services < connections) × Rose faults.0 faults.1
