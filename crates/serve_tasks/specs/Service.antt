-- What the links of one thread are served, whose checks may alternate.
use Rattle.std.specs.Prelude.{◌≡◌, ℕ, ◌==◌, ◌<◌, List, [], ◌∷◌, length, map, if◌then◌else◌}
use Rattle.std.specs.List.{AllByRecursion}
use Rattle.rate_io.specs.Links.{LinkState}
use Rattle.rate_io.specs.Listeners.{IsNewLink}
use Rattle.http_endpoint.specs.Answers.{CheckStep, Asked, Lead}
use Rattle.http_serve.specs.Service.{Service}
use Rattle.conn_tasks.specs.Tasks.{TaskServed}

-- of checks with the numbers of their links, those of the link with this number, in order
abbrev pub made_for : ℕ → List (ℕ × Asked) → List Asked
made_for number [] = []
made_for number (x ∷ made) = if number == x.0 then x.1 ∷ made_for number made else made_for number made

-- a link that was not used before was served, with these checks
pub record IsTaskServed (s : Service) (asked : List Asked) : Type 0 where
  pub old : LinkState
  pub new : LinkState
  pub unused : IsNewLink old
  pub serves : TaskServed old asked new s.link_end.cause s.link_end.answers
  pub calls : s.calls ≡ new.history

-- Each of these links was served by one checker: its checks, with the number of the link for which each was made, lead from what the
-- checker was to what it is. Those of one link come in the order of its requests, and those of different links may alternate.
pub record AreTasksServed {S : Type 0} (answers : CheckStep S) (p : S) (services : List Service) (q : S) : Type 0 where
  pub made : List (ℕ × Asked)
  pub lead : Lead answers p (map (λ x. x.1) made) q
  pub each : AllByRecursion (λ s. IsTaskServed s (made_for s.number made)) services
  pub only : AllByRecursion (λ x. x.0 < length services) made
