-- Inside: a connection that was run, and those under their numbers.
use Rattle.std.specs.Prelude.{◌≡◌, ℕ, ◌+◌, ◌<◌, ◌≤◌, ⊤, true, List, [], ◌∷◌, ◌++◌, length, map, Option, Some, None, get_or}
use Rattle.std.specs.List.{AllByRecursion}
use Rattle.rate_io.specs.Causes.{Rose}
use Rattle.rate_io.specs.Links.{LinkState}
use Rattle.rate_io.specs.Listeners.{IsNewLink}
use Rattle.http_endpoint.specs.Answers.{CheckStep, Asked, Lead}
use Rattle.http_serve.specs.Service.{Service}
use Rattle.conn_tasks.specs.State.{TaskState}
use Rattle.conn_tasks.specs.Tasks.{IsOn, is_live}
use Rattle.conn_tasks.specs.declared.woke.Woke.{Woke}
use Rattle.conn_tasks.specs.declared.woke.Woke.TheVariants.{Listener, Link}
use Rattle.serve_tasks.specs.Service.{made_for, IsTaskServed}
use Rattle.serve_tasks.specs.declared.running.Ran.{Ran}
use Rattle.serve_tasks.specs.declared.running.Ran.TheVariants.{Waits, Ended}

module _ {N : Type 0} where
  -- The connection with this number made these checks besides. It waits where its link would have waited in its last poll, or has ended.
  abbrev pub RunsTo : List Asked → ℕ → TaskState → Ran N → Type 0
  RunsTo more number old (Waits new) = (is_live new.mode ≡ true) × (old.link.waits ≤ new.link.waits) × Rose old.link.waits new.link.waits
      × ((first : LinkState) (asked : List Asked) → IsOn first asked old → IsOn first (asked ++ more) new)
  RunsTo more number old (Ended s) = (s.number ≡ number)
      × ((first : LinkState) (asked : List Asked) → IsNewLink first → IsOn first asked old → IsTaskServed s (asked ++ more))

-- the link of this number is a connection that goes on, of whose checks these were answered, or it was served with them
abbrev pub StandsAt : ℕ → List Asked → Option TaskState → Option Service → Type 0
StandsAt number asked (Some s) None = (first : LinkState) × IsNewLink first × IsOn first asked s × (is_live s.mode ≡ true)
StandsAt number asked None (Some s) = (s.number ≡ number) × IsTaskServed s asked
StandsAt number asked None None = ⊥
StandsAt number asked (Some s) (Some other) = ⊥

-- Links, each under its number, with the checks that were made for them.
pub record AllStand (made : List (ℕ × Asked)) (tasks : List (Option TaskState)) (served : List (Option Service)) : Type 0 where
  pub as_many : length served ≡ length tasks
  pub only : AllByRecursion (λ x. x.0 < length tasks) made
  pub each : (k : ℕ) → k < length tasks → StandsAt k (made_for k made) (get_or tasks k None) (get_or served k None)

-- links under their numbers
pub record Standing : Type 0 where
  pub tasks : List (Option TaskState)
  pub served : List (Option Service)

-- some checks were made for them, so each goes on lawfully or was served
abbrev pub Stand : Standing → Type 0
Stand s = (made : List (ℕ × Asked)) × AllStand made s.tasks s.served

-- Some checks were made besides, whatever was made before.
abbrev pub Runs : {S : Type 0} → CheckStep S → S → S → Standing → Standing → Type 0
Runs answers p q old new = (more : List (ℕ × Asked)) × Lead answers p (map (λ x. x.1) more) q
    × ((made : List (ℕ × Asked)) → AllStand made old.tasks old.served → AllStand (made ++ more) new.tasks new.served)

-- how many connections go on
abbrev pub live_count : List (Option TaskState) → ℕ
live_count [] = 0
live_count (None ∷ tasks) = live_count tasks
live_count (Some s ∷ tasks) = 1 + live_count tasks

-- the connection of a place was polled until its link would have waited, or it has ended
abbrev pub WasRun : Option TaskState → Option TaskState → Type 0
WasRun None new = new ≡ None
WasRun (Some old) None = ⊤
WasRun (Some old) (Some new) = Rose old.link.waits new.link.waits

-- it stayed, or was polled
abbrev pub Follows : Option TaskState → Option TaskState → Type 0
Follows None new = new ≡ None
Follows (Some old) None = ⊤
Follows (Some old) (Some new) = old.link.waits ≤ new.link.waits

-- it was told that something happened at the link of this place
abbrev pub WasToldOf : Option Woke → ℕ → Type 0
WasToldOf None place = ⊥
WasToldOf (Some Listener) place = ⊥
WasToldOf (Some (Link at is_closed)) place = at ≡ place
