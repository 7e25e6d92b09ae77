-- Inside: what an accept came to.
use Rattle.std.specs.Prelude.{◌≡◌, ℕ, ◌≤◌, ◌<◌, Bool, true, false, List, ◌++◌}
use Rattle.rate_io.specs.Causes.{Rose}
use Rattle.rate_io.specs.Listeners.{ListenEvent}
use Rattle.http_serve.specs.Links.{accepts}
use Rattle.serve_tasks.specs.declared.accepting.Accepting.{Accepting}
use Rattle.serve_tasks.specs.declared.accepting.Accepting.TheVariants.{More, Waits, Full, All, Failed}

-- no accept failed
abbrev pub is_unfailed : Accepting → Bool
is_unfailed More = true
is_unfailed (Waits told) = true
is_unfailed Full = true
is_unfailed All = true
is_unfailed Failed = false

-- no more links are accepted
abbrev pub is_over : Accepting → Bool
is_over More = false
is_over (Waits told) = false
is_over Full = false
is_over All = true
is_over Failed = true

-- where it says that all were accepted they were, and a failure has its cause
abbrev pub IsSo : Accepting → ℕ → ℕ → ℕ × ℕ → Type 0
IsSo More connections count faults = count ≤ connections
IsSo (Waits told) connections count faults = count < connections
IsSo Full connections count faults = count < connections
IsSo All connections count faults = count ≡ connections
IsSo Failed connections count faults = (count < connections) × Rose faults.0 faults.1

-- From a time at which a listener had these calls and so many faults: so many links were accepted, all so far or those before an accept
-- that failed.
pub record Leaves (connections : ℕ) (now : Accepting) (count : ℕ) (start history : List ListenEvent) (faults : ℕ × ℕ) : Type 0 where
  pub is_so : IsSo now connections count faults
  pub later : faults.0 ≤ faults.1
  pub events : history ≡ start ++ accepts count (is_unfailed now)

-- what led from one to the other
abbrev pub Accepts : ℕ → Accepting → Accepting → ℕ → ℕ → List ListenEvent → List ListenEvent → ℕ → ℕ → Type 0
Accepts connections a b n m old new faults faults_after = (start : List ListenEvent) (before : ℕ)
    → Leaves connections a n start old (before, faults) → Leaves connections b m start new (before, faults_after)
