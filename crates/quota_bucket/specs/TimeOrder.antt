-- Histories in order of time.
use Rattle.std.specs.Prelude.{ℕ, ◌≤◌, List, [], ◌∷◌, ⊤}
use Rattle.quota_bucket.specs.Strategies.{Decision}
use Rattle.quota_bucket.specs.History.{Event, moment_of}
use Rattle.quota_bucket.specs.Reports.{present}

-- no request is later than this moment, nor than the one after it
abbrev pub Falls : ℕ → List Decision → Type 0
Falls moment [] = ⊤
Falls moment (d ∷ ds) = (d.at ≤ moment) × Falls d.at ds

-- each event comes no earlier than the one before it
abbrev pub IsInOrder : List Event → Type 0
IsInOrder [] = ⊤
IsInOrder (event ∷ history) = (present history ≤ moment_of event) × IsInOrder history
