-- The statistics once all checks were made.
use Rattle.std.specs.Prelude.{ℕ, ◌≤◌, ◌^◌, List, [], ◌∷◌, ◌++◌, All, Some, None}
use Rattle.std.specs.List.{flat_map}
use Rattle.rls_core.specs.declared.status.Status.{Status}
use Rattle.rule_stats.specs.Statistics.{Note}
use Rattle.shared_stats.specs.Noted.{as_notes, hits_in}
use Rattle.http_endpoint.specs.Answers.{Asked, check, statistics}
use Rattle.counted_checks.specs.Text.{IsTextBelow}
use Rattle.counted_checks.specs.Counting.{noted_by}

-- what is noted of all that was asked
abbrev pub all_noted : List Asked → List (ℕ × Status)
all_noted [] = []
all_noted (check c ∷ asked) = noted_by c.request c.result ++ all_noted asked
all_noted (statistics text ∷ asked) = all_noted asked

-- the same as notes
abbrev pub all_notes : List Asked → List Note
all_notes asked = as_notes (all_noted asked)

-- the texts that were told
abbrev pub all_told : List Asked → List (List ℕ)
all_told [] = []
all_told (check c ∷ asked) = all_told asked
all_told (statistics None ∷ asked) = all_told asked
all_told (statistics (Some text) ∷ asked) = text ∷ all_told asked

-- Of several passes, each of which was asked these things: no number of a text that one of them told is greater than the sum of what is
-- noted of all checks of all of them, as long as no pass noted more than it adds. So none is counted twice.
pub record AreCounted (asked : List (List Asked)) : Type 0 where
  pub most : All (λ xs. hits_in (all_notes xs) ≤ 2 ^ 57) asked → All (λ xs. All (IsTextBelow (flat_map all_notes asked)) (all_told xs)) asked
