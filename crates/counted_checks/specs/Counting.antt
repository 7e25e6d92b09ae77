-- Checks whose statuses are noted.
use Rattle.std.specs.Prelude.{◌≡◌, ℕ, List, [], ◌∷◌, ◌++◌, Option, Some, None, Result, Ok, Err}
use Rattle.std.specs.Option.{option_map}
use Rattle.atomic_table.specs.Seated.{TableId}
use Rattle.rate_types.specs.Requests.{RequestParts}
use Rattle.rate_types.specs.declared.request.Descriptor.{Descriptor}
use Rattle.rls_core.specs.Reply.{hits_of}
use Rattle.rls_core.specs.declared.fault.CheckFault.{CheckFault}
use Rattle.rls_core.specs.declared.reply.Reply.{Reply}
use Rattle.rls_core.specs.declared.status.Status.{Status}
use Rattle.shared_stats.specs.Noted.{as_notes}
use Rattle.http_endpoint.specs.Answers.{CheckStep, Asked, check, statistics}
use Rattle.counted_checks.specs.Text.{IsTextAbove}

-- the statuses of descriptors, each with the hits of its descriptor
abbrev pub statuses_noted : RequestParts → List Descriptor → List Status → List (ℕ × Status)
statuses_noted request (d ∷ ds) (s ∷ ss) = (hits_of request d, s) ∷ statuses_noted request ds ss
statuses_noted request ds ss = []

-- what is noted of a check: the hits and the status of each descriptor, in order; of one that was refused nothing
abbrev pub noted_by : RequestParts → Result Reply CheckFault → List (ℕ × Status)
noted_by request (Ok reply) = statuses_noted request request.descriptors reply.statuses.items
noted_by request (Err fault) = []

-- a pass of statistics: of which, the statuses that it noted, each with the hits of its descriptor, and the texts that it told
pub record StatsView : Type 0 where
  pub id : TableId × ℕ
  pub noted : List (ℕ × Status)
  pub told : List (List ℕ)

-- after these were noted
abbrev pub noting : List (ℕ × Status) → StatsView → StatsView
noting more v = record v { noted = v.noted ++ more }

-- after this text was told
abbrev pub telling : List ℕ → StatsView → StatsView
telling text v = record v { told = v.told ++ text ∷ [] }

-- checks, with a pass of statistics where any are kept
pub record Counting (S : Type 0) : Type 0 where
  pub checks : S
  pub stats : Option StatsView

-- The statistics were asked for and came to this: nothing where none are kept, else a text of all that was noted so far.
abbrev pub Tells : Option StatsView → Option (List ℕ) → Option StatsView → Type 0
Tells None None q = q ≡ None
Tells None (Some text) q = ⊥
Tells (Some v) None q = ⊥
Tells (Some v) (Some text) q = (q ≡ Some (telling text v)) × IsTextAbove (as_notes v.noted) text

-- What is asked of them: a check comes to what it comes to without notes, and is noted; the statistics change nothing of the checks.
abbrev pub Counts : {S : Type 0} → CheckStep S → Counting S → Asked → Counting S → Type 0
Counts answers p (check c) q = answers p.checks (check c) q.checks × (q.stats ≡ option_map (noting (noted_by c.request c.result)) p.stats)
Counts answers p (statistics text) q = (q.checks ≡ p.checks) × Tells p.stats text q.stats
