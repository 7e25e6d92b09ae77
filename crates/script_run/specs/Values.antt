-- What a worker knows of counters by its records, and what it may then show of them.
use Rattle.std.specs.Prelude.{◌≡◌, ℕ, ◌+◌, ◌≤◌, ◌<◌, ◌⊎◌, ◌==◌, List, [], ◌∷◌, ◌++◌, true, Option, Some, if◌then◌else◌, ⊤}
use Rattle.std.specs.List.{AllByRecursion}
use Rattle.rate_types.specs.Counters.{same_counter}
use Rattle.rate_types.specs.Ledger.{Sight}
use Rattle.rate_types.specs.Requests.{RequestParts}
use Rattle.rate_types.specs.declared.counter_key.CounterKey.{CounterKey}
use Rattle.rate_types.specs.declared.request.Descriptor.{Descriptor}
use Rattle.rate_types.specs.declared.request.OwnLimit.{OwnLimit}
use Rattle.window_keys.specs.Counter.{counter_of}
use Rattle.rls_core.specs.Reply.{hits_of}
use Rattle.rls_core.specs.declared.status.Count.{Count}
use Rattle.rls_core.specs.declared.status.Count.TheVariants.{NoCount, Before, Seen}
use Rattle.rls_core.specs.declared.status.Status.{Status}
use Rattle.reply_text.specs.declared.record.Record.{Record}
use Rattle.reply_text.specs.declared.record.Outcome.{Outcome}
use Rattle.reply_text.specs.declared.record.Outcome.TheVariants as outcome
use Rattle.script_run.specs.ScriptLine.{ScriptLine, check}
use Rattle.script_run.specs.Lines.{EachLine}

-- the value of its counter that a status makes known: what was seen, or what was charged together with its hits
abbrev pub value_shown : RequestParts → ℕ → Descriptor → Option OwnLimit → Count → List (Sight CounterKey)
value_shown request moment d (Some own) (Before before) =
    record { counter = counter_of request.domain d own.unit moment; seen = before + hits_of request d } ∷ []
value_shown request moment d (Some own) (Seen seen) = record { counter = counter_of request.domain d own.unit moment; seen = seen } ∷ []
value_shown request moment d limit other = []

-- the values that a reply makes known, in the order of its descriptors
abbrev pub values_of : RequestParts → ℕ → List Descriptor → List Status → List (Sight CounterKey)
values_of request moment (d ∷ ds) (s ∷ ss) = value_shown request moment d s.limit s.count ++ values_of request moment ds ss
values_of request moment ds ss = []

-- the values that a line makes known
abbrev pub values_shown : ScriptLine → ℕ → Outcome → List (Sight CounterKey)
values_shown (check request) moment (outcome.Checked answer) = values_of request moment request.descriptors answer.statuses
values_shown line moment other = []

-- the values that the lines of one worker make known
abbrev pub known_by : ℕ → List ScriptLine → List Record → List (Sight CounterKey)
known_by worker (l ∷ ls) (r ∷ rs) = (if r.worker == worker then values_shown l r.moment r.outcome else []) ++ known_by worker ls rs
known_by worker lines records = []

-- each known value of the counter is at most this
abbrev pub KnownAtMost : List (Sight CounterKey) → CounterKey → ℕ → Type 0
KnownAtMost known c most = AllByRecursion (λ x. same_counter x.counter c ≡ true → x.seen ≤ most) known

-- A counter is charged only where all that is known of it is at most the limit, and is seen only above the limit or where the hits
-- are 0. Neither value is below what is known.
abbrev pub IsFair : List (Sight CounterKey) → CounterKey → ℕ → ℕ → Count → Type 0
IsFair known c limit hits (Before before) = KnownAtMost known c limit × KnownAtMost known c before
IsFair known c limit hits (Seen seen) = ((hits ≡ 0) ⊎ (limit < seen)) × KnownAtMost known c seen
IsFair known c limit hits NoCount = ⊤

-- what a status shows of its counter is fair, under the limit that it shows
abbrev pub IsFairStatus : List (Sight CounterKey) → RequestParts → ℕ → Descriptor → Option OwnLimit → Count → Type 0
IsFairStatus known request moment d (Some own) count =
    IsFair known (counter_of request.domain d own.unit moment) own.limit (hits_of request d) count
IsFairStatus known request moment d other count = ⊤

-- each status is fair, by what is known and what the statuses before it made known
abbrev pub AreFair : List (Sight CounterKey) → RequestParts → ℕ → List Descriptor → List Status → Type 0
AreFair known request moment (d ∷ ds) (s ∷ ss) = IsFairStatus known request moment d s.limit s.count
    × AreFair (known ++ value_shown request moment d s.limit s.count) request moment ds ss
AreFair known request moment ds ss = ⊤

-- the statuses of an answered check are fair
abbrev pub IsFairLine : List (Sight CounterKey) → ScriptLine → ℕ → Outcome → Type 0
IsFairLine known (check request) moment (outcome.Checked answer) = AreFair known request moment request.descriptors answer.statuses
IsFairLine known line moment other = ⊤

-- Along the records of one worker, descriptor by descriptor, the value of a counter never falls: a counter is charged only where the values
-- known so far are at most the limit in force, and seen only above it or by hits of 0.
abbrev pub ValuesNeverFall : List ScriptLine → List Record → Type 0
ValuesNeverFall lines records =
    EachLine lines records (λ before earlier l r. IsFairLine (known_by r.worker before earlier) l r.moment r.outcome)
