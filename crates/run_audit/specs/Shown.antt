-- Inside: the charges of a run, and its sights as charges of 0 hits.
use Rattle.std.specs.Prelude.{ℕ, List, [], ◌∷◌, ◌++◌, map, Option}
use Rattle.std.specs.List.Sorted.{IsPermutation, IsSorted}
use Rattle.rate_types.specs.Ledger.{Charge, Sight}
use Rattle.rate_types.specs.Requests.{RequestParts}
use Rattle.rate_types.specs.declared.counter_key.CounterKey.{CounterKey}
use Rattle.rate_types.specs.declared.request.Descriptor.{Descriptor}
use Rattle.rate_types.specs.declared.request.OwnLimit.{OwnLimit}
use Rattle.rls_core.specs.Reply.{charge_shown, sight_shown}
use Rattle.rls_core.specs.declared.status.Count.{Count}
use Rattle.rls_core.specs.declared.status.Status.{Status}
use Rattle.reply_text.specs.declared.record.Record.{Record}
use Rattle.reply_text.specs.declared.record.Outcome.{Outcome}
use Rattle.reply_text.specs.declared.record.Outcome.TheVariants as outcome
use Rattle.script_run.specs.Charges.{ledger_of}
use Rattle.script_run.specs.ScriptLine.{ScriptLine, check}
use Rattle.run_audit.specs.Chain.{charge_cmp}
use Rattle.run_audit.specs.declared.gathering.Shown.{Shown}
use Rattle.run_audit.specs.declared.gathering.Shown.TheVariants.{Charges, Sights}

-- a sight as a charge of 0 hits
abbrev pub as_charge : Sight CounterKey → Charge CounterKey
as_charge sight = record { counter = sight.counter; before = sight.seen; hits = 0 }

-- what of one kind a status shows
abbrev pub shown_by : Shown → RequestParts → ℕ → Descriptor → Option OwnLimit → Count → List (Charge CounterKey)
shown_by Charges request moment d limit count = charge_shown request moment d limit count
shown_by Sights request moment d limit count = map as_charge (sight_shown request moment d limit count)

-- what of one kind a reply shows
abbrev pub shown_in : Shown → RequestParts → ℕ → List Descriptor → List Status → List (Charge CounterKey)
shown_in kind request moment (d ∷ ds) (s ∷ ss) = shown_by kind request moment d s.limit s.count ++ shown_in kind request moment ds ss
shown_in kind request moment ds ss = []

-- what of one kind a line shows
abbrev pub shown_at : Shown → ScriptLine → ℕ → Outcome → List (Charge CounterKey)
shown_at kind (check request) moment (outcome.Checked answer) = shown_in kind request moment request.descriptors answer.statuses
shown_at kind line moment other = []

-- what of one kind the lines of a run show
abbrev pub shown_of : Shown → List ScriptLine → List Record → List (Charge CounterKey)
shown_of kind (l ∷ ls) (r ∷ rs) = shown_at kind l r.moment r.outcome ++ shown_of kind ls rs
shown_of kind lines records = []

-- the charges of a run, by their counters, by the counts before them and by their hits
pub record AreInOrder (lines : List ScriptLine) (records : List Record) (charges : List (Charge CounterKey)) : Type 0 where
  pub same : IsPermutation (ledger_of lines records) charges
  pub sorted : IsSorted charge_cmp charges
