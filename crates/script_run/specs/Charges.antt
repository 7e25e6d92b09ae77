-- The ledger and the sights that the records of a script show.
use Rattle.std.specs.Prelude.{ℕ, ◌≤◌, List, [], ◌∷◌, ◌++◌}
use Rattle.std.specs.List.{AllByRecursion}
use Rattle.rate_types.specs.Counters.{same_counter}
use Rattle.rate_types.specs.Ledger.{Charge, Sight, charged_total, admitted_in, IsLawfulLedger, IsLawfulSight}
use Rattle.rate_types.specs.declared.counter_key.CounterKey.{CounterKey}
use Rattle.rls_core.specs.Reply.{charges_of}
use Rattle.rls_core.specs.Reply as reply
use Rattle.reply_text.specs.declared.record.Record.{Record}
use Rattle.reply_text.specs.declared.record.Outcome.{Outcome}
use Rattle.reply_text.specs.declared.record.Outcome.TheVariants as outcome
use Rattle.script_run.specs.ScriptLine.{ScriptLine, check}

-- the charges that an answered check shows
abbrev pub charges_shown : ScriptLine → ℕ → Outcome → List (Charge CounterKey)
charges_shown (check request) moment (outcome.Checked answer) = charges_of request moment request.descriptors answer.statuses
charges_shown line moment other = []

-- The charges of all answered checks, line after line.
abbrev pub ledger_of : List ScriptLine → List Record → List (Charge CounterKey)
ledger_of (l ∷ ls) (r ∷ rs) = charges_shown l r.moment r.outcome ++ ledger_of ls rs
ledger_of lines records = []

-- the sights that an answered check shows
abbrev pub sights_shown : ScriptLine → ℕ → Outcome → List (Sight CounterKey)
sights_shown (check request) moment (outcome.Checked answer) = reply.sights_of request moment request.descriptors answer.statuses
sights_shown line moment other = []

-- The sights of all answered checks, line after line.
abbrev pub sights_of : List ScriptLine → List Record → List (Sight CounterKey)
sights_of (l ∷ ls) (r ∷ rs) = sights_shown l r.moment r.outcome ++ sights_of ls rs
sights_of lines records = []

-- what a ledger has on a counter
abbrev pub charged_in : List (Charge CounterKey) → CounterKey → ℕ
charged_in ledger c = charged_total same_counter c ledger

-- The charges of all answered checks form one lawful ledger.
abbrev pub ChargesFormLedger : List ScriptLine → List Record → Type 0
ChargesFormLedger lines records = IsLawfulLedger same_counter (ledger_of lines records)

-- No limit admits more than itself: the hits on a counter that end within a limit are together at most the limit.
abbrev pub LimitsHold : List ScriptLine → List Record → Type 0
LimitsHold lines records = (c : CounterKey) (limit : ℕ) → admitted_in same_counter c limit (ledger_of lines records) ≤ limit

-- What an answered check shows as seen is the sum of charges of that ledger.
abbrev pub SightsLawful : List ScriptLine → List Record → Type 0
SightsLawful lines records = AllByRecursion (IsLawfulSight same_counter (ledger_of lines records)) (sights_of lines records)
