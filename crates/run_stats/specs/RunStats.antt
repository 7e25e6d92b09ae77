-- The statistics of a run: the statuses that its records show, and the texts of their sums.
use Rattle.std.specs.Prelude.{◌≡◌, ℕ, ◌-◌, ◌*◌, ◌≤◌, List, [], ◌∷◌, ◌++◌, length, slice_get, Option, Some, None, Bool, true, ⊤}
use Rattle.rate_types.specs.declared.limits.TheConstants.{MOST_DESCRIPTORS}
use Rattle.rate_types.specs.Requests.{RequestParts}
use Rattle.rate_types.specs.declared.request.Descriptor.{Descriptor}
use Rattle.rls_core.specs.Reply.{hits_of}
use Rattle.rls_core.specs.declared.status.Status.{Status}
use Rattle.reply_text.specs.declared.record.Record.{Record}
use Rattle.reply_text.specs.declared.record.Outcome.{Outcome}
use Rattle.reply_text.specs.declared.record.Outcome.TheVariants as outcome
use Rattle.script_run.specs.ScriptLine.{ScriptLine, check}
use Rattle.rule_stats.specs.declared.numbers.RuleNumbers.{RuleNumbers}
use Rattle.rule_stats.specs.Statistics.{Note}
use Rattle.rule_stats.specs.Sums.{AreSums, TallyView}
use Rattle.rule_stats.specs.Lines.{texts_of}

-- the statuses of descriptors, each with the hits of its descriptor
abbrev pub notes_of_check : ℕ → RequestParts → List Descriptor → List Status → List Note
notes_of_check version request (d ∷ ds) (s ∷ ss) =
    record { version = version; hits = hits_of request d; status = s } ∷ notes_of_check version request ds ss
notes_of_check version request ds ss = []

-- those that an answered check shows
abbrev pub notes_shown : ScriptLine → ℕ → Outcome → List Note
notes_shown (check request) version (outcome.Checked answer) = notes_of_check version request request.descriptors answer.statuses
notes_shown line version other = []

-- The statuses of all answered checks, line after line.
abbrev pub notes_of : List ScriptLine → List Record → List Note
notes_of (l ∷ ls) (r ∷ rs) = notes_shown l r.version r.outcome ++ notes_of ls rs
notes_of lines records = []

-- those that a record shows of the line with its number
abbrev pub notes_shown_by : Option ScriptLine → Record → List Note
notes_shown_by None r = []
notes_shown_by (Some l) r = notes_shown l r.version r.outcome

-- The same of records in whatever order, as they lie in a journal.
abbrev pub notes_in : List ScriptLine → List Record → List Note
notes_in lines [] = []
notes_in lines (r ∷ rs) = notes_shown_by (slice_get lines (r.line - 1)) r ++ notes_in lines rs

-- a tally has the numbers of the answered checks in a journal where they are asked for, and at most so many statuses as these may have
pub record HasCounted (asked : Bool) (lines : List ScriptLine) (journal : List Record) (tally : TallyView) : Type 0 where
  pub sums : asked ≡ true → AreSums (notes_in lines journal) tally.versions
  pub few : tally.notes ≤ MOST_DESCRIPTORS * length journal

-- so does each tally of each journal
abbrev pub HaveCounted : Bool → List ScriptLine → List (List Record) → List TallyView → Type 0
HaveCounted asked lines [] [] = ⊤
HaveCounted asked lines (j ∷ js) (t ∷ ts) = HasCounted asked lines j t × HaveCounted asked lines js ts
HaveCounted asked lines js ts = ⊥

-- These are the texts of the sums of what the statuses of all answered checks add.
pub record AreStatsOf (lines : List ScriptLine) (records : List Record) (texts : List (List ℕ)) : Type 0 where
  pub versions : List (List RuleNumbers)
  pub sums : AreSums (notes_of lines records) versions
  pub are : texts ≡ texts_of versions
