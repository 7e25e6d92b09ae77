-- Why a check or a reload of a printed run was refused.
use Rattle.std.specs.Prelude.{◌≡◌, ℕ, List, Bool, false, true}
use Rattle.descriptor_tree.specs.Trees.{DomainTree}
use Rattle.reply_text.specs.declared.record.Record.{Record}
use Rattle.reply_text.specs.declared.record.Outcome.{Outcome}
use Rattle.reply_text.specs.declared.record.Outcome.TheVariants.{Full, Spent, VersionsFull}
use Rattle.script_run.specs.ScriptLine.{ScriptLine}
use Rattle.script_run.specs.Lines.{EachLine}
use Rattle.script_run.specs.Refusals.{HasRefusalCause}
use Rattle.script_run.specs.Sequential.{IsInTurn}

-- a check or a reload was refused
abbrev pub is_refusal : Outcome → Bool
is_refusal (Full live held wanted) = true
is_refusal (Spent claims wanted) = true
is_refusal (VersionsFull versions) = true
is_refusal other = false

-- a refusal has its cause, and with one worker it shows the exact numbers of its turn
pub record IsCaused (configs : ℕ → List DomainTree) (workers cells : ℕ) (lines : List ScriptLine) (records : List Record)
    (before : List ScriptLine) (earlier : List Record) (l : ScriptLine) (r : Record) : Type 0 where
  pub cause : HasRefusalCause configs workers cells lines records before earlier l r r.outcome
  pub exact : workers ≡ 1 → is_refusal r.outcome ≡ true → IsInTurn configs cells before earlier l r r.outcome

-- Each refusal has its cause, with one worker in exact numbers.
abbrev pub RefusalsCaused : (ℕ → List DomainTree) → ℕ → ℕ → List ScriptLine → List Record → Type 0
RefusalsCaused configs workers cells lines records =
    EachLine lines records (λ before earlier l r. IsCaused configs workers cells lines records before earlier l r)
