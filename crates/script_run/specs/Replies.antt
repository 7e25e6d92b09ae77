-- Each answered check is the rule function of one version.
use Rattle.std.specs.Prelude.{ℕ, List, Bool, ⊤}
use Rattle.descriptor_tree.specs.Trees.{DomainTree}
use Rattle.rls_core.specs.Reply.{IsReplyOf}
use Rattle.reply_text.specs.declared.record.Record.{Record}
use Rattle.reply_text.specs.declared.record.Outcome.{Outcome}
use Rattle.reply_text.specs.declared.record.Outcome.TheVariants as outcome
use Rattle.script_run.specs.ScriptLine.{ScriptLine, check}
use Rattle.script_run.specs.Lines.{EachLine}

-- an answered check is the reply of its request by this configuration, at this moment, with its own counts
abbrev pub IsByRule : List DomainTree → Bool → ScriptLine → ℕ → Outcome → Type 0
IsByRule config global_shadow (check request) moment (outcome.Checked answer) =
    IsReplyOf config request moment global_shadow answer.over answer.statuses
IsByRule config global_shadow line moment other = ⊤

-- Each answered check is the reply of its request by the one version that its record shows, at its moment, with its counts.
abbrev pub RepliesByRule : (ℕ → List DomainTree) → Bool → List ScriptLine → List Record → Type 0
RepliesByRule configs global_shadow lines records =
    EachLine lines records (λ before earlier l r. IsByRule (configs r.version) global_shadow l r.moment r.outcome)
