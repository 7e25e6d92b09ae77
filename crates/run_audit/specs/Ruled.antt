-- The rules of a printed check: a record's text has no numbers of rules, so a status stands with the rule that its descriptor finds.
use Rattle.std.specs.Prelude.{ℕ, List, ◌∷◌, Bool, Option, None, Some}
use Rattle.rate_types.specs.Requests.{RequestParts}
use Rattle.rate_types.specs.declared.request.Descriptor.{Descriptor}
use Rattle.rate_types.specs.declared.rule_id.RuleId.{RuleId}
use Rattle.descriptor_tree.specs.Trees.{DomainTree}
use Rattle.rule_lookup.specs.declared.found.Found.{Found}
use Rattle.rule_lookup.specs.declared.found.Found.TheVariants.{NoRule, Unlimited, Limited}
use Rattle.rls_core.specs.Reply.{found_for}
use Rattle.rls_core.specs.declared.status.Status.{Status}
use Rattle.reply_text.specs.declared.record.Record.{Record}
use Rattle.reply_text.specs.declared.record.Outcome.{Outcome}
use Rattle.reply_text.specs.declared.record.Outcome.TheVariants as outcome
use Rattle.script_run.specs.ScriptLine.{ScriptLine, check}
use Rattle.script_run.specs.Lines.{EachLine}
use Rattle.script_run.specs.Replies.{IsByRule}

-- the number of the rule that was found, where it has one
abbrev pub rule_in : Found → Option RuleId
rule_in NoRule = None
rule_in (Unlimited rule) = Some rule
rule_in (Limited limit unit shadow rule) = rule

-- a status with the rule that was found
abbrev pub with_rule : Found → Status → Status
with_rule found s = record s { rule = rule_in found }

-- statuses, each with the rule that its descriptor finds
abbrev pub with_rules : List DomainTree → RequestParts → List Descriptor → List Status → List Status
with_rules config request (d ∷ ds) (s ∷ ss) = with_rule (found_for config request d) s ∷ with_rules config request ds ss
with_rules config request ds ss = ss

-- what came of a line, with the rules of its check
abbrev pub ruled : List DomainTree → ScriptLine → Outcome → Outcome
ruled config (check request) (outcome.Checked answer) =
    outcome.Checked (record answer { statuses = with_rules config request request.descriptors answer.statuses })
ruled config line other = other

-- Each answered check, with the rules that its descriptors find, is the reply of its request by the one version that its record shows.
abbrev pub RuledByRule : (ℕ → List DomainTree) → Bool → List ScriptLine → List Record → Type 0
RuledByRule configs global_shadow lines records = EachLine lines records
    (λ before earlier l r. IsByRule (configs r.version) global_shadow l r.moment (ruled (configs r.version) l r.outcome))
