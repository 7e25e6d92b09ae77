use Rattle.std.proofs.Common.{◌≡◌, ◌<◌, ◌≤◌, ◌++◌, List, ℕ, length, string_bytes, ap, ◌∙◌, arith, append_assoc}
use Rattle.prometheus_text.specs.declared.kind.Kind.TheVariants.{Counter}
use Rattle.prometheus_text.specs.Metrics.{name_of, help_of}
use Rattle.prometheus_text.specs.Text.{head}
use Rattle.prometheus_text.proofs.Spelling.{lines, line_done, lines_done}
use Rattle.prometheus_text.proofs.metrics.put_metric.Goals as goal

pub rules-preserved : goal.rules-preserved
rules-preserved c =
    let there : c.rules.rule < length c.args.labels.now = omega (arith, c.requires, c.rules-test.true) in
    let here : c.rules.rule < length c.args.numbers.now = omega (arith, c.requires, c.rules-test.true) in
    line_done c.args.metric c.args.labels.now c.args.numbers.now c.rules.rule c.index-labels-rule.result _ _ _ _
    there here c.index-labels-rule.is c.rules.invariant c.in_ok-put_counted.ensures

pub returns : goal.returns
returns c =
    let old = string_bytes c.args.out.now in
    let begun : string_bytes c.put_head.new.out ≡ old ++ head (name_of c.args.metric) (help_of c.args.metric) Counter =
    c.in_ok-put_head.ensures ∙ ap (λ (n : List ℕ). old ++ head n c.help_of.result.now Counter) c.name_of.ensures
    ∙ ap (λ (h : List ℕ). old ++ head (name_of c.args.metric) h Counter) c.help_of.ensures in
    let end : length c.args.labels.now ≤ c.rules.rule = omega (arith, c.requires, c.rules-test.false) in
    lines_done c.args.metric c.args.labels.now c.args.numbers.now c.rules.rule _ _ end c.rules.invariant
    ∙ ap (λ (out : List ℕ). out ++ lines c.args.metric c.args.labels.now c.args.numbers.now) begun
    ∙ append_assoc old (head (name_of c.args.metric) (help_of c.args.metric) Counter) (lines c.args.metric c.args.labels.now c.args.numbers.now)
