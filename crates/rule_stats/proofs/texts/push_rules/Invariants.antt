use Rattle.std.proofs.Common.{◌≡◌, ◌++◌, map, drop, string_bytes}
use Rattle.rule_stats.specs.Lines.{rule_texts}
use Rattle.rule_stats.proofs.texts.push_rules.Given as goal

abbrev pub invariant-rules : goal.invariant-rules
invariant-rules l = map (λ t. string_bytes t) l.texts.items ++ rule_texts l.version l.place (drop l.place l.fn.rules)
    ≡ map (λ t. string_bytes t) l.fn.texts.items ++ rule_texts l.version 0 l.fn.rules
