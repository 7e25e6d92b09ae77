use Rattle.std.proofs.Common.{◌≡◌, ◌++◌, drop, string_bytes}
use Rattle.prometheus_text.proofs.Spelling.{lines}
use Rattle.prometheus_text.proofs.metrics.put_metric.Given as goal

abbrev pub invariant-rules : goal.invariant-rules
invariant-rules l = string_bytes l.out ++ lines l.metric (drop l.rule l.labels) (drop l.rule l.numbers)
    ≡ string_bytes l.initial.out ++ lines l.metric l.labels l.numbers
