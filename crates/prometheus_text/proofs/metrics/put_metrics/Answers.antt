use Rattle.std.proofs.Common.{string_bytes}
use Rattle.prometheus_text.proofs.Escaping.{read_back, told_apart}
use Rattle.prometheus_text.proofs.Spelling.{grown_by_6}
use Rattle.prometheus_text.proofs.metrics.put_metrics.Goals as goal

pub returns-clause-text : goal.returns-clause-text
returns-clause-text c = rw (
  c.in_ok-put_metric-6.ensures,
  c.in_ok-put_metric-5.ensures,
  c.in_ok-put_metric-4.ensures,
  c.in_ok-put_metric-3.ensures,
  c.in_ok-put_metric-2.ensures,
  c.in_ok-put_metric.ensures,
)
    (grown_by_6 (string_bytes c.args.out.now) _ _ _ _ _ _)

pub returns-clause-read_back : goal.returns-clause-read_back
returns-clause-read_back c = read_back

pub returns-clause-told_apart : goal.returns-clause-told_apart
returns-clause-told_apart c = told_apart
