use Rattle.std.proofs.Common.{string_bytes}
use Rattle.serde_json.proofs.OnLiterals.{serde_json_on_literals}
use Rattle.shared_stats.specs.Text.{rule_data}
use Rattle.shared_stats.proofs.Texts.{grown_by_8}
use Rattle.shared_stats.proofs.text.put_rule.Goals as goal

pub returns : goal.returns
unfolding serde_json_on_literals rule_data
returns c = rw (
  c.in_ok-push_str.ensures.bytes,
  c.in_ok-put_number-7.ensures.text,
  c.in_ok-put_number-6.ensures.text,
  c.in_ok-put_number-5.ensures.text,
  c.in_ok-put_number-4.ensures.text,
  c.in_ok-put_number-3.ensures.text,
  c.in_ok-put_number-2.ensures.text,
  c.in_ok-put_number.ensures.text,
  c.from.ensures,
)
    (grown_by_8 (string_bytes c.args.out.now) _ _ _ _ _ _ _ _)
