use Rattle.std.proofs.Common.{string_bytes}
use Rattle.serde_json.proofs.OnLiterals.{serde_json_on_literals}
use Rattle.reply_text.specs.Texts.{counter_data}
use Rattle.reply_text.proofs.Growing.{grown_by_7}
use Rattle.reply_text.proofs.total_json.put_counter.Goals as goal

pub returns : goal.returns
unfolding serde_json_on_literals counter_data
returns c = rw (
  c.in_ok-push_str-3.ensures.bytes,
  c.in_ok-put_unit.ensures.text,
  c.in_ok-push_str-2.ensures.bytes,
  c.in_ok-put_number.ensures.text,
  c.in_ok-put_entries.ensures,
  c.in_ok-push_str.ensures.bytes,
  c.in_ok-put_quoted.ensures,
  c.as_str.ensures.bytes,
  c.items.ensures.all,
  c.get.ensures.value,
)
    (grown_by_7 (string_bytes c.args.out.now) _ _ _ _ _ _ _)
