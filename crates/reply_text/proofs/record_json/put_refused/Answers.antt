use Rattle.std.proofs.Common.{string_bytes}
use Rattle.serde_json.proofs.OnLiterals.{serde_json_on_literals}
use Rattle.reply_text.specs.Texts.{refused_line_data}
use Rattle.reply_text.proofs.Growing.{grown_by_5}
use Rattle.reply_text.proofs.record_json.put_refused.Goals as goal

pub returns-clause-text : goal.returns-clause-text
unfolding serde_json_on_literals refused_line_data
returns-clause-text c = λ d why.
    rw (
      c.in_ok-put_worker.ensures.text,
      c.in_ok-push_str-2.ensures.bytes,
      c.in_ok-push_str.ensures.bytes,
      c.in_ok-put_number-2.ensures.text,
      c.in_ok-put_number.ensures.text,
      why,
      c.from.ensures,
    )
    (grown_by_5 (string_bytes c.args.out.now) _ _ _ _ _)
