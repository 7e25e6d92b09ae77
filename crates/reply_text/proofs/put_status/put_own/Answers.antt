use Rattle.std.proofs.Common.{string_bytes}
use Rattle.serde_json.proofs.OnLiterals.{serde_json_on_literals}
use Rattle.reply_text.proofs.Growing.{grown_by_5}
use Rattle.reply_text.proofs.put_status.put_own.Goals as goal

pub returns-in_ok-put_reset-clause-text : goal.returns-in_ok-put_reset-clause-text
unfolding serde_json_on_literals
returns-in_ok-put_reset-clause-text c = λ ms.
    rw (c.in_ok-put_reset.ensures.text, c.in_ok-push_str-2.ensures.bytes, c.in_ok-put_limit.ensures.text, c.in_ok-push_str.ensures.bytes, c.in-Some.is)
    (grown_by_5 (string_bytes c.args.out.now) _ _ _ _ _)
