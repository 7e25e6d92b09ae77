use Rattle.std.proofs.Common.{string_bytes}
use Rattle.serde_json.proofs.OnLiterals.{serde_json_on_literals}
use Rattle.reply_text.specs.Texts.{installed_line_data}
use Rattle.reply_text.proofs.Growing.{grown_by_4}
use Rattle.reply_text.proofs.record_json.put_installed.Goals as goal

pub returns-clause-text : goal.returns-clause-text
unfolding serde_json_on_literals installed_line_data
returns-clause-text c = rw (c.in_ok-put_worker.ensures.text, c.in_ok-put_number-3.ensures.text, c.in_ok-put_number-2.ensures.text, c.in_ok-put_number.ensures.text, c.from.ensures, c.from-2.ensures)
    (grown_by_4 (string_bytes c.args.out.now) _ _ _ _)
