use Rattle.std.proofs.Common.{◌++◌, ◌∙◌, ap, sym, codes, append_assoc, string_bytes}
use Rattle.reply_text.proofs.Durations.{quoted_duration}
use Rattle.reply_text.proofs.put_status.put_reset.Goals as goal

pub returns-clause-text : goal.returns-clause-text
returns-clause-text c = c.in_ok-push_str.ensures.bytes ∙ ap (λ l. l ++ codes "s\"") c.in_ok-put_number.ensures.text ∙ append_assoc (string_bytes c.args.out.now) _ _
    ∙ ap (λ l. string_bytes c.args.out.now ++ l) (sym (quoted_duration c.args.reset c.ranges.reset.fits))
