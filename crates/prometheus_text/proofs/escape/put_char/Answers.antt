use Rattle.std.proofs.Common.{◌≢◌, ◌++◌, string_bytes, sym, ap, ◌∙◌, arith}
use Rattle.prometheus_text.proofs.Escaping.{plain_char}
use Rattle.prometheus_text.proofs.escape.put_char.Goals as goal

pub returns-in_ok-push-in_default : goal.returns-in_ok-push-in_default
returns-in_ok-push-in_default c =
    let d = c.in_default in
    let one : c.args.c ≢ 92 = omega arith in
    let two : c.args.c ≢ 34 = omega arith in
    let three : c.args.c ≢ 10 = omega arith in
    c.in_ok-push-in_default.ensures.bytes ∙ ap (λ l. string_bytes c.args.out.now ++ l) (sym (plain_char c.args.c one two three))
