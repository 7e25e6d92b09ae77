use Rattle.std.proofs.Common.{◌≡◌, ◌++◌, false, string_bytes, sym, ap, ◌∙◌}
use Rattle.std.specs.List.{list_any}
use Rattle.prometheus_text.specs.Escapes.{is_special}
use Rattle.prometheus_text.proofs.Escaping.{plain_text}
use Rattle.prometheus_text.proofs.escape.put_escaped.Goals as goal

pub returns : goal.returns
returns c =
    let none : list_any is_special c.args.label.now ≡ false =
    ap (list_any is_special) (sym c.as_bytes.ensures.value) ∙ sym c.if-any_special.ensures in
    c.in_ok-push_str.ensures.bytes ∙ ap (λ l. string_bytes c.args.out.now ++ l) (sym (plain_text c.args.label.now none))
