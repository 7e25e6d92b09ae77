use Rattle.std.proofs.Common.{◌≡◌, ◌≤◌, ◌<◌, ◌+◌, true, [], length, ap, arith, string_capacity, if◌then◌else◌}
use Rattle.http_front.specs.Front.{is_json}
use Rattle.http_front.specs.Printed.{phrase, content_type, allow_line, close_line, body_bytes}
use Rattle.http_front.proofs.Sizes.{plain_fits, on_err}
use Rattle.http_front.proofs.print.print_answer.Goals as goal

pub returns-in_err-print_pieces-clause-memory : goal.returns-in_err-print_pieces-clause-memory
returns-in_err-print_pieces-clause-memory c =
    let answer = c.args.answer.now in
    let size : length c.as_str.result.now ≡ 3 = ap length c.as_str.ensures in
    let full : string_capacity c.clear.new.self < 57 + (3 + (length (phrase answer.status) + (length (content_type answer.body)
    + (length c.format-length.result.now + (length (allow_line answer.allow) + (length (close_line answer.closes)
    + length (if answer.sends_body then body_bytes answer.status answer.body else [])))))))
    = omega (
      arith,
      size,
      c.in_err-print_pieces.ensures.full,
      c.clear.ensures.len,
      ap length c.phrase.ensures,
      ap length c.content_type.ensures,
      ap length c.allow_line.ensures,
      ap length c.close_line.ensures,
      ap length c.sent_text.ensures,
    ) in
    on_err c.from_residual.result (256 ≤ string_capacity c.args.out.now → is_json answer.body ≡ true) (λ most.
    plain_fits answer.status answer.allow answer.body answer.sends_body answer.closes (length c.format-length.result.now)
    (string_capacity c.clear.new.self) c.format-length.ensures.short full (omega (arith, most, c.clear.ensures.capacity)))
