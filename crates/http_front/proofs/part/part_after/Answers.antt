use Rattle.std.proofs.Common.{◌≡◌, sym, ◌∙◌, false}
use Rattle.http_front.specs.Head.{has_too_many_lines}
use Rattle.http_front.proofs.Parts.{asked_result}
use Rattle.http_front.proofs.part.part_after.Goals as goal

pub returns-in-Some-clause-part : goal.returns-in-Some-clause-part
returns-in-Some-clause-part c =
    let lines : has_too_many_lines c.args.head.now ≡ false = sym c.has_too_many_lines.ensures ∙ c.if-has_too_many_lines.false in
    let x = c.in-Some.ensures in
    (asked_result c.args.head.now c.args.after.now c.in-Some.asks x.0 c.part_asked.result lines x.1 x.2 c.part_asked.ensures).0

pub returns-in-Some-clause-memory : goal.returns-in-Some-clause-memory
returns-in-Some-clause-memory c =
    let lines : has_too_many_lines c.args.head.now ≡ false = sym c.has_too_many_lines.ensures ∙ c.if-has_too_many_lines.false in
    let x = c.in-Some.ensures in
    (asked_result c.args.head.now c.args.after.now c.in-Some.asks x.0 c.part_asked.result lines x.1 x.2 c.part_asked.ensures).1
