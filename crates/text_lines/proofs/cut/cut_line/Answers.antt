use Rattle.std.proofs.Common.{◌≡◌, ◌+◌, ◌-◌, ◌==◌, take, drop, length, Some, sym, ◌∙◌, arith, length-drop}
use Rattle.std.specs.List.{position}
use Rattle.std.proofs.lemmas.List.{take_all}
use Rattle.text_lines.proofs.Cutting.{cut_at, cut_rest}
use Rattle.text_lines.proofs.cut.cut_line.Goals as goal

pub returns-in-Some-clause-cut : goal.returns-in-Some-clause-cut
returns-in-Some-clause-cut c =
    let at : position (λ b. b == 10) c.args.bytes.now ≡ Some c.in-Some.at = sym c.line_feed.ensures.at ∙ c.in-Some.is in
    let rest : take (length c.args.bytes.now - (c.in-Some.at + 1)) (drop (c.in-Some.at + 1) c.args.bytes.now) ≡ drop (c.in-Some.at + 1) c.args.bytes.now =
    take_all _ _ (omega (arith, length-drop (c.in-Some.at + 1) c.args.bytes.now)) in
    rw rest (cut_at c.args.bytes.now c.in-Some.at at)

pub returns-in-None-clause-cut : goal.returns-in-None-clause-cut
returns-in-None-clause-cut c = cut_rest c.args.bytes.now (sym c.line_feed.ensures.at ∙ c.in-None.is) c.requires
