use Rattle.std.proofs.Common.{◌≡◌, ℕ, ◌+◌, ◌-◌, ◌==◌, List, take, drop, length, Some, None, sym, ap, ◌∙◌, subst, arith, length-drop}
use Rattle.std.specs.List.{position, slice_index_or}
use Rattle.std.proofs.lemmas.List.{take_all, drop-drop, drop_all}
use Rattle.text_lines.specs.Lines.{cut}
use Rattle.text_lines.proofs.Cutting.{cut_at, cut_rest}
use Rattle.script_text.proofs.script.next_start.Goals as goal

pub returns-in-Some-clause-cut : goal.returns-in-Some-clause-cut
returns-in-Some-clause-cut c =
    let rest : List ℕ = drop c.args.start c.args.bytes.now in
    let whole : take (length c.args.bytes.now - c.args.start) rest ≡ rest = take_all _ _ (omega (arith, length-drop c.args.start c.args.bytes.now)) in
    let at : position (λ b. b == 10) rest ≡ Some c.in-Some.at =
    subst (λ l. position (λ b. b == 10) l ≡ Some c.in-Some.at) whole (sym c.line_feed.ensures.at ∙ c.in-Some.is) in
    let next : c.args.start + (c.in-Some.at + 1) ≡ c.args.start + c.in-Some.at + 1 = omega arith in
    ap (λ n. cut (drop n c.args.bytes.now)) (sym next) ∙ ap cut (sym (drop-drop (c.in-Some.at + 1) c.args.start c.args.bytes.now)) ∙ sym (ap (drop 1) (cut_at rest c.in-Some.at at))

pub returns-in-None-clause-cut : goal.returns-in-None-clause-cut
returns-in-None-clause-cut c =
    let rest : List ℕ = drop c.args.start c.args.bytes.now in
    let whole : take (length c.args.bytes.now - c.args.start) rest ≡ rest = take_all _ _ (omega (arith, length-drop c.args.start c.args.bytes.now)) in
    let none : position (λ b. b == 10) rest ≡ None = subst (λ l. position (λ b. b == 10) l ≡ None) whole (sym c.line_feed.ensures.at ∙ c.in-None.is) in
    ap cut (drop_all (length c.args.bytes.now) c.args.bytes.now (omega arith))
    ∙ sym (ap (drop 1) (cut_rest rest none (omega (arith, length-drop c.args.start c.args.bytes.now, c.requires))))

pub returns-in-Some-clause-ends : goal.returns-in-Some-clause-ends
returns-in-Some-clause-ends c more =
    let rest : List ℕ = drop c.args.start c.args.bytes.now in
    let whole : take (length c.args.bytes.now - c.args.start) rest ≡ rest = take_all _ _ (omega (arith, length-drop c.args.start c.args.bytes.now)) in
    let at : position (λ b. b == 10) rest ≡ Some c.in-Some.at =
    subst (λ l. position (λ b. b == 10) l ≡ Some c.in-Some.at) whole (sym c.line_feed.ensures.at ∙ c.in-Some.is) in
    let size : c.in-Some.at ≡ c.args.start + c.in-Some.at + 1 - 1 - c.args.start = omega arith in
    (omega arith, λ d. ap (λ l. slice_index_or l 0 d) (cut_at rest c.in-Some.at at) ∙ ap (λ n. take n rest) size)

pub returns-in-None-clause-ends : goal.returns-in-None-clause-ends
returns-in-None-clause-ends c more = absurd (omega arith)
