use Rattle.std.proofs.Common.{◌≡◌, ◌+◌, ◌++◌, ◌∷◌, [], ℕ, suc, List, rules, map, take, sym, ap, ◌∙◌, subst, arith}
use Rattle.std.proofs.Math.Seq.{take-suc}
use Rattle.std.proofs.lemmas.List.{map-append}
use Rattle.text_lines.specs.Lines.{cut}
use Rattle.script_text.specs.Script.{line_of}
use Rattle.script_run.specs.ScriptLine.{ScriptLine}
use Rattle.script_run.specs.Views.{line_view}
use Rattle.script_text.proofs.script.Script.read_lines.Goals as goal

pub lines-preserved : goal.lines-preserved
lines-preserved c =
    let lines = cut c.args.self.now.bytes.now in
    let index = c.lines.index in
    let more : suc index ≡ index + 1 = omega arith in
    let one : take (index + 1) lines ≡ take index lines ++ c.line.result.now ∷ [] =
    subst (λ (n : ℕ). take n lines ≡ take index lines ++ c.line.result.now ∷ []) more
    (take-suc lines index [] (omega (arith, c.lines-test.true, c.args.self.now.lines.all)) ∙ ap (λ (l : List ℕ). take index lines ++ l ∷ []) (c.line.ensures [])) in
    record {
      read = ap (map line_view) c.push_reserved.ensures.items ∙ map-append line_view c.lines.lines.items (c.in_ok-line.line ∷ [])
          ∙ ap (λ (l : List ScriptLine). l ++ line_view c.in_ok-line.line ∷ []) c.lines.invariant.read
          ∙ ap (λ (l : ScriptLine). map line_of (take index lines) ++ l ∷ []) c.in_ok-line.ensures
          ∙ sym (map-append line_of (take index lines) (c.line.result.now ∷ [])) ∙ sym (ap (map line_of) one);
      room = search rules;
    }
