use Rattle.std.proofs.Common.{[], Some, ap, ◌∙◌, sym, arith}
use Rattle.std.proofs.lemmas.List.{length-map}
use Rattle.text_lines.specs.Lines.{cut}
use Rattle.script_text.specs.Script.{line_of}
use Rattle.script_text.specs.Views.{script_view}
use Rattle.script_text.proofs.Lines.{line_at}
use Rattle.script_text.proofs.script.ScriptScriptLines.read.Goals as goal

pub returns : goal.returns
unfolding script_view
returns c =
    let lines = cut c.args.self.now.bytes.now in
    let at = line_at line_of lines c.args.index [] (omega (arith, c.requires, length-map lines line_of)) in
    at ∙ ap (λ l. Some (line_of l)) (c.line.ensures []) ∙ sym (ap Some c.in_ok-line.ensures)
