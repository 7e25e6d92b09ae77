use Rattle.std.proofs.Common.{◌<◌, Some, sym, ap, ◌∙◌, arith}
use Rattle.script_run.specs.ScriptLine.{check}
use Rattle.load_gen.specs.Load.{request_for}
use Rattle.load_gen.proofs.Pushed.{line_there}
use Rattle.load_gen.proofs.Runs.{lines_length}
use Rattle.load_gen.proofs.lines.LoadScriptLines.read.Goals as goal

pub returns : goal.returns
returns c =
    let low : c.args.index < c.args.self.now.checks = omega (arith, c.requires, lines_length c.args.self.now.number c.args.self.now.checks) in
    line_there c.args.self.now.number c.args.self.now.checks c.args.index low
    ∙ ap (λ r. Some (check r)) (sym (c.in_ok-request.ensures ∙ ap request_for c.value_at.ensures.value))
