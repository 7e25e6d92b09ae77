use Rattle.std.proofs.Common.{◌≡◌, ◌<◌, ◌+◌, length, drop, map, get_or, suc, sym, ap, ◌∙◌, arith, add-one, drop-cons}
use Rattle.std.specs.Prelude.{max}
use Rattle.std.proofs.lemmas.List.{length-map}
use Rattle.std.proofs.Math.ListN.{get_or-map}
use Rattle.script_run.specs.ScriptLine.{ScriptLine}
use Rattle.script_run.specs.Moments.{moment_after, tick_of}
use Rattle.script_run.specs.Views.{line_view}
use Rattle.run_audit.proofs.totals.moment_after.Goals as goal

pub lines-preserved : goal.lines-preserved
lines-preserved c =
    let x = c.index-lines-i.result in
    let ls = c.args.lines.now in
    let within : c.lines.i < length (map line_view ls) = omega (arith, length-map ls line_view) in
    let at : get_or (map line_view ls) c.lines.i (line_view x) ≡ line_view x = get_or-map line_view ls c.lines.i x ∙ ap line_view (sym c.index-lines-i.is) in
    let step : moment_after c.args.start (drop c.lines.i (map line_view ls))
    ≡ max (tick_of (line_view x)) (moment_after c.args.start (drop (c.lines.i + 1) (map line_view ls))) =
    rw add-one (ap (moment_after c.args.start) (drop-cons (map line_view ls) c.lines.i (line_view x) within)
    ∙ ap (λ (l : ScriptLine). max (tick_of l) (moment_after c.args.start (drop (suc c.lines.i) (map line_view ls)))) at) in
    omega (arith, step, c.max-moment.ensures, c.tick_of.ensures, c.lines.invariant)
