use Rattle.std.proofs.Common.{◌<◌, ◌≤◌, List, length, map, ap₂, ◌∙◌, arith}
use Rattle.std.proofs.lemmas.List.{length-map, take_all}
use Rattle.reply_text.specs.declared.record.Record.{Record}
use Rattle.script_run.specs.ScriptLine.{ScriptLine}
use Rattle.script_run.specs.Sequential.{is_bound}
use Rattle.script_run.specs.Views.{line_view}
use Rattle.run_audit.specs.VersionAt.{config_at}
use Rattle.run_audit.proofs.Room.{one_line_bound}
use Rattle.run_audit.proofs.bound.put_bound.Goals as goal

pub lines-preserved : goal.lines-preserved
lines-preserved c =
    let ls = c.args.before.now in
    let rs = c.args.earlier.now in
    let i = c.lines.i in
    let within_l : i < length ls = omega arith in
    let within_r : i < length rs = omega (arith, c.requires.as_many) in
    λ m h q. one_line_bound (config_at c.args.configs.now) i ls rs c.index-before-i.result c.index-earlier-i.result within_l within_r
    c.index-before-i.is c.index-earlier-i.is m c.lines.counters.keys c.put_all.new.counters.keys c.in_ok-more.more.items q c.in_ok-more.ensures
    (c.in_ok-put_all.ensures q) (c.lines.invariant m h q)

pub returns : goal.returns
returns c =
    let ls = c.args.before.now in
    let rs = c.args.earlier.now in
    let i = c.lines.i in
    let over : length ls ≤ i = omega arith in
    λ m h q. c.lines.invariant m h q
    ∙ ap₂ (λ (x : List ScriptLine) (y : List Record). is_bound (config_at c.args.configs.now) x y m q)
    (take_all i (map line_view ls) (omega (arith, length-map ls line_view, over))) (take_all i rs (omega (arith, c.requires.as_many, over)))
