use Rattle.std.proofs.Common.{◌<◌, length, drop, map, ◌++◌, ◌+◌, sym, ap, ◌∙◌, arith, append_assoc}
use Rattle.script_run.specs.Views.{line_view}
use Rattle.run_audit.specs.Shown.{shown_at, shown_of}
use Rattle.run_audit.proofs.Gathered.{one_more_line}
use Rattle.run_audit.proofs.gathering.add_shown.Goals as goal

pub lines-preserved : goal.lines-preserved
lines-preserved c =
    let within : c.lines.i < length c.args.records.now = omega arith in
    let within_l : c.lines.i < length c.args.lines.now = omega (arith, c.requires) in
    let step = one_more_line c.args.kind c.lines.i c.args.lines.now c.args.records.now c.index-lines-i.result c.index-records-i.result within_l
    within c.index-lines-i.is c.index-records-i.is in
    let rest = shown_of c.args.kind (drop (c.lines.i + 1) (map line_view c.args.lines.now)) (drop (c.lines.i + 1) c.args.records.now) in
    ap (λ xs. xs ++ rest) c.in_ok-add_record.ensures
    ∙ append_assoc c.lines.charges.items (shown_at c.args.kind (line_view c.index-lines-i.result) c.index-records-i.result.moment c.index-records-i.result.outcome) rest
    ∙ ap (λ xs. c.lines.charges.items ++ xs) (sym step) ∙ c.lines.invariant
