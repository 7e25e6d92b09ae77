use Rattle.std.proofs.Common.{◌≡◌, length, map, false, true, arith}
use Rattle.std.proofs.lemmas.List.{length-map}
use Rattle.script_run.specs.Views.{line_view}
use Rattle.run_audit.proofs.kinds.one_record_per_line.Goals as goal

false_true : false ≡ true → ⊥
false_true e = cc

pub returns-then-records-lines : goal.returns-then-records-lines
returns-then-records-lines c = (λ e. absurd (false_true e), λ one. absurd (omega (arith, one.as_many, length-map c.args.lines.now line_view)))

pub returns : goal.returns
returns c =
    let same : length c.args.records.now ≡ length (map line_view c.args.lines.now) = omega (arith, length-map c.args.lines.now line_view) in
    (λ h. record { as_many = same; each = c.each_line-each.ensures.0 h }, λ one. c.each_line-each.ensures.1 one.each)
