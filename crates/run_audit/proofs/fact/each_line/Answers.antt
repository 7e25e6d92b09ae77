use Rattle.std.proofs.Common.{◌≡◌, ◌<◌, ◌≤◌, length, map, true, false, refl, arith}
use Rattle.script_run.specs.Views.{line_view}
use Rattle.run_audit.proofs.Each.{here, more, below_all}
use Rattle.run_audit.proofs.fact.each_line.Goals as goal

false_true : false ≡ true → ⊥
false_true e = cc

pub returns-then-not-decide : goal.returns-then-not-decide
returns-then-not-decide g c = (
  λ e. absurd (false_true e),
  λ each.
      let within : c.lines.i < length c.args.records.now = omega arith in
      let stands = here c.args.lines.now c.args.records.now (g.F.Fact.stands c.args.fact.now) c.lines.i c.index-lines-i.result
      c.index-records-i.result c.requires within c.index-lines-i.is c.index-records-i.is each in
      let yes = c.decide.ensures.1 stands in
      cc (yes, c.if-not-decide.true),
)

pub lines-preserved : goal.lines-preserved
lines-preserved g c =
    let within : c.lines.i < length c.args.records.now = omega arith in
    more c.args.lines.now c.args.records.now (g.F.Fact.stands c.args.fact.now) c.lines.i c.index-lines-i.result c.index-records-i.result
    c.requires within c.index-lines-i.is c.index-records-i.is c.lines.invariant (c.decide.ensures.0 c.if-not-decide.false)

pub returns : goal.returns
returns g c =
    let all : length c.args.records.now ≤ c.lines.i = omega arith in
    let each = below_all c.lines.i (map line_view c.args.lines.now) c.args.records.now (g.F.Fact.stands c.args.fact.now) all c.lines.invariant in
    (λ e. each, λ h. refl)
