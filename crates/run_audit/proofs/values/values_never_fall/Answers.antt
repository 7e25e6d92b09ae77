use Rattle.std.proofs.Common.{◌≡◌, ◌<◌, ◌≤◌, Bool, true, false, length, map, take, refl, sym, ◌∙◌, subst, arith}
use Rattle.script_run.specs.Values.{known_by}
use Rattle.script_run.specs.Views.{line_view}
use Rattle.run_audit.proofs.Each.{here, more, below_none, below_all}
use Rattle.run_audit.proofs.RunValues.{Fair, LineLearns, knows_more, none_known}
use Rattle.run_audit.proofs.values.values_never_fall.Goals as goal

false_true : false ≡ true → ⊥
false_true e = cc

pub lines-init : goal.lines-init
lines-init c = record {
  below = below_none (map line_view c.args.lines.now) c.args.records.now Fair;
  knows = none_known c.new-values.result.entries c.args.lines.now c.args.records.now c.new-values.ensures.empty;
}

pub returns-then-not-fair : goal.returns-then-not-fair
returns-then-not-fair c = (
  λ e. absurd (false_true e),
  λ each.
      let within : c.lines.i < length c.args.records.now = omega arith in
      let r = c.index-records-i.result in
      let fair = here c.args.lines.now c.args.records.now Fair c.lines.i c.index-lines-i.result r c.requires within c.index-lines-i.is
      c.index-records-i.is each in
      let yes = c.in_ok-fair.ensures.only (known_by r.worker (map line_view (take c.lines.i c.args.lines.now)) (take c.lines.i c.args.records.now))
      (c.lines.invariant.knows r.worker) fair in
      absurd (false_true (sym c.if-not-fair.true ∙ yes)),
)

pub lines-preserved : goal.lines-preserved
lines-preserved c =
    let within : c.lines.i < length c.args.records.now = omega arith in
    let x = c.index-lines-i.result in
    let r = c.index-records-i.result in
    let fair = c.in_ok-fair.ensures.yes (known_by r.worker (map line_view (take c.lines.i c.args.lines.now)) (take c.lines.i c.args.records.now))
    (c.lines.invariant.knows r.worker) c.if-not-fair.false in
    let learns = subst (λ (b : Bool). LineLearns c.lines.values.entries c.line_is_fair.new.values.entries b (line_view x) r) c.if-not-fair.false
    c.in_ok-fair.ensures in
    record {
      below = more c.args.lines.now c.args.records.now Fair c.lines.i x r c.requires within c.index-lines-i.is c.index-records-i.is
          c.lines.invariant.below fair;
      knows = knows_more c.lines.values.entries c.line_is_fair.new.values.entries c.args.lines.now c.args.records.now c.lines.i x r c.requires
          within c.index-lines-i.is c.index-records-i.is learns c.lines.invariant.knows;
    }

pub returns : goal.returns
returns c =
    let all : length c.args.records.now ≤ c.lines.i = omega arith in
    let each = below_all c.lines.i (map line_view c.args.lines.now) c.args.records.now Fair all c.lines.invariant.below in
    (λ e. each, λ h. refl)
