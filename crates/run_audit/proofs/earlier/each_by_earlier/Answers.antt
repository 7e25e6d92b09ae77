use Rattle.std.proofs.Common.{◌≡◌, ℕ, ◌<◌, ◌≤◌, ◌==◌, length, map, take, cond, true, false, refl, sym, ap, ap₂, ◌∙◌, arith}
use Rattle.std.specs.Prelude.{max}
use Rattle.script_run.specs.Views.{line_view}
use Rattle.run_audit.specs.Greatest.{number_in}
use Rattle.run_audit.proofs.Each.{here, more, below_none, below_all}
use Rattle.run_audit.proofs.Earliest.{line_there, greatest_more}
use Rattle.run_audit.proofs.earlier.each_by_earlier.Goals as goal

false_true : false ≡ true → ⊥
false_true e = cc

pub lines-init : goal.lines-init
lines-init g c = record {
  below = below_none (map line_view c.args.lines.now) c.args.records.now (λ before earlier l r. g.F.ByEarlier.stands c.args.fact.now earlier r);
  greatest_in = λ w. ap (λ es. number_in es w) c.new-numbers.ensures.empty;
}

pub returns-then-not-stands : goal.returns-then-not-stands
returns-then-not-stands g c =
    let within_l : c.lines.i < length c.args.lines.now = omega arith in
    let within : c.lines.i < length c.args.records.now = omega (arith, c.requires, within_l) in
    let r = c.index-records-i.result in
    let x = line_there c.args.lines.now c.lines.i within_l in
    let most = c.number_in-most.ensures ∙ ap (number_in c.lines.numbers.entries) c.worker_of-worker.ensures ∙ c.lines.invariant.greatest_in r.worker in (
      λ e. absurd (false_true e),
      λ each.
          let stands = here c.args.lines.now c.args.records.now (λ before earlier l r. g.F.ByEarlier.stands c.args.fact.now earlier r) c.lines.i x.0 r
          c.requires within x.1 c.index-records-i.is each in
          absurd (false_true (sym c.if-not-stands.true ∙ (c.decide-stands.ensures (take c.lines.i c.args.records.now) most).1 stands)),
    )

pub lines-preserved : goal.lines-preserved
lines-preserved g c =
    let within_l : c.lines.i < length c.args.lines.now = omega arith in
    let within : c.lines.i < length c.args.records.now = omega (arith, c.requires, within_l) in
    let r = c.index-records-i.result in
    let x = line_there c.args.lines.now c.lines.i within_l in
    let is_most = c.number_in-most.ensures ∙ ap (number_in c.lines.numbers.entries) c.worker_of-worker.ensures in
    let put = λ (w : ℕ). c.in_ok-put.ensures w
    ∙ ap₂ (λ (v n : ℕ). cond (v == w) n (number_in c.lines.numbers.entries w)) c.worker_of-worker.ensures
    (c.max.ensures ∙ ap (max c.number_in-most.result) c.number-number.ensures) in
    record {
      below = more c.args.lines.now c.args.records.now (λ before earlier l r. g.F.ByEarlier.stands c.args.fact.now earlier r) c.lines.i x.0 r
          c.requires within x.1 c.index-records-i.is c.lines.invariant.below
          ((c.decide-stands.ensures (take c.lines.i c.args.records.now) (is_most ∙ c.lines.invariant.greatest_in r.worker)).0 c.if-not-stands.false);
      greatest_in = greatest_more (g.F.ByEarlier.number c.args.fact.now) c.lines.numbers.entries c.put.new.numbers.entries c.args.records.now c.lines.i r
          c.number_in-most.result within c.index-records-i.is is_most put c.lines.invariant.greatest_in;
    }

pub returns : goal.returns
returns g c =
    let all : length c.args.records.now ≤ c.lines.i = omega (arith, c.requires, c.lines-test.false) in
    let each = below_all c.lines.i (map line_view c.args.lines.now) c.args.records.now
    (λ before earlier l r. g.F.ByEarlier.stands c.args.fact.now earlier r) all c.lines.invariant.below in
    (λ e. each, λ h. refl)
