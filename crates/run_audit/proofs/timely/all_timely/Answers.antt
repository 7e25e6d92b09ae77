use Rattle.std.proofs.Common.{◌≡◌, ℕ, ◌+◌, ◌<◌, ◌≤◌, ◌==◌, cond, length, map, true, false, refl, sym, ap, ◌∙◌, arith}
use Rattle.script_run.specs.Moments.{offer_of, IsTimely}
use Rattle.script_run.specs.Views.{line_view}
use Rattle.run_audit.specs.Ticks.{ticks_in}
use Rattle.run_audit.proofs.Each.{here, more, below_none, below_all}
use Rattle.run_audit.proofs.TickCounts.{ticks_few}
use Rattle.run_audit.proofs.TimelyRuns.{one_timely, counted_more}
use Rattle.run_audit.proofs.timely.all_timely.Goals as goal

false_true : false ≡ true → ⊥
false_true e = cc

pub lines-init : goal.lines-init
lines-init c = record {
  below = below_none (map line_view c.args.lines.now) c.args.records.now
      (λ before earlier l r. IsTimely c.args.start (map line_view c.args.lines.now) c.args.records.now before earlier l r);
  counted = λ m w. ap (λ es. ticks_in es m w) c.new-sooner.ensures.empty;
}

pub add_tick-requires : goal.add_tick-requires
add_tick-requires c = λ m.
    omega (
      arith,
      c.lines.invariant.counted m c.worker_of-worker.result,
      ticks_few (λ v. v == c.worker_of-worker.result) m c.lines.i c.args.lines.now c.args.records.now c.lines-test.true,
    )

pub returns-then-not-timely : goal.returns-then-not-timely
returns-then-not-timely c =
    let ls = c.args.lines.now in
    let rs = c.args.records.now in
    let x = c.index-lines-i.result in
    let r = c.index-records-i.result in
    let old = c.lines.sooner.entries in
    let new = c.add_tick.new.ticks.entries in
    let within : c.lines.i < length ls = c.lines-test.true in
    let within_r : c.lines.i < length rs = omega (arith, c.requires, within) in
    let added = λ (m w : ℕ). c.in_ok-add_tick.ensures m w
    ∙ ap (λ (v : ℕ). ticks_in old m w + cond (v == w) (offer_of m (line_view x)) 0) c.worker_of-worker.ensures in
    let d = one_timely c.args.start c.in_ok-all.all.entries c.in_ok-own.own.entries old new ls rs c.lines.i x r c.is_late_enough-late.result
    c.has_source-source.result c.both-timely.result c.requires within c.in_ok-all.ensures c.in_ok-own.ensures c.lines.invariant.counted added
    c.is_late_enough-late.ensures c.has_source-source.ensures c.both-timely.ensures in (
      λ e. absurd (false_true e),
      λ each.
          let fact = here ls rs (λ before earlier l r. IsTimely c.args.start (map line_view ls) rs before earlier l r) c.lines.i x r c.requires within_r
          c.index-lines-i.is c.index-records-i.is each in
          absurd (false_true (sym c.if-not-timely.true ∙ d.1 fact)),
    )

pub lines-preserved : goal.lines-preserved
lines-preserved c =
    let ls = c.args.lines.now in
    let rs = c.args.records.now in
    let x = c.index-lines-i.result in
    let r = c.index-records-i.result in
    let old = c.lines.sooner.entries in
    let new = c.add_tick.new.ticks.entries in
    let within : c.lines.i < length ls = c.lines-test.true in
    let within_r : c.lines.i < length rs = omega (arith, c.requires, within) in
    let added = λ (m w : ℕ). c.in_ok-add_tick.ensures m w
    ∙ ap (λ (v : ℕ). ticks_in old m w + cond (v == w) (offer_of m (line_view x)) 0) c.worker_of-worker.ensures in
    let d = one_timely c.args.start c.in_ok-all.all.entries c.in_ok-own.own.entries old new ls rs c.lines.i x r c.is_late_enough-late.result
    c.has_source-source.result c.both-timely.result c.requires within c.in_ok-all.ensures c.in_ok-own.ensures c.lines.invariant.counted added
    c.is_late_enough-late.ensures c.has_source-source.ensures c.both-timely.ensures in
    record {
      below = more ls rs (λ before earlier l r. IsTimely c.args.start (map line_view ls) rs before earlier l r) c.lines.i x r c.requires within_r
          c.index-lines-i.is c.index-records-i.is c.lines.invariant.below (d.0 c.if-not-timely.false);
      counted = counted_more old new ls rs c.lines.i x r c.requires within c.index-lines-i.is c.index-records-i.is c.lines.invariant.counted added;
    }

pub returns : goal.returns
returns c =
    let all : length c.args.records.now ≤ c.lines.i = omega (arith, c.requires, c.lines-test.false) in
    let each = below_all c.lines.i (map line_view c.args.lines.now) c.args.records.now
    (λ before earlier l r. IsTimely c.args.start (map line_view c.args.lines.now) c.args.records.now before earlier l r) all c.lines.invariant.below in
    (λ e. each, λ h. refl)
