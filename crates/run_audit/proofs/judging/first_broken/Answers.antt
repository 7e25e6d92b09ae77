use Rattle.std.proofs.Common.{List, map, sym, subst}
use Rattle.std.specs.Arc.{arc_value}
use Rattle.rate_types.specs.Ledger.{Charge}
use Rattle.rate_types.specs.declared.counter_key.CounterKey.{CounterKey}
use Rattle.descriptor_tree.specs.Views.{config_view}
use Rattle.script_run.specs.Versions.{version_in}
use Rattle.script_run.specs.Views.{line_view}
use Rattle.run_audit.specs.Shown.{AreInOrder}
use Rattle.run_audit.specs.Verdict.{PrintedRun}
use Rattle.run_audit.specs.VersionAt.{config_at}
use Rattle.run_audit.proofs.Verdicts.{First, lawful, first_1, first_2, first_3, first_4, first_5, first_6, first_7, first_8, first_14, fails, ruled_in, caused_in}
use Rattle.run_audit.proofs.judging.first_broken.Goals as goal

pub returns-then-not-one : goal.returns-then-not-one
returns-then-not-one c =
    let lines = map line_view c.args.lines.now in
    let records = c.args.records.now in
    let first = config_view (arc_value c.args.first.now) in
    let run : PrintedRun = record { first = first; setup = c.args.setup; lines = lines; records = records; totals = c.args.totals.now } in
    first_1 run (fails _ c.one_record_per_line-one.ensures c.if-not-one.true)

pub returns-then-not-numbered : goal.returns-then-not-numbered
returns-then-not-numbered c =
    let lines = map line_view c.args.lines.now in
    let records = c.args.records.now in
    let first = config_view (arc_value c.args.first.now) in
    let run : PrintedRun = record { first = first; setup = c.args.setup; lines = lines; records = records; totals = c.args.totals.now } in
    first_2 run (c.one_record_per_line-one.ensures.0 c.if-not-one.false) (fails _ c.in_ok-numbered.ensures c.if-not-numbered.true)

pub returns-then-not-ruled : goal.returns-then-not-ruled
returns-then-not-ruled c =
    let lines = map line_view c.args.lines.now in
    let records = c.args.records.now in
    let first = config_view (arc_value c.args.first.now) in
    let run : PrintedRun = record { first = first; setup = c.args.setup; lines = lines; records = records; totals = c.args.totals.now } in
    let ruled = ruled_in (config_at c.in_ok-configs.configs) (version_in first lines records) c.args.setup.global_shadow lines records
    c.replies_by_rule-ruled.result c.in_ok-configs.ensures c.replies_by_rule-ruled.ensures in
    first_3 run (c.one_record_per_line-one.ensures.0 c.if-not-one.false) (c.in_ok-numbered.ensures.0 c.if-not-numbered.false) (fails _ ruled c.if-not-ruled.true)

pub returns-then-not-rising : goal.returns-then-not-rising
returns-then-not-rising c =
    let lines = map line_view c.args.lines.now in
    let records = c.args.records.now in
    let first = config_view (arc_value c.args.first.now) in
    let run : PrintedRun = record { first = first; setup = c.args.setup; lines = lines; records = records; totals = c.args.totals.now } in
    let ruled = ruled_in (config_at c.in_ok-configs.configs) (version_in first lines records) c.args.setup.global_shadow lines records
    c.replies_by_rule-ruled.result c.in_ok-configs.ensures c.replies_by_rule-ruled.ensures in
    first_4 run (c.one_record_per_line-one.ensures.0 c.if-not-one.false) (c.in_ok-numbered.ensures.0 c.if-not-numbered.false) (ruled.0 c.if-not-ruled.false)
    (fails _ c.in_ok-rising.ensures c.if-not-rising.true)

pub returns-then-not-timely : goal.returns-then-not-timely
returns-then-not-timely c =
    let lines = map line_view c.args.lines.now in
    let records = c.args.records.now in
    let first = config_view (arc_value c.args.first.now) in
    let run : PrintedRun = record { first = first; setup = c.args.setup; lines = lines; records = records; totals = c.args.totals.now } in
    let ruled = ruled_in (config_at c.in_ok-configs.configs) (version_in first lines records) c.args.setup.global_shadow lines records
    c.replies_by_rule-ruled.result c.in_ok-configs.ensures c.replies_by_rule-ruled.ensures in
    first_5 run (c.one_record_per_line-one.ensures.0 c.if-not-one.false) (c.in_ok-numbered.ensures.0 c.if-not-numbered.false) (ruled.0 c.if-not-ruled.false)
    (c.in_ok-rising.ensures.0 c.if-not-rising.false) (fails _ c.in_ok-timely.ensures c.if-not-timely.true)

pub returns-then-not-ledger : goal.returns-then-not-ledger
returns-then-not-ledger c =
    let lines = map line_view c.args.lines.now in
    let records = c.args.records.now in
    let first = config_view (arc_value c.args.first.now) in
    let run : PrintedRun = record { first = first; setup = c.args.setup; lines = lines; records = records; totals = c.args.totals.now } in
    let order = subst (λ (xs : List (Charge CounterKey)). AreInOrder lines records xs) (sym c.deref.ensures.value) c.in_ok-charges.ensures in
    let ledger = c.are_ledger-ledger.ensures lines records order in
    let ruled = ruled_in (config_at c.in_ok-configs.configs) (version_in first lines records) c.args.setup.global_shadow lines records
    c.replies_by_rule-ruled.result c.in_ok-configs.ensures c.replies_by_rule-ruled.ensures in
    first_6 run (c.one_record_per_line-one.ensures.0 c.if-not-one.false) (c.in_ok-numbered.ensures.0 c.if-not-numbered.false) (ruled.0 c.if-not-ruled.false)
    (c.in_ok-rising.ensures.0 c.if-not-rising.false) (c.in_ok-timely.ensures.0 c.if-not-timely.false)
    (fails _ ledger c.if-not-ledger.true)

pub returns-then-not-seen : goal.returns-then-not-seen
returns-then-not-seen c =
    let lines = map line_view c.args.lines.now in
    let records = c.args.records.now in
    let first = config_view (arc_value c.args.first.now) in
    let run : PrintedRun = record { first = first; setup = c.args.setup; lines = lines; records = records; totals = c.args.totals.now } in
    let order = subst (λ (xs : List (Charge CounterKey)). AreInOrder lines records xs) (sym c.deref.ensures.value) c.in_ok-charges.ensures in
    let ledger = c.are_ledger-ledger.ensures lines records order in
    let ruled = ruled_in (config_at c.in_ok-configs.configs) (version_in first lines records) c.args.setup.global_shadow lines records
    c.replies_by_rule-ruled.result c.in_ok-configs.ensures c.replies_by_rule-ruled.ensures in
    let six : First run = record {
      one = c.one_record_per_line-one.ensures.0 c.if-not-one.false;
      two = c.in_ok-numbered.ensures.0 c.if-not-numbered.false;
      three = ruled.0 c.if-not-ruled.false;
      four = c.in_ok-rising.ensures.0 c.if-not-rising.false;
      five = c.in_ok-timely.ensures.0 c.if-not-timely.false;
      six = ledger.0 c.if-not-ledger.false;
    } in
    first_7 run six (λ h. fails _ c.in_ok-seen.ensures c.if-not-seen.true h.0)

pub returns-then-not-fair : goal.returns-then-not-fair
returns-then-not-fair c =
    let lines = map line_view c.args.lines.now in
    let records = c.args.records.now in
    let first = config_view (arc_value c.args.first.now) in
    let run : PrintedRun = record { first = first; setup = c.args.setup; lines = lines; records = records; totals = c.args.totals.now } in
    let order = subst (λ (xs : List (Charge CounterKey)). AreInOrder lines records xs) (sym c.deref.ensures.value) c.in_ok-charges.ensures in
    let ledger = c.are_ledger-ledger.ensures lines records order in
    let ruled = ruled_in (config_at c.in_ok-configs.configs) (version_in first lines records) c.args.setup.global_shadow lines records
    c.replies_by_rule-ruled.result c.in_ok-configs.ensures c.replies_by_rule-ruled.ensures in
    let six : First run = record {
      one = c.one_record_per_line-one.ensures.0 c.if-not-one.false;
      two = c.in_ok-numbered.ensures.0 c.if-not-numbered.false;
      three = ruled.0 c.if-not-ruled.false;
      four = c.in_ok-rising.ensures.0 c.if-not-rising.false;
      five = c.in_ok-timely.ensures.0 c.if-not-timely.false;
      six = ledger.0 c.if-not-ledger.false;
    } in
    first_7 run six (λ h. fails _ c.in_ok-fair.ensures c.if-not-fair.true h.1)

pub returns-then-not-caused : goal.returns-then-not-caused
returns-then-not-caused c =
    let lines = map line_view c.args.lines.now in
    let records = c.args.records.now in
    let first = config_view (arc_value c.args.first.now) in
    let run : PrintedRun = record { first = first; setup = c.args.setup; lines = lines; records = records; totals = c.args.totals.now } in
    let order = subst (λ (xs : List (Charge CounterKey)). AreInOrder lines records xs) (sym c.deref.ensures.value) c.in_ok-charges.ensures in
    let ledger = c.are_ledger-ledger.ensures lines records order in
    let ruled = ruled_in (config_at c.in_ok-configs.configs) (version_in first lines records) c.args.setup.global_shadow lines records
    c.replies_by_rule-ruled.result c.in_ok-configs.ensures c.replies_by_rule-ruled.ensures in
    let six : First run = record {
      one = c.one_record_per_line-one.ensures.0 c.if-not-one.false;
      two = c.in_ok-numbered.ensures.0 c.if-not-numbered.false;
      three = ruled.0 c.if-not-ruled.false;
      four = c.in_ok-rising.ensures.0 c.if-not-rising.false;
      five = c.in_ok-timely.ensures.0 c.if-not-timely.false;
      six = ledger.0 c.if-not-ledger.false;
    } in
    let caused = caused_in (config_at c.in_ok-configs.configs) (version_in first lines records) c.args.setup.workers c.args.setup.cells lines records
    c.in_ok-caused.caused c.in_ok-configs.ensures c.in_ok-caused.ensures in
    first_8 run six (c.in_ok-seen.ensures.0 c.if-not-seen.false, c.in_ok-fair.ensures.0 c.if-not-fair.false) (fails _ caused c.if-not-caused.true)

pub returns-then-not-summed : goal.returns-then-not-summed
returns-then-not-summed c =
    let lines = map line_view c.args.lines.now in
    let records = c.args.records.now in
    let first = config_view (arc_value c.args.first.now) in
    let run : PrintedRun = record { first = first; setup = c.args.setup; lines = lines; records = records; totals = c.args.totals.now } in
    let order = subst (λ (xs : List (Charge CounterKey)). AreInOrder lines records xs) (sym c.deref.ensures.value) c.in_ok-charges.ensures in
    let ledger = c.are_ledger-ledger.ensures lines records order in
    let ruled = ruled_in (config_at c.in_ok-configs.configs) (version_in first lines records) c.args.setup.global_shadow lines records
    c.replies_by_rule-ruled.result c.in_ok-configs.ensures c.replies_by_rule-ruled.ensures in
    let six : First run = record {
      one = c.one_record_per_line-one.ensures.0 c.if-not-one.false;
      two = c.in_ok-numbered.ensures.0 c.if-not-numbered.false;
      three = ruled.0 c.if-not-ruled.false;
      four = c.in_ok-rising.ensures.0 c.if-not-rising.false;
      five = c.in_ok-timely.ensures.0 c.if-not-timely.false;
      six = ledger.0 c.if-not-ledger.false;
    } in
    let last = subst (λ (xs : List (Charge CounterKey)). AreInOrder lines records xs) (sym c.deref-2.ensures.value) c.in_ok-charges.ensures in
    let summed = c.are_totals_of-summed.ensures records last (ledger.0 c.if-not-ledger.false) in
    let caused = caused_in (config_at c.in_ok-configs.configs) (version_in first lines records) c.args.setup.workers c.args.setup.cells lines records
    c.in_ok-caused.caused c.in_ok-configs.ensures c.in_ok-caused.ensures in
    first_14 run six (c.in_ok-seen.ensures.0 c.if-not-seen.false, c.in_ok-fair.ensures.0 c.if-not-fair.false) (caused.0 c.if-not-caused.false)
    (fails _ summed c.if-not-summed.true)

pub returns : goal.returns
returns c =
    let lines = map line_view c.args.lines.now in
    let records = c.args.records.now in
    let first = config_view (arc_value c.args.first.now) in
    let run : PrintedRun = record { first = first; setup = c.args.setup; lines = lines; records = records; totals = c.args.totals.now } in
    let order = subst (λ (xs : List (Charge CounterKey)). AreInOrder lines records xs) (sym c.deref.ensures.value) c.in_ok-charges.ensures in
    let ledger = c.are_ledger-ledger.ensures lines records order in
    let ruled = ruled_in (config_at c.in_ok-configs.configs) (version_in first lines records) c.args.setup.global_shadow lines records
    c.replies_by_rule-ruled.result c.in_ok-configs.ensures c.replies_by_rule-ruled.ensures in
    let six : First run = record {
      one = c.one_record_per_line-one.ensures.0 c.if-not-one.false;
      two = c.in_ok-numbered.ensures.0 c.if-not-numbered.false;
      three = ruled.0 c.if-not-ruled.false;
      four = c.in_ok-rising.ensures.0 c.if-not-rising.false;
      five = c.in_ok-timely.ensures.0 c.if-not-timely.false;
      six = ledger.0 c.if-not-ledger.false;
    } in
    let last = subst (λ (xs : List (Charge CounterKey)). AreInOrder lines records xs) (sym c.deref-2.ensures.value) c.in_ok-charges.ensures in
    let summed = c.are_totals_of-summed.ensures records last (ledger.0 c.if-not-ledger.false) in
    let caused = caused_in (config_at c.in_ok-configs.configs) (version_in first lines records) c.args.setup.workers c.args.setup.cells lines records
    c.in_ok-caused.caused c.in_ok-configs.ensures c.in_ok-caused.ensures in
    lawful run six (c.in_ok-seen.ensures.0 c.if-not-seen.false, c.in_ok-fair.ensures.0 c.if-not-fair.false) (caused.0 c.if-not-caused.false)
    (summed.0 c.if-not-summed.false)

pub sights_lawful-requires-clause-ledger : goal.sights_lawful-requires-clause-ledger
sights_lawful-requires-clause-ledger c =
    let lines = map line_view c.args.lines.now in
    let records = c.args.records.now in
    let order = subst (λ (xs : List (Charge CounterKey)). AreInOrder lines records xs) (sym c.deref.ensures.value) c.in_ok-charges.ensures in
    (c.are_ledger-ledger.ensures lines records order).0 c.if-not-ledger.false
