use Rattle.std.proofs.Common.{◌<◌, ◌≤◌, ◌+◌, ◌||◌, ◌&&◌, Bool, List, drop, length, map, sym, ap, ap₂, ◌∙◌, arith}
use Rattle.std.proofs.lemmas.List.{length-map}
use Rattle.rate_types.specs.declared.counter_key.CounterKey.{CounterKey}
use Rattle.script_run.specs.Named.{counters_tried, is_among}
use Rattle.script_run.specs.Views.{line_view}
use Rattle.run_audit.specs.Asked.{is_asked, is_told}
use Rattle.run_audit.specs.ByEnd.{Binders, binder_at, binder_by, is_asked_of}
use Rattle.run_audit.specs.VersionAt.{config_at}
use Rattle.run_audit.specs.declared.binder.Binder.{Binder}
use Rattle.run_audit.proofs.Gates.{grouped, or_false}
use Rattle.run_audit.proofs.NamedBy.{from_first, left, no_more_lines, one_more_line}
use Rattle.run_audit.proofs.named_counters.named_counters.Goals as goal

pub lines-init : goal.lines-init
lines-init c = λ asked q.
    ap (λ (b : Binders). is_asked_of asked (binder_at b q)
    || is_told (left asked 0) (config_at c.args.configs.now) (map line_view c.args.lines.now) c.args.records.now q) c.new-counters.ensures.empty
    ∙ from_first asked (config_at c.args.configs.now) (map line_view c.args.lines.now) c.args.records.now q

pub lines-preserved : goal.lines-preserved
lines-preserved c =
    let configs = config_at c.args.configs.now in
    let ls = c.args.lines.now in
    let rs = c.args.records.now in
    let i = c.lines.i in
    let r = c.index-records-i.result in
    let x = c.index-lines-i.result in
    let within_l : i < length ls = omega arith in
    let within_r : i < length rs = omega (arith, c.requires, within_l) in
    λ asked q.
    let had = is_asked_of asked (binder_at c.lines.counters.entries q) in
    let rest = is_told (left asked (i + 1)) configs (drop (i + 1) (map line_view ls)) (drop (i + 1) rs) q in
    ap (λ (b : Bool). b || rest) (c.in_ok-add_all.ensures asked q
    ∙ ap₂ (λ (b : Binder) (l : List CounterKey). had || (is_asked asked b && is_among l q)) c.binder_by-binder.ensures c.in_ok-named.ensures)
    ∙ grouped had (is_asked asked (binder_by r.worker i r.outcome) && is_among (counters_tried (configs r.version) (line_view x) r.moment) q) rest
    ∙ ap (λ (b : Bool). had || b) (sym (one_more_line asked configs i ls rs x r q within_l within_r c.index-lines-i.is c.index-records-i.is))
    ∙ c.lines.invariant asked q

pub returns : goal.returns
returns c =
    let configs = config_at c.args.configs.now in
    let ls = c.args.lines.now in
    let rs = c.args.records.now in
    let over : length ls ≤ c.lines.i = omega arith in
    λ asked q. sym (or_false (is_asked_of asked (binder_at c.lines.counters.entries q))
    (is_told (left asked c.lines.i) configs (drop c.lines.i (map line_view ls)) (drop c.lines.i rs) q)
    (no_more_lines asked configs c.lines.i (map line_view ls) rs q (omega (arith, length-map ls line_view, over)) (omega (arith, c.requires, over))))
    ∙ c.lines.invariant asked q
