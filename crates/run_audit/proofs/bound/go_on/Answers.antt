use Rattle.std.proofs.Common.{◌≤◌, ℕ, List, length, map, sym, ap₂, ◌∙◌, arith}
use Rattle.std.proofs.lemmas.List.{length-map, take_all}
use Rattle.reply_text.specs.declared.record.Record.{Record}
use Rattle.script_run.specs.ScriptLine.{ScriptLine}
use Rattle.script_run.specs.Sequential.{is_bound}
use Rattle.script_run.specs.Views.{line_view}
use Rattle.run_audit.specs.Bound.{KeepBound}
use Rattle.run_audit.specs.VersionAt.{config_at}
use Rattle.run_audit.proofs.Room.{left_bound, left_keep}
use Rattle.run_audit.proofs.bound.go_on.Goals as goal

pub put_bound-requires-clause-within : goal.put_bound-requires-clause-within
put_bound-requires-clause-within c =
    let u = c.go_back.ensures.up_to (config_at c.args.configs.now) (map line_view c.args.before.now) c.args.earlier.now c.requires.up_to in
    omega (arith, u.within, length-map c.args.before.now line_view)

pub returns-clause-up_to : goal.returns-clause-up_to
returns-clause-up_to c =
    let configs = config_at c.args.configs.now in
    let ls = map line_view c.args.before.now in
    let rs = c.args.earlier.now in
    let n = length c.args.before.now in
    let u = c.go_back.ensures.up_to configs ls rs c.requires.up_to in
    let keep : (m : ℕ) → c.args.moment ≤ m → KeepBound configs ls rs m c.put_bound.new.counters.keys
    = λ m h. c.in_ok-put_bound.ensures m (u.keep m (omega (arith, h, c.go_back.ensures.moment))) in
    let left = left_keep configs ls rs c.args.moment c.put_bound.new.counters.keys c.keep_open.new.counters.keys c.keep_open.ensures keep in
    record {
      within = omega (arith, length-map c.args.before.now line_view);
      keep = λ m h q. left m (omega (arith, h, c.get-bound.ensures.value)) q
          ∙ ap₂ (λ (x : List ScriptLine) (y : List Record). is_bound configs x y m q)
          (sym (take_all n ls (omega (arith, length-map c.args.before.now line_view)))) (sym (take_all n rs (omega (arith, c.requires.as_many))));
    }

pub returns-clause-bound : goal.returns-clause-bound
returns-clause-bound c =
    let configs = config_at c.args.configs.now in
    let ls = map line_view c.args.before.now in
    let rs = c.args.earlier.now in
    let u = c.go_back.ensures.up_to configs ls rs c.requires.up_to in
    let keep : (m : ℕ) → c.args.moment ≤ m → KeepBound configs ls rs m c.put_bound.new.counters.keys
    = λ m h. c.in_ok-put_bound.ensures m (u.keep m (omega (arith, h, c.go_back.ensures.moment))) in
    left_bound configs ls rs c.args.moment c.put_bound.new.counters.keys c.keep_open.new.counters.keys c.keep_open.ensures keep
