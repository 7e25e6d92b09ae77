use Rattle.std.proofs.Common.{◌==◌, length, map}
use Rattle.std.proofs.lemmas.Bool.Decides.{Decides-eqb}
use Rattle.script_run.specs.Views.{line_view}
use Rattle.run_audit.specs.VersionAt.{config_at}
use Rattle.run_audit.proofs.Tests.{both, renamed}
use Rattle.run_audit.proofs.CausesBy.{exact_lives, full_by, in_turn, no_turn}
use Rattle.run_audit.proofs.refusals.is_full_caused.Goals as goal

pub returns-then-run-ne1 : goal.returns-then-run-ne1
returns-then-run-ne1 c =
    let run = c.args.run.now in
    let numbers = c.args.numbers in
    no_turn run.workers c.both-full.result c.if-run-ne1.true (renamed _ _ c.both-full.ensures
    (full_by (config_at run.configs.now) run.workers run.cells (map line_view run.lines.now) run.records.now (map line_view c.args.before.now)
    c.args.earlier.now c.args.request.now c.args.rec.now numbers.live numbers.held numbers.wanted c.in_ok-besides.besides c.may_live-lives.result
    c.in_ok-besides.ensures c.may_live-lives.ensures))

pub returns : goal.returns
returns c =
    let run = c.args.run.now in
    let numbers = c.args.numbers in
    let configs = config_at run.configs.now in
    let before = map line_view c.args.before.now in
    let first = c.requires.first in
    let exact = both (numbers.held == 0) c.in_ok-room.room (Decides-eqb numbers.held 0) c.in_ok-room.ensures in
    renamed _ _ c.both-stands.ensures
    (in_turn configs run.workers run.cells (map line_view run.lines.now) run.records.now before c.args.earlier.now c.args.request.now c.args.rec.now
    numbers.live numbers.held numbers.wanted c.in_ok-besides.besides c.both-exact.result c.if-run-ne1.false c.in_ok-besides.ensures
    (renamed _ _ c.both-exact.ensures exact)
    (λ lacks. exact_lives configs (map line_view run.lines.now) run.records.now before c.args.earlier.now c.args.rec.now (length before)
    numbers.live first.lines_first first.records_first lacks.needs.lives))
