use Rattle.std.proofs.Common.{◌≡◌, ◌∙◌, ℕ, map, ap}
use Rattle.script_run.specs.Charges.{ledger_of}
use Rattle.script_run.specs.Moments.{moment_after}
use Rattle.script_run.specs.Views.{line_view}
use Rattle.run_audit.specs.Closing.{give_totals}
use Rattle.run_audit.proofs.TotalsBy.{totals_by}
use Rattle.run_audit.proofs.totals.are_totals_of.Goals as goal

pub returns : goal.returns
returns c = λ records order ledger.
    let ls = map line_view c.args.lines.now in
    let is : c.give_totals.result ≡ give_totals (moment_after c.args.start ls) c.args.charges.now c.args.totals.now =
    c.give_totals.ensures
    ∙ ap (λ (m : ℕ). give_totals m c.args.charges.now c.args.totals.now) c.moment_after-moment.ensures in
    totals_by (moment_after c.args.start ls) (ledger_of ls records) c.args.charges.now c.args.totals.now
    c.give_totals.result order.same order.sorted ledger is
