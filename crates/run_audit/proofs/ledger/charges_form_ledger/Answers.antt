use Rattle.std.proofs.Common.{List, map, sym, subst}
use Rattle.rate_types.specs.Ledger.{Charge}
use Rattle.rate_types.specs.declared.counter_key.CounterKey.{CounterKey}
use Rattle.script_run.specs.Views.{line_view}
use Rattle.run_audit.specs.Shown.{AreInOrder}
use Rattle.run_audit.proofs.ledger.charges_form_ledger.Goals as goal

pub returns : goal.returns
returns c =
    let ls = map line_view c.args.lines.now in
    c.are_ledger-lawful.ensures ls c.args.records.now
    (subst (λ (xs : List (Charge CounterKey)). AreInOrder ls c.args.records.now xs) (sym c.deref.ensures.value) c.in_ok-charges.ensures)
