use Rattle.std.proofs.Common.{List, sym, subst}
use Rattle.rls_core.specs.declared.totals.Total.{Total}
use Rattle.run_text.specs.Reading.{IsTotalText}
use Rattle.run_text.specs.ReadTo.{ReadTo}
use Rattle.run_text.proofs.RunTexts.{read_more}
use Rattle.run_text.proofs.run.read_totals.Goals as goal

pub lines-preserved : goal.lines-preserved
lines-preserved c =
    subst (λ (xs : List Total). ReadTo IsTotalText c.args.bytes.now c.cut_line.result.1.now xs) (sym c.in_ok-push.ensures.items)
    (read_more IsTotalText c.args.bytes.now c.lines.rest.now c.cut_line.result.0.now c.cut_line.result.1.now c.lines.totals.items
    c.in-Some.total c.lines.invariant c.cut_line.ensures.cut (rw c.in-Some.is at c.in_ok-total.ensures.some))
