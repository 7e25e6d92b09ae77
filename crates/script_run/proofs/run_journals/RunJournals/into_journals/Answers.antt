use Rattle.std.proofs.Common.{sym, ap, ◌∙◌}
use Rattle.rate_types.specs.Sums.{total}
use Rattle.script_run.proofs.Ordering.{in_places}
use Rattle.script_run.proofs.run_journals.RunJournals.into_journals.Goals as goal

pub returns : goal.returns
returns c = λ f.
    let stands = in_places c.self.inside.is_lone c.self.inside.lines c.self.inside.journals.items c.self.invariant.0 c.self.invariant.1 in
    ap (total f) (sym c.self.view_is) ∙ stands.1.sums f
