use Rattle.std.proofs.Common.{length, sym, ap, ◌∙◌}
use Rattle.reply_text.specs.declared.record.Record.{Record}
use Rattle.script_run.proofs.Ordering.{in_places}
use Rattle.script_run.proofs.run_journals.RunJournals.len.Goals as goal

pub returns : goal.returns
returns c =
    let stands = in_places c.self.inside.is_lone c.self.inside.lines c.self.inside.journals.items c.self.invariant.0 c.self.invariant.1 in
    sym (ap (length {A = Record}) (sym c.self.view_is) ∙ stands.1.as_many)
