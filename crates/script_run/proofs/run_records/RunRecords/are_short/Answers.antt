use Rattle.std.proofs.Common.{List, option_map, subst}
use Rattle.std.specs.List.{AllByRecursion}
use Rattle.reply_text.specs.declared.record.Record.{Record}
use Rattle.script_run.specs.Journals.{AreShort}
use Rattle.script_run.proofs.Journals.{ordered_short}
use Rattle.script_run.proofs.run_records.RunRecords.are_short.Goals as goal

pub returns : goal.returns
returns c = λ all.
    subst AreShort c.self.view_is
    (ordered_short c.self.inside.journals.items (option_map (λ p. p.items) c.self.inside.places)
    (subst (λ (js : List (List Record)). AllByRecursion AreShort js) c.deref.ensures.value (c.all_short.ensures all)) c.self.invariant)
