use Rattle.std.proofs.Common.{List, Option, Some, option_map, sym, ap, ◌∙◌, subst}
use Rattle.reply_text.specs.declared.record.Record.{Record}
use Rattle.script_run.specs.RunRecords.{IsOrder, order_of, places_of}
use Rattle.script_run.specs.declared.run_records.RecordPlace.{RecordPlace}
use Rattle.script_run.proofs.Ordering.{in_places}
use Rattle.script_run.proofs.run_journals.RunJournals.in_order.Goals.{then-is_lone, else-is_lone+in_ok-places_in}
use Rattle.script_run.proofs.run_journals.RunJournals.in_order.Goals as goal

pub of-requires : goal.of-requires
of-requires c =
    let js : List (List Record) = c.self.inside.journals.items in
    let lines = c.self.inside.lines in
    let stands = in_places c.self.inside.is_lone lines js c.self.invariant.0 c.self.invariant.1 in
    elim c.if-is_lone.branch [
      | then-is_lone w ↦ subst (λ (o : Option (List RecordPlace)). IsOrder js o)
          (ap (λ b. order_of b lines js) w.if-is_lone.true ∙ sym (ap (option_map (λ p. p.items)) w.places-is)) stands.0
      | else-is_lone+in_ok-places_in w ↦ subst (λ (o : Option (List RecordPlace)). IsOrder js o)
          (ap (λ b. order_of b lines js) w.if-is_lone.false
          ∙ sym (ap (option_map (λ p. p.items)) w.places-is ∙ ap Some (w.in_ok-places_in.ensures ∙ ap (places_of lines) w.deref.ensures.value))) stands.0
    ]
