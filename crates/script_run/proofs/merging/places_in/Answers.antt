use Rattle.std.proofs.Common.{◌≤◌, List, sym, ap, ◌∙◌, subst}
use Rattle.std.specs.List.{AllByRecursion}
use Rattle.reply_text.specs.declared.record.Record.{Record}
use Rattle.script_run.specs.RunRecords.{all_put}
use Rattle.script_run.proofs.Spreading.{journal_within, journal_put}
use Rattle.script_run.proofs.merging.places_in.Goals as goal

pub put-requires : goal.put-requires
put-requires c =
    let journal : List Record = c.index-journals-number.result in
    let within = journal_within (λ r. (1 ≤ r.line) × (r.line ≤ c.args.lines)) c.args.journals.now c.journals.number journal c.journals-test.true c.index-journals-number.is
    c.requires.once.within in
    subst (λ l. AllByRecursion (λ (r : Record). (1 ≤ r.line) × (r.line ≤ c.journals.places.len)) l) (sym c.items.ensures)
    (subst (λ n. AllByRecursion (λ (r : Record). (1 ≤ r.line) × (r.line ≤ n)) journal) (sym c.journals.invariant.len) within)

pub journals-preserved : goal.journals-preserved
journals-preserved c =
    let journal : List Record = c.index-journals-number.result in
    let put = c.put.ensures ∙ ap (all_put c.journals.number 0 c.journals.places.items) c.items.ensures in
    let more = journal_put c.args.journals.now c.journals.number journal c.journals.places.items c.put.new.places.items c.journals-test.true c.index-journals-number.is put in
    record {
      len = c.put.new.places.ok.0 ∙ more.1 ∙ sym c.journals.places.ok.0 ∙ c.journals.invariant.len;
      left = more.0 ∙ c.journals.invariant.left;
    }
