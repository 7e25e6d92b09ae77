use Rattle.std.proofs.Common.{◌≡◌, List, ◌++◌, ◌∷◌, [], map, sym, ap, ◌∙◌, subst}
use Rattle.std.proofs.lemmas.List.{map-append}
use Rattle.reply_text.specs.Shown.{Shown}
use Rattle.run_text.specs.Reading.{IsRecordText}
use Rattle.run_text.specs.ReadTo.{ReadTo}
use Rattle.run_text.specs.Views.{shown_of}
use Rattle.run_text.proofs.RunTexts.{read_more}
use Rattle.run_text.proofs.run.read_records.Goals as goal

pub lines-preserved : goal.lines-preserved
lines-preserved c =
    let new : map shown_of c.push.new.self.items ≡ map shown_of c.lines.records.items ++ shown_of c.in-Some.said ∷ [] =
    ap (map shown_of) c.in_ok-push.ensures.items ∙ map-append shown_of c.lines.records.items (c.in-Some.said ∷ []) in
    subst (λ (xs : List Shown). ReadTo IsRecordText c.args.bytes.now c.cut_line.result.1.now xs) (sym new)
    (read_more IsRecordText c.args.bytes.now c.lines.rest.now c.cut_line.result.0.now c.cut_line.result.1.now (map shown_of c.lines.records.items)
    (shown_of c.in-Some.said) c.lines.invariant c.cut_line.ensures.cut (rw c.in-Some.is at c.in_ok-said.ensures.some))
