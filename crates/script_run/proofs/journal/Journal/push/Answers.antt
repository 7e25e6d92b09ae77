use Rattle.std.proofs.Common.{◌≡◌, ◌∷◌, ◌++◌, [], ◌+◌, List, length, true, false, true≢false, sym, ap, ◌∙◌, subst, arith}
use Rattle.std.proofs.lemmas.Grind.{common_steps}
use Rattle.reply_text.specs.declared.record.Record.{Record}
use Rattle.script_run.specs.Journals.{AreNumbered, AreShort}
use Rattle.script_run.proofs.Journals.{numbered_push, short_push}
use Rattle.script_run.proofs.journal.Journal.push.Goals.{then-self, else-self, then-self-2, else-self-2}
use Rattle.script_run.proofs.journal.Journal.push.Goals as goal

pub invariant_of-self-2 : goal.invariant_of-self-2
invariant_of-self-2 c =
    let rs : List Record = c.self.inside.records.items in
    let one : Record = c.args.rec in (
      λ yes. subst AreNumbered (sym c.in_ok-push.ensures.items) (elim c.if-self.branch [
        | then-self w ↦ numbered_push rs one (c.self.invariant.0 w.if-self.true) (let line : one.line ≡ length rs + 1 = grind (arith, common_steps) in line)
        | else-self w ↦ absurd (true≢false (sym yes ∙ w.is_numbered-is ∙ w.if-self.false))
      ]),
      λ yes. subst AreShort (sym c.in_ok-push.ensures.items) (elim c.if-self-2.branch [
        | then-self-2 w ↦ short_push rs one (c.self.invariant.1 w.if-self-2.true) (w.is_short-is_short.ensures.0 (sym w.is_short-is ∙ yes))
        | else-self-2 w ↦ absurd (true≢false (sym yes ∙ w.is_short-is ∙ w.if-self-2.false))
      ]),
    )
