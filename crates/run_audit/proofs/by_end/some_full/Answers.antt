use Rattle.std.proofs.Common.{◌≡◌, ◌<◌, ℕ, length, get_or, false, sym, ap, ◌∙◌, subst, arith, inl, inr}
use Rattle.std.proofs.lemmas.Bool.{cases_eq}
use Rattle.std.proofs.lemmas.List.{get_or_default}
use Rattle.reply_text.specs.declared.record.Record.{Record}
use Rattle.run_audit.specs.Bound.{lacks_cells}
use Rattle.run_audit.proofs.by_end.some_full.Goals as goal

pub records-preserved : goal.records-preserved
records-preserved c = λ k d below.
    let rs = c.args.records.now in
    let i = c.records.i in
    let r = c.index-records-i.result in
    let within : i < length rs = omega arith in
    elim (cases_eq k i) [
      | inl e ↦
          subst (λ (j : ℕ). lacks_cells (get_or rs j d).outcome ≡ false) (sym e)
          (ap (λ (x : Record). lacks_cells x.outcome) (get_or_default rs i d r within ∙ sym c.index-records-i.is)
          ∙ sym c.lacks_cells.ensures ∙ c.if-lacks_cells.false)
      | inr other ↦ c.records.invariant k d (omega (arith, below))
    ]
