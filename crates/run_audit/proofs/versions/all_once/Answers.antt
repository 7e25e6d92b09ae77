use Rattle.std.proofs.Common.{◌≡◌, ◌+◌, ◌==◌, ◌&&◌, false, true, refl, sym, ◌∙◌, subst, arith, inl, inr}
use Rattle.std.specs.Prelude.{count_by}
use Rattle.std.proofs.lemmas.Bool.{cases_eq}
use Rattle.script_run.specs.Versions.{is_installed}
use Rattle.run_audit.proofs.versions.all_once.Goals as goal

false_true : false ≡ true → ⊥
false_true e = cc

pub returns-then-number_in-ne1 : goal.returns-then-number_in-ne1
returns-then-number_in-ne1 c = (
  λ e. absurd (false_true e),
  λ h.
      absurd (c.if-number_in-ne1.true (c.number_in.ensures ∙ c.in_ok-counts.ensures (c.versions.k + 1) ∙ h (c.versions.k + 1) (omega arith) (omega arith))),
)

pub versions-preserved : goal.versions-preserved
versions-preserved c = λ v some most. elim (cases_eq v (c.versions.k + 1)) [
  | inl e ↦ subst (λ n. count_by (λ r. is_installed r.outcome && (r.version == n)) c.args.records.now ≡ 1) (sym e)
      (sym (c.number_in.ensures ∙ c.in_ok-counts.ensures (c.versions.k + 1)) ∙ c.if-number_in-ne1.false)
  | inr other ↦ c.versions.invariant v some (omega arith)
]

pub returns : goal.returns
returns c = (λ e v some most. c.versions.invariant v some (omega arith), λ h. refl)
