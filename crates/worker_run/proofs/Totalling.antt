-- The totals that a closed limiter answers are those of the records.
use Rattle.std.proofs.Common.{◌≡◌, ℕ, List, [], cond, sym, subst}
use Rattle.std.specs.List.{AllByRecursion}
use mathlib.Core.List.{IsPrefix}
use Rattle.rate_types.specs.Counters.{same_counter}
use Rattle.rate_types.specs.Ledger.{Charge, charged_total}
use Rattle.rate_types.specs.declared.counter_key.CounterKey.{CounterKey}
use Rattle.rls_core.specs.Totals.{AreTotals}
use Rattle.rls_core.specs.declared.totals.Total.{Total}
use Rattle.counter_directory.specs.Acquired.{Bounds}
use Rattle.counter_directory.specs.declared.claim.Claim.{Claim}
use Rattle.rate_limiter.specs.Closing.{AreItsTotals}
use Rattle.rate_limiter.specs.Passes.{LimiterView, PassView}
use Rattle.reply_text.specs.declared.record.Record.{Record}
use Rattle.script_run.specs.ScriptLine.{ScriptLine}
use Rattle.script_run.specs.Charges.{ledger_of, charged_in}
use Rattle.script_run.specs.Moments.{moment_after}
use Rattle.script_run.specs.Totals.{AreTotalsOf}
use Rattle.worker_run.specs.Work.{HaveRun}
use Rattle.worker_run.proofs.Ledger.{charges_all, all_named, same_sum}

module _ (b : Bounds) (limiter : LimiterView) (start : ℕ) (lines : List ScriptLine) (before after : List PassView) (records : List Record)
    (h : HaveRun b limiter start lines before after records) (claims : List Claim) (none : AllByRecursion (λ (p : PassView). p.cells.charges ≡ []) before)
    (known : AllByRecursion (λ (q : PassView). IsPrefix q.claims.known claims) after) where
  -- what was charged on a counter by the records is what all journals charged on it
  charged_same : (c : CounterKey) → charged_total same_counter c (charges_all lines h.journals) ≡ charged_in (ledger_of lines records) c
  charged_same c = sym (same_sum b limiter start lines before after records h (λ (y : Charge CounterKey). cond (same_counter y.counter c) y.hits 0))

  pub totals_are : (moment : ℕ) (totals : List Total) → AreItsTotals claims after moment totals → moment ≡ moment_after start lines → AreTotalsOf start lines records totals
  totals_are moment totals its at =
      let named = all_named b limiter start lines claims before after h.journals h.as_many.0 h.as_many.1 none known (λ i p rs q x y z. (i, h.each i p rs q x y z)) in
      let all = its (charges_all lines h.journals) named in
      let same : (λ (c : CounterKey). charged_total same_counter c (charges_all lines h.journals)) ≡ charged_in (ledger_of lines records) = λ i c. charged_same c i in
      subst (λ (m : ℕ). AreTotals (charged_in (ledger_of lines records)) m totals) at
      (subst (λ (f : CounterKey → ℕ). AreTotals f moment totals) same all)
