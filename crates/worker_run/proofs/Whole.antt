-- A whole run: what its workers left, and what closing told, make the records those of a lawful run.
use Rattle.std.proofs.Common.{◌≡◌, ℕ, ◌-◌, ◌*◌, ◌≤◌, List, length, map, Some, sym, ap, ◌∙◌, subst, arith}
use Rattle.std.specs.Prelude.{slice_get}
use Rattle.std.specs.List.{AllByRecursion}
use mathlib.Core.List.{IsPrefix}
use Rattle.rate_types.specs.Sums.{total, times}
use Rattle.rate_types.specs.declared.limits.TheConstants.{MOST_CLAIMS, MOST_LINES, MOST_PINS}
use Rattle.descriptor_tree.specs.Trees.{DomainTree}
use Rattle.told_list.specs.Lists.{IsOwnedOnce}
use Rattle.config_versions.specs.PassState.{IsFirst}
use Rattle.counter_cells.specs.Closing.{ticks_of, TicksAreLawful}
use Rattle.counter_cells.specs.Steps.{new_passes}
use Rattle.counter_directory.specs.Acquired.{Bounds}
use Rattle.counter_directory.specs.Claims.{IsLawfulClaims}
use Rattle.counter_directory.specs.declared.claim.Claim.{Claim}
use Rattle.rls_core.specs.declared.totals.Total.{Total}
use Rattle.rate_limiter.specs.Closing.{cells_of, IsOneLedger, AreSightsInIt, AreItsTotals}
use Rattle.rate_limiter.specs.Passes.{LimiterView, PassView, IsNewPass, bounds_of}
use Rattle.reply_text.specs.declared.record.Record.{Record}
use Rattle.script_run.proofs.Admits.{limit_holds}
use Rattle.script_run.specs.ScriptLine.{ScriptLine}
use Rattle.script_run.specs.Charges.{ChargesFormLedger, SightsLawful}
use Rattle.script_run.specs.Moments.{MomentsNeverFall}
use Rattle.script_run.specs.Refusals.{RefusalsHaveCauses}
use Rattle.script_run.specs.Replies.{RepliesByRule}
use Rattle.script_run.specs.Run.{IsRun}
use Rattle.script_run.specs.Sequential.{SequentialWithOneWorker}
use Rattle.script_run.specs.Totals.{AreTotalsOf}
use Rattle.script_run.specs.Values.{ValuesNeverFall}
use Rattle.script_run.specs.Versions.{version_in, VersionsNumbered}
use Rattle.worker_run.specs.Clauses.{AreInOrder}
use Rattle.worker_run.specs.Work.{HaveRun}
use Rattle.worker_run.proofs.Counting.{installed_as}
use Rattle.worker_run.proofs.Fairness.{values_never_fall}
use Rattle.worker_run.proofs.Fresh.{at_first, none_charged, none_claimed}
use Rattle.worker_run.proofs.InTurn.{sequential}
use Rattle.worker_run.proofs.Ledger.{charges_form_ledger}
use Rattle.worker_run.proofs.Numbering.{once, versions_numbered, as_many_versions, full_at, replies_by_version, agrees}
use Rattle.worker_run.proofs.OneWorker.{counted_with_one_worker}
use Rattle.worker_run.proofs.Refusing.{refusals_have_causes}
use Rattle.worker_run.proofs.Replying.{replies_by_rule}
use Rattle.worker_run.proofs.Rooms.{room_in_turn}
use Rattle.worker_run.proofs.Sights.{sights_lawful}
use Rattle.worker_run.proofs.Timing.{moments_never_fall, closing_moment}
use Rattle.worker_run.proofs.Totalling.{totals_are}

module _ (cells : ℕ) (limiter : LimiterView) (start : ℕ) (lines : List ScriptLine) (before after : List PassView) (records : List Record)
    (run : HaveRun (bounds_of cells limiter) limiter start lines before after records) (first : List DomainTree)
    (fresh : AllByRecursion (λ (p : PassView). IsNewPass first start p) before) (new : map (λ (p : PassView). p.cells) before ≡ new_passes (length before) start)
    (moment : ℕ) (ticks : TicksAreLawful start moment (ticks_of (cells_of after))) (claims : List Claim)
    (claims_known : AllByRecursion (λ (q : PassView). IsPrefix q.claims.known claims) after) where
  abbrev b : Bounds
  b = bounds_of cells limiter

  -- the totals of the windows that are open at the end
  pub totals : (sums : List Total) → AreItsTotals claims after moment sums → AreTotalsOf start lines records sums
  totals sums are =
      totals_are b limiter start lines before after records run claims (none_charged first start before fresh) claims_known moment sums are
      (closing_moment b limiter start lines before after records run new moment ticks)

  module _ (workers : ℕ) (many : length before ≡ workers) (every : workers ≡ limiter.passes) (some : 1 ≤ workers) (ordered : AreInOrder workers start lines records)
      (claims_owned : (n : ℕ) → IsOwnedOnce 0 (length claims) n (total (λ (q : PassView). times n q.claims.own) after)) (lawful : IsLawfulClaims cells limiter.claims_max claims)
      (versions : List (List DomainTree)) (versions_known : AllByRecursion (λ (q : PassView). IsPrefix q.version.view.known versions) after)
      (versions_owned : (n : ℕ) → IsOwnedOnce 1 (length versions) n (total (λ (q : PassView). times n q.version.view.own) after))
      (ledger : IsOneLedger claims after) (sights : AreSightsInIt claims after) (short : length lines ≤ MOST_LINES) (room : MOST_CLAIMS ≤ limiter.claims_max) where
    abbrev configs : ℕ → List DomainTree
    configs = version_in first lines records

    firsts : AllByRecursion (λ (p : PassView). IsFirst first p.version) before
    firsts = at_first first start before fresh

    one : 1 ≤ length before
    one = omega arith

    numbered : VersionsNumbered lines records
    numbered = versions_numbered b limiter start lines before after records run first versions firsts one versions_known versions_owned

    agree : (n : ℕ) (c : List DomainTree) → slice_get versions n ≡ Some c → configs n ≡ c
    agree = agrees b limiter start lines before after records run first versions firsts one versions_known versions_owned

    replies : RepliesByRule configs limiter.global_shadow lines records
    replies =
        replies_by_version b limiter start lines before after records run first versions firsts one versions_known versions_owned limiter.global_shadow
        (replies_by_rule b limiter start lines before after records versions run versions_known)

    moments : MomentsNeverFall start lines records
    moments = moments_never_fall b limiter start lines before after records run new moment ticks workers ordered

    charges : ChargesFormLedger lines records
    charges = charges_form_ledger b limiter start lines before after records run claims (none_charged first start before fresh) claims_known ledger

    seen : SightsLawful lines records
    seen = sights_lawful b limiter start lines before after records run claims (none_charged first start before fresh) claims_known sights

    values : ValuesNeverFall lines records
    values = values_never_fall b limiter start lines before after records run cells limiter.claims_max claims lawful claims_known

    causes : RefusalsHaveCauses configs workers cells lines records
    causes =
        refusals_have_causes b limiter start lines before after records run configs versions agree claims (none_claimed first start before fresh) claims_known versions_known
        claims_owned limiter.claims_max lawful workers (ap (λ n. MOST_PINS * (n - 1)) (sym every)) short room numbered

    in_turn : SequentialWithOneWorker configs workers cells start lines records
    in_turn =
        sequential configs workers cells start lines records
        (counted_with_one_worker configs workers start limiter.global_shadow lines records ordered.one_record_per_line ordered.versions_never_fall numbered
        (λ v. subst (λ (n : ℕ). IsOwnedOnce 1 n v (installed_as v records))
        (sym (as_many_versions b limiter start lines before after records run first versions firsts one versions_known versions_owned))
        (once b limiter start lines before after records run first versions firsts one versions_known versions_owned v))
        (full_at b limiter start lines before after records run first versions firsts one versions_known versions_owned) replies moments charges seen values)
        (λ is. room_in_turn b limiter start lines before after records run configs versions agree claims (none_claimed first start before fresh) claims_known versions_known
        claims_owned limiter.claims_max lawful (many ∙ is) (omega arith))

    -- the records are those of a lawful run
    pub is_run : IsRun first workers cells start limiter.global_shadow lines records
    is_run = record {
      one_record_per_line = ordered.one_record_per_line;
      versions_numbered = numbered;
      replies_by_rule = replies;
      versions_never_fall = ordered.versions_never_fall;
      moments_never_fall = moments;
      charges_form_ledger = charges;
      limits_hold = λ counter limit. limit_holds counter limit _ charges;
      sights_lawful = seen;
      values_never_fall = values;
      refusals_have_causes = causes;
      sequential_with_one_worker = in_turn;
    }
