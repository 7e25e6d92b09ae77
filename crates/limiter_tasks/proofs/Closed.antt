-- From links that were served by one checker to the passes with which the limiter and the statistics are closed.
use Rattle.std.proofs.Common.{◌≡◌, ℕ, List, [], ◌∷◌, ◌++◌, length, map, Bool, Option, refl, sym, ap, ◌∙◌, subst, arith, length-append}
use Rattle.std.proofs.lemmas.List.Elements.{All-from_recursion}
use Rattle.std.specs.Prelude.{All}
use Rattle.std.specs.List.{filter_map}
use Rattle.std.specs.Option.{is_some}
use Rattle.rate_io.specs.Listeners.{ListenEvent}
use Rattle.descriptor_tree.specs.Trees.{DomainTree}
use Rattle.rate_limiter.specs.Passes.{LimiterId, LimiterView, PassView}
use Rattle.shared_stats.specs.declared.pass.StatsPass.{StatsPass}
use Rattle.shared_stats.specs.declared.shared_stats.SharedStats.{SharedStats}
use Rattle.http_endpoint.specs.Answers.{Asked, checks_in}
use Rattle.counted_checks.specs.Counting.{Counting, Counts}
use Rattle.counted_checks.specs.Made.{begun, HasPasses, AreGivenBack, AreOf, HaveClosed}
use Rattle.counted_checks.proofs.Leading.{checks_lead, all_given, counted_after}
use Rattle.http_checks.specs.Checker.{Checker, checker, AnswersBy}
use Rattle.http_checks.specs.Ledger.{LeadEach, HasClosed}
use Rattle.http_checks.specs.Versions.{HasClosedVersions}
use Rattle.http_checks.specs.Made.{checkers, IsMade}
use Rattle.http_checks.proofs.Leading.{stays, led_on, closed_after}
use Rattle.http_serve.specs.Service.{Service}
use Rattle.serve_tasks.specs.Served.{AllTasksServed}
use Rattle.limiter_tasks.specs.Limited.{asked_in_turn, TasksServedByLimiter}
use Rattle.limiter_tasks.specs.declared.limited.TaskSetup.{TaskSetup}

-- of the checkers of one pass the only one was taken
pub one_taken : (limiter : LimiterView) (stats : Option SharedStats) (passes : List PassView) (all rest : List (Counting Checker)) (one : Counting Checker)
    → length passes ≡ 1 → all ≡ map (begun stats) (checkers limiter passes) → all ≡ rest ++ one ∷ []
    → (p : PassView) × (passes ≡ p ∷ []) × (one ≡ begun stats (checker limiter p)) × (rest ≡ [])
one_taken limiter stats [] all rest one l e f = absurd (omega (arith, l))
one_taken limiter stats (p ∷ q ∷ ps) all rest one l e f = absurd (omega (arith, l))
one_taken limiter stats (p ∷ []) all [] one l e f = (p, refl, same, refl)
  where
    lists : one ∷ [] ≡ begun stats (checker limiter p) ∷ []
    lists = sym f ∙ e

    same : one ≡ begun stats (checker limiter p)
    same = cc
one_taken limiter stats (p ∷ []) all (r ∷ rest) one l e f =
    let x = ap length e in let y = ap length f in let z = length-append rest (one ∷ []) in absurd (omega (arith, x, y, z))

-- the pass that is given back goes with its limiter
pub ids : (id : LimiterId) (passes : List PassView) (k : Checker) → passes ≡ k.pass ∷ [] → map (λ (p : PassView). p.limiter) passes ≡ k.limiter.id ∷ [] → k.limiter.id ≡ id
    → All (λ (p : PassView). p.limiter ≡ id) passes
ids id passes k is e same =
    subst (λ (ps : List PassView). All (λ (p : PassView). p.limiter ≡ id) ps) (sym is) (All-from_recursion (λ (p : PassView). p.limiter ≡ id) (k.pass ∷ []) (first ∙ same, tt))
  where
    lists : k.pass.limiter ∷ [] ≡ k.limiter.id ∷ []
    lists = ap (map (λ (p : PassView). p.limiter)) (sym is) ∙ e

    first : k.pass.limiter ≡ k.limiter.id
    first = cc

module _ (cells : ℕ) (limiter : LimiterView) (before : PassView) (stats : Option SharedStats) (after : Counting Checker) (old new : List ListenEvent)
    (services : List Service) (is_all : Bool) (served : AllTasksServed (Counts (AnswersBy cells)) (begun stats (checker limiter before)) after old new services is_all) where
  abbrev asked : List Asked
  asked = asked_in_turn served.served.made

  -- the pass goes with the limiter still
  pub same_limiter : after.checks.limiter ≡ limiter
  same_limiter = stays cells limiter (checker limiter before) (checks_in asked) after.checks
      (checks_lead (AnswersBy cells) (begun stats (checker limiter before)) asked after served.served.lead)

  -- the checks, in the order in which they were made, led to it
  pub led : LeadEach cells limiter (before ∷ []) (checks_in asked ∷ []) (after.checks.pass ∷ [])
  led = (led_on cells limiter before (checks_in asked) after.checks (checks_lead (AnswersBy cells) (begun stats (checker limiter before)) asked after served.served.lead), tt)

  -- what was given back are all passes of the statistics
  pub all_stats : HasPasses 1 stats → (passes : List StatsPass) → AreGivenBack passes (filter_map (λ (c : Counting Checker). c.stats) (after ∷ [])) → AreOf stats passes
  all_stats = all_given (AnswersBy cells) stats (checker limiter before ∷ []) (asked ∷ []) (after ∷ []) (served.served.lead, tt)

-- all that was served, by a limiter that was closed
pub served_all : (config : List DomainTree) (setup : TaskSetup) (old new : List ListenEvent) (services : List Service) (is_all : Bool) (limiter : LimiterView) (before : PassView)
    (stats : Option SharedStats) (after : Counting Checker) → IsMade config 0 1 setup.global_shadow limiter (before ∷ []) → is_some stats ≡ setup.stats
    → AllTasksServed (Counts (AnswersBy setup.cells)) (begun stats (checker limiter before)) after old new services is_all
    → HasClosed setup.cells limiter 0 (after.checks.pass ∷ []) → HasClosedVersions setup.cells limiter 0 (after.checks.pass ∷ [])
    → HaveClosed (filter_map (λ (c : Counting Checker). c.stats) (after ∷ [])) → TasksServedByLimiter config setup old new services is_all
served_all config setup old new services is_all limiter before stats after made kept served checks versions texts = record {
  limiter = limiter;
  before = before;
  made = made;
  stats = stats;
  kept = kept;
  after = after;
  served = served;
  closed = closed_after setup.cells limiter config 0 (before ∷ []) (checks_in (asked_in_turn served.served.made) ∷ []) (after.checks.pass ∷ []) made.fresh
      (led setup.cells limiter before stats after old new services is_all served) checks versions;
  counted = counted_after (AnswersBy setup.cells) stats (checker limiter before ∷ []) (asked_in_turn served.served.made ∷ []) (after ∷ [])
      (served.served.lead, tt) texts;
}
