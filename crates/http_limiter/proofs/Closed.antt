-- From links that were served to the passes with which the limiter and the statistics are closed.
use Rattle.std.proofs.Common.{◌≡◌, ℕ, zero, suc, List, [], ◌∷◌, length, map, Bool, true, Option, refl, ap, ◌∙◌, sym, subst, arith}
use Rattle.std.proofs.lemmas.List.{length-map}
use Rattle.std.proofs.lemmas.List.Elements.{All-from_recursion}
use Rattle.std.specs.Prelude.{All}
use Rattle.std.specs.List.{AllByRecursion, filter_map}
use Rattle.std.specs.Option.{is_some}
use mathlib.Core.Option.{some}
use lib.ListN.{get_elem?}
use Rattle.rate_io.specs.Listeners.{ListenEvent}
use Rattle.descriptor_tree.specs.Trees.{DomainTree}
use Rattle.rate_limiter.specs.Passes.{LimiterId, LimiterView, PassView, IsNewPass}
use Rattle.shared_stats.specs.declared.pass.StatsPass.{StatsPass}
use Rattle.shared_stats.specs.declared.shared_stats.SharedStats.{SharedStats}
use Rattle.http_endpoint.specs.Answers.{Asked, checks_in, Lead}
use Rattle.counted_checks.specs.AtEnd.{AreCounted}
use Rattle.counted_checks.specs.Counting.{Counting, Counts}
use Rattle.counted_checks.specs.Made.{begun, HasPasses, AreGivenBack, AreOf, HaveClosed}
use Rattle.counted_checks.proofs.Leading.{checks_lead, LeadAll, all_given, counted_after}
use Rattle.http_checks.specs.Checker.{Checker, checker, AnswersBy}
use Rattle.http_checks.specs.Ledger.{LeadEach, HasClosed}
use Rattle.http_checks.specs.Versions.{HasClosedVersions}
use Rattle.http_checks.specs.Made.{checkers, IsMade, IsClosedAfter}
use Rattle.http_checks.proofs.Leading.{stays, led_on, closed_after}
use Rattle.http_serve.specs.Service.{Service, AreServed, AreServedBy}
use Rattle.http_serve.specs.Links.{AllServed}
use Rattle.http_limiter.specs.Limited.{ServedByLimiter}
use Rattle.http_limiter.specs.declared.limited.Setup.{Setup}

-- the checkers that were counted
abbrev pub checks_of : List (Counting Checker) → List Checker
checks_of cs = map (λ (c : Counting Checker). c.checks) cs

-- the passes of checkers
abbrev pub passes_in : List Checker → List PassView
passes_in cs = map (λ (c : Checker). c.pass) cs

-- the passes of checkers, each of which goes with this limiter
ids : (id : LimiterId) (ps : List PassView) (cs : List Checker) → map (λ (p : PassView). p.limiter) ps ≡ map (λ (c : Checker). c.limiter.id) cs
    → AllByRecursion (λ (c : Checker). c.limiter.id ≡ id) cs → AllByRecursion (λ (p : PassView). p.limiter ≡ id) ps
ids id [] cs e h = tt
ids id (p ∷ ps) [] e h = let l = ap length e in absurd (omega arith)
ids id (p ∷ ps) (c ∷ cs) e h = (first ∙ h.0, ids id ps cs rest h.1)
  where
    first : p.limiter ≡ c.limiter.id
    first = cc

    rest : map (λ (x : PassView). x.limiter) ps ≡ map (λ (x : Checker). x.limiter.id) cs
    rest = cc

same_ids : (limiter : LimiterView) (cs : List Checker) → AllByRecursion (λ (c : Checker). c.limiter ≡ limiter) cs → AllByRecursion (λ (c : Checker). c.limiter.id ≡ limiter.id) cs
same_ids limiter [] h = tt
same_ids limiter (c ∷ cs) h = (ap (λ (l : LimiterView). l.id) h.0, same_ids limiter cs h.1)

module _ (cells : ℕ) (limiter : LimiterView) (stats : Option SharedStats) where
  -- the checkers as they began
  abbrev firsts : List PassView → List (Counting Checker)
  firsts before = map (begun stats) (checkers limiter before)

  abbrev LedBy : List PassView → List (List Service) → List (List Asked) → List (Counting Checker) → Type 0
  LedBy before lists asked after = (w : ℕ) (p : Counting Checker) (ss : List Service) (xs : List Asked) (q : Counting Checker) → get_elem? (firsts before) w ≡ some p
      → get_elem? lists w ≡ some ss → get_elem? asked w ≡ some xs → get_elem? after w ≡ some q
      → AreServed (Counts (AnswersBy cells)) p ss xs q × Lead (Counts (AnswersBy cells)) p xs q

  -- Pass by pass, the checks led to the passes of the checkers, which go with the limiter still; and all that was asked led to their
  -- statistics.
  abbrev Led : List PassView → List (List Asked) → List (Counting Checker) → Type 0
  Led before asked after = LeadEach cells limiter before (map checks_in asked) (passes_in (checks_of after))
      × AllByRecursion (λ (q : Checker). q.limiter ≡ limiter) (checks_of after) × LeadAll (AnswersBy cells) stats (checkers limiter before) asked after

  each_led : (before : List PassView) (lists : List (List Service)) (asked : List (List Asked)) (after : List (Counting Checker)) → length after ≡ length before
      → length lists ≡ length before → length asked ≡ length before → LedBy before lists asked after → Led before asked after
  each_led [] ls [] [] a l j each = (tt, tt, tt)
  each_led [] ls [] (q ∷ qs) a l j each = absurd (omega arith)
  each_led [] ls (x ∷ xs) after a l j each = absurd (omega arith)
  each_led (p ∷ ps) ls xs [] a l j each = absurd (omega arith)
  each_led (p ∷ ps) [] xs (q ∷ qs) a l j each = absurd (omega arith)
  each_led (p ∷ ps) (s ∷ ls) [] (q ∷ qs) a l j each = absurd (omega arith)
  each_led (p ∷ ps) (s ∷ ls) (x ∷ xs) (q ∷ qs) a l j each =
      let first = begun stats (checker limiter p) in
      let one = (each 0 first s x q refl refl refl refl).1 in
      let checks = checks_lead (AnswersBy cells) first x q one in
      let more = each_led ps ls xs qs (omega arith) (omega arith) (omega arith) (λ w p' s' x' q' e f g h. each (suc w) p' s' x' q' e f g h) in (
        (led_on cells limiter p (checks_in x) q.checks checks, more.0),
        (stays cells limiter (checker limiter p) (checks_in x) q.checks checks, more.1),
        (one, more.2),
      )

  pub led : (before : List PassView) (after : List (Counting Checker)) (services : List Service) (asked : List (List Asked))
      → AreServedBy (Counts (AnswersBy cells)) (firsts before) after services asked → Led before asked after
  led before after services asked s =
      let e : length (firsts before) ≡ length before = length-map (checkers limiter before) (begun stats) ∙ length-map before (checker limiter) in
      let m = s.as_many in
      each_led before s.lists asked after (m.0 ∙ e) (m.1 ∙ e) (m.2 ∙ e) s.each

  module _ (before : List PassView) (after : List (Counting Checker)) (old new : List ListenEvent) (services : List Service) (is_all : Bool)
      (served : AllServed (Counts (AnswersBy cells)) (firsts before) after old new services is_all) where
    -- the passes go with the limiter
    pub same_limiter : (passes : List PassView) → map (λ (p : PassView). p.limiter) passes ≡ map (λ (c : Checker). c.limiter.id) (checks_of after)
        → All (λ (p : PassView). p.limiter ≡ limiter.id) passes
    same_limiter passes e = All-from_recursion (λ (p : PassView). p.limiter ≡ limiter.id) passes
        (ids limiter.id passes (checks_of after) e (same_ids limiter (checks_of after) (led before after services served.asked served.served).1))

    -- they are all passes
    pub all_passes : (passes : List PassView) → passes ≡ passes_in (checks_of after) → length passes ≡ length before
    all_passes passes is = ap length is ∙ length-map (checks_of after) (λ (c : Checker). c.pass) ∙ length-map after (λ (c : Counting Checker). c.checks)
        ∙ served.served.as_many.0 ∙ length-map (checkers limiter before) (begun stats) ∙ length-map before (checker limiter)

    -- so are those of the statistics
    pub all_stats : HasPasses (length before) stats → (passes : List StatsPass) → AreGivenBack passes (filter_map (λ (c : Counting Checker). c.stats) after)
        → AreOf stats passes
    all_stats h = all_given (AnswersBy cells) stats (checkers limiter before) served.asked after (led before after services served.asked served.served).2
        (subst (λ (n : ℕ). HasPasses n stats) (sym (length-map before (checker limiter))) h)

    -- once the limiter is closed with them, the checks of all links are lawful
    pub closed : (config : List DomainTree) (passes : List PassView) → All (λ (p : PassView). IsNewPass config 0 p) before → passes ≡ passes_in (checks_of after)
        → HasClosed cells limiter 0 passes → HasClosedVersions cells limiter 0 passes → IsClosedAfter config 0 cells limiter (map checks_in served.asked)
    closed config passes fresh is checks versions =
        closed_after cells limiter config 0 before (map checks_in served.asked) passes fresh
        (subst (λ (ps : List PassView). LeadEach cells limiter before (map checks_in served.asked) ps) (sym is) (led before after services served.asked served.served).0)
        checks versions

    -- and once the statistics are, so are their texts
    pub counted : HaveClosed (filter_map (λ (c : Counting Checker). c.stats) after) → AreCounted served.asked
    counted = counted_after (AnswersBy cells) stats (checkers limiter before) served.asked after (led before after services served.asked served.served).2

-- all that was served, by a limiter that was closed
pub served_all : (config : List DomainTree) (setup : Setup) (old new : List ListenEvent) (services : List Service) (is_all : Bool) (limiter : LimiterView)
    (before : List PassView) (stats : Option SharedStats) (after : List (Counting Checker)) (passes : List PassView)
    → IsMade config 0 setup.workers setup.global_shadow limiter before → is_some stats ≡ setup.stats
    → AllServed (Counts (AnswersBy setup.cells)) (map (begun stats) (checkers limiter before)) after old new services is_all
    → passes ≡ passes_in (checks_of after) → HasClosed setup.cells limiter 0 passes → HasClosedVersions setup.cells limiter 0 passes
    → HaveClosed (filter_map (λ (c : Counting Checker). c.stats) after) → ServedByLimiter config setup old new services is_all
served_all config setup old new services is_all limiter before stats after passes made kept served is checks versions texts = record {
  limiter = limiter;
  before = before;
  made = made;
  stats = stats;
  kept = kept;
  after = after;
  served = served;
  closed = closed setup.cells limiter stats before after old new services is_all served config passes made.fresh is checks versions;
  counted = counted setup.cells limiter stats before after old new services is_all served texts;
}
