-- From checks that were made to the limiter that is closed after them.
use Rattle.std.proofs.Common.{◌≡◌, ℕ, List, [], ◌∷◌, map, ap, ◌∙◌, subst}
use Rattle.std.specs.Prelude.{All}
use Rattle.descriptor_tree.specs.Trees.{DomainTree}
use Rattle.rate_limiter.specs.Passes.{LimiterView, PassView, IsNewPass}
use Rattle.http_endpoint.specs.Answers.{Checked, check, Lead}
use Rattle.http_checks.specs.Checker.{Checker, checker, AnswersBy}
use Rattle.http_checks.specs.Ledger.{LeadEach, HasClosed}
use Rattle.http_checks.specs.Versions.{HasClosedVersions}
use Rattle.http_checks.specs.Made.{IsClosedAfter}

module _ (cells : ℕ) (limiter : LimiterView) where
  -- checks leave a checker its limiter
  pub stays : (p : Checker) (checks : List Checked) (q : Checker) → Lead (AnswersBy cells) p (map check checks) q → q.limiter ≡ p.limiter
  stays p [] q h = ap (λ (c : Checker). c.limiter) h
  stays p (c ∷ checks) q h = stays h.0 checks q h.2 ∙ h.1.limiter

  -- so they lead from one pass of the limiter to the next
  pub led_on : (p : PassView) (checks : List Checked) (q : Checker) → Lead (AnswersBy cells) (checker limiter p) (map check checks) q
      → Lead (AnswersBy cells) (checker limiter p) (map check checks) (checker limiter q.pass)
  led_on p checks q h =
      subst (λ (l : LimiterView). Lead (AnswersBy cells) (checker limiter p) (map check checks) (checker l q.pass)) (stays (checker limiter p) checks q h) h

  -- what closing the limiter tells of the checks of its passes
  pub closed_after : (config : List DomainTree) (start : ℕ) (before : List PassView) (checks : List (List Checked)) (passes : List PassView)
      → All (λ (p : PassView). IsNewPass config start p) before → LeadEach cells limiter before checks passes → HasClosed cells limiter start passes
      → HasClosedVersions cells limiter start passes → IsClosedAfter config start cells limiter checks
  closed_after config start before checks passes fresh led closed versions = record {
    lawful = closed.lawful config before checks fresh led;
    alone = versions.alone config before checks fresh led;
  }
