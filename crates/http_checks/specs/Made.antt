-- A limiter that serves connections: how it was made, and what closing it tells of the checks of its passes.
use Rattle.std.specs.Prelude.{◌≡◌, ℕ, List, length, map, All, Bool}
use Rattle.descriptor_tree.specs.Trees.{DomainTree}
use Rattle.rate_limiter.specs.Passes.{LimiterView, PassView, IsNewPass}
use Rattle.http_endpoint.specs.Answers.{Checked}
use Rattle.http_checks.specs.Checker.{Checker, checker}
use Rattle.http_checks.specs.Ledger.{AreLawfulChecks, all_checks}
use Rattle.http_checks.specs.Versions.{AreLawfulAlone}
use Rattle.http_checks.specs.declared.parts.TheConstants.{SERVED_CLAIMS}

-- passes as checkers
abbrev pub checkers : LimiterView → List PassView → List Checker
checkers limiter passes = map (λ p. checker limiter p) passes

-- The limiter gives cells to at most so many counters, and has these passes, so many, which were new at this moment, when the configuration
-- was its only version.
pub record IsMade (config : List DomainTree) (start workers : ℕ) (global_shadow : Bool) (limiter : LimiterView) (before : List PassView)
    : Type 0 where
  pub passes : limiter.passes ≡ workers
  pub claims : limiter.claims_max ≡ SERVED_CLAIMS
  pub shadow : limiter.global_shadow ≡ global_shadow
  pub as_many : length before ≡ workers
  pub fresh : All (λ p. IsNewPass config start p) before

-- The limiter, of so many cells, was closed after these checks, pass by pass, which its passes made since they were new: they are lawful
-- checks by the configuration, each refused one for its cause, and at moments that were offered.
pub record IsClosedAfter (config : List DomainTree) (start cells : ℕ) (limiter : LimiterView) (checks : List (List Checked)) : Type 0 where
  pub lawful : AreLawfulChecks config limiter.global_shadow (all_checks checks)
  pub alone : AreLawfulAlone cells limiter config start checks
