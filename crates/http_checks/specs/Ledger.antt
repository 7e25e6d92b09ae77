-- What the checks of connections charged and saw, by which configuration they were answered, and what closing their limiter tells of them.
use Rattle.std.specs.Prelude.{◌≡◌, ℕ, List, [], ◌∷◌, map, All, Bool, Result, Ok, Err, ⊤}
use Rattle.std.specs.List.{AllByRecursion, flat_map}
use Rattle.rate_types.specs.Counters.{same_counter}
use Rattle.rate_types.specs.Ledger.{Charge, Sight, IsLawfulLedger, IsLawfulSight}
use Rattle.rate_types.specs.Requests.{RequestParts}
use Rattle.rate_types.specs.declared.counter_key.CounterKey.{CounterKey}
use Rattle.descriptor_tree.specs.Trees.{DomainTree}
use Rattle.rls_core.specs.Reply.{IsReplyOf, charges_of, sights_of}
use Rattle.rls_core.specs.declared.fault.CheckFault.{CheckFault}
use Rattle.rls_core.specs.declared.reply.Reply.{Reply}
use Rattle.rate_limiter.specs.Passes.{LimiterView, PassView, IsNewPass}
use Rattle.http_endpoint.specs.Answers.{Checked, check, Lead}
use Rattle.http_checks.specs.Checker.{checker, AnswersBy}

-- the charges that a reply shows; a refused check has none
abbrev pub charges_shown : RequestParts → Result Reply CheckFault → List (Charge CounterKey)
charges_shown request (Ok reply) = charges_of request reply.moment request.descriptors reply.statuses.items
charges_shown request (Err fault) = []

-- the sights that a reply shows; a refused check has none
abbrev pub sights_shown : RequestParts → Result Reply CheckFault → List (Sight CounterKey)
sights_shown request (Ok reply) = sights_of request reply.moment request.descriptors reply.statuses.items
sights_shown request (Err fault) = []

-- the charges of all these checks
abbrev pub ledger_of : List Checked → List (Charge CounterKey)
ledger_of checks = flat_map (λ c. charges_shown c.request c.result) checks

-- the sights of all these checks
abbrev pub sights_in : List Checked → List (Sight CounterKey)
sights_in checks = flat_map (λ c. sights_shown c.request c.result) checks

-- a reply is that of the configuration, as the limiter's only version, at the reply's moment
abbrev pub IsByConfig : List DomainTree → Bool → RequestParts → Result Reply CheckFault → Type 0
IsByConfig config global_shadow request (Ok reply) =
    (reply.version ≡ 0) × IsReplyOf config request reply.moment global_shadow reply.over reply.statuses.items
IsByConfig config global_shadow request (Err fault) = ⊤

-- Each reply is that of the configuration. The charges of all replies are one lawful ledger, and what they saw are lawful sights in it.
pub record AreLawfulChecks (config : List DomainTree) (global_shadow : Bool) (checks : List Checked) : Type 0 where
  pub replies : AllByRecursion (λ c. IsByConfig config global_shadow c.request c.result) checks
  pub ledger : IsLawfulLedger same_counter (ledger_of checks)
  pub sights : AllByRecursion (IsLawfulSight same_counter (ledger_of checks)) (sights_in checks)

-- the checks of several passes, one pass after the other
abbrev pub all_checks : List (List Checked) → List Checked
all_checks checks = flat_map (λ xs. xs) checks

module _ (cells : ℕ) (limiter : LimiterView) where
  -- pass by pass, these checks led from what it was to what it is
  abbrev pub LeadEach : List PassView → List (List Checked) → List PassView → Type 0
  LeadEach [] [] [] = Unit {0}
  LeadEach (p ∷ ps) (xs ∷ checks) (q ∷ qs) =
      Lead (AnswersBy cells) (checker limiter p) (map check xs) (checker limiter q) × LeadEach ps checks qs
  LeadEach ps checks qs = ⊥

  -- The limiter, which began at this moment, is closed, with these passes: whatever checks led to them from passes that were new, all of one
  -- configuration, are lawful.
  pub record HasClosed (start : ℕ) (passes : List PassView) : Type 0 where
    pub lawful : (config : List DomainTree) (before : List PassView) (checks : List (List Checked))
        → All (λ p. IsNewPass config start p) before → LeadEach before checks passes
        → AreLawfulChecks config limiter.global_shadow (all_checks checks)
