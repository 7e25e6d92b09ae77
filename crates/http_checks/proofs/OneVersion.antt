-- Where no configuration is put in force later, the deeds of passes are lawful checks by the first.
use Rattle.std.proofs.Common.{◌≡◌, ℕ, ◌+◌, ◌≤◌, ◌<◌, List, [], ◌∷◌, ◌++◌, length, map, Some, Result, Ok, Err, refl, sym, ap, ◌∙◌, subst, arith}
use Rattle.std.proofs.lemmas.List.{map-append}
use Rattle.std.specs.Prelude.{slice_get, Bool}
use Rattle.std.specs.List.{AllByRecursion, flat_map}
use Rattle.rate_types.specs.Counters.{same_counter}
use Rattle.rate_types.specs.Requests.{RequestParts}
use Rattle.rate_types.specs.Ledger.{Charge, Sight, IsLawfulLedger, IsLawfulSight}
use Rattle.rate_types.specs.declared.counter_key.CounterKey.{CounterKey}
use Rattle.descriptor_tree.specs.Trees.{DomainTree}
use Rattle.rls_core.specs.Reply.{IsReplyOf}
use Rattle.rls_core.specs.declared.fault.CheckFault.{CheckFault}
use Rattle.rls_core.specs.declared.reply.Reply.{Reply}
use Rattle.rate_limiter.specs.Passes.{LimiterView, PassView}
use Rattle.rate_limiter.proofs.Places.{none_some, same_some}
use Rattle.http_endpoint.specs.Answers.{Checked, check, Lead}
use Rattle.http_checks.specs.Checker.{Checker, checker, AnswersBy}
use Rattle.http_checks.specs.Ledger.{charges_shown, sights_shown, IsByConfig, AreLawfulChecks, all_checks, LeadEach, HasClosed}
use Rattle.http_checks.specs.Ledger as checks
use Rattle.http_checks.specs.Deeds.{At, at_pass, Deed, checked, Deeds}
use Rattle.http_checks.specs.Versions.{ledger_of, sights_in, installs, IsAnsweredBy, GoesBy, as_deeds, checks_alone, all_deeds, AreLawfulDeeds, AreLawfulAlone, DeedsEach, HasClosedVersions}
use Rattle.http_checks.proofs.Grown.{prefix_self}
use Rattle.http_checks.proofs.Replied.{only_get, nobody_owns}

-- all of them, one pass after the other
abbrev all_placed : List (List (Checked × At)) → List (Checked × At)
all_placed xs = flat_map (λ x. x) xs

all_as : (xs : List (List (Checked × At))) → all_deeds (map as_deeds xs) ≡ as_deeds (all_placed xs)
all_as [] = refl
all_as (x ∷ xs) = ap (λ l. as_deeds x ++ l) (all_as xs) ∙ sym (map-append (λ (y : Checked × At). checked y.0 y.1) x (all_placed xs))

all_of : (xs : List (List (Checked × At))) → all_checks (map checks_alone xs) ≡ checks_alone (all_placed xs)
all_of [] = refl
all_of (x ∷ xs) = ap (λ l. checks_alone x ++ l) (all_of xs) ∙ sym (map-append (λ (y : Checked × At). y.0) x (all_placed xs))

same_charges : (xs : List (Checked × At)) → ledger_of (as_deeds xs) ≡ checks.ledger_of (checks_alone xs)
same_charges [] = refl
same_charges (x ∷ xs) = ap (λ l. charges_shown x.0.request x.0.result ++ l) (same_charges xs)

same_sights : (xs : List (Checked × At)) → sights_in (as_deeds xs) ≡ checks.sights_in (checks_alone xs)
same_sights [] = refl
same_sights (x ∷ xs) = ap (λ l. sights_shown x.0.request x.0.result ++ l) (same_sights xs)

none_installed : (n : ℕ) (xs : List (Checked × At)) → installs n (as_deeds xs) ≡ 0
none_installed n [] = refl
none_installed n (x ∷ xs) = let r = none_installed n xs in omega arith

-- ---- the steps

module _ (cells : ℕ) where
  led : (p : Checker) (xs : List Checked) (q : Checker) → Lead (AnswersBy cells) p (map check xs) q
      → (ys : List (Checked × At)) × (checks_alone ys ≡ xs) × Deeds cells p (as_deeds ys) q
  led p [] q h = ([], refl, h)
  led p (a ∷ xs) q h =
      let more = led h.0 xs q h.2 in
      ((a, at_pass h.0.pass) ∷ more.0, ap (λ l. a ∷ l) more.1, (h.0, (h.1, refl), more.2))

  each_led : (limiter : LimiterView) (before : List PassView) (asked : List (List Checked)) (after : List PassView) → LeadEach cells limiter before asked after
      → (ys : List (List (Checked × At))) × (map checks_alone ys ≡ asked) × DeedsEach cells limiter before (map as_deeds ys) after
  each_led limiter [] [] [] h = ([], refl, tt)
  each_led limiter (p ∷ ps) (xs ∷ asked) (q ∷ qs) h =
      let one = led (checker limiter p) xs (checker limiter q) h.0 in
      let more = each_led limiter ps asked qs h.1 in
      (one.0 ∷ more.0, ap (λ l. l ∷ map checks_alone more.0) one.1 ∙ ap (λ l. xs ∷ l) more.1, (one.2, more.2))
  each_led limiter before asked after h = absurd h

-- ---- their ledger

module _ (config : List DomainTree) (configs : List (List DomainTree)) (global_shadow : Bool) (one : configs ≡ config ∷ []) where
  by_config : (request : RequestParts) (at : At) (result : Result Reply CheckFault) → IsAnsweredBy configs global_shadow request at result
      → IsByConfig config global_shadow request result
  by_config request at (Ok reply) h =
      let v = h.2 in
      let is = only_get config (config ∷ []) reply.version v.config (prefix_self (config ∷ [])) (ap (λ (l : List (List DomainTree)). slice_get l reply.version) (sym one) ∙ v.version) in
      (is.0, subst (λ (c : List DomainTree). IsReplyOf c request reply.moment global_shadow reply.over reply.statuses.items) is.1 v.is_reply)
  by_config request at (Err fault) h = tt

  all_by_config : (xs : List (Checked × At)) → AllByRecursion (GoesBy configs global_shadow) (as_deeds xs)
      → AllByRecursion (λ (a : Checked). IsByConfig config global_shadow a.request a.result) (checks_alone xs)
  all_by_config [] h = tt
  all_by_config (x ∷ xs) h = (by_config x.0.request x.1 x.0.result h.0, all_by_config xs h.1)

-- the first of a list that has no other
alone : (config : List DomainTree) (configs : List (List DomainTree)) → slice_get configs 0 ≡ Some config → length configs ≤ 1 → configs ≡ config ∷ []
alone config [] at few = absurd (none_some config at)
alone config (c ∷ []) at few = ap (λ (x : List DomainTree). x ∷ []) (same_some c config at)
alone config (c ∷ d ∷ rest) at few = absurd (omega arith)

module _ (cells : ℕ) (limiter : LimiterView) (config : List DomainTree) (start : ℕ) where
  -- where nothing was put in force later, there is one version
  pub one_version : (configs : List (List DomainTree)) (ys : List (List (Checked × At))) → AreLawfulDeeds cells limiter config start configs (map as_deeds ys)
      → configs ≡ config ∷ []
  one_version configs ys h =
      let few = nobody_owns (length configs) _ (ap (λ l. installs 1 l) (all_as ys) ∙ none_installed 1 (all_placed ys)) (h.once 1) in
      alone config configs h.first few

  lawful_checks : (ys : List (List (Checked × At))) → AreLawfulDeeds cells limiter config start (config ∷ []) (map as_deeds ys)
      → AreLawfulChecks config limiter.global_shadow (all_checks (map checks_alone ys))
  lawful_checks ys h =
      let global_shadow = limiter.global_shadow in
      let xs = all_placed ys in
      let all = all_as ys in
      let charges : ledger_of (all_deeds (map as_deeds ys)) ≡ checks.ledger_of (checks_alone xs) = ap (λ l. ledger_of l) all ∙ same_charges xs in
      let sights : sights_in (all_deeds (map as_deeds ys)) ≡ checks.sights_in (checks_alone xs) = ap (λ l. sights_in l) all ∙ same_sights xs in
      subst (AreLawfulChecks config global_shadow) (sym (all_of ys)) (record {
        replies = all_by_config config (config ∷ []) global_shadow refl xs (subst (AllByRecursion (GoesBy (config ∷ []) global_shadow)) all h.by_versions);
        ledger = subst (IsLawfulLedger same_counter) charges h.ledger;
        sights = subst (λ (l : List (Charge CounterKey)). AllByRecursion (IsLawfulSight same_counter l) (checks.sights_in (checks_alone xs))) charges
            (subst (λ (l : List (Sight CounterKey)). AllByRecursion (IsLawfulSight same_counter (ledger_of (all_deeds (map as_deeds ys)))) l) sights h.sights);
      })

  -- lawful deeds of one configuration are lawful checks
  pub checks_of : (asked : List (List Checked)) → AreLawfulAlone cells limiter config start asked → AreLawfulChecks config limiter.global_shadow (all_checks asked)
  checks_of asked h = subst (λ (xs : List (List Checked)). AreLawfulChecks config limiter.global_shadow (all_checks xs)) h.are (lawful_checks h.placed h.lawful)

  -- checks that are lawful as deeds are so by one configuration
  pub alone_of : (before : List PassView) (asked : List (List Checked)) (passes : List PassView) → LeadEach cells limiter before asked passes
      → ((deeds : List (List Deed)) → DeedsEach cells limiter before deeds passes
      → (configs : List (List DomainTree)) × AreLawfulDeeds cells limiter config start configs deeds)
      → AreLawfulAlone cells limiter config start asked
  alone_of before asked passes led lawful =
      let l = each_led cells limiter before asked passes led in
      let r = lawful (map as_deeds l.0) l.2 in
      record {
        placed = l.0;
        are = l.1;
        lawful = subst (λ (cs : List (List DomainTree)). AreLawfulDeeds cells limiter config start cs (map as_deeds l.0)) (one_version r.0 l.0 r.1) r.1;
      }

-- what closing tells of checks alone
pub has_closed : (size : ℕ) (limiter : LimiterView) (start : ℕ) (passes : List PassView) → HasClosedVersions size limiter start passes → HasClosed size limiter start passes
has_closed size limiter start passes closed = record {
  lawful = λ config before asked new led. checks_of size limiter config start asked (closed.alone config before asked new led);
}
