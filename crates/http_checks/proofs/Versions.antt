-- The deeds that lead from new passes to the closed ones go by one list of versions, and charged just what the passes charged.
use Rattle.std.proofs.Common.{◌≡◌, ℕ, ◌+◌, ◌≤◌, ◌<◌, List, [], ◌∷◌, ◌++◌, length, map, refl, sym, ap, ◌∙◌, subst, arith}
use Rattle.std.proofs.lemmas.List.Concat.{flat_map-append}
use Rattle.std.proofs.lemmas.List.Elements.{recursion_from_All}
use Rattle.std.specs.Prelude.{All, slice_get}
use Rattle.std.specs.List.{AllByRecursion}
use mathlib.Core.List.{IsPrefix}
use mathlib.Core.Option.{some}
use lib.ListN.{get_elem?}
use native.Mathlib.Decide.{dec_le}
use Rattle.rate_types.specs.Sums.{total, times}
use Rattle.rate_types.proofs.Sums.{total_append}
use Rattle.rate_types.specs.Counters.{same_counter}
use Rattle.rate_types.specs.Ledger.{Charge, Sight, IsLawfulSight}
use Rattle.rate_types.specs.declared.counter_key.CounterKey.{CounterKey}
use Rattle.rate_types.specs.declared.limits.TheConstants.{MOST_VERSIONS}
use Rattle.descriptor_tree.specs.Trees.{DomainTree}
use Rattle.told_list.specs.Lists.{IsOwnedOnce}
use Rattle.counter_cells.specs.Ledgers.{charge_of}
use Rattle.counter_cells.specs.Ledgers as cells
use Rattle.counter_cells.specs.declared.view.CellView.{CellView}
use Rattle.counter_cells.specs.declared.view.Charge as cell_charge
use Rattle.counter_cells.specs.Closing.{ticks_of, TicksAreLawful}
use Rattle.counter_directory.specs.Claims.{IsLawfulClaims}
use Rattle.counter_directory.specs.declared.claim.Claim.{Claim}
use Rattle.config_versions.specs.PassState.{IsVersion}
use Rattle.rate_limiter.specs.Passes.{LimiterView, PassView, IsNewPass}
use Rattle.rate_limiter.specs.Named.{AreNamed}
use Rattle.rate_limiter.specs.Values.{HasSight}
use Rattle.rate_limiter.specs.Closing.{cells_of, IsOneLedger, AreSightsInIt}
use Rattle.rate_limiter.proofs.Places.{below, prefix_get, all_weaker, all_both}
use Rattle.script_run.proofs.Admits.{limit_holds}
use Rattle.http_checks.specs.Checker.{checker}
use Rattle.http_checks.specs.Deeds.{Deed, Deeds}
use Rattle.http_checks.specs.Versions.{charges_of, sights_of, ledger_of, sights_in, installed_by, installs, GoesBy, VersionsRise, all_deeds, AreLawfulDeeds, DeedsEach, HasClosedVersions}
use Rattle.http_checks.proofs.Grown.{prefix_self, prefix_on, named_grows, named_append, sight_grows}
use Rattle.http_checks.proofs.Ledger.{none_charged, none_owned}
use Rattle.http_checks.proofs.OneVersion.{alone_of}
use Rattle.http_checks.proofs.Owners.{owned_named}
use Rattle.http_checks.proofs.Caused.{each_caused}
use Rattle.http_checks.proofs.Enough.{all_had_room}
use Rattle.http_checks.proofs.Timed.{each_later, have_sources}
use Rattle.http_checks.proofs.Deeds.{Did, all_did, all_by, all_rise, all_few}

module _ (size : ℕ) (limiter : LimiterView) where
  did : (p : PassView) (xs : List Deed) (q : PassView) → Deeds size (checker limiter p) xs (checker limiter q)
      → Did (checker limiter p) (checker limiter q) (ledger_of xs) (sights_in xs) (λ n. installs n xs)
  did p xs q h = all_did size (checker limiter p) xs (checker limiter q) h

  -- the charges of all passes, one pass after the other
  all_named : (claims : List Claim) (before : List PassView) (deeds : List (List Deed)) (after : List PassView) → DeedsEach size limiter before deeds after
      → AllByRecursion (λ (p : PassView). p.cells.charges ≡ []) before → AllByRecursion (λ (q : PassView). IsPrefix q.claims.known claims) after
      → AreNamed claims (cells.ledger_of (cells_of after)) (ledger_of (all_deeds deeds))
  all_named claims [] [] [] h none known = tt
  all_named claims (p ∷ ps) (xs ∷ deeds) (q ∷ qs) h none known =
      let m = did p xs q h.0 in
      let all : q.cells.charges ≡ m.added = m.grew ∙ ap (λ l. l ++ m.added) none.0 in
      let mine = subst (λ (l : List cell_charge.Charge). AreNamed claims (map charge_of l) (ledger_of xs)) (sym all)
      (named_grows q.claims.known claims known.0 (map charge_of m.added) _ m.named) in
      subst (λ (l : List (Charge CounterKey)). AreNamed claims (map charge_of q.cells.charges ++ cells.ledger_of (cells_of qs)) l)
      (sym (flat_map-append charges_of xs (all_deeds deeds)))
      (named_append claims (map charge_of q.cells.charges) _ (cells.ledger_of (cells_of qs)) _ mine (all_named claims ps deeds qs h.1 none.1 known.1))
  all_named claims before deeds after h none known = absurd h

  -- what all passes saw
  all_seen : (claims : List Claim) (P : Sight CounterKey → Type 0) (before : List PassView) (deeds : List (List Deed)) (after : List PassView)
      → DeedsEach size limiter before deeds after → AllByRecursion (λ (q : PassView). IsPrefix q.claims.known claims) after
      → AllByRecursion (λ (q : PassView). (x : Sight CounterKey) → HasSight claims q.cells x → P x) after → AllByRecursion P (sights_in (all_deeds deeds))
  all_seen claims P [] [] [] h known lawful = tt
  all_seen claims P (p ∷ ps) (xs ∷ deeds) (q ∷ qs) h known lawful =
      let m = did p xs q h.0 in
      let mine = all_weaker (HasSight q.claims.known q.cells) P
      (λ s x. lawful.0 s (sight_grows q.claims.known claims q.cells q.cells known.0 (prefix_self q.cells.looks) (prefix_self q.cells.charges) s x)) (sights_in xs) m.seen in
      subst (AllByRecursion P) (sym (flat_map-append sights_of xs (all_deeds deeds)))
      (all_both P (sights_in xs) (sights_in (all_deeds deeds)) mine (all_seen claims P ps deeds qs h.1 known.1 lawful.1))
  all_seen claims P before deeds after h known lawful = absurd h

  -- what all passes have of a version is what their deeds installed
  all_own : (n : ℕ) (before : List PassView) (deeds : List (List Deed)) (after : List PassView) → DeedsEach size limiter before deeds after
      → AllByRecursion (λ (p : PassView). p.version.view.own ≡ []) before → total (λ (q : PassView). times n q.version.view.own) after ≡ installs n (all_deeds deeds)
  all_own n [] [] [] h none = refl
  all_own n (p ∷ ps) (xs ∷ deeds) (q ∷ qs) h none =
      let m = did p xs q h.0 in
      let mine = m.own n in
      let had : times n p.version.view.own ≡ 0 = ap (times n) none.0 in
      let others = all_own n ps deeds qs h.1 none.1 in
      let both = total_append (installed_by n) xs (all_deeds deeds) in
      omega arith
  all_own n before deeds after h none = absurd h

  -- no deed installed a version past those that there may be
  none_past : (before : List PassView) (deeds : List (List Deed)) (after : List PassView) → DeedsEach size limiter before deeds after
      → installs MOST_VERSIONS (all_deeds deeds) ≡ 0
  none_past [] [] [] h = refl
  none_past (p ∷ ps) (xs ∷ deeds) (q ∷ qs) h =
      let mine = all_few size (checker limiter p) xs (checker limiter q) h.0 in
      let others = none_past ps deeds qs h.1 in
      let both = total_append (installed_by MOST_VERSIONS) xs (all_deeds deeds) in
      omega arith
  none_past before deeds after h = absurd h

  -- each deed goes by the versions
  all_go : (configs : List (List DomainTree)) → length configs ≤ MOST_VERSIONS → (before : List PassView) (deeds : List (List Deed)) (after : List PassView)
      → DeedsEach size limiter before deeds after → AllByRecursion (λ (q : PassView). IsPrefix q.version.view.known configs) after
      → AllByRecursion (GoesBy configs limiter.global_shadow) (all_deeds deeds)
  all_go configs few [] [] [] h known = tt
  all_go configs few (p ∷ ps) (xs ∷ deeds) (q ∷ qs) h known =
      all_both (GoesBy configs limiter.global_shadow) xs (all_deeds deeds) (all_by size configs few (checker limiter p) xs (checker limiter q) h.0 known.0)
      (all_go configs few ps deeds qs h.1 known.1)
  all_go configs few before deeds after h known = absurd h

  -- along each pass versions rise
  each_rises : (before : List PassView) (deeds : List (List Deed)) (after : List PassView) → DeedsEach size limiter before deeds after
      → AllByRecursion (VersionsRise 0) deeds
  each_rises [] [] [] h = tt
  each_rises (p ∷ ps) (xs ∷ deeds) (q ∷ qs) h =
      (all_rise size 0 (checker limiter p) xs (checker limiter q) h.0 (omega arith), each_rises ps deeds qs h.1)
  each_rises before deeds after h = absurd h

  -- version 0 is the first
  first_is : (config : List DomainTree) (configs : List (List DomainTree)) (p : PassView) (xs : List Deed) (q : PassView)
      → Deeds size (checker limiter p) xs (checker limiter q) → p.version.view.known ≡ config ∷ [] → IsPrefix q.version.view.known configs → IsVersion configs 0 config
  first_is config configs p xs q h known all =
      let m = did p xs q h in
      prefix_get p.version.view.known configs 0 config (prefix_on p.version.view.known q.version.view.known configs m.versions all)
      (ap (λ (l : List (List DomainTree)). slice_get l 0) known)

at_most : (len : ℕ) (owned : (n : ℕ) → ℕ) → owned MOST_VERSIONS ≡ 0 → IsOwnedOnce 1 len MOST_VERSIONS (owned MOST_VERSIONS) → len ≤ MOST_VERSIONS
at_most len owned none once = pick (dec_le len MOST_VERSIONS)
  where
    pick : Dec (len ≤ MOST_VERSIONS) → len ≤ MOST_VERSIONS
    pick (yes le) = le
    pick (no n) = let one = once.there (omega arith) (omega arith) in absurd (omega arith)

-- ---- new passes

module _ (config : List DomainTree) (start : ℕ) where
  none_claimed : (ps : List PassView) → AllByRecursion (IsNewPass config start) ps → AllByRecursion (λ (p : PassView). p.claims.own ≡ []) ps
  none_claimed ps h = all_weaker (IsNewPass config start) (λ (p : PassView). p.claims.own ≡ []) (λ p n. n.claims.own) ps h

  none_ticked : (ps : List PassView) → AllByRecursion (IsNewPass config start) ps → AllByRecursion (λ (p : PassView). p.cells.ticks ≡ []) ps
  none_ticked ps h = all_weaker (IsNewPass config start) (λ (p : PassView). p.cells.ticks ≡ []) (λ p n. ap (λ (v : CellView). v.ticks) n.cells) ps h

  at_start : (ps : List PassView) → AllByRecursion (IsNewPass config start) ps → AllByRecursion (λ (p : PassView). start ≤ p.cells.moment) ps
  at_start ps h = all_weaker (IsNewPass config start) (λ (p : PassView). start ≤ p.cells.moment) (λ p n. let e = ap (λ (v : CellView). v.moment) n.cells in omega arith) ps h

-- ---- the closed limiter

module _ (size : ℕ) (limiter : LimiterView) (start : ℕ) (claims : List Claim) (versions : List (List DomainTree)) (moment : ℕ)
    (claims_lawful : IsLawfulClaims size limiter.claims_max claims) where
  -- what is known of the passes at the end
  record AreLast (after : List PassView) : Type 0 where
    claims_known : AllByRecursion (λ (q : PassView). IsPrefix q.claims.known claims) after
    claims_owned : (n : ℕ) → IsOwnedOnce 0 (length claims) n (total (λ (q : PassView). times n q.claims.own) after)
    versions_known : AllByRecursion (λ (q : PassView). IsPrefix q.version.view.known versions) after
    versions_owned : (n : ℕ) → IsOwnedOnce 1 (length versions) n (total (λ (q : PassView). times n q.version.view.own) after)
    ticks : TicksAreLawful start moment (ticks_of (cells_of after))
    ledger : IsOneLedger claims after
    sights : (charges : List (Charge CounterKey)) → AreNamed claims (cells.ledger_of (cells_of after)) charges
        → AllByRecursion (λ (q : PassView). (x : Sight CounterKey) → HasSight claims q.cells x → IsLawfulSight same_counter charges x) after

  all_lawful : (config : List DomainTree) (before : List PassView) (deeds : List (List Deed))
      → AllByRecursion (IsNewPass config start) before → (after : List PassView) → AreLast after → DeedsEach size limiter before deeds after
      → (configs : List (List DomainTree)) × AreLawfulDeeds size limiter config start configs deeds
  all_lawful config [] [] fresh [] l led = (
    config ∷ [],
    record {
      first = refl;
      few = omega arith;
      once = λ n. record { early = λ h. refl; there = λ a b. absurd (omega arith); late = λ h. refl };
      by_versions = tt;
      versions_rise = tt;
      moments_rise = tt;
      sources = tt;
      ledger = l.ledger [] tt;
      limits_hold = λ c limit. limit_holds c limit [] (l.ledger [] tt);
      sights = tt;
      causes = tt;
      room = λ enough. tt;
    },
  )
  all_lawful config (p ∷ ps) (xs ∷ deeds) fresh (q ∷ qs) l led =
      let before = p ∷ ps in
      let after = q ∷ qs in
      let all = xs ∷ deeds in
      let named = all_named size limiter claims before all after led (none_charged config start before fresh) l.claims_known in
      let own = λ (n : ℕ). all_own size limiter n before all after led (none_owned config start before fresh) in
      let once = λ (n : ℕ). subst (IsOwnedOnce 1 (length versions) n) (own n) (l.versions_owned n) in
      let few = at_most (length versions) (λ n. installs n (all_deeds all)) (none_past size limiter before all after led) (once MOST_VERSIONS) in
      let claimed = λ (n : ℕ) (x : Claim) (e : get_elem? claims n ≡ some x).
      owned_named size limiter versions claims n x e before all after led (none_claimed config start before fresh) l.versions_known l.claims_known
      (let o = (l.claims_owned n).there (omega arith) (below claims n x e) in omega arith) in
      let causes = each_caused size versions claims limiter.claims_max claims_lawful (all_deeds all) claimed limiter before all after led l.versions_known
      l.claims_known (λ i d e. (i, e)) in (
        versions,
        record {
          first = first_is size limiter config versions p xs q led.0 fresh.0.version.known l.versions_known.0;
          few = few;
          once = once;
          by_versions = all_go size limiter versions few before all after led l.versions_known;
          versions_rise = each_rises size limiter before all after led;
          moments_rise = each_later size limiter start before all after led (at_start config start before fresh);
          sources = have_sources size limiter start moment before all after led (none_ticked config start before fresh) l.ticks;
          ledger = l.ledger (ledger_of (all_deeds all)) named;
          limits_hold = λ c limit. limit_holds c limit (ledger_of (all_deeds all)) (l.ledger (ledger_of (all_deeds all)) named);
          sights = all_seen size limiter claims (IsLawfulSight same_counter (ledger_of (all_deeds all))) before all after led l.claims_known
              (l.sights (ledger_of (all_deeds all)) named);
          causes = causes;
          room = all_had_room size limiter versions (all_deeds all) causes;
        },
      )
  all_lawful config before deeds fresh after l led = absurd led

-- what closing a limiter with these passes tells of the deeds that led to them
pub has_closed_versions : (size : ℕ) (limiter : LimiterView) (start : ℕ) (passes : List PassView) (claims : List Claim) (versions : List (List DomainTree)) (moment : ℕ)
    → IsLawfulClaims size limiter.claims_max claims → All (λ (q : PassView). IsPrefix q.claims.known claims) passes
    → ((n : ℕ) → IsOwnedOnce 0 (length claims) n (total (λ (q : PassView). times n q.claims.own) passes))
    → All (λ (q : PassView). IsPrefix q.version.view.known versions) passes
    → ((n : ℕ) → IsOwnedOnce 1 (length versions) n (total (λ (q : PassView). times n q.version.view.own) passes))
    → TicksAreLawful start moment (ticks_of (cells_of passes)) → IsOneLedger claims passes → AreSightsInIt claims passes
    → HasClosedVersions size limiter start passes
has_closed_versions size limiter start passes claims versions moment claims_lawful claims_known claims_owned versions_known versions_owned ticks ledger sights = record {
  lawful = λ config before deeds new led. all config before new deeds led;
  alone = λ config before asked new led. alone_of size limiter config start before asked passes led (all config before new);
}
  where
    last : AreLast size limiter start claims versions moment claims_lawful passes
    last = record {
      claims_known = recursion_from_All (λ (q : PassView). IsPrefix q.claims.known claims) passes claims_known;
      claims_owned = claims_owned;
      versions_known = recursion_from_All (λ (q : PassView). IsPrefix q.version.view.known versions) passes versions_known;
      versions_owned = versions_owned;
      ticks = ticks;
      ledger = ledger;
      sights = λ charges named. recursion_from_All (λ (q : PassView). (x : Sight CounterKey) → HasSight claims q.cells x → IsLawfulSight same_counter charges x) passes
          (sights charges named);
    }

    all : (config : List DomainTree) (before : List PassView) → All (λ (p : PassView). IsNewPass config start p) before
        → (deeds : List (List Deed)) → DeedsEach size limiter before deeds passes
        → (configs : List (List DomainTree)) × AreLawfulDeeds size limiter config start configs deeds
    all config before new deeds led =
        all_lawful size limiter start claims versions moment claims_lawful config before deeds (recursion_from_All (IsNewPass config start) before new) passes last led
