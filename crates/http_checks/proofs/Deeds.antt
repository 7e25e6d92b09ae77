-- What one deed and what several make of a pass.
use Rattle.std.proofs.Common.{◌≡◌, ℕ, ◌+◌, ◌-◌, ◌≤◌, ◌<◌, ◌==◌, List, [], ◌∷◌, ◌++◌, length, map, Result, Ok, Err, refl, sym, ap, ◌∙◌, subst, arith, append_assoc, ne_eqb}
use Rattle.std.proofs.lemmas.List.{map-append, append-nil}
use Rattle.std.specs.Prelude.{slice_get}
use Rattle.std.specs.List.{AllByRecursion}
use mathlib.Core.List.{IsPrefix}
use Rattle.rate_types.specs.Sums.{times, one_if}
use Rattle.rate_types.proofs.Sums.{total_append}
use Rattle.rate_types.specs.Requests.{RequestParts}
use Rattle.rate_types.specs.Ledger.{Charge, Sight}
use Rattle.rate_types.specs.declared.counter_key.CounterKey.{CounterKey}
use Rattle.rate_types.specs.declared.limits.TheConstants.{MOST_VERSIONS}
use Rattle.descriptor_tree.specs.Trees.{DomainTree}
use Rattle.rls_core.specs.declared.fault.CheckFault.{CheckFault}
use Rattle.rls_core.specs.declared.fault.CheckFault.TheVariants as check_fault
use Rattle.rls_core.specs.declared.fault.ReloadFault.{ReloadFault}
use Rattle.rls_core.specs.declared.fault.ReloadFault.TheVariants as reload_fault
use Rattle.rls_core.specs.declared.reply.Reply.{Reply}
use Rattle.rls_core.specs.Reply.{IsReplyOf}
use Rattle.counter_cells.specs.Ledgers.{charge_of}
use Rattle.counter_cells.specs.declared.view.Charge as cell_charge
use Rattle.config_versions.specs.PassState.{PassState}
use Rattle.rate_limiter.specs.Passes.{LimiterView, PassView}
use Rattle.rate_limiter.specs.Versions.{Reloads}
use Rattle.rate_limiter.specs.Named.{AreNamed}
use Rattle.rate_limiter.specs.Values.{HasSight}
use Rattle.rate_limiter.proofs.Places.{prefix_get, prefix_length, all_both}
use Rattle.http_checks.specs.Checker.{Checker, ChecksBy}
use Rattle.http_checks.specs.Deeds.{At, at_pass, Deed, checked, reloaded, ReloadsBy, Does, Deeds}
use Rattle.http_checks.specs.Versions.{charges_of, sights_of, ledger_of, sights_in, installed_by, installs, IsAnsweredBy, IsInForce, GoesBy}
use Rattle.http_checks.specs.Versions.{version_answered, IsAbove, VersionsRise}
use Rattle.http_checks.proofs.Grown.{prefix_self, prefix_same, prefix_on, prefix_added, named_grows, named_append, sights_grow}
use Rattle.http_checks.proofs.Ledger.{one_made}
use Rattle.http_checks.proofs.Replied.{last_at}

-- what deeds make of a pass: what checks make of it, and these versions of its own
pub record Did (p q : Checker) (charges : List (Charge CounterKey)) (sights : List (Sight CounterKey)) (made : ℕ → ℕ) : Type 0 where
  pub limiter : q.limiter ≡ p.limiter
  pub added : List cell_charge.Charge
  pub grew : q.pass.cells.charges ≡ p.pass.cells.charges ++ added
  pub named : AreNamed q.pass.claims.known (map charge_of added) charges
  pub seen : AllByRecursion (HasSight q.pass.claims.known q.pass.cells) sights
  pub claims : IsPrefix p.pass.claims.known q.pass.claims.known
  pub looks : IsPrefix p.pass.cells.looks q.pass.cells.looks
  pub versions : IsPrefix p.pass.version.view.known q.pass.version.view.known
  pub own : (n : ℕ) → times n q.pass.version.view.own ≡ times n p.pass.version.view.own + made n

-- what a reload makes of the versions of a pass
record Turned (s t : PassState (List DomainTree)) (made : ℕ → ℕ) : Type 0 where
  versions : IsPrefix s.view.known t.view.known
  own : (n : ℕ) → times n t.view.own ≡ times n s.view.own + made n

reload_turned : (config : List DomainTree) (result : Result ℕ ReloadFault) (s t : PassState (List DomainTree)) → Reloads config result s t
    → Turned s t (λ n. installed_by n (reloaded config result))
reload_turned config (Ok version) s t h = record {
  versions = prefix_added s.view.known h.found (config ∷ []) t.view.known h.turn.knew h.known;
  own = λ n.
      let e = ap (times n) h.own in
      let a = total_append (λ (x : ℕ). one_if (x == n)) s.view.own (version ∷ []) in
      omega arith;
}
reload_turned config (Err (reload_fault.VersionsFull versions)) s t h = record {
  versions = h.2.turn.knew;
  own = λ n. let e = ap (times n) h.2.own in omega arith;
}
reload_turned config (Err reload_fault.OutOfMemory) s t h = record {
  versions = h.knows;
  own = λ n. let e = ap (times n) h.own in omega arith;
}

module _ (size : ℕ) where
  reload_did : (config : List DomainTree) (result : Result ℕ ReloadFault) (p q : Checker) → ReloadsBy config result p q
      → Did p q [] [] (λ n. installed_by n (reloaded config result))
  reload_did config result p q h =
      let t = reload_turned config result p.pass.version q.pass.version h.reload in
      record {
        limiter = h.limiter;
        added = [];
        grew = ap (λ (x : PassView). x.cells.charges) h.rest ∙ sym (append-nil p.pass.cells.charges);
        named = tt;
        seen = tt;
        claims = prefix_same _ _ (ap (λ (x : PassView). x.claims.known) h.rest);
        looks = prefix_same _ _ (ap (λ (x : PassView). x.cells.looks) h.rest);
        versions = t.versions;
        own = t.own;
      }

  pub one_did : (p : Checker) (d : Deed) (q : Checker) → Does size p d q → Did p q (charges_of d) (sights_of d) (λ n. installed_by n d)
  one_did p (checked a at) q h =
      let m = one_made size p a.request a.now a.result q h.0 in
      record {
        limiter = m.limiter;
        added = m.added;
        grew = m.grew;
        named = m.named;
        seen = m.seen;
        claims = m.claims;
        looks = m.looks;
        versions = m.versions;
        own = λ n. let e = ap (times n) m.own in omega arith;
      }
  one_did p (reloaded config result) q h = reload_did config result p q h

  -- deeds one after the other
  pub all_did : (p : Checker) (deeds : List Deed) (q : Checker) → Deeds size p deeds q → Did p q (ledger_of deeds) (sights_in deeds) (λ n. installs n deeds)
  all_did p [] q h = subst (λ (x : Checker). Did p x [] [] (λ n. 0)) (sym h) (record {
    limiter = refl;
    added = [];
    grew = sym (append-nil p.pass.cells.charges);
    named = tt;
    seen = tt;
    claims = prefix_self p.pass.claims.known;
    looks = prefix_self p.pass.cells.looks;
    versions = prefix_self p.pass.version.view.known;
    own = λ n. omega arith;
  })
  all_did p (d ∷ deeds) q h =
      let mid = h.0 in
      let one = one_did p d mid h.1 in
      let more = all_did mid deeds q h.2 in
      record {
        limiter = more.limiter ∙ one.limiter;
        added = one.added ++ more.added;
        grew = more.grew ∙ ap (λ l. l ++ more.added) one.grew ∙ append_assoc p.pass.cells.charges one.added more.added;
        named = subst (λ (us : List (Charge ℕ)). AreNamed q.pass.claims.known us (charges_of d ++ ledger_of deeds))
            (sym (map-append charge_of one.added more.added))
            (named_append q.pass.claims.known (map charge_of one.added) _ (map charge_of more.added) _
            (named_grows mid.pass.claims.known q.pass.claims.known more.claims (map charge_of one.added) _ one.named) more.named);
        seen = all_both (HasSight q.pass.claims.known q.pass.cells) (sights_of d) (sights_in deeds)
            (sights_grow mid.pass.claims.known q.pass.claims.known mid.pass.cells q.pass.cells more.claims more.looks (more.added, sym more.grew)
            (sights_of d) one.seen) more.seen;
        claims = prefix_on p.pass.claims.known mid.pass.claims.known q.pass.claims.known one.claims more.claims;
        looks = prefix_on p.pass.cells.looks mid.pass.cells.looks q.pass.cells.looks one.looks more.looks;
        versions = prefix_on p.pass.version.view.known mid.pass.version.view.known q.pass.version.view.known one.versions more.versions;
        own = λ n. let a = one.own n in let b = more.own n in omega arith;
      }

  -- ---- versions of one pass

  check_by : (configs : List (List DomainTree)) (p : Checker) (request : RequestParts) (now : ℕ) (result : Result Reply CheckFault) (q : Checker)
      → ChecksBy size p request now result q → IsPrefix q.pass.version.view.known configs
      → IsAnsweredBy configs p.limiter.global_shadow request (at_pass q.pass) result
  check_by configs p request now (Ok reply) q h known =
      let s = h.step in
      let at = prefix_get q.pass.version.view.known configs q.pass.version.version q.pass.version.index known s.version.at in (
        s.version_is,
        s.moment_is,
        record {
          config = q.pass.version.index;
          version = ap (slice_get configs) s.version_is ∙ at;
          is_reply = subst (λ (m : ℕ). IsReplyOf q.pass.version.index request m p.limiter.global_shadow reply.over reply.statuses.items) (sym s.moment_is) s.reply;
        },
      )
  check_by configs p request now (Err check_fault.OutOfMemory) q h known = tt
  check_by configs p request now (Err (check_fault.ClaimsSpent claims wanted)) q h known = tt
  check_by configs p request now (Err (check_fault.CountersFull moment live held wanted)) q h known = h.step.1.2.moment_is

  reload_by : (configs : List (List DomainTree)) → length configs ≤ MOST_VERSIONS → (config : List DomainTree) (result : Result ℕ ReloadFault) (s t : PassState (List DomainTree))
      → Reloads config result s t → IsPrefix t.view.known configs → IsInForce configs config result
  reload_by configs few config (Ok version) s t h known = (
    (let r = h.rises in omega arith),
    prefix_get t.view.known configs version config known
        (ap (slice_get t.view.known) h.place ∙ ap (λ (l : List (List DomainTree)). slice_get l (length h.found)) h.known ∙ last_at h.found config),
  )
  reload_by configs few config (Err (reload_fault.VersionsFull versions)) s t h known =
      let l = prefix_length t.view.known configs known in
      let m = h.1 in
      (h.0, omega arith)
  reload_by configs few config (Err reload_fault.OutOfMemory) s t h known = tt

  one_by : (configs : List (List DomainTree)) → length configs ≤ MOST_VERSIONS → (p : Checker) (d : Deed) (q : Checker) → Does size p d q
      → IsPrefix q.pass.version.view.known configs → GoesBy configs p.limiter.global_shadow d
  one_by configs few p (checked a at) q h known =
      subst (λ (x : At). IsAnsweredBy configs p.limiter.global_shadow a.request x a.result) (sym h.1) (check_by configs p a.request a.now a.result q h.0 known)
  one_by configs few p (reloaded config result) q h known = reload_by configs few config result p.pass.version q.pass.version h.reload known

  pub all_by : (configs : List (List DomainTree)) → length configs ≤ MOST_VERSIONS → (p : Checker) (deeds : List Deed) (q : Checker) → Deeds size p deeds q
      → IsPrefix q.pass.version.view.known configs → AllByRecursion (GoesBy configs p.limiter.global_shadow) deeds
  all_by configs few p [] q h known = tt
  all_by configs few p (d ∷ deeds) q h known =
      let mid = h.0 in
      let one = one_did p d mid h.1 in
      let more = all_did mid deeds q h.2 in (
        one_by configs few p d mid h.1 (prefix_on mid.pass.version.view.known q.pass.version.view.known configs more.versions known),
        subst (λ (l : LimiterView). AllByRecursion (GoesBy configs l.global_shadow) deeds) one.limiter (all_by configs few mid deeds q h.2 known),
      )

  -- a check never leaves its pass at an earlier version
  check_rises : (p : Checker) (request : RequestParts) (now : ℕ) (result : Result Reply CheckFault) (q : Checker) → ChecksBy size p request now result q
      → p.pass.version.version ≤ q.pass.version.version
  check_rises p request now (Ok reply) q h = h.step.version.rises
  check_rises p request now (Err check_fault.OutOfMemory) q h = h.step.0.version
  check_rises p request now (Err (check_fault.ClaimsSpent claims wanted)) q h = h.step.0.version
  check_rises p request now (Err (check_fault.CountersFull moment live held wanted)) q h = h.step.0.version

  reload_rises : (least : ℕ) (config : List DomainTree) (result : Result ℕ ReloadFault) (s t : PassState (List DomainTree)) → Reloads config result s t
      → least ≤ s.version → IsAbove least result × (version_answered least result ≤ t.version)
  reload_rises least config (Ok version) s t h le = let r = h.rises in let v = h.version in (omega arith, omega arith)
  reload_rises least config (Err (reload_fault.VersionsFull versions)) s t h le = let m = h.1 in let v = h.2.version in (tt, omega arith)
  reload_rises least config (Err reload_fault.OutOfMemory) s t h le = let v = h.version in (tt, omega arith)

  pub all_rise : (least : ℕ) (p : Checker) (deeds : List Deed) (q : Checker) → Deeds size p deeds q → least ≤ p.pass.version.version → VersionsRise least deeds
  all_rise least p [] q h le = tt
  all_rise least p (checked a at ∷ deeds) q h le =
      let mid = h.0 in
      let r = check_rises p a.request a.now a.result mid h.1.0 in
      let is = ap (λ (x : At). x.version) h.1.1 in
      (omega arith, all_rise at.version mid deeds q h.2 (omega arith))
  all_rise least p (reloaded config result ∷ deeds) q h le =
      let mid = h.0 in
      let r = reload_rises least config result p.pass.version mid.pass.version h.1.reload le in
      (r.0, all_rise (version_answered least result) mid deeds q h.2 r.1)

  -- no deed installs a version past those that there may be
  reload_few : (config : List DomainTree) (result : Result ℕ ReloadFault) (s t : PassState (List DomainTree)) → Reloads config result s t
      → installed_by MOST_VERSIONS (reloaded config result) ≡ 0
  reload_few config (Ok version) s t h = let r = h.room in ap one_if (ne_eqb version MOST_VERSIONS (λ (e : version ≡ MOST_VERSIONS). omega arith))
  reload_few config (Err fault) s t h = refl

  pub all_few : (p : Checker) (deeds : List Deed) (q : Checker) → Deeds size p deeds q → installs MOST_VERSIONS deeds ≡ 0
  all_few p [] q h = refl
  all_few p (checked a at ∷ deeds) q h = let r = all_few h.0 deeds q h.2 in omega arith
  all_few p (reloaded config result ∷ deeds) q h =
      let r = all_few h.0 deeds q h.2 in
      let one = reload_few config result p.pass.version h.0.pass.version h.1.reload in
      omega arith
