-- Which deeds made the claims that passes have made.
use Rattle.std.proofs.Common.{◌≡◌, ℕ, zero, suc, ◌+◌, ◌-◌, ◌≤◌, ◌<◌, ◌⊎◌, List, [], ◌∷◌, ◌++◌, length, inl, inr, Result, Ok, Err, refl, sym, ap, ◌∙◌, subst, arith}
use Rattle.std.specs.List.{AllByRecursion}
use mathlib.Core.List.{IsPrefix}
use mathlib.Core.Option.{some, some-injective}
use lib.ListN.{get_elem?}
use Rattle.rate_types.specs.Sums.{total, times}
use Rattle.rate_types.specs.Requests.{RequestParts}
use Rattle.rate_types.specs.declared.counter_key.CounterKey.{CounterKey}
use Rattle.descriptor_tree.specs.Trees.{DomainTree}
use Rattle.told_list.specs.Lists.{count_from}
use Rattle.counter_directory.specs.Keys.{key_count}
use Rattle.counter_directory.specs.Passes.{KnownClaims}
use Rattle.counter_directory.specs.declared.claim.Claim.{Claim}
use Rattle.rls_core.specs.Reply.{counters_named}
use Rattle.rls_core.specs.declared.fault.CheckFault.{CheckFault}
use Rattle.rls_core.specs.declared.fault.CheckFault.TheVariants.{CountersFull, ClaimsSpent, OutOfMemory}
use Rattle.rls_core.specs.declared.reply.Reply.{Reply}
use Rattle.rate_limiter.specs.Passes.{LimiterView, PassView}
use Rattle.rate_limiter.specs.PassStep.{HasClaimed, HasRenewed, IsPassStep}
use Rattle.rate_limiter.proofs.Places.{back_at, append_at, here, prefix_at, prefix_get, times_either, times_from}
use Rattle.http_endpoint.specs.Answers.{Checked}
use Rattle.http_checks.specs.Checker.{Checker, checker, ChecksBy}
use Rattle.http_checks.specs.Deeds.{At, at_pass, Deed, checked, reloaded, Does, Deeds}
use Rattle.http_checks.specs.Versions.{ledger_of, sights_in, installs, all_deeds, DeedsEach}
use Rattle.http_checks.specs.Named.{Names, IsNamed}
use Rattle.http_checks.proofs.Grown.{prefix_on}
use Rattle.http_checks.proofs.Deeds.{Did, all_did}

-- the claim at this place is of one of the counters
abbrev IsOf : List CounterKey → KnownClaims → ℕ → Type 0
IsOf keys w n = (x : Claim) × (get_elem? w.known n ≡ some x) × (1 ≤ key_count x.key keys)

-- a claim that the pass owns it owned before, or it is of one of the counters
claimed_of : (keys : List CounterKey) (m : ℕ) (v w : KnownClaims) → HasClaimed keys m v w → (n : ℕ) → 1 ≤ times n w.own → (1 ≤ times n v.own) ⊎ IsOf keys w n
claimed_of keys m v w c n owned = pick (times_either n v.own _ (subst (λ (l : List ℕ). 1 ≤ times n l) c.own owned))
  where
    pick : (1 ≤ times n v.own) ⊎ (1 ≤ times n (count_from (length c.found) (length c.added))) → (1 ≤ times n v.own) ⊎ IsOf keys w n
    pick (inl mine) = inl mine
    pick (inr new) =
        let f = times_from n (length c.found) (length c.added) new in
        let x = here c.added (n - length c.found) (omega (arith, f.0, f.1)) in
        let at : length c.found + (n - length c.found) ≡ n = omega (arith, f.0) in
        inr (
          x.0,
          ap (λ (l : List Claim). get_elem? l n) c.known
              ∙ subst (λ (k : ℕ). get_elem? (c.found ++ c.added) k ≡ some x.0) at (back_at c.found c.added (n - length c.found) x.0 x.1),
          c.named (n - length c.found) x.0 x.1,
        )

-- the deed made the claim at this place
record IsMade (configs : List (List DomainTree)) (d : Deed) (q : PassView) (n : ℕ) : Type 0 where
  pub claim : Claim
  pub there : get_elem? q.claims.known n ≡ some claim
  pub made : Checked
  pub at : At
  pub is : d ≡ checked made at
  pub names : Names configs made at claim.key

module _ (size : ℕ) (configs : List (List DomainTree)) where
  check_made : (p : Checker) (request : RequestParts) (now : ℕ) (result : Result Reply CheckFault) (q : Checker) → ChecksBy size p request now result q
      → IsPrefix q.pass.version.view.known configs → (n : ℕ) → 1 ≤ times n q.pass.claims.own
      → (1 ≤ times n p.pass.claims.own) ⊎ IsMade configs (checked (record { request = request; now = now; result = result }) (at_pass q.pass)) q.pass n
  check_made p request now (Ok reply) q h known n owned = pick (claimed_of keys q.pass.cells.moment p.pass.claims q.pass.claims s.claims n owned)
    where
      s : IsPassStep p.limiter request now p.pass reply q.pass
      s = h.step

      keys : List CounterKey
      keys = counters_named q.pass.version.index request q.pass.cells.moment

      pick : (1 ≤ times n p.pass.claims.own) ⊎ IsOf keys q.pass.claims n
          → (1 ≤ times n p.pass.claims.own) ⊎ IsMade configs (checked (record { request = request; now = now; result = Ok reply }) (at_pass q.pass)) q.pass n
      pick (inl mine) = inl mine
      pick (inr x) = inr (record {
        claim = x.0;
        there = x.1;
        made = record { request = request; now = now; result = Ok reply };
        at = at_pass q.pass;
        is = refl;
        names = record {
          config = q.pass.version.index;
          is_version = prefix_get q.pass.version.view.known configs q.pass.version.version q.pass.version.index known s.version.at;
          named = x.2;
        };
      })
  check_made p request now (Err OutOfMemory) q h known n owned = by h.step.1.1
    where
      by : (q.pass.claims ≡ p.pass.claims) ⊎ (HasRenewed p.pass.version q.pass.version
          × HasClaimed (counters_named q.pass.version.index request q.pass.cells.moment) q.pass.cells.moment p.pass.claims q.pass.claims)
          → (1 ≤ times n p.pass.claims.own) ⊎ IsMade configs (checked (record { request = request; now = now; result = Err OutOfMemory }) (at_pass q.pass)) q.pass n
      by (inl same) = inl (subst (λ (t : KnownClaims). 1 ≤ times n t.own) same owned)
      by (inr made) = pick (claimed_of keys q.pass.cells.moment p.pass.claims q.pass.claims made.1 n owned)
        where
          keys : List CounterKey
          keys = counters_named q.pass.version.index request q.pass.cells.moment

          pick : (1 ≤ times n p.pass.claims.own) ⊎ IsOf keys q.pass.claims n
              → (1 ≤ times n p.pass.claims.own) ⊎ IsMade configs (checked (record { request = request; now = now; result = Err OutOfMemory }) (at_pass q.pass)) q.pass n
          pick (inl mine) = inl mine
          pick (inr x) = inr (record {
            claim = x.0;
            there = x.1;
            made = record { request = request; now = now; result = Err OutOfMemory };
            at = at_pass q.pass;
            is = refl;
            names = record {
              config = q.pass.version.index;
              is_version = prefix_get q.pass.version.view.known configs q.pass.version.version q.pass.version.index known made.0.at;
              named = x.2;
            };
          })
  check_made p request now (Err (ClaimsSpent claims wanted)) q h known n owned = inl (subst (λ (l : List ℕ). 1 ≤ times n l) h.step.0.own_claims owned)
  check_made p request now (Err (CountersFull moment live held wanted)) q h known n owned = inl (subst (λ (l : List ℕ). 1 ≤ times n l) h.step.0.own_claims owned)

  one_made : (p : Checker) (d : Deed) (q : Checker) → Does size p d q → IsPrefix q.pass.version.view.known configs → (n : ℕ) → 1 ≤ times n q.pass.claims.own
      → (1 ≤ times n p.pass.claims.own) ⊎ IsMade configs d q.pass n
  one_made p (checked a at) q h known n owned =
      subst (λ (x : At). (1 ≤ times n p.pass.claims.own) ⊎ IsMade configs (checked a x) q.pass n) (sym h.1)
      (check_made p a.request a.now a.result q h.0 known n owned)
  one_made p (reloaded config result) q h known n owned = inl (subst (λ (x : PassView). 1 ≤ times n x.claims.own) h.rest owned)

  -- a claim that the pass owns it owned before, or one of the deeds names its counter
  all_made : (claims : List Claim) (p : Checker) (deeds : List Deed) (q : Checker) → Deeds size p deeds q → IsPrefix q.pass.version.view.known configs
      → IsPrefix q.pass.claims.known claims → (n : ℕ) (x : Claim) → get_elem? claims n ≡ some x → 1 ≤ times n q.pass.claims.own
      → (1 ≤ times n p.pass.claims.own) ⊎ IsNamed configs deeds x.key
  all_made claims p [] q h known claimed n x e owned = inl (subst (λ (c : Checker). 1 ≤ times n c.pass.claims.own) h owned)
  all_made claims p (d ∷ deeds) q h known claimed n x e owned = later (all_made claims mid deeds q h.2 known claimed n x e owned)
    where
      mid : Checker
      mid = h.0

      more : Did mid q (ledger_of deeds) (sights_in deeds) (λ k. installs k deeds)
      more = all_did size mid deeds q h.2

      first : (1 ≤ times n p.pass.claims.own) ⊎ IsMade configs d mid.pass n → (1 ≤ times n p.pass.claims.own) ⊎ IsNamed configs (d ∷ deeds) x.key
      first (inl mine) = inl mine
      first (inr m) =
          let there = prefix_at mid.pass.claims.known claims n m.claim (prefix_on mid.pass.claims.known q.pass.claims.known claims more.claims claimed) m.there in
          let same : m.claim ≡ x = some-injective m.claim x (sym there ∙ e) in
          inr (record {
            place = 0;
            made = m.made;
            at = m.at;
            there = ap some m.is;
            names = subst (λ (y : Claim). Names configs m.made m.at y.key) same m.names;
          })

      later : (1 ≤ times n mid.pass.claims.own) ⊎ IsNamed configs deeds x.key → (1 ≤ times n p.pass.claims.own) ⊎ IsNamed configs (d ∷ deeds) x.key
      later (inl then) =
          first (one_made p d mid h.1 (prefix_on mid.pass.version.view.known q.pass.version.view.known configs more.versions known) n then)
      later (inr m) = inr (record { place = suc m.place; made = m.made; at = m.at; there = m.there; names = m.names })

pub named_front : (configs : List (List DomainTree)) (xs ys : List Deed) (c : CounterKey) → IsNamed configs xs c → IsNamed configs (xs ++ ys) c
named_front configs xs ys c h = record { place = h.place; made = h.made; at = h.at; there = append_at xs ys h.place (checked h.made h.at) h.there; names = h.names }

pub named_back : (configs : List (List DomainTree)) (xs ys : List Deed) (c : CounterKey) → IsNamed configs ys c → IsNamed configs (xs ++ ys) c
named_back configs xs ys c h = record { place = length xs + h.place; made = h.made; at = h.at; there = back_at xs ys h.place (checked h.made h.at) h.there; names = h.names }

module _ (size : ℕ) (limiter : LimiterView) (configs : List (List DomainTree)) (claims : List Claim) (n : ℕ) (x : Claim)
    (at : get_elem? claims n ≡ some x) where
  -- a claim that a pass made is of a counter that one of the deeds names
  pub owned_named : (before : List PassView) (deeds : List (List Deed)) (after : List PassView) → DeedsEach size limiter before deeds after
      → AllByRecursion (λ (p : PassView). p.claims.own ≡ []) before → AllByRecursion (λ (q : PassView). IsPrefix q.version.view.known configs) after
      → AllByRecursion (λ (q : PassView). IsPrefix q.claims.known claims) after → 1 ≤ total (λ (q : PassView). times n q.claims.own) after
      → IsNamed configs (all_deeds deeds) x.key
  owned_named [] [] [] h none known claimed owned = absurd (omega arith)
  owned_named (p ∷ ps) (xs ∷ deeds) (q ∷ qs) h none known claimed owned =
      pick (times n q.claims.own) refl (λ more. owned_named ps deeds qs h.1 none.1 known.1 claimed.1 more)
    where
      mine : (1 ≤ times n p.claims.own) ⊎ IsNamed configs xs x.key → IsNamed configs (xs ++ all_deeds deeds) x.key
      mine (inl had) = let z : times n p.claims.own ≡ 0 = ap (times n) none.0 in absurd (omega arith)
      mine (inr m) = named_front configs xs (all_deeds deeds) x.key m

      pick : (k : ℕ) → times n q.claims.own ≡ k → (1 ≤ total (λ (v : PassView). times n v.claims.own) qs → IsNamed configs (all_deeds deeds) x.key)
          → IsNamed configs (xs ++ all_deeds deeds) x.key
      pick zero e others = named_back configs xs (all_deeds deeds) x.key (others (omega arith))
      pick (suc k) e others = mine (all_made size configs claims (checker limiter p) xs (checker limiter q) h.0 known.0 claimed.0 n x at (omega arith))
  owned_named before deeds after h none known claimed owned = absurd h
