-- Why the checks of passes were refused: by counters that checks name.
use Rattle.std.proofs.Common.{◌≡◌, ◌⊎◌, ℕ, suc, ◌+◌, ◌-◌, ◌*◌, ◌≤◌, ◌<◌, List, [], ◌∷◌, ◌++◌, length, Bool, true, false, Result, Ok, Err, refl, sym, ap, ◌∙◌, subst, arith, length-append}
use Rattle.std.proofs.lemmas.Bool.{ltb-true}
use Rattle.std.proofs.lemmas.List.{length-map}
use Rattle.std.specs.List.{AllByRecursion}
use mathlib.Core.List.{IsPrefix}
use mathlib.Core.Option.{some}
use lib.ListN.{get_elem?}
use Rattle.rate_types.specs.Counters.{same_counter}
use Rattle.rate_types.specs.Sums.{one_if}
use Rattle.rate_types.specs.Requests.{RequestParts}
use Rattle.rate_types.specs.declared.counter_key.CounterKey.{CounterKey}
use Rattle.window_keys.specs.Counter.{window_end_of}
use Rattle.window_keys.proofs.Counters.{same_is}
use Rattle.descriptor_tree.specs.Trees.{DomainTree}
use Rattle.counter_directory.specs.Keys.{IsMissing}
use Rattle.counter_directory.specs.Claims.{IsLawfulClaims}
use Rattle.counter_directory.specs.declared.claim.Claim.{Claim}
use Rattle.config_versions.specs.PassState.{IsVersion}
use Rattle.rls_core.specs.Reply.{counters_named}
use Rattle.rls_core.specs.declared.fault.CheckFault.{CheckFault}
use Rattle.rls_core.specs.declared.fault.CheckFault.TheVariants.{CountersFull, ClaimsSpent, OutOfMemory}
use Rattle.rls_core.specs.declared.reply.Reply.{Reply}
use Rattle.rate_limiter.specs.Passes.{LimiterView, PassView, bounds_of}
use Rattle.rate_limiter.specs.Refusals.{AreClaimsSpent, AreCountersFull}
use Rattle.rate_limiter.proofs.Places.{prefix_at, prefix_get, total_there, append_at, back_at, all_both}
use Rattle.rate_limiter.proofs.CounterLists.{count, Differ}
use Rattle.rate_limiter.proofs.OpenClaims.{keys_in, keys_count, live_few}
use Rattle.rate_limiter.proofs.LawfulClaims.{first_lawful, keys_differ}
use Rattle.rate_limiter.proofs.RequestCounters.{named_open}
use Rattle.rate_limiter.proofs.WantedCounters.{missing_differ, missing_is, together_differ, together_count, some_open, open_long, open_is, open_differ}
use Rattle.http_endpoint.specs.Answers.{Checked}
use Rattle.http_checks.specs.Checker.{Checker, checker, ChecksBy}
use Rattle.http_checks.specs.Deeds.{At, at_pass, Deed, checked, reloaded, Does, Deeds}
use Rattle.http_checks.specs.Named.{IsNamed}
use Rattle.http_checks.specs.Causes.{IsCause, HasCause}
use Rattle.http_checks.specs.Versions.{all_deeds, DeedsEach}
use Rattle.http_checks.proofs.Grown.{prefix_on}
use Rattle.http_checks.proofs.Deeds.{one_did, all_did}

-- a check of these deeds
abbrev pub IsThere : List Deed → Checked → At → Type 0
IsThere deeds a at = (i : ℕ) × (get_elem? deeds i ≡ some (checked a at))

module _ (size : ℕ) (configs : List (List DomainTree)) (claims : List Claim) (most : ℕ) (lawful : IsLawfulClaims size most claims) (all : List Deed)
    (named : (n : ℕ) (x : Claim) → get_elem? claims n ≡ some x → IsNamed configs all x.key) where
  -- the counter of a claim that is known is one that checks name
  claimed_named : (known : List Claim) → IsPrefix known claims → (c : CounterKey) → 1 ≤ count c (keys_in known) → IsNamed configs all c
  claimed_named known p c some_c =
      let k = keys_count c known in
      let t = total_there (λ (x : Claim). one_if (same_counter x.key c)) known (omega arith) in
      subst (IsNamed configs all) (key_is t.1 t.3) (named t.0 t.1 (prefix_at known claims t.0 t.1 p t.2))
    where
      key_is : (x : Claim) → 1 ≤ one_if (same_counter x.key c) → x.key ≡ c
      key_is x h = by (same_counter x.key c) refl
        where
          by : (b : Bool) → same_counter x.key c ≡ b → x.key ≡ c
          by true e = same_is x.key c e
          by false e = let o = ap one_if e in absurd (omega arith)

  differ : (known : List Claim) → IsPrefix known claims → Differ (keys_in known)
  differ known p = keys_differ size most known (first_lawful size most known claims p lawful)

  check_cause : (p : Checker) (request : RequestParts) (now : ℕ) (result : Result Reply CheckFault) (q : Checker) → ChecksBy size p request now result q
      → IsPrefix q.pass.version.view.known configs → IsPrefix q.pass.claims.known claims
      → IsThere all (record { request = request; now = now; result = result }) (at_pass q.pass)
      → IsCause size p.limiter configs all (record { request = request; now = now; result = result }) (at_pass q.pass) result
  check_cause p request now (Ok reply) q h known claimed there = tt
  check_cause p request now (Err OutOfMemory) q h known claimed there = tt
  check_cause p request now (Err (ClaimsSpent spent wanted)) q h known claimed there = record {
    spent = c.spent;
    wants = record {
      counters = missing;
      count = sym c.wanted_is.2;
      differ = missing_differ keys made missing is;
      each = λ k l. record { config = q.pass.version.index; is_version = at; named = (missing_is keys made missing is k l).1 };
    };
    names = record {
      counters = keys_in made ++ missing;
      count =
          let e = length-append (keys_in made) missing in
          let k = length-map made (λ (x : Claim). x.key) in
          let w = c.wanted_is.2 in
          let s = c.claims_is in
          omega arith;
      differ = together_differ keys made missing is (keys_in made) (differ made claimed) (λ k l. l);
      each = λ k l. together_count keys made missing is (keys_in made) k (IsNamed configs all k) l (claimed_named made claimed k)
          (λ l'. mine k (missing_is keys made missing is k l').1);
    };
  }
    where
      m : ℕ
      m = q.pass.cells.moment

      keys : List CounterKey
      keys = counters_named q.pass.version.index request m

      made : List Claim
      made = q.pass.claims.known

      c : AreClaimsSpent (bounds_of size p.limiter) keys made spent wanted
      c = h.step.1.2

      missing : List CounterKey
      missing = c.wanted_is.0

      is : IsMissing made keys missing
      is = c.wanted_is.1

      at : IsVersion configs q.pass.version.version q.pass.version.index
      at = prefix_get q.pass.version.view.known configs q.pass.version.version q.pass.version.index known h.step.1.1.at

      mine : (k : CounterKey) → 1 ≤ count k keys → IsNamed configs all k
      mine k l = record {
        place = there.0;
        made = record { request = request; now = now; result = Err (ClaimsSpent spent wanted) };
        at = at_pass q.pass;
        there = there.1;
        names = record { config = q.pass.version.index; is_version = at; named = l };
      }
  check_cause p request now (Err (CountersFull moment live held wanted)) q h known claimed there = record {
    full = c.full;
    some = c.some;
    holds = c.few;
    wants = record {
      counters = missing;
      count = sym c.wanted_is.2;
      differ = missing_differ keys made missing is;
      each = λ k l. record { config = q.pass.version.index; is_version = at; named = (missing_is keys made missing is k l).1 };
    };
    names = record {
      counters = lives ++ missing;
      count = let e = length-append lives missing in let l = long in let w = c.wanted_is.2 in omega arith;
      differ = together_differ keys made missing is lives (open_differ moment made live (differ made claimed)) (λ k l. (open_is moment made live k l).1);
      each = λ k l. together_count keys made missing is lives k ((q.pass.cells.moment < window_end_of k) × IsNamed configs all k) l
          (λ l'.
          let o = open_is moment made live k l' in
          (subst (λ (n : ℕ). n < window_end_of k) c.moment_is (ltb-true moment (window_end_of k) o.0), claimed_named made claimed k o.1))
          (λ l'.
          let w = (missing_is keys made missing is k l').1 in
          let o = ltb-true q.pass.cells.moment (window_end_of k) (named_open q.pass.version.index request q.pass.cells.moment k w) in
          (o, mine k w));
    };
  }
    where
      keys : List CounterKey
      keys = counters_named q.pass.version.index request q.pass.cells.moment

      made : List Claim
      made = q.pass.claims.known

      c : AreCountersFull (bounds_of size p.limiter) keys made p.pass.cells q.pass.cells moment live held wanted
      c = h.step.1.2

      missing : List CounterKey
      missing = c.wanted_is.0

      is : IsMissing made keys missing
      is = c.wanted_is.1

      lives : List CounterKey
      lives = some_open moment made live

      long : length lives ≡ live
      long = open_long moment made live (let l = live_few moment size made in let e = c.live_is in omega arith)

      at : IsVersion configs q.pass.version.version q.pass.version.index
      at = prefix_get q.pass.version.view.known configs q.pass.version.version q.pass.version.index known h.step.1.1.at

      mine : (k : CounterKey) → 1 ≤ count k keys → IsNamed configs all k
      mine k l = record {
        place = there.0;
        made = record { request = request; now = now; result = Err (CountersFull moment live held wanted) };
        at = at_pass q.pass;
        there = there.1;
        names = record { config = q.pass.version.index; is_version = at; named = l };
      }

  one_cause : (p : Checker) (d : Deed) (q : Checker) → Does size p d q → IsPrefix q.pass.version.view.known configs → IsPrefix q.pass.claims.known claims
      → (i : ℕ) → get_elem? all i ≡ some d → HasCause size p.limiter configs all d
  one_cause p (checked a at) q h known claimed i there =
      subst (λ (x : At). IsCause size p.limiter configs all a x a.result) (sym h.1)
      (check_cause p a.request a.now a.result q h.0 known claimed (i, there ∙ ap (λ (x : At). some (checked a x)) h.1))
  one_cause p (reloaded config result) q h known claimed i there = tt

  -- the deeds of one pass, which are these of all
  all_caused : (p : Checker) (deeds : List Deed) (q : Checker) → Deeds size p deeds q → IsPrefix q.pass.version.view.known configs
      → IsPrefix q.pass.claims.known claims → ((i : ℕ) (d : Deed) → get_elem? deeds i ≡ some d → (j : ℕ) × (get_elem? all j ≡ some d))
      → AllByRecursion (HasCause size p.limiter configs all) deeds
  all_caused p [] q h known claimed there = tt
  all_caused p (d ∷ deeds) q h known claimed there =
      let mid = h.0 in
      let one = one_did size p d mid h.1 in
      let more = all_did size mid deeds q h.2 in
      let t = there 0 d refl in (
        one_cause p d mid h.1 (prefix_on mid.pass.version.view.known q.pass.version.view.known configs more.versions known)
            (prefix_on mid.pass.claims.known q.pass.claims.known claims more.claims claimed) t.0 t.1,
        subst (λ (l : LimiterView). AllByRecursion (HasCause size l configs all) deeds) one.limiter
            (all_caused mid deeds q h.2 known claimed (λ i e g. there (suc i) e g)),
      )

  -- the deeds of all passes
  pub each_caused : (limiter : LimiterView) (before : List PassView) (deeds : List (List Deed)) (after : List PassView) → DeedsEach size limiter before deeds after
      → AllByRecursion (λ (q : PassView). IsPrefix q.version.view.known configs) after → AllByRecursion (λ (q : PassView). IsPrefix q.claims.known claims) after
      → ((i : ℕ) (d : Deed) → get_elem? (all_deeds deeds) i ≡ some d → (j : ℕ) × (get_elem? all j ≡ some d))
      → AllByRecursion (HasCause size limiter configs all) (all_deeds deeds)
  each_caused limiter [] [] [] h known claimed there = tt
  each_caused limiter (p ∷ ps) (xs ∷ deeds) (q ∷ qs) h known claimed there =
      all_both (HasCause size limiter configs all) xs (all_deeds deeds)
      (all_caused (checker limiter p) xs (checker limiter q) h.0 known.0 claimed.0 (λ i d g. there i d (append_at xs (all_deeds deeds) i d g)))
      (each_caused limiter ps deeds qs h.1 known.1 claimed.1 (λ i d g. there (length xs + i) d (back_at xs (all_deeds deeds) i d g)))
  each_caused limiter before deeds after h known claimed there = absurd h
