-- The counters of answered checks have claims.
use Rattle.std.proofs.Common.{◌≡◌, ℕ, zero, suc, ◌≤◌, ◌==◌, ◌&&◌, List, [], ◌∷◌, Bool, true, false, Some, refl, sym, ap, subst, arith}
use Rattle.std.specs.Prelude.{slice_get}
use Rattle.std.specs.List.{flat_map}
use mathlib.Core.List.{IsPrefix}
use mathlib.Core.Option.{some, some-injective, some-ne-none}
use lib.ListN.{get_elem?}
use Rattle.rate_types.specs.Counters.{same_counter}
use Rattle.rate_types.specs.Requests.{RequestParts}
use Rattle.rate_types.specs.Sums.{one_if}
use Rattle.rate_types.proofs.Sums.{total_append, total_le}
use Rattle.rate_types.specs.declared.counter_key.CounterKey.{CounterKey}
use Rattle.rate_types.specs.declared.request.Descriptor.{Descriptor}
use Rattle.window_keys.specs.Counter.{counter_of}
use Rattle.window_keys.proofs.Counters.{same_is}
use Rattle.descriptor_tree.specs.Trees.{DomainTree}
use Rattle.rule_lookup.specs.declared.found.Found.{Found}
use Rattle.rule_lookup.specs.declared.found.Found.TheVariants.{NoRule, Unlimited, Limited}
use Rattle.counter_cells.specs.declared.view.CellView.{CellView}
use Rattle.counter_directory.specs.Acquired.{Bounds}
use Rattle.counter_directory.specs.Claims.{claims_of, bindings_of}
use Rattle.counter_directory.specs.declared.claim.Claim.{Claim}
use Rattle.rls_core.specs.Reply.{found_for, counter_under}
use Rattle.rls_core.specs.declared.status.Count.{Count}
use Rattle.rls_core.specs.declared.status.Count.TheVariants.{NoCount, Before, Seen}
use Rattle.rls_core.specs.declared.status.Status.{Status}
use Rattle.rate_limiter.specs.Counts.{CountsOne, CountsEach}
use Rattle.rate_limiter.specs.Passes.{LimiterView, PassView}
use Rattle.rate_limiter.proofs.CounterLists.{count}
use Rattle.rate_limiter.proofs.LawfulClaims.{first_claims}
use Rattle.reply_text.specs.declared.record.Record.{Record}
use Rattle.reply_text.specs.declared.record.Outcome.{Outcome}
use Rattle.reply_text.specs.declared.record.Outcome.TheVariants as outcome
use Rattle.script_run.specs.ScriptLine.{ScriptLine, check, reload, tick, bad}
use Rattle.script_run.specs.Named.{counters_bound}
use Rattle.worker_run.specs.LineSteps.{LineStep}
use Rattle.worker_run.specs.Journal.{Journal}
use Rattle.worker_run.proofs.Ledger.{journal_claims, prefix_on}
use Rattle.worker_run.proofs.Owners.{record_bound}
use Rattle.worker_run.proofs.Replying.{journal_versions}
use Rattle.worker_run.proofs.NamedByLines.{bound_in}

few_bindings : (q : CounterKey) (cell number : ℕ) (xs : List Claim) → bindings_of q cell number xs ≤ claims_of q xs
few_bindings q cell number xs =
    total_le (λ (x : Claim). one_if (same_counter x.key q && ((x.cell == cell) && (x.claim == number)))) (λ (x : Claim). one_if (same_counter x.key q)) xs
    (λ k x e. fewer (same_counter x.key q) ((x.cell == cell) && (x.claim == number)))
  where
    fewer : (s t : Bool) → one_if (s && t) ≤ one_if s
    fewer true true = omega arith
    fewer true false = omega arith
    fewer false t = omega arith

module _ (claims : List Claim) (config : List DomainTree) (request : RequestParts) (m : ℕ) (c : CounterKey) where
  one_claimed : (d : Descriptor) (f : Found) (n : Count) (v w : CellView) → CountsOne claims request m d f n v w → 1 ≤ count c (counter_under request m d f)
      → 1 ≤ claims_of c claims
  one_claimed d NoRule n v w h some_c = absurd (omega arith)
  one_claimed d (Unlimited rule) n v w h some_c = absurd (omega arith)
  one_claimed d (Limited limit unit shadow rule) n v w h some_c = by n h
    where
      key : CounterKey
      key = counter_of request.domain d unit m

      is : key ≡ c
      is = pick (same_counter key c) refl
        where
          pick : (t : Bool) → same_counter key c ≡ t → key ≡ c
          pick true e = same_is key c e
          pick false e = let o = ap one_if e in absurd (omega arith)

      had : (cell number : ℕ) → 1 ≤ bindings_of key cell number claims → 1 ≤ claims_of c claims
      had cell number bound = let f = few_bindings key cell number claims in let e = ap (λ k. claims_of k claims) is in omega arith

      by : (n : Count) → CountsOne claims request m d (Limited limit unit shadow rule) n v w → 1 ≤ claims_of c claims
      by (Seen seen) g = had g.0.cell g.0.claim g.1
      by (Before before) g = had g.0.cell g.0.claim g.1
      by NoCount g = absurd g

  each_claimed : (ds : List Descriptor) (ss : List Status) (v w : CellView) → CountsEach claims config request m ds ss v w
      → 1 ≤ count c (flat_map (λ d. counter_under request m d (found_for config request d)) ds) → 1 ≤ claims_of c claims
  each_claimed [] ss v w h some_c = absurd (omega arith)
  each_claimed (d ∷ ds) [] v w h some_c = absurd h
  each_claimed (d ∷ ds) (s ∷ ss) v w h some_c =
      pick (count c (counter_under request m d (found_for config request d))) refl (λ g. each_claimed ds ss h.0 w h.2 g)
    where
      rest : List CounterKey
      rest = flat_map (λ d. counter_under request m d (found_for config request d)) ds

      pick : (n : ℕ) → count c (counter_under request m d (found_for config request d)) ≡ n
          → (1 ≤ count c (flat_map (λ d. counter_under request m d (found_for config request d)) ds) → 1 ≤ claims_of c claims) → 1 ≤ claims_of c claims
      pick zero e more =
          let a = total_append (λ (k : CounterKey). one_if (same_counter k c)) (counter_under request m d (found_for config request d))
          (flat_map (λ d. counter_under request m d (found_for config request d)) ds) in
          more (omega arith)
      pick (suc n) e more = one_claimed d (found_for config request d) s.count v h.0 h.1 (omega arith)

pub step_claimed : (b : Bounds) (limiter : LimiterView) (start : ℕ) (l : ScriptLine) (o : Outcome) (p q : PassView) (c : CounterKey) → LineStep b limiter start l p o q
    → 1 ≤ count c (counters_bound q.version.index l q.cells.moment o) → 1 ≤ claims_of c q.claims.known
step_claimed b limiter start (check request) (outcome.Checked answer) p q c s some_c =
    each_claimed q.claims.known q.version.index request q.cells.moment c request.descriptors s.0.statuses.items p.cells q.cells s.1.counts some_c
step_claimed b limiter start (check request) (outcome.Full live held wanted) p q c s some_c = absurd (omega arith)
step_claimed b limiter start (check request) (outcome.Spent claims wanted) p q c s some_c = absurd (omega arith)
step_claimed b limiter start (reload config) outcome.Installed p q c s some_c = absurd (omega arith)
step_claimed b limiter start (reload config) (outcome.VersionsFull versions) p q c s some_c = absurd (omega arith)
step_claimed b limiter start (tick now) (outcome.Ticked shown) p q c s some_c = absurd (omega arith)
step_claimed b limiter start (bad refused) (outcome.Bad shown) p q c s some_c = absurd (omega arith)
step_claimed b limiter start l o p q c s some_c = absurd s

-- the counters of answered checks of a journal have claims
module _ (configs : ℕ → List DomainTree) (versions : List (List DomainTree)) (agree : (n : ℕ) (c : List DomainTree) → slice_get versions n ≡ Some c → configs n ≡ c) (b : Bounds)
    (limiter : LimiterView) (start : ℕ) (lines : List ScriptLine) where
  pub journal_claimed : (w : ℕ) (p : PassView) (rs : List Record) (q : PassView) (k : ℕ) (r : Record) (c : CounterKey) → Journal b limiter start w lines p rs q
      → IsPrefix q.version.view.known versions → get_elem? rs k ≡ some r → 1 ≤ count c (bound_in configs lines r) → 1 ≤ claims_of c q.claims.known
  journal_claimed w p [] q k r c j known e some_c = absurd (some-ne-none r (sym e))
  journal_claimed w p (x ∷ xs) q zero r c j known e some_c =
      let mid = prefix_on j.0.version.view.known q.version.view.known versions (journal_versions b limiter start lines versions w j.0 xs q j.2) known in
      let mine = subst (λ (y : Record). 1 ≤ count c (bound_in configs lines y)) (sym (some-injective x r e)) some_c in
      let s = step_claimed b limiter start j.1.line x.outcome p j.0 c j.1.step
      (subst (λ (ks : List CounterKey). 1 ≤ count c ks) (sym (record_bound configs versions agree b limiter start lines w p x j.0 j.1 mid)) mine) in
      let g = first_claims c j.0.claims.known q.claims.known (journal_claims b limiter start lines w j.0 xs q j.2) in
      omega arith
  journal_claimed w p (x ∷ xs) q (suc k) r c j known e some_c = journal_claimed w j.0 xs q k r c j.2 known e some_c
