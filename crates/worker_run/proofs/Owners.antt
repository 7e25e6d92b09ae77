-- Which records of a journal made the claims that its pass has made.
use Rattle.std.proofs.Common.{◌≡◌, ℕ, suc, ◌+◌, ◌-◌, ◌≤◌, ◌<◌, ◌⊎◌, List, [], ◌∷◌, ◌++◌, length, inl, inr, Some, Option, refl, sym, ap, ◌∙◌, subst, arith}
use Rattle.std.specs.Prelude.{slice_get}
use mathlib.Core.List.{IsPrefix}
use mathlib.Core.Option.{some, some-injective}
use lib.ListN.{get_elem?}
use Rattle.rate_types.specs.Sums.{times}
use Rattle.rate_types.specs.Requests.{RequestParts}
use Rattle.rate_types.specs.declared.counter_key.CounterKey.{CounterKey}
use Rattle.descriptor_tree.specs.Trees.{DomainTree}
use Rattle.told_list.specs.Lists.{count_from}
use Rattle.counter_directory.specs.Acquired.{Bounds}
use Rattle.counter_directory.specs.declared.claim.Claim.{Claim}
use Rattle.rls_core.specs.Reply.{counters_named}
use Rattle.rate_limiter.specs.Passes.{LimiterView, PassView}
use Rattle.rate_limiter.proofs.CounterLists.{count}
use Rattle.rate_limiter.proofs.Places.{back_at, here, prefix_at, prefix_get, prefix_length, times_either, times_from}
use Rattle.reply_text.specs.declared.record.Record.{Record}
use Rattle.reply_text.specs.declared.record.Outcome.{Outcome}
use Rattle.reply_text.specs.declared.record.Outcome.TheVariants as outcome
use Rattle.script_run.specs.ScriptLine.{ScriptLine, check, reload, tick, bad}
use Rattle.script_run.specs.Named.{counters_bound}
use Rattle.worker_run.specs.LineSteps.{LineStep, IsRecordStep}
use Rattle.worker_run.specs.Journal.{Journal}
use Rattle.worker_run.proofs.Ledger.{prefix_on, step_claims, journal_claims}
use Rattle.worker_run.proofs.Replying.{journal_versions}
use Rattle.worker_run.proofs.NamedByLines.{found_bound, bound_in}

-- ---- one step

-- the claim at this place was made in a step: it is of one of the counters to which the line gave cells
record IsMade (l : ScriptLine) (o : Outcome) (p q : PassView) (n : ℕ) : Type 0 where
  pub claim : Claim
  pub there : get_elem? q.claims.known n ≡ some claim
  pub late : length p.claims.known ≤ n
  pub named : 1 ≤ count claim.key (counters_bound q.version.index l q.cells.moment o)
  pub at : claim.moment ≡ q.cells.moment

step_made : (b : Bounds) (limiter : LimiterView) (start : ℕ) (l : ScriptLine) (o : Outcome) (p q : PassView) (n : ℕ) → LineStep b limiter start l p o q
    → 1 ≤ times n q.claims.own → (1 ≤ times n p.claims.own) ⊎ IsMade l o p q n
step_made b limiter start (check request) (outcome.Checked answer) p q n s owned = pick (times_either n p.claims.own _ (subst (λ (l : List ℕ). 1 ≤ times n l) s.1.claims.own owned))
  where
    pick : (1 ≤ times n p.claims.own) ⊎ (1 ≤ times n (count_from (length s.1.claims.found) (length s.1.claims.added)))
        → (1 ≤ times n p.claims.own) ⊎ IsMade (check request) (outcome.Checked answer) p q n
    pick (inl mine) = inl mine
    pick (inr new) =
        let c = s.1.claims in
        let f = times_from n (length c.found) (length c.added) new in
        let x = here c.added (n - length c.found) (omega (arith, f.0, f.1)) in
        let k = prefix_length p.claims.known c.found c.knew in
        let at : length c.found + (n - length c.found) ≡ n = omega (arith, f.0) in
        inr (record {
          claim = x.0;
          there = ap (λ (l : List Claim). get_elem? l n) c.known
              ∙ subst (λ (k : ℕ). get_elem? (c.found ++ c.added) k ≡ some x.0) at (back_at c.found c.added (n - length c.found) x.0 x.1);
          late = omega (arith, f.0);
          named = c.named (n - length c.found) x.0 x.1;
          at = c.made (n - length c.found) x.0 x.1;
        })
step_made b limiter start (check request) (outcome.Full live held wanted) p q n s owned = inl (subst (λ (l : List ℕ). 1 ≤ times n l) s.0.own_claims owned)
step_made b limiter start (check request) (outcome.Spent claims wanted) p q n s owned = inl (subst (λ (l : List ℕ). 1 ≤ times n l) s.0.own_claims owned)
step_made b limiter start (reload config) outcome.Installed p q n s owned = inl (subst (λ (x : PassView). 1 ≤ times n x.claims.own) s.0 owned)
step_made b limiter start (reload config) (outcome.VersionsFull versions) p q n s owned = inl (subst (λ (x : PassView). 1 ≤ times n x.claims.own) s.0 owned)
step_made b limiter start (tick now) (outcome.Ticked shown) p q n s owned = inl (subst (λ (x : PassView). 1 ≤ times n x.claims.own) s.2 owned)
step_made b limiter start (bad refused) (outcome.Bad shown) p q n s owned = inl (subst (λ (x : PassView). 1 ≤ times n x.claims.own) s.1 owned)
step_made b limiter start l o p q n s owned = absurd s

module _ (b : Bounds) (limiter : LimiterView) (start : ℕ) (lines : List ScriptLine) where
  -- a claim among those that the pass knew already was made before
  pub own_before : (w : ℕ) (p : PassView) (rs : List Record) (q : PassView) (n : ℕ) → Journal b limiter start w lines p rs q → n < length p.claims.known
      → 1 ≤ times n q.claims.own → 1 ≤ times n p.claims.own
  own_before w p [] q n j h owned = subst (λ (v : PassView). 1 ≤ times n v.claims.own) j owned
  own_before w p (r ∷ rs) q n j h owned =
      let k = prefix_length p.claims.known j.0.claims.known (step_claims b limiter start j.1.line r.outcome p j.0 j.1.step) in
      pick (step_made b limiter start j.1.line r.outcome p j.0 n j.1.step (own_before w j.0 rs q n j.2 (omega arith) owned))
    where
      pick : (1 ≤ times n p.claims.own) ⊎ IsMade j.1.line r.outcome p j.0 n → 1 ≤ times n p.claims.own
      pick (inl mine) = mine
      pick (inr m) = let l = m.late in absurd (omega arith)

-- a record of a journal made the claim
pub record IsMadeIn (configs : ℕ → List DomainTree) (lines : List ScriptLine) (x : Claim) (rs : List Record) : Type 0 where
  pub place : ℕ
  pub by_record : Record
  pub there : get_elem? rs place ≡ some by_record
  pub named : 1 ≤ count x.key (bound_in configs lines by_record)
  pub at : x.moment ≡ by_record.moment

module _ (configs : ℕ → List DomainTree) (versions : List (List DomainTree)) (agree : (n : ℕ) (c : List DomainTree) → slice_get versions n ≡ Some c → configs n ≡ c) where
  -- the version of a check's record is the one at which its pass was
  pub check_config : (b : Bounds) (limiter : LimiterView) (start : ℕ) (request : RequestParts) (o : Outcome) (p q : PassView) → LineStep b limiter start (check request) p o q
      → IsPrefix q.version.view.known versions → configs q.version.version ≡ q.version.index
  check_config b limiter start request (outcome.Checked answer) p q s known =
      agree q.version.version q.version.index (prefix_get q.version.view.known versions q.version.version q.version.index known s.1.version.at)
  check_config b limiter start request (outcome.Full live held wanted) p q s known =
      agree q.version.version q.version.index (prefix_get q.version.view.known versions q.version.version q.version.index known s.1.1.1.at)
  check_config b limiter start request (outcome.Spent claims wanted) p q s known =
      agree q.version.version q.version.index (prefix_get q.version.view.known versions q.version.version q.version.index known s.1.1.at)
  check_config b limiter start request o p q s known = absurd s

  step_bound : (b : Bounds) (limiter : LimiterView) (start : ℕ) (l : ScriptLine) (o : Outcome) (p q : PassView) → LineStep b limiter start l p o q
      → IsPrefix q.version.view.known versions → counters_bound (configs q.version.version) l q.cells.moment o ≡ counters_bound q.version.index l q.cells.moment o
  step_bound b limiter start (check request) o p q s known =
      ap (λ (c : List DomainTree). counters_bound c (check request) q.cells.moment o) (check_config b limiter start request o p q s known)
  step_bound b limiter start (reload config) outcome.Installed p q s known = refl
  step_bound b limiter start (reload config) (outcome.VersionsFull n) p q s known = refl
  step_bound b limiter start (tick now) (outcome.Ticked shown) p q s known = refl
  step_bound b limiter start (bad refused) (outcome.Bad shown) p q s known = refl
  step_bound b limiter start l o p q s known = absurd s

  module _ (b : Bounds) (limiter : LimiterView) (start : ℕ) (lines : List ScriptLine) where
    -- what the record of a step shows are the counters of the step
    pub record_bound : (w : ℕ) (p : PassView) (r : Record) (q : PassView) → (s : IsRecordStep b limiter start w lines p r q) → IsPrefix q.version.view.known versions
        → counters_bound q.version.index s.line q.cells.moment r.outcome ≡ bound_in configs lines r
    record_bound w p r q s known =
        sym (step_bound b limiter start s.line r.outcome p q s.step known)
        ∙ ap (λ (n : ℕ). counters_bound (configs n) s.line q.cells.moment r.outcome) (sym s.by_version)
        ∙ ap (λ (m : ℕ). counters_bound (configs r.version) s.line m r.outcome) (sym s.at)
        ∙ ap (λ (o : Option ScriptLine). found_bound configs o r) (sym s.there)

    -- so are the counters that it names
    pub record_named : (w : ℕ) (p : PassView) (r : Record) (q : PassView) → (s : IsRecordStep b limiter start w lines p r q) → IsPrefix q.version.view.known versions
        → (request : RequestParts) → s.line ≡ check request
        → counters_named q.version.index request q.cells.moment ≡ counters_named (configs r.version) request r.moment
    record_named w p r q s known request is =
        ap (λ (c : List DomainTree). counters_named c request q.cells.moment)
        (sym (check_config b limiter start request r.outcome p q (subst (λ (l : ScriptLine). LineStep b limiter start l p r.outcome q) is s.step) known))
        ∙ ap (λ (n : ℕ). counters_named (configs n) request q.cells.moment) (sym s.by_version)
        ∙ ap (λ (m : ℕ). counters_named (configs r.version) request m) (sym s.at)

    -- a claim that the pass owns was made before, or by a record of the journal
    pub own_made : (claims : List Claim) (w : ℕ) (p : PassView) (rs : List Record) (q : PassView) (n : ℕ) (x : Claim) → Journal b limiter start w lines p rs q
        → IsPrefix q.claims.known claims → IsPrefix q.version.view.known versions → get_elem? claims n ≡ some x → 1 ≤ times n q.claims.own
        → (1 ≤ times n p.claims.own) ⊎ IsMadeIn configs lines x rs
    own_made claims w p [] q n x j claimed known e owned = inl (subst (λ (v : PassView). 1 ≤ times n v.claims.own) j owned)
    own_made claims w p (r ∷ rs) q n x j claimed known e owned = later (own_made claims w j.0 rs q n x j.2 claimed known e owned)
      where
        mid_claims : IsPrefix j.0.claims.known claims
        mid_claims = prefix_on j.0.claims.known q.claims.known claims (journal_claims b limiter start lines w j.0 rs q j.2) claimed

        mid_versions : IsPrefix j.0.version.view.known versions
        mid_versions = prefix_on j.0.version.view.known q.version.view.known versions (journal_versions b limiter start lines versions w j.0 rs q j.2) known

        first : (1 ≤ times n p.claims.own) ⊎ IsMade j.1.line r.outcome p j.0 n → (1 ≤ times n p.claims.own) ⊎ IsMadeIn configs lines x (r ∷ rs)
        first (inl mine) = inl mine
        first (inr m) =
            let same : m.claim ≡ x = some-injective m.claim x (sym (prefix_at j.0.claims.known claims n m.claim mid_claims m.there) ∙ e) in
            inr (record {
              place = 0;
              by_record = r;
              there = refl;
              named = subst (λ (y : Claim). 1 ≤ count y.key (bound_in configs lines r)) same
                  (subst (λ (ks : List CounterKey). 1 ≤ count m.claim.key ks) (record_bound w p r j.0 j.1 mid_versions) m.named);
              at = ap (λ (y : Claim). y.moment) (sym same) ∙ m.at ∙ sym j.1.at;
            })

        later : (1 ≤ times n j.0.claims.own) ⊎ IsMadeIn configs lines x rs → (1 ≤ times n p.claims.own) ⊎ IsMadeIn configs lines x (r ∷ rs)
        later (inl owned_then) = first (step_made b limiter start j.1.line r.outcome p j.0 n j.1.step owned_then)
        later (inr m) = inr (record { place = suc m.place; by_record = m.by_record; there = m.there; named = m.named; at = m.at })
