-- What the records of workers show as seen are lawful sights in their ledger.
use Rattle.std.proofs.Common.{◌≡◌, ℕ, zero, suc, ◌+◌, ◌-◌, ◌==◌, ◌&&◌, List, [], ◌∷◌, ◌++◌, cond, Some, None, Option, refl, sym, ap, ◌∙◌, subst, arith}
use Rattle.std.specs.Prelude.{slice_get, nat_lt}
use Rattle.std.specs.List.{AllByRecursion}
use mathlib.Core.List.{IsPrefix}
use mathlib.Core.Option.{some, some-injective, some-ne-none}
use lib.ListN.{get_elem?}
use Rattle.rate_types.specs.Sums.{total, one_if}
use Rattle.rate_types.proofs.Sums.{total_append}
use Rattle.rate_types.specs.Counters.{same_counter}
use Rattle.rate_types.specs.Ledger.{Charge, Sight, IsLawfulSight}
use Rattle.rate_types.specs.declared.counter_key.CounterKey.{CounterKey}
use Rattle.rls_core.specs.Reply as reply
use Rattle.counter_cells.specs.declared.view.CellView.{CellView}
use Rattle.counter_cells.specs.declared.view.Charge as cell_charge
use Rattle.counter_directory.specs.Acquired.{Bounds}
use Rattle.counter_directory.specs.declared.claim.Claim.{Claim}
use Rattle.rate_limiter.specs.Passes.{LimiterView, PassView}
use Rattle.rate_limiter.specs.Values.{HasValue, HasSight}
use Rattle.rate_limiter.specs.Closing.{AreSightsInIt}
use Rattle.rate_limiter.proofs.Places.{at_each, below, here}
use Rattle.reply_text.specs.Answer.{Answer}
use Rattle.reply_text.specs.declared.record.Record.{Record}
use Rattle.reply_text.specs.declared.record.Outcome.{Outcome}
use Rattle.reply_text.specs.declared.record.Outcome.TheVariants as outcome
use Rattle.script_run.specs.ScriptLine.{ScriptLine, check, reload, tick, bad}
use Rattle.script_run.specs.Charges.{sights_shown, sights_of, ledger_of, SightsLawful}
use Rattle.worker_run.specs.LineSteps.{LineStep}
use Rattle.worker_run.specs.Journal.{Journal}
use Rattle.worker_run.specs.Work.{HaveRun}
use Rattle.worker_run.proofs.Gathering.{index_all}
use Rattle.worker_run.proofs.Ledger.{prefix_self, prefix_same, prefix_on, claimed_grows, charges_all, step_claims, step_charges, all_named, same_sum, IsFrom, from_next, whole}

-- what a pass had it has still
pub record Extends (p q : PassView) : Type 0 where
  pub claims : IsPrefix p.claims.known q.claims.known
  pub looks : IsPrefix p.cells.looks q.cells.looks
  pub charges : IsPrefix p.cells.charges q.cells.charges

pub extends_on : (p q r : PassView) → Extends p q → Extends q r → Extends p r
extends_on p q r a b = record {
  claims = prefix_on _ _ _ a.claims b.claims;
  looks = prefix_on _ _ _ a.looks b.looks;
  charges = prefix_on _ _ _ a.charges b.charges;
}

step_looks : (b : Bounds) (limiter : LimiterView) (start : ℕ) (l : ScriptLine) (o : Outcome) (p q : PassView) → LineStep b limiter start l p o q
    → IsPrefix p.cells.looks q.cells.looks
step_looks b limiter start (check request) (outcome.Checked answer) p q s = s.1.charged.looks
step_looks b limiter start (check request) (outcome.Full live held wanted) p q s = prefix_same _ _ s.0.counts.looks
step_looks b limiter start (check request) (outcome.Spent claims wanted) p q s = prefix_same _ _ s.0.counts.looks
step_looks b limiter start (reload config) outcome.Installed p q s = prefix_same _ _ (ap (λ (x : PassView). x.cells.looks) s.0)
step_looks b limiter start (reload config) (outcome.VersionsFull versions) p q s = prefix_same _ _ (ap (λ (x : PassView). x.cells.looks) s.0)
step_looks b limiter start (tick now) (outcome.Ticked shown) p q s = prefix_same _ _ (ap (λ (x : PassView). x.cells.looks) s.2)
step_looks b limiter start (bad refused) (outcome.Bad shown) p q s = prefix_same _ _ (ap (λ (x : PassView). x.cells.looks) s.1)
step_looks b limiter start l o p q s = absurd s

pub step_extends : (b : Bounds) (limiter : LimiterView) (start : ℕ) (l : ScriptLine) (o : Outcome) (p q : PassView) → LineStep b limiter start l p o q → Extends p q
step_extends b limiter start l o p q s = record {
  claims = step_claims b limiter start l o p q s;
  looks = step_looks b limiter start l o p q s;
  charges = let g = step_charges b limiter start l o p q s in (g.added, sym g.grew);
}

value_grows : (claim value : ℕ) (v w : CellView) → IsPrefix v.looks w.looks → IsPrefix v.charges w.charges → HasValue claim value v → HasValue claim value w
value_grows claim value v w looks charges h =
    let a = total_append (λ (p : ℕ × ℕ). one_if ((p.0 == claim) && (p.1 == value))) v.looks looks.0 in
    let c = total_append (λ (x : cell_charge.Charge). one_if ((x.claim == claim) && (x.before + x.hits == value))) v.charges charges.0 in
    let e = ap (total (λ (p : ℕ × ℕ). one_if ((p.0 == claim) && (p.1 == value)))) looks.1 in
    let f = ap (total (λ (x : cell_charge.Charge). one_if ((x.claim == claim) && (x.before + x.hits == value)))) charges.1 in
    omega arith

pub sight_grows : (c d : List Claim) (v w : CellView) (x : Sight CounterKey) → IsPrefix c d → IsPrefix v.looks w.looks → IsPrefix v.charges w.charges → HasSight c v x
    → HasSight d w x
sight_grows c d v w x claims looks charges h =
    let g = claimed_grows x.counter h.0 c d claims in
    let o = h.1 in
    (h.0, omega arith, value_grows h.0 x.seen v w looks charges h.2)

pub sights_weaker : (P Q : Sight CounterKey → Type 0) → ((x : Sight CounterKey) → P x → Q x) → (xs : List (Sight CounterKey)) → AllByRecursion P xs → AllByRecursion Q xs
sights_weaker P Q f [] h = tt
sights_weaker P Q f (x ∷ xs) h = (f x h.0, sights_weaker P Q f xs h.1)

-- the sights that a record shows, of the line with its number
abbrev found_sights : Option ScriptLine → Record → List (Sight CounterKey)
found_sights None r = []
found_sights (Some l) r = sights_shown l r.moment r.outcome

abbrev sights_by : List ScriptLine → Record → List (Sight CounterKey)
sights_by lines r = found_sights (slice_get lines (r.line - 1)) r

step_sights : (b : Bounds) (limiter : LimiterView) (start : ℕ) (l : ScriptLine) (o : Outcome) (p q : PassView) → LineStep b limiter start l p o q
    → AllByRecursion (HasSight q.claims.known q.cells) (sights_shown l q.cells.moment o)
step_sights b limiter start (check request) (outcome.Checked answer) p q s =
    let same : answer.statuses ≡ s.0.statuses.items = ap (λ (a : Answer). a.statuses) s.2 in
    subst (λ (ss : List _). AllByRecursion (HasSight q.claims.known q.cells) (reply.sights_of request q.cells.moment request.descriptors ss)) (sym same) s.1.seen
step_sights b limiter start (check request) (outcome.Full live held wanted) p q s = tt
step_sights b limiter start (check request) (outcome.Spent claims wanted) p q s = tt
step_sights b limiter start (reload config) outcome.Installed p q s = tt
step_sights b limiter start (reload config) (outcome.VersionsFull versions) p q s = tt
step_sights b limiter start (tick now) (outcome.Ticked shown) p q s = tt
step_sights b limiter start (bad refused) (outcome.Bad shown) p q s = tt
step_sights b limiter start l o p q s = absurd s

module _ (b : Bounds) (limiter : LimiterView) (start : ℕ) (lines : List ScriptLine) (w : ℕ) where
  pub journal_extends : (p : PassView) (rs : List Record) (q : PassView) → Journal b limiter start w lines p rs q → Extends p q
  journal_extends p [] q h = subst (λ (x : PassView). Extends p x) (sym h) (record {
    claims = prefix_self p.claims.known;
    looks = prefix_self p.cells.looks;
    charges = prefix_self p.cells.charges;
  })
  journal_extends p (r ∷ rs) q h = extends_on p h.0 q (step_extends b limiter start h.1.line r.outcome p h.0 h.1.step) (journal_extends h.0 rs q h.2)

  -- what a record shows as seen the pass has at the end
  journal_sights : (p : PassView) (rs : List Record) (q : PassView) → Journal b limiter start w lines p rs q → (k : ℕ) (r : Record) → get_elem? rs k ≡ some r
      → AllByRecursion (HasSight q.claims.known q.cells) (sights_by lines r)
  journal_sights p [] q h k r e = absurd (some-ne-none r (sym e))
  journal_sights p (x ∷ xs) q h zero r e =
      let mid = h.0 in
      let s = h.1 in
      let more = journal_extends mid xs q h.2 in
      let shown : sights_shown s.line mid.cells.moment x.outcome ≡ sights_by lines x =
      ap (λ (m : ℕ). sights_shown s.line m x.outcome) (sym s.at) ∙ ap (λ (o : Option ScriptLine). found_sights o x) (sym s.there) in
      subst (λ (y : Record). AllByRecursion (HasSight q.claims.known q.cells) (sights_by lines y)) (some-injective x r e)
      (subst (λ (l : List (Sight CounterKey)). AllByRecursion (HasSight q.claims.known q.cells) l) shown
      (sights_weaker (HasSight mid.claims.known mid.cells) (HasSight q.claims.known q.cells)
      (λ y z. sight_grows mid.claims.known q.claims.known mid.cells q.cells y more.claims more.looks more.charges z) _
      (step_sights b limiter start s.line x.outcome p mid s.step)))
  journal_sights p (x ∷ xs) q h (suc k) r e = journal_sights h.0 xs q h.2 k r e

module _ (all : List ScriptLine) (P : Sight CounterKey → Type 0) where
  pub sights_both : (xs ys : List (Sight CounterKey)) → AllByRecursion P xs → AllByRecursion P ys → AllByRecursion P (xs ++ ys)
  sights_both [] ys h k = k
  sights_both (x ∷ xs) ys h k = (h.0, sights_both xs ys h.1 k)

  in_sights : (n : ℕ) (ls : List ScriptLine) (rs : List Record) → IsFrom all n ls rs → ((i : ℕ) (r : Record) → get_elem? rs i ≡ some r → AllByRecursion P (sights_by all r))
      → AllByRecursion P (sights_of ls rs)
  in_sights n [] [] h each = tt
  in_sights n [] (r ∷ rs) h each = tt
  in_sights n (l ∷ ls) [] h each = tt
  in_sights n (l ∷ ls) (r ∷ rs) h each =
      let a = h.records 0 r refl in
      let at : n + 0 ≡ r.line - 1 = omega arith in
      let first : sights_shown l r.moment r.outcome ≡ sights_by all r = ap (λ (o : Option ScriptLine). found_sights o r) (sym (h.lines 0 l refl) ∙ ap (slice_get all) at) in
      sights_both (sights_shown l r.moment r.outcome) (sights_of ls rs) (subst (λ (xs : List (Sight CounterKey)). AllByRecursion P xs) (sym first) (each 0 r refl))
      (in_sights (suc n) ls rs (from_next all n l ls r rs h) (λ i s e. each (suc i) s e))

module _ (b : Bounds) (limiter : LimiterView) (start : ℕ) (lines : List ScriptLine) (before after : List PassView) (records : List Record)
    (h : HaveRun b limiter start lines before after records) (claims : List Claim) (none : AllByRecursion (λ (p : PassView). p.cells.charges ≡ []) before)
    (known : AllByRecursion (λ (q : PassView). IsPrefix q.claims.known claims) after) (lawful : AreSightsInIt claims after) where
  one_record : (i : ℕ) (r : Record) → get_elem? records i ≡ some r → AllByRecursion (IsLawfulSight same_counter (ledger_of lines records)) (sights_by lines r)
  one_record i r e =
      let f = h.merges.from i r e in
      let n = below h.journals f.worker f.journal f.there in
      let p = here before f.worker (omega (arith, h.as_many.1)) in
      let q = here after f.worker (omega (arith, h.as_many.0, h.as_many.1)) in
      let j = h.each f.worker p.0 f.journal q.0 p.1 f.there q.1 in
      let named = all_named b limiter start lines claims before after h.journals h.as_many.0 h.as_many.1 none known (λ i p rs q x y z. (i, h.each i p rs q x y z)) in
      let its = at_each (λ (v : PassView). (x : Sight CounterKey) → HasSight claims v.cells x → IsLawfulSight same_counter (charges_all lines h.journals) x) after f.worker q.0 q.1
      (index_all (λ (v : PassView). (x : Sight CounterKey) → HasSight claims v.cells x → IsLawfulSight same_counter (charges_all lines h.journals) x) after
      (lawful (charges_all lines h.journals) named)) in
      let mine = at_each (λ (v : PassView). IsPrefix v.claims.known claims) after f.worker q.0 q.1 known in
      sights_weaker (HasSight q.0.claims.known q.0.cells) (IsLawfulSight same_counter (ledger_of lines records))
      (λ x s.
      its x (sight_grows q.0.claims.known claims q.0.cells q.0.cells x mine (prefix_self q.0.cells.looks) (prefix_self q.0.cells.charges) s)
      ∙ sym (same_sum b limiter start lines before after records h (λ (y : Charge CounterKey). cond (same_counter y.counter x.counter && nat_lt y.before x.seen) y.hits 0)))
      (sights_by lines r) (journal_sights b limiter start lines f.worker p.0 f.journal q.0 j f.place r f.here)

  -- what the records show as seen are lawful sights in their ledger
  pub sights_lawful : SightsLawful lines records
  sights_lawful = in_sights lines (IsLawfulSight same_counter (ledger_of lines records)) 0 lines records (whole b limiter start lines before after records h) one_record
