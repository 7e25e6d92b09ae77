-- Along the records of one worker the values of a counter never fall.
use Rattle.std.proofs.Common.{◌≡◌, ◌⊎◌, inl, inr, ⊎_elim, ℕ, suc, ◌+◌, ◌≤◌, ◌<◌, ◌==◌, ◌&&◌, List, [], ◌∷◌, ◌++◌, take, nat_lt, Bool, true, false, Some, None, Option}
use Rattle.std.proofs.Common.{refl, sym, ap, subst, arith, append_assoc, eq-eqb}
use Rattle.std.proofs.lemmas.Bool.Decides.{nat_tests}
use Rattle.std.specs.Prelude.{slice_get}
use Rattle.std.specs.List.{AllByRecursion}
use mathlib.Core.List.{IsPrefix}
use mathlib.Core.Option.{some}
use lib.ListN.{get_elem?}
use Rattle.rate_types.specs.Counters.{same_counter}
use Rattle.rate_types.specs.Ledger.{Sight}
use Rattle.rate_types.specs.Requests.{RequestParts}
use Rattle.rate_types.specs.Sums.{total, one_if}
use Rattle.rate_types.proofs.Sums.{total_append}
use Rattle.rate_types.specs.declared.counter_key.CounterKey.{CounterKey}
use Rattle.rate_types.specs.declared.request.Descriptor.{Descriptor}
use Rattle.rate_types.specs.declared.request.OwnLimit.{OwnLimit}
use Rattle.window_keys.proofs.Counters.{same_is}
use Rattle.window_keys.specs.Counter.{counter_of}
use Rattle.descriptor_tree.specs.Trees.{DomainTree}
use Rattle.rule_lookup.specs.declared.found.Found.{Found}
use Rattle.rule_lookup.specs.declared.found.Found.TheVariants.{NoRule, Unlimited, Limited}
use Rattle.rls_core.specs.Reply.{hits_of, found_for, AreStatuses}
use Rattle.rls_core.specs.Status.{status_of}
use Rattle.rls_core.specs.declared.status.Count.{Count}
use Rattle.rls_core.specs.declared.status.Count.TheVariants.{NoCount, Before, Seen}
use Rattle.rls_core.specs.declared.status.Status.{Status}
use Rattle.counter_cells.specs.Views.{Capped}
use Rattle.counter_cells.specs.declared.view.CellView.{CellView}
use Rattle.counter_cells.specs.declared.view.Charge as cell_charge
use Rattle.counter_directory.specs.Acquired.{Bounds}
use Rattle.counter_directory.specs.Claims.{bindings_of, IsLawfulClaims}
use Rattle.counter_directory.specs.declared.claim.Claim.{Claim}
use Rattle.rate_limiter.specs.Counts.{Keeps, Looks, Knows, CountsOne, CountsEach}
use Rattle.rate_limiter.specs.Named.{claimed_as}
use Rattle.rate_limiter.specs.Passes.{LimiterView, PassView}
use Rattle.rate_limiter.specs.Values.{looks_at, HasValue, HasSight, HasSights}
use Rattle.rate_limiter.proofs.Naming.{one_claim}
use Rattle.rate_limiter.proofs.Places.{all_both, append_nil, at_each, none_some, of_elem, same_some, take_at, to_elem}
use Rattle.reply_text.specs.Answer.{Answer}
use Rattle.reply_text.specs.declared.record.Record.{Record}
use Rattle.reply_text.specs.declared.record.Outcome.{Outcome}
use Rattle.reply_text.specs.declared.record.Outcome.TheVariants as outcome
use Rattle.script_run.specs.ScriptLine.{ScriptLine, check, reload, tick, bad}
use Rattle.script_run.specs.Values.{value_shown, values_of, values_shown, known_by, KnownAtMost, IsFairStatus, AreFair, IsFairLine, ValuesNeverFall}
use Rattle.worker_run.specs.LineSteps.{LineStep}
use Rattle.worker_run.specs.Journal.{Journal}
use Rattle.worker_run.specs.Work.{HaveRun}
use Rattle.worker_run.proofs.Clauses.{line_is}
use Rattle.worker_run.proofs.Finding.{found as find, none_or_some}
use Rattle.worker_run.proofs.Ledger.{prefix_self, prefix_same, prefix_on, claimed_grows, step_claims}
use Rattle.worker_run.proofs.Sights.{journal_extends, sight_grows, sights_weaker}
use Rattle.worker_run.proofs.Splitting.{split_at, Placed, placed, earlier_split}

-- ---- statuses

-- the limit that a status shows
abbrev pub limit_of : Found → Option OwnLimit
limit_of (Limited limit unit shadow rule) = Some (record { limit = limit; unit = unit })
limit_of other = None

-- what a status says of its count
abbrev pub Allows : Found → ℕ → Count → Type 0
Allows (Limited limit unit shadow rule) hits (Before before) = 1 ≤ hits
Allows (Limited limit unit shadow rule) hits (Seen seen) = (hits ≡ 0) ⊎ (limit < seen)
Allows (Limited limit unit shadow rule) hits NoCount = ⊥
Allows other hits count = count ≡ NoCount

limit_same : (a b : Status) → ◌≡◌ {A = Option Status} (Some a) (Some b) → b.limit ≡ a.limit
limit_same a b h = ap (λ (x : Status). x.limit) (sym (same_some a b h))

pub status_allows : (f : Found) (moment hits : ℕ) (count : Count) (s : Status) → status_of f moment hits count ≡ Some s → (s.limit ≡ limit_of f) × Allows f hits count
status_allows NoRule moment hits NoCount s h = (limit_same _ s h, refl)
status_allows NoRule moment hits (Before before) s h = absurd (none_some s h)
status_allows NoRule moment hits (Seen seen) s h = absurd (none_some s h)
status_allows (Unlimited rule) moment hits NoCount s h = (limit_same _ s h, refl)
status_allows (Unlimited rule) moment hits (Before before) s h = absurd (none_some s h)
status_allows (Unlimited rule) moment hits (Seen seen) s h = absurd (none_some s h)
status_allows (Limited limit unit shadow rule) moment hits NoCount s h = absurd (none_some s h)
status_allows (Limited limit unit shadow rule) moment hits (Before before) s h = pick (nat_lt 0 hits) refl
  where
    pick : (t : Bool) → nat_lt 0 hits ≡ t → (s.limit ≡ limit_of (Limited limit unit shadow rule)) × (1 ≤ hits)
    pick true e = (limit_same _ s (rw e at h), grind (arith, nat_tests))
    pick false e = absurd (none_some s (rw e at h))
status_allows (Limited limit unit shadow rule) moment hits (Seen seen) s h = pick (hits == 0) (nat_lt limit seen) refl refl
  where
    pick : (t u : Bool) → (hits == 0) ≡ t → nat_lt limit seen ≡ u → (s.limit ≡ limit_of (Limited limit unit shadow rule)) × ((hits ≡ 0) ⊎ (limit < seen))
    pick true u e f = (limit_same _ s (rw e at h), inl (grind (arith, nat_tests)))
    pick false true e f = (limit_same _ s (rw (e, f) at h), inr (grind (arith, nat_tests)))
    pick false false e f = absurd (none_some s (rw (e, f) at h))

-- ---- values

left_true : (a b : Bool) → 1 ≤ one_if (a && b) → a ≡ true
left_true true b h = refl
left_true false b h = absurd (omega arith)

right_true : (a b : Bool) → 1 ≤ one_if (a && b) → b ≡ true
right_true true true h = refl
right_true true false h = absurd (omega arith)
right_true false b h = absurd (omega arith)

number_is : (a c : ℕ) → (a == c) ≡ true → a ≡ c
number_is a c t = grind (arith, nat_tests)

-- no value under the claim is above what caps it
capped_value : (claim count value : ℕ) (v : CellView) → Capped claim count v → HasValue claim value v → value ≤ count
capped_value claim count value v cap h = pick (none_or_some (looks_at claim value v))
  where
    pick : (looks_at claim value v ≡ 0) ⊎ (1 ≤ looks_at claim value v) → value ≤ count
    pick (inr s) =
        let g = find (λ (p : ℕ × ℕ). one_if ((p.0 == claim) && (p.1 == value))) v.looks s in
        let a = number_is g.item.0 claim (left_true (g.item.0 == claim) (g.item.1 == value) g.has) in
        let c = number_is g.item.1 value (right_true (g.item.0 == claim) (g.item.1 == value) g.has) in
        let le = at_each (λ (p : ℕ × ℕ). p.0 ≡ claim → p.1 ≤ count) v.looks g.place g.item g.at cap.looks a in
        omega (arith, c, le)
    pick (inl z) =
        let g = find (λ (x : cell_charge.Charge). one_if ((x.claim == claim) && (x.before + x.hits == value))) v.charges (omega (arith, z, h)) in
        let a = number_is g.item.claim claim (left_true (g.item.claim == claim) (g.item.before + g.item.hits == value) g.has) in
        let c = number_is (g.item.before + g.item.hits) value (right_true (g.item.claim == claim) (g.item.before + g.item.hits == value) g.has) in
        let le = at_each (λ (x : cell_charge.Charge). x.claim ≡ claim → x.before + x.hits ≤ count) v.charges g.place g.item g.at cap.charges a in
        omega (arith, c, le)

has_look : (claim value : ℕ) (v w : CellView) → w.looks ≡ v.looks ++ (claim, value) ∷ [] → HasValue claim value w
has_look claim value v w e =
    let f : (ℕ × ℕ) → ℕ = λ (p : ℕ × ℕ). one_if ((p.0 == claim) && (p.1 == value)) in
    let a = total_append f v.looks ((claim, value) ∷ []) in
    let c = ap (total f) e in
    let s : f (claim, value) ≡ 1 = rw (eq-eqb claim claim refl, eq-eqb value value refl) refl in
    omega (arith, a, c, s)

has_charge : (claim before hits : ℕ) (v w : CellView) → w.charges ≡ v.charges ++ (record { claim = claim; before = before; hits = hits }) ∷ [] → HasValue claim (before + hits) w
has_charge claim before hits v w e =
    let f : cell_charge.Charge → ℕ = λ (x : cell_charge.Charge). one_if ((x.claim == claim) && (x.before + x.hits == before + hits)) in
    let new : cell_charge.Charge = record { claim = claim; before = before; hits = hits } in
    let a = total_append f v.charges (new ∷ []) in
    let c = ap (total f) e in
    let s : f new ≡ 1 = rw (eq-eqb claim claim refl, eq-eqb (before + hits) (before + hits) refl) refl in
    omega (arith, a, c, s)

bound_claimed : (q : CounterKey) (cell number : ℕ) (xs : List Claim) → bindings_of q cell number xs ≤ claimed_as q number xs
bound_claimed q cell number [] = omega arith
bound_claimed q cell number (x ∷ xs) =
    let r = bound_claimed q cell number xs in
    let one = by (same_counter x.key q) (x.cell == cell) (x.claim == number) in
    omega (arith, r, one)
  where
    by : (a c d : Bool) → one_if (a && (c && d)) ≤ one_if (a && d)
    by true true d = omega arith
    by true false d = omega arith
    by false c d = omega arith

module _ (cells most : ℕ) (claims : List Claim) (law : IsLawfulClaims cells most claims) where
  -- what is known of a counter is at most what caps the pass under the counter's claim
  known_at_most : (c : CounterKey) (number count bound : ℕ) (v : CellView) → 1 ≤ claimed_as c number claims → Capped number count v → count ≤ bound
      → (known : List (Sight CounterKey))
      → HasSights claims v known → KnownAtMost known c bound
  known_at_most c number count bound v claimed cap le [] has = tt
  known_at_most c number count bound v claimed cap le (x ∷ xs) has = (one, known_at_most c number count bound v claimed cap le xs has.1)
    where
      one : same_counter x.counter c ≡ true → x.seen ≤ bound
      one same =
          let s = has.0 in
          let is : s.0 ≡ number = (one_claim cells most claims law x.counter c s.0 number s.1 claimed).0 (same_is x.counter c same) in
          let value = subst (λ (n : ℕ). HasValue n x.seen v) is s.2 in
          let low = capped_value number count x.seen v cap value in
          omega (arith, low, le)

  sights_grow : (v w : CellView) (known : List (Sight CounterKey)) → IsPrefix v.looks w.looks → IsPrefix v.charges w.charges → HasSights claims v known → HasSights claims w known
  sights_grow v w known looks charges has =
      sights_weaker (HasSight claims v) (HasSight claims w) (λ x s. sight_grows claims claims v w x (prefix_self claims) looks charges s) known has

  -- a sight more
  one_sight : (w : CellView) (known : List (Sight CounterKey)) (x : Sight CounterKey) → HasSights claims w known → HasSight claims w x → HasSights claims w (known ++ x ∷ [])
  one_sight w [] x has s = (s, tt)
  one_sight w (y ∷ ys) x has s = (has.0, one_sight w ys x has.1 s)

  module _ (c : List Claim) (grown : IsPrefix c claims) (request : RequestParts) (moment : ℕ) where
    claimed_in : (q : CounterKey) (cell number : ℕ) → 1 ≤ bindings_of q cell number c → 1 ≤ claimed_as q number claims
    claimed_in q cell number bound = let a = bound_claimed q cell number c in let g = claimed_grows q number c claims grown in omega (arith, bound, a, g)

    -- what is shown of one descriptor is fair, and then known
    abbrev FairOne : List (Sight CounterKey) → Descriptor → Option OwnLimit → Count → CellView → Type 0
    FairOne known d limit count w = IsFairStatus known request moment d limit count × HasSights claims w (known ++ value_shown request moment d limit count)

    kept : (known : List (Sight CounterKey)) (v w : CellView) → Keeps v w → HasSights claims v known → HasSights claims w (known ++ [])
    kept known v w k has =
        subst (λ (l : List (Sight CounterKey)). HasSights claims w l) (append_nil known)
        (sights_grow v w known (prefix_same v.looks w.looks k.looks) (prefix_same v.charges w.charges k.charges) has)

    fair_found : (known : List (Sight CounterKey)) (d : Descriptor) (f : Found) (count : Count) (v w : CellView) → Allows f (hits_of request d) count
        → CountsOne c request moment d f count v w → HasSights claims v known → FairOne known d (limit_of f) count w
    fair_found known d NoRule count v w allows counts has = (tt, kept known v w counts has)
    fair_found known d (Unlimited rule) count v w allows counts has = (tt, kept known v w counts has)
    fair_found known d (Limited limit unit shadow rule) NoCount v w allows counts has = absurd allows
    fair_found known d (Limited limit unit shadow rule) (Before before) v w allows counts has =
        let key = counter_of request.domain d unit moment in
        let spot = counts.0 in
        let claimed = claimed_in key spot.cell spot.claim counts.1 in
        let ch = counts.2 in
        let looks : IsPrefix v.looks ch.looked.looks = ((spot.claim, ch.found) ∷ [], sym ch.look.looks) in
        let charges : IsPrefix v.charges ch.looked.charges = prefix_same v.charges ch.looked.charges ch.look.charges in
        let has_looked = sights_grow v ch.looked known looks charges has in
        let now = sights_grow ch.looked w known (prefix_same ch.looked.looks w.looks ch.looks) (_ ∷ [], sym ch.charges) has_looked in (
          (
            known_at_most key spot.claim ch.found limit v claimed ch.look.most ch.within known has,
            known_at_most key spot.claim before before ch.looked claimed ch.most (omega arith) known has_looked,
          ),
          one_sight w known (record { counter = key; seen = before + hits_of request d }) now
              (spot.claim, claimed, has_charge spot.claim before (hits_of request d) ch.looked w ch.charges),
        )
    fair_found known d (Limited limit unit shadow rule) (Seen seen) v w allows counts has =
        let key = counter_of request.domain d unit moment in
        let spot = counts.0 in
        let claimed = claimed_in key spot.cell spot.claim counts.1 in
        ⊎_elim (looked key spot.claim claimed) (λ k. knew key spot.claim claimed k.1) counts.2
      where
        looked : (key : CounterKey) (number : ℕ) → 1 ≤ claimed_as (counter_of request.domain d unit moment) number claims → Looks number seen v w
            → FairOne known d (limit_of (Limited limit unit shadow rule)) (Seen seen) w
        looked key number claimed l =
            let now = sights_grow v w known ((number, seen) ∷ [], sym l.looks) (prefix_same v.charges w.charges l.charges) has in (
              (allows, known_at_most (counter_of request.domain d unit moment) number seen seen v claimed l.most (omega arith) known has),
              one_sight w known (record { counter = counter_of request.domain d unit moment; seen = seen }) now (number, claimed, has_look number seen v w l.looks),
            )

        knew : (key : CounterKey) (number : ℕ) → 1 ≤ claimed_as (counter_of request.domain d unit moment) number claims → Knows number seen v w
            → FairOne known d (limit_of (Limited limit unit shadow rule)) (Seen seen) w
        knew key number claimed k =
            let s : Sight CounterKey = record { counter = counter_of request.domain d unit moment; seen = seen } in
            let more = one_sight v known s has (number, claimed, k.had) in (
              (allows, known_at_most (counter_of request.domain d unit moment) number seen seen v claimed k.most (omega arith) known has),
              sights_grow v w (known ++ s ∷ []) (prefix_same v.looks w.looks k.keeps.looks) (prefix_same v.charges w.charges k.keeps.charges) more,
            )

    fair_one : (known : List (Sight CounterKey)) (d : Descriptor) (f : Found) (s : Status) (v w : CellView) → status_of f moment (hits_of request d) s.count ≡ Some s
        → CountsOne c request moment d f s.count v w → HasSights claims v known → FairOne known d s.limit s.count w
    fair_one known d f s v w is counts has =
        let a = status_allows f moment (hits_of request d) s.count s is in
        subst (λ (o : Option OwnLimit). FairOne known d o s.count w) (sym a.0) (fair_found known d f s.count v w a.1 counts has)

    pub fair_each : (config : List DomainTree) (known : List (Sight CounterKey)) (ds : List Descriptor) (ss : List Status) (v w : CellView)
        → AreStatuses config request moment ds ss → CountsEach c config request moment ds ss v w → HasSights claims v known
        → AreFair known request moment ds ss × HasSights claims w (known ++ values_of request moment ds ss)
    fair_each config known [] [] v w are counts has = (tt, kept known v w counts has)
    fair_each config known [] (s ∷ ss) v w are counts has = absurd are
    fair_each config known (d ∷ ds) [] v w are counts has = absurd are
    fair_each config known (d ∷ ds) (s ∷ ss) v w are counts has =
        let shown = value_shown request moment d s.limit s.count in
        let o = fair_one known d (found_for config request d) s v counts.0 are.0 counts.1 has in
        let r = fair_each config (known ++ shown) ds ss counts.0 w are.1 counts.2 o.1 in
        ((o.0, r.0), subst (λ (l : List (Sight CounterKey)). HasSights claims w l) (append_assoc known shown (values_of request moment ds ss)) r.1)

  -- ---- steps

  step_fair : (b : Bounds) (limiter : LimiterView) (start : ℕ) (l : ScriptLine) (o : Outcome) (p q : PassView) (known : List (Sight CounterKey)) → LineStep b limiter start l p o q
      → IsPrefix q.claims.known claims → HasSights claims p.cells known → IsFairLine known l q.cells.moment o × HasSights claims q.cells (values_shown l q.cells.moment o)
  step_fair b limiter start (check request) (outcome.Checked answer) p q known s grown has =
      let same : answer.statuses ≡ s.0.statuses.items = ap (λ (a : Answer). a.statuses) s.2 in
      let mine = fair_each q.claims.known grown request q.cells.moment q.version.index known request.descriptors s.0.statuses.items p.cells q.cells s.1.reply.each s.1.counts has in
      let fresh = fair_each q.claims.known grown request q.cells.moment q.version.index [] request.descriptors s.0.statuses.items p.cells q.cells s.1.reply.each s.1.counts tt in (
        subst (λ (ss : List Status). AreFair known request q.cells.moment request.descriptors ss) (sym same) mine.0,
        subst (λ (ss : List Status). HasSights claims q.cells (values_of request q.cells.moment request.descriptors ss)) (sym same) fresh.1,
      )
  step_fair b limiter start (check request) (outcome.Full live held wanted) p q known s grown has = (tt, tt)
  step_fair b limiter start (check request) (outcome.Spent n wanted) p q known s grown has = (tt, tt)
  step_fair b limiter start (reload config) outcome.Installed p q known s grown has = (tt, tt)
  step_fair b limiter start (reload config) (outcome.VersionsFull n) p q known s grown has = (tt, tt)
  step_fair b limiter start (tick now) (outcome.Ticked shown) p q known s grown has = (tt, tt)
  step_fair b limiter start (bad refused) (outcome.Bad shown) p q known s grown has = (tt, tt)
  step_fair b limiter start l o p q known s grown has = absurd s

-- ---- the run

-- what holds of the values of each earlier record of a worker holds of all that is known by them
known_all : (P : Sight CounterKey → Type 0) (worker : ℕ) (ls : List ScriptLine) (rs : List Record)
    → ((k : ℕ) (l : ScriptLine) (e : Record) → get_elem? ls k ≡ some l → get_elem? rs k ≡ some e → e.worker ≡ worker → AllByRecursion P (values_shown l e.moment e.outcome))
    → AllByRecursion P (known_by worker ls rs)
known_all P worker [] rs each = tt
known_all P worker (l ∷ ls) [] each = tt
known_all P worker (l ∷ ls) (r ∷ rs) each = pick (r.worker == worker) refl (known_all P worker ls rs (λ k m e x y. each (suc k) m e x y))
  where
    pick : (t : Bool) → (r.worker == worker) ≡ t → AllByRecursion P (known_by worker ls rs) → AllByRecursion P (known_by worker (l ∷ ls) (r ∷ rs))
    pick true t rest = rw t (all_both P (values_shown l r.moment r.outcome) (known_by worker ls rs) (each 0 l r refl refl (number_is r.worker worker t)) rest)
    pick false t rest = rw t rest

module _ (b : Bounds) (limiter : LimiterView) (start : ℕ) (lines : List ScriptLine) (before after : List PassView) (records : List Record)
    (h : HaveRun b limiter start lines before after records) (cells most : ℕ) (claims : List Claim) (law : IsLawfulClaims cells most claims)
    (known : AllByRecursion (λ (q : PassView). IsPrefix q.claims.known claims) after) where
  -- what a pass knows of the claims on the way is among all of them
  claims_on : (w : ℕ) (p : PassView) (rs : List Record) (q : PassView) → Journal b limiter start w lines p rs q → IsPrefix q.claims.known claims → IsPrefix p.claims.known claims
  claims_on w p rs q j k = prefix_on p.claims.known q.claims.known claims (journal_extends b limiter start lines w p rs q j).claims k

  fair_at : (i : ℕ) (l : ScriptLine) (r : Record) → slice_get lines i ≡ Some l → slice_get records i ≡ Some r
      → IsFairLine (known_by r.worker (take i lines) (take i records)) l r.moment r.outcome
  fair_at i l r el er =
      let line = line_is b limiter start lines before after records h i l r el at y.worker y.split.from y.split.to y.split.step in
      subst (λ (m : ℕ). IsFairLine (known_by r.worker (take i lines) (take i records)) l m r.outcome) (sym y.split.step.at)
      (subst (λ (x : ScriptLine). IsFairLine (known_by r.worker (take i lines) (take i records)) x y.split.to.cells.moment r.outcome) line
      (step_fair cells most claims law b limiter start y.split.step.line r.outcome y.split.from y.split.to (known_by r.worker (take i lines) (take i records)) y.split.step.step
      to_known has).0)
    where
      at : get_elem? records i ≡ some r
      at = to_elem records i r er

      y : Placed b limiter start lines before after records h r
      y = placed b limiter start lines before after records h i r at

      to_known : IsPrefix y.split.to.claims.known claims
      to_known = claims_on y.worker y.split.to y.split.later y.last y.split.back (at_each (λ (q : PassView). IsPrefix q.claims.known claims) after y.worker y.last y.last_is known)

      from_known : IsPrefix y.split.from.claims.known claims
      from_known =
          prefix_on y.split.from.claims.known y.split.to.claims.known claims
          (step_claims b limiter start y.split.step.line r.outcome y.split.from y.split.to y.split.step.step) to_known

      one : (k : ℕ) (m : ScriptLine) (e : Record) → get_elem? (take i lines) k ≡ some m → get_elem? (take i records) k ≡ some e → e.worker ≡ r.worker
          → AllByRecursion (HasSight claims y.split.from.cells) (values_shown m e.moment e.outcome)
      one k m e em ee same =
          let t = take_at records i k e ee in
          let lt = take_at lines i k m em in
          let p = earlier_split b limiter start lines before after records h k i e r t.1 t.0 at same y in
          let s = split_at b limiter start y.worker lines y.first y.split.earlier y.split.from y.split.front p.0 e p.1 in
          let more = journal_extends b limiter start lines y.worker s.to s.later y.split.from s.back in
          let shown = (step_fair cells most claims law b limiter start s.step.line e.outcome s.from s.to [] s.step.step
          (claims_on y.worker s.to s.later y.split.from s.back from_known) tt).1 in
          let line = line_is b limiter start lines before after records h k m e (of_elem lines k m lt.0) t.0 y.worker s.from s.to s.step in
          let mine : HasSights claims s.to.cells (values_shown m e.moment e.outcome) =
          subst (λ (n : ℕ). HasSights claims s.to.cells (values_shown m n e.outcome)) (sym s.step.at)
          (subst (λ (x : ScriptLine). HasSights claims s.to.cells (values_shown x s.to.cells.moment e.outcome)) line shown) in
          sights_grow cells most claims law s.to.cells y.split.from.cells (values_shown m e.moment e.outcome) more.looks more.charges mine

      has : HasSights claims y.split.from.cells (known_by r.worker (take i lines) (take i records))
      has = known_all (HasSight claims y.split.from.cells) r.worker (take i lines) (take i records) one

  -- along the records of one worker, descriptor by descriptor, the value of a counter never falls
  pub values_never_fall : ValuesNeverFall lines records
  values_never_fall = fair_at
