-- What can be counted stays so when others were counted.
use Rattle.std.proofs.Common.{◌≡◌, ◌⊎◌, inr, ℕ, ◌+◌, ◌≤◌, ◌<◌, ◌==◌, ◌&&◌, ◌||◌, cond, nat_lt, Bool, true, false, true≢false, List, Option, Some, None, refl, sym, ap, ◌∙◌, subst, arith}
use Rattle.std.proofs.lemmas.Bool.{ltb-true, lt-ltb}
use Rattle.std.specs.Prelude.{IsSome}
use Rattle.rate_types.specs.declared.rule_id.RuleId.{RuleId}
use Rattle.rate_types.specs.declared.unit.Unit.{Unit}
use Rattle.rls_core.specs.Reply.{hits_of}
use Rattle.rls_core.specs.Status.{status_of, status_at, free_status}
use Rattle.rls_core.specs.declared.status.Count.{Count}
use Rattle.rls_core.specs.declared.status.Count.TheVariants.{NoCount, Before, Seen}
use Rattle.rls_core.specs.declared.status.Status.{Status}
use Rattle.rate_types.specs.Sums.{total, one_if}
use Rattle.rate_types.specs.Requests.{RequestParts}
use Rattle.rate_types.specs.declared.counter_key.CounterKey.{CounterKey}
use Rattle.rate_types.specs.declared.request.Descriptor.{Descriptor}
use Rattle.window_keys.specs.Counter.{counter_of}
use Rattle.rule_lookup.specs.declared.found.Found.{Found}
use Rattle.rule_lookup.specs.declared.found.Found.TheVariants.{NoRule, Unlimited, Limited}
use Rattle.counter_cells.specs.Views.{claim_on, Capped}
use Rattle.counter_cells.specs.declared.view.CellView.{CellView}
use Rattle.counter_cells.specs.declared.answers.Spot.{Spot}
use Rattle.counter_directory.specs.declared.claim.Claim.{Claim}
use Rattle.counter_directory.specs.Claims.{bindings_of}
use Rattle.over_cache.specs.Entries.{Entries, known_of}
use Rattle.over_cache.specs.declared.known.Known.{Known}
use Rattle.rate_limiter.specs.Asked.{known_for, is_over, IsReadySpot, ReadyAt}
use Rattle.rate_limiter.specs.Counted.{HaveRisen, HasRaised, SameButCounts, IsCounted, CountedAt, value_of}
use Rattle.rate_limiter.specs.Counts.{Counted, CountsOne}
use Rattle.rate_limiter.specs.Sought.{SameKnown, IsSeenOf}
use Rattle.rate_limiter.specs.Values.{HasValue, HasSeen, looks_counted}
use Rattle.rate_limiter.proofs.Counting.{counted_of, counted_same}
use Rattle.rate_limiter.proofs.Seeing.{Leaves, counted_leaves, none_left, seen_after, bound_after, risen_after}
use Rattle.rate_limiter.specs.Counters.{IsPinned, IsConsistent}
use Rattle.rate_limiter.specs.Known.{key_of, spot_in, seen_in, AreBoundEntries}

pub risen_self : (es : Entries) → HaveRisen es es
risen_self es = record { spots = λ key. refl; seen = λ key. omega arith }

pub risen_then : (a b c : Entries) → HaveRisen a b → HaveRisen b c → HaveRisen a c
risen_then a b c p q = record {
  spots = λ key. q.spots key ∙ p.spots key;
  seen = λ key. let x = p.seen key in let y = q.seen key in omega arith;
}

pinned_still : (v w : CellView) (s : Spot) → w.good ≡ v.good → IsPinned v s → IsPinned w s
pinned_still v w s same h = record {
  held = subst (λ (l : List (ℕ × ℕ)). 1 ≤ total (λ (p : ℕ × ℕ). one_if (p.0 == s.cell)) l) (sym same) h.held;
  under = ap (claim_on s.cell) same ∙ h.under;
}

both : (a b : Bool) → (a && b) ≡ true → (a ≡ true) × (b ≡ true)
both true b h = (refl, h)
both false b h = absurd (true≢false (sym h))

-- where less was seen the counter isn't over either
less_over : (limit hits seen more : ℕ) → seen ≤ more → is_over limit hits more ≡ false → is_over limit hits seen ≡ false
less_over limit hits seen more le not_over = by (is_over limit hits seen) refl
  where
    by : (b : Bool) → is_over limit hits seen ≡ b → b ≡ false
    by false is = refl
    by true is =
        let h = both (nat_lt 0 hits) (nat_lt limit seen) is in
        let above : limit < more = let l = ltb-true limit seen h.1 in omega arith in
        absurd (true≢false (sym (λ i. h.0 i && lt-ltb limit more above i) ∙ not_over))

module _ (cells : ℕ) (claims : List Claim) (v w : CellView) (same : w.good ≡ v.good) where
  spot_still : (q : CounterKey) (limit hits : ℕ) (k n : Known) → n.spot ≡ k.spot → k.seen ≤ n.seen → IsReadySpot cells claims v q limit hits k
      → IsReadySpot cells claims w q limit hits n
  spot_still q limit hits k n spot more h = record {
    there = subst (λ (s : Spot). s.cell < cells) (sym spot) h.there;
    bound = subst (λ (s : Spot). 1 ≤ bindings_of q s.cell s.claim claims) (sym spot) h.bound;
    pinned = λ over. subst (IsPinned w) (sym spot) (pinned_still v w k.spot same (h.pinned (less_over limit hits k.seen n.seen more over)));
  }

  known_still : (q : CounterKey) (limit hits : ℕ) (k : Known) (o : Option Known) → spot_in o ≡ Some k.spot → k.seen ≤ seen_in o → IsReadySpot cells claims v q limit hits k
      → (n : Known) × (o ≡ Some n) × IsReadySpot cells claims w q limit hits n
  known_still q limit hits k None spot more h = absurd (cc)
  known_still q limit hits k (Some n) spot more h = (n, refl, spot_still q limit hits k n (let e : n.spot ≡ k.spot = cc in e) more h)

  module _ (request : RequestParts) (d : Descriptor) (es new : Entries) (risen : HaveRisen es new) (moment : w.moment ≡ v.moment) where
    -- what is known by now can be counted where what was known could be
    pub ready_still : (f : Found) (hits : ℕ) (k n : Option Known) → k ≡ known_for request v.moment es d f → n ≡ known_for request w.moment new d f
        → ReadyAt cells claims request v d f hits k → ReadyAt cells claims request w d f hits n
    ready_still NoRule hits k n was is h = is
    ready_still (Unlimited rule) hits k n was is h = is
    ready_still (Limited limit unit shadow rule) hits k n was is h =
        let q = counter_of request.domain d unit v.moment in
        let key = key_of q in
        let before : known_of key es ≡ Some h.0 = sym was ∙ h.1 in
        let spot : spot_in (known_of key new) ≡ Some h.0.spot = risen.spots key ∙ ap spot_in before in
        let more : h.0.seen ≤ seen_in (known_of key new) = let r = risen.seen key in let e = ap seen_in before in omega arith in
        let x = known_still q limit hits h.0 (known_of key new) spot more h.2 in (
          x.0,
          is ∙ (λ i. known_of (key_of (counter_of request.domain d unit (moment i))) new) ∙ x.1,
          subst (λ m. IsReadySpot cells claims w (counter_of request.domain d unit m) limit hits x.0) (sym moment) x.2,
        )

-- ---- one count

-- the status shows the count that it was made of
pub count_shown : (f : Found) (moment hits : ℕ) (c : Count) (s : Status) → status_of f moment hits c ≡ Some s → s.count ≡ c
count_shown NoRule moment hits NoCount s is = let e : free_status 0 None ≡ s = cc in sym (ap (λ (x : Status). x.count) e)
count_shown NoRule moment hits (Before n) s is = absurd (cc)
count_shown NoRule moment hits (Seen n) s is = absurd (cc)
count_shown (Unlimited rule) moment hits NoCount s is = let e : free_status 4294967295 (Some rule) ≡ s = cc in sym (ap (λ (x : Status). x.count) e)
count_shown (Unlimited rule) moment hits (Before n) s is = absurd (cc)
count_shown (Unlimited rule) moment hits (Seen n) s is = absurd (cc)
count_shown (Limited limit unit shadow rule) moment hits NoCount s is = absurd (cc)
count_shown (Limited limit unit shadow rule) moment hits (Before n) s is = by (nat_lt 0 hits) is
  where
    by : (b : Bool) → cond b (Some (status_at limit unit shadow rule moment (n + hits) (Before n))) None ≡ Some s → s.count ≡ Before n
    by true e = let g : status_at limit unit shadow rule moment (n + hits) (Before n) ≡ s = cc in sym (ap (λ (x : Status). x.count) g)
    by false e = absurd (cc)
count_shown (Limited limit unit shadow rule) moment hits (Seen n) s is = by ((hits == 0) || nat_lt limit n) is
  where
    by : (b : Bool) → cond b (Some (status_at limit unit shadow rule moment n (Seen n))) None ≡ Some s → s.count ≡ Seen n
    by true e = let g : status_at limit unit shadow rule moment n (Seen n) ≡ s = cc in sym (ap (λ (x : Status). x.count) g)
    by false e = absurd (cc)

module _ (claims : List Claim) (request : RequestParts) (d : Descriptor) (limit : ℕ) (unit : Unit) (shadow : Bool) (rule : Option RuleId) (f : Found)
    (is : f ≡ Limited limit unit shadow rule) (o : Option Known) (k : Known) (at : o ≡ Some k) where
  -- the spot that is ready
  pub spot_ready : (cells : ℕ) (v : CellView) (hits : ℕ) → ReadyAt cells claims request v d f hits o
      → IsReadySpot cells claims v (counter_of request.domain d unit v.moment) limit hits k
  spot_ready cells v hits h =
      let g : ReadyAt cells claims request v d (Limited limit unit shadow rule) hits (Some k)
      = subst (λ (x : Found). ReadyAt cells claims request v d x hits (Some k)) is (subst (λ (x : Option Known). ReadyAt cells claims request v d f hits x) at h) in
      let e : g.0 ≡ k = let same = g.1 in cc in
      subst (IsReadySpot cells claims v (counter_of request.domain d unit v.moment) limit hits) e g.2

  -- what is known of its counter
  pub spot_known : (moment : ℕ) (es : Entries) → o ≡ known_for request moment es d f → known_of (key_of (counter_of request.domain d unit moment)) es ≡ Some k
  spot_known moment es h = sym (subst (λ (x : Found). o ≡ known_for request moment es d x) is h) ∙ at

  -- it is counted as the status shows
  pub counted_so : (moment hits : ℕ) (c : Count) (s : Status) (v w : CellView) → hits ≡ hits_of request d → status_of f moment hits c ≡ Some s
      → Counted claims (counter_of request.domain d unit moment) limit hits c v w → SameButCounts v w → IsCounted claims request moment d f s v w
  counted_so moment hits c s v w hits_are status counted same =
      let shown = count_shown f moment hits c s status in
      record {
        status = (λ i. status_of f moment (sym hits_are i) (shown i)) ∙ status;
        counts = subst (λ (x : Found). CountsOne claims request moment d x s.count v w) (sym is)
            (subst (λ (x : Count). Counted claims (counter_of request.domain d unit moment) limit (hits_of request d) x v w) (sym shown)
            (subst (λ n. Counted claims (counter_of request.domain d unit moment) limit n c v w) hits_are counted));
        same = same;
      }

-- without a limit nothing is counted
pub nothing_counted : (cells : ℕ) (claims : List Claim) (request : RequestParts) (d : Descriptor) (f : Found) (hits : ℕ) (o : Option Known) (s : Status) (v : CellView)
    → hits ≡ hits_of request d → o ≡ None → ReadyAt cells claims request v d f hits o → status_of f v.moment hits NoCount ≡ Some s
    → IsCounted claims request v.moment d f s v v
nothing_counted cells claims request d NoRule hits o s v hits_are none ready status = record {
  status = ap (status_of NoRule v.moment (hits_of request d)) (count_shown NoRule v.moment hits NoCount s status) ∙ status;
  counts = record { looks = refl; charges = refl };
  same = record { number = refl; good = refl; pins = refl; others = refl; ticks = refl; moment = refl };
}
nothing_counted cells claims request d (Unlimited rule) hits o s v hits_are none ready status = record {
  status = ap (status_of (Unlimited rule) v.moment (hits_of request d)) (count_shown (Unlimited rule) v.moment hits NoCount s status) ∙ status;
  counts = record { looks = refl; charges = refl };
  same = record { number = refl; good = refl; pins = refl; others = refl; ticks = refl; moment = refl };
}
nothing_counted cells claims request d (Limited limit unit shadow rule) hits o s v hits_are none ready status =
    let e : None ≡ Some ready.0 = sym none ∙ ready.1 in absurd (cc)

-- without a limit there is a status
pub free_shown : (cells : ℕ) (claims : List Claim) (request : RequestParts) (d : Descriptor) (f : Found) (hits : ℕ) (o : Option Known) (v : CellView) (moment : ℕ)
    → o ≡ None → ReadyAt cells claims request v d f hits o → IsSome (status_of f moment hits NoCount)
free_shown cells claims request d NoRule hits o v moment none ready = refl
free_shown cells claims request d (Unlimited rule) hits o v moment none ready = refl
free_shown cells claims request d (Limited limit unit shadow rule) hits o v moment none ready =
    let e : None ≡ Some ready.0 = sym none ∙ ready.1 in absurd (cc)

module _ (cells : ℕ) (claims : List Claim) (v w : CellView) (q : CounterKey) (limit hits : ℕ) (k : Known) (c : Count) (spot : IsReadySpot cells claims v q limit hits k)
    (seen : HasSeen k.spot.claim k.seen v) (done : CountedAt k.spot limit hits c v w) (over : is_over limit hits k.seen ≡ true → (c ≡ Seen k.seen) × (w ≡ v)) where
  above : is_over limit hits k.seen ≡ true → (1 ≤ hits) × (limit < k.seen)
  above is = let h = both (nat_lt 0 hits) (nat_lt limit k.seen) is in (ltb-true 0 hits h.0, ltb-true limit k.seen h.1)

  had : is_over limit hits k.seen ≡ true → HasValue k.spot.claim k.seen v × Capped k.spot.claim k.seen v
  had is = let a = (above is).1 in seen (omega arith)

  -- what it leaves
  pub leaves_so : Leaves k.spot.claim (value_of hits c) v w
  leaves_so = by (is_over limit hits k.seen) refl
    where
      by : (b : Bool) → is_over limit hits k.seen ≡ b → Leaves k.spot.claim (value_of hits c) v w
      by false is = counted_leaves k.spot limit hits c v w (spot.pinned is).under done
      by true is =
          let o = over is in
          let h = had is in
          subst (λ (x : Count). Leaves k.spot.claim (value_of hits x) v w) (sym o.0) (none_left k.spot.claim k.seen v w h.0 h.1 o.1)

  -- and what it is on the counter
  pub counted_on : (request : RequestParts) (moment : ℕ) → Counted claims q limit hits c v w
  counted_on request moment = by (is_over limit hits k.seen) refl
    where
      by : (b : Bool) → is_over limit hits k.seen ≡ b → Counted claims q limit hits c v w
      by false is = counted_of claims request moment q k.spot limit hits c v w spot.bound (spot.pinned is).under done
      by true is =
          let o = over is in
          let h = had is in
          subst (λ (x : Count). Counted claims q limit hits x v w) (sym o.0) (
            k.spot,
            spot.bound,
            inr (
              (above is).0,
              record {
                keeps = record { looks = ap (λ (x : CellView). x.looks) o.1; charges = ap (λ (x : CellView). x.charges) o.1 };
                had = h.0;
                most = h.1;
              },
            ),
          )

  -- of what is known of the counter
  pub seen_of : (es : Entries) → known_of (key_of q) es ≡ Some k → IsSeenOf claims es q k.seen
  seen_of es at = record {
    value = ap seen_in at;
    bound = λ n is.
        let e : k ≡ n = let both_some = sym at ∙ is in cc in
        subst (λ (x : Known). 1 ≤ bindings_of q x.spot.cell x.spot.claim claims) e spot.bound;
  }

-- ---- one count of what is asked for a descriptor with a limit

module _ (cells : ℕ) (claims : List Claim) (request : RequestParts) (d : Descriptor) (f : Found) (hits : ℕ) (o : Option Known) (limit : ℕ) (unit : Unit) (shadow : Bool)
    (rule : Option RuleId) (is : f ≡ Limited limit unit shadow rule) (k : Known) (at : o ≡ Some k) (v : CellView) (es : Entries) (n : ℕ)
    (h : IsConsistent cells claims v es n) (ready : ReadyAt cells claims request v d f hits o) (known : o ≡ known_for request v.moment es d f) where
  abbrev counter : CounterKey
  counter = counter_of request.domain d unit v.moment

  pub at_spot : IsReadySpot cells claims v counter limit hits k
  at_spot = spot_ready claims request d limit unit shadow rule f is o k at cells v hits ready

  at_known : known_of (key_of counter) es ≡ Some k
  at_known = spot_known claims request d limit unit shadow rule f is o k at v.moment es known

  pub at_seen : HasSeen k.spot.claim k.seen v
  at_seen = h.seen (key_of counter) k at_known

  module _ (w : CellView) (c : Count) (done : CountedAt k.spot limit hits c v w) (over : is_over limit hits k.seen ≡ true → (c ≡ Seen k.seen) × (w ≡ v))
      (value : ℕ) (value_is : value ≡ value_of hits c) (moment : ℕ) (moment_is : moment ≡ v.moment) (es' : Entries) (noted : Bool)
      (kept : noted ≡ false → (es' ≡ es) × ((k.seen ≡ 0) ⊎ (k.seen ≡ value)))
      (raised : noted ≡ true → HasRaised (key_of (counter_of request.domain d unit moment)) k.spot value es es') where
    leaves : Leaves k.spot.claim value v w
    leaves = subst (λ (x : ℕ). Leaves k.spot.claim x v w) (sym value_is) (leaves_so cells claims v w counter limit hits k c at_spot at_seen done over)

    raised_so : noted ≡ true → HasRaised (key_of counter) k.spot value es es'
    raised_so e = subst (λ m. HasRaised (key_of (counter_of request.domain d unit m)) k.spot value es es') moment_is (raised e)

    of : IsSeenOf claims es counter k.seen
    of = seen_of cells claims v w counter limit hits k c at_spot at_seen done over es at_known

    pub after_counted : (m : ℕ) → m ≡ looks_counted w → IsConsistent cells claims w es' m
    after_counted m looks = record {
      bound = subst (λ (l : List (ℕ × ℕ)). AreBoundEntries cells claims l es') (sym leaves.pins)
          (bound_after cells claims v.pairs counter k.spot value k.seen v w es es' h.once h.bound at_spot.bound leaves h.seen of noted kept raised_so);
      seen = seen_after cells claims v.pairs counter k.spot value k.seen v w es es' h.once h.bound at_spot.bound leaves h.seen of noted kept raised_so;
      once = h.once;
      looks_are = looks;
    }

    pub risen_counted : HaveRisen es es'
    risen_counted = risen_after cells claims v.pairs counter k.spot value k.seen v w es es' h.once h.bound at_spot.bound leaves h.seen of noted kept raised_so

    pub is_counted : (s : Status) → hits ≡ hits_of request d → status_of f moment hits c ≡ Some s → IsCounted claims request v.moment d f s v w
    is_counted s hits_are status =
        counted_so claims request d limit unit shadow rule f is o k at v.moment hits c s v w hits_are (subst (λ m. status_of f m hits c ≡ Some s) moment_is status)
        (counted_on cells claims v w counter limit hits k c at_spot at_seen done over request v.moment) (counted_same k.spot limit hits c v w done)

pub risen_same : (es new : Entries) → SameKnown es new → HaveRisen es new
risen_same es new same = record {
  spots = λ key. ap spot_in (same key);
  seen = λ key. let e = ap seen_in (same key) in omega arith;
}
