-- From the parts of a check to the step of its pass.
use Rattle.std.proofs.Common.{◌≡◌, inl, inr, ℕ, ◌≤◌, ◌&&◌, not, List, [], ◌++◌, length, map, Option, IfSome, refl, sym, ap, ◌∙◌, subst, arith, append_assoc, length-append}
use Rattle.std.specs.Prelude.{Result, Ok, Err, IsErr, IsErrAnd}
use Rattle.std.specs.List.{AllByRecursion, list_any}
use mathlib.Core.List.{IsPrefix}
use Rattle.rate_types.specs.Requests.{RequestParts}
use Rattle.rate_types.specs.declared.counter_name.CounterName.{CounterName}
use Rattle.descriptor_tree.specs.Trees.{DomainTree}
use Rattle.atomic_table.specs.Seated.{TableId}
use Rattle.counter_directory.specs.Passes.{KnownClaims, DirectoryPassView}
use Rattle.config_versions.specs.PassState.{PassState}
use Rattle.counter_cells.specs.Views.{held_on}
use Rattle.counter_cells.specs.Steps.{number_of, last_moment}
use Rattle.counter_cells.specs.declared.view.CellView.{CellView}
use Rattle.counter_cells.specs.declared.view.Tick.{Tick}
use Rattle.counter_cells.specs.declared.answers.Spot.{Spot}
use Rattle.counter_directory.specs.declared.acquired.AcquireFault.{AcquireFault}
use Rattle.counter_directory.specs.declared.acquired.AcquireFault.TheVariants.{OutOfMemory, ClaimsSpent, CountersFull}
use Rattle.counter_directory.specs.Keys.{keys_at}
use Rattle.counter_directory.specs.Gates.{HeldSince}
use Rattle.counter_directory.specs.Acquired.{Bounds, OffersNothing}
use Rattle.counter_directory.specs.Spots.{LeavesAllButPins}
use Rattle.over_cache.specs.Entries.{Entries}
use Rattle.rls_core.specs.Reply.{found_for, counters_named, charges_of, sights_of, AreStatuses, IsReplyOf, is_over_limit}
use Rattle.rls_core.specs.declared.fault.CheckFault.{CheckFault}
use Rattle.rls_core.specs.declared.fault.CheckFault.TheVariants as check
use Rattle.rls_core.specs.declared.reply.Reply.{Reply}
use Rattle.rule_lookup.specs.declared.found.Found.{Found}
use Rattle.rate_limiter.specs.declared.asked.Asked.{Asked}
use Rattle.rate_limiter.specs.Passes.{LimiterView, PassView, KeepsAllButTicks, KeepsAllButVersion}
use Rattle.rate_limiter.specs.Counts.{Keeps, CountsEach}
use Rattle.rate_limiter.specs.Values.{HasSights}
use Rattle.rate_limiter.specs.PassStep.{HasRenewed, HasOffered, HasClaimed, HasCharged, IsPassStep}
use Rattle.rate_limiter.specs.Replied.{replied}
use Rattle.rate_limiter.specs.Refusals.{HasRefused, HasCause, AreClaimsSpent, AreCountersFull, one_more, but_for_claims, Checks}
use Rattle.rate_limiter.specs.Known.{SameSpots}
use Rattle.rate_limiter.specs.Sought.{KnowsUnder}
use Rattle.rate_limiter.specs.Names.{names_under}
use Rattle.rate_limiter.specs.Asked.{founds}
use Rattle.rate_limiter.specs.Counted.{SameButCounts, AreCounted, HasAnswered}
use Rattle.rate_limiter.specs.Counters.{CountersView, pass_with}
use Rattle.rate_limiter.specs.Pinned.{HasWaited, HasHeld, HasNoPins, fault_of, refused_after}
use Rattle.rate_limiter.proofs.Planned.{IsPlanned}
use Rattle.rate_limiter.proofs.Lists.{each_append, each_more, prefix_self, last_then}
use Rattle.rate_limiter.proofs.Noting.{knows_all}
use Rattle.rate_limiter.proofs.Showing.{charged_of, seen_of}
use Rattle.rate_limiter.proofs.AskedCounters.{knows_of}
use Rattle.rate_limiter.proofs.Counting.{counts_of, statuses_of, each_same, keys_named, each_front, each_back}

-- neither the number nor the ticks nor the moment nor the pins, good or missed, changed
pub record Still (v w : CellView) : Type 0 where
  pub number : number_of w ≡ number_of v
  pub pins : w.pairs ≡ v.pairs
  pub others : w.others ≡ v.others
  pub ticks : w.ticks ≡ v.ticks
  pub moment : w.moment ≡ v.moment

pub still_then : (u v w : CellView) → Still u v → Still v w → Still u w
still_then u v w a b = record { number = b.number ∙ a.number; pins = b.pins ∙ a.pins; others = b.others ∙ a.others; ticks = b.ticks ∙ a.ticks; moment = b.moment ∙ a.moment }

-- descriptors that were counted
counts_still : (v w : CellView) → SameButCounts v w → Still v w
counts_still v w h = record { number = h.number; pins = h.pins; others = h.others; ticks = h.ticks; moment = h.moment }

-- pins that are given back
pub leaves_still : (v w : CellView) → LeavesAllButPins v w → Still v w
leaves_still v w h = record {
  number = ap number_of h;
  pins = ap (λ (x : CellView). x.pairs) h;
  others = ap (λ (x : CellView). x.others) h;
  ticks = ap (λ (x : CellView). x.ticks) h;
  moment = ap (λ (x : CellView). x.moment) h;
}

-- a pass that only ticked has its looks and charges
module _ (p q : PassView) (same : KeepsAllButTicks p q) where
  pub ticks_keep : Keeps p.cells q.cells
  ticks_keep = record { looks = ap (λ (x : PassView). x.cells.looks) same; charges = ap (λ (x : PassView). x.cells.charges) same }

-- a tick, and then ticks without an offer
offered_then : (now : ℕ) (u v w : CellView) → HasOffered now u v → number_of w ≡ number_of v → (added : List Tick) → w.ticks ≡ v.ticks ++ added
    → AllByRecursion (OffersNothing v) added → w.moment ≡ last_moment v.moment added → v.moment ≤ w.moment → HasOffered now u w
offered_then now u v w h same added ticks offers moment later =
    let number = h.number in
    let a = h.least in
    let b = h.later in
    let some = h.some in
    let n = length-append h.added added in
    record {
      number = same ∙ number;
      added = h.added ++ added;
      ticks = ticks ∙ ap (λ (l : List Tick). l ++ added) h.ticks ∙ append_assoc u.ticks h.added added;
      some = omega arith;
      offers = each_append (λ (x : Tick). (x.number ≡ number_of u) × IfSome x.offer (λ m. m ≡ now)) h.added added h.offers
          (each_more (OffersNothing v) (λ (x : Tick). (x.number ≡ number_of u) × IfSome x.offer (λ m. m ≡ now))
          (λ x o. (o.0 ∙ number, subst (λ (f : Option ℕ). IfSome f (λ m. m ≡ now)) (sym o.1) tt)) added offers);
      moment = moment ∙ ap (λ n. last_moment n added) h.moment ∙ sym (last_then u.moment h.added added);
      least = omega arith;
      later = omega arith;
    }

-- ---- an answered check

module _ (limiter : LimiterView) (request : RequestParts) (now : ℕ) (p p1 p2 q : PassView)
    (offered : HasOffered now p.cells p1.cells) (ticked : KeepsAllButTicks p p1)
    (rest : KeepsAllButVersion p1 p2) where
  cells_same : p2.cells ≡ p1.cells
  cells_same = ap (λ (x : PassView). x.cells) rest

  start_version : p1.version ≡ p.version
  start_version = ap (λ (x : PassView). x.version) ticked

  start_claims : p2.claims ≡ p.claims
  start_claims = ap (λ (x : PassView). x.claims) rest ∙ ap (λ (x : PassView). x.claims) ticked

  start_limiter : p2.limiter ≡ p.limiter
  start_limiter = ap (λ (x : PassView). x.limiter) rest ∙ ap (λ (x : PassView). x.limiter) ticked

  start_refused : p2.refused ≡ p.refused
  start_refused = ap (λ (x : PassView). x.refused) rest ∙ ap (λ (x : PassView). x.refused) ticked

  -- the ticks of the check, and its counts, up to a view of the cells
  module _ (w : CellView) (waited : HasWaited p2.cells w) where
    waited_offers : HasOffered now p.cells w
    waited_offers =
        let f = subst (λ (v : CellView). HasWaited v w) cells_same waited in
        offered_then now p.cells p1.cells w offered f.ticked.number f.ticked.added f.ticked.ticks f.ticked.offers f.ticked.moment f.ticked.later

    waited_keeps : Keeps p.cells w
    waited_keeps =
        let f = subst (λ (v : CellView). HasWaited v w) cells_same waited in
        let k = ticks_keep p p1 ticked in
        record { looks = f.keeps.looks ∙ k.looks; charges = f.keeps.charges ∙ k.charges }

  offered_still : (w x : CellView) → Still w x → HasOffered now p.cells w → HasOffered now p.cells x
  offered_still w x s h = record {
    number = s.number ∙ h.number;
    added = h.added;
    ticks = s.ticks ∙ h.ticks;
    some = h.some;
    offers = h.offers;
    moment = s.moment ∙ h.moment;
    least = subst (λ n. now ≤ n) (sym s.moment) h.least;
    later = subst (λ n. p.cells.moment ≤ n) (sym s.moment) h.later;
  }

  -- a check that counted so from some view of the cells on
  pub step_with : (rules : List Found) (w : CellView) (r : Reply)
      → HasRenewed p1.version p2.version
      → rules ≡ map (found_for p2.version.index request) request.descriptors
      → HasWaited p2.cells w → Still w q.cells
      → HasClaimed (counters_named p2.version.index request w.moment) w.moment p2.claims q.claims
      → CountsEach q.claims.known p2.version.index request w.moment request.descriptors r.statuses.items w q.cells
      → AreStatuses p2.version.index request w.moment request.descriptors r.statuses.items
      → q.cells.good ≡ []
      → q.version ≡ p2.version → q.limiter ≡ p2.limiter → q.refused ≡ p2.refused
      → r.version ≡ q.version.version → r.moment ≡ w.moment
      → r.over ≡ (list_any (λ s. is_over_limit s.code) r.statuses.items && not limiter.global_shadow)
      → (known : Entries) → SameSpots known q.known → KnowsUnder (length request.descriptors) request w.moment known request.descriptors rules
      → IsPassStep limiter request now p r q
  step_with rules w r renewed rules_are waited all claimed counts statuses bare version same refused version_is moment_is over known spots_same knows =
      let ds = request.descriptors in
      let config = p2.version.index in
      let sts = r.statuses.items in
      let index : q.version.index ≡ config = ap (λ (s : PassState (List DomainTree)). s.index) version in
      let moment : q.cells.moment ≡ w.moment = all.moment in
      let from_start = each_front q.claims.known request w.moment config ds sts p.cells w q.cells (waited_keeps w waited) counts in
      let claimed_so : HasClaimed (counters_named config request w.moment) w.moment p.claims q.claims
      = subst (λ (t : KnownClaims). HasClaimed (counters_named config request w.moment) w.moment t q.claims) start_claims claimed in
      record {
        same = same ∙ start_limiter;
        version = subst (λ (t : PassState (List DomainTree)). HasRenewed p.version t) (sym version)
            (subst (λ (s : PassState (List DomainTree)). HasRenewed s p2.version) start_version renewed);
        version_is = version_is;
        ticks = offered_still w q.cells all (waited_offers w waited);
        moment_is = moment_is ∙ sym moment;
        reply = subst (λ c. IsReplyOf c request q.cells.moment limiter.global_shadow r.over sts) (sym index)
            (subst (λ n. IsReplyOf config request n limiter.global_shadow r.over sts) (sym moment)
            (record { each = statuses; overall = over }));
        counts = subst (λ c. CountsEach q.claims.known c request q.cells.moment ds sts p.cells q.cells) (sym index)
            (subst (λ n. CountsEach q.claims.known config request n ds sts p.cells q.cells) (sym moment) from_start);
        charged = subst (λ n. HasCharged q.claims.known (charges_of request n ds sts) p.cells q.cells) (sym moment)
            (charged_of q.claims.known request w.moment config ds sts p.cells q.cells statuses from_start);
        seen = subst (λ n. HasSights q.claims.known q.cells (sights_of request n ds sts)) (sym moment)
            (seen_of q.claims.known request w.moment config ds sts p.cells q.cells statuses from_start);
        claims = subst (λ c. HasClaimed (counters_named c request q.cells.moment) q.cells.moment p.claims q.claims) (sym index)
            (subst (λ n. HasClaimed (counters_named config request n) n p.claims q.claims) (sym moment) claimed_so);
        knows = knows_all request q known w.moment rules (rules_are ∙ ap (λ (c : List DomainTree). map (found_for c request) ds) (sym index)) moment spots_same knows;
        bare = bare;
        refused = refused ∙ start_refused;
      }

  -- ---- a refused check

  -- for want of memory before the counters were asked for
  pub refused_early : q ≡ p2 → p2.cells.good ≡ [] → p1.version.version ≤ p2.version.version → IsPrefix p1.version.view.known p2.version.view.known
      → p2.version.view.own ≡ p1.version.view.own → HasRefused now p q × (q.refused ≡ p.refused) × (q.claims ≡ p.claims)
  refused_early e bare rises knows own = (
    subst (HasRefused now p) (sym e) (record {
      same = start_limiter;
      version = subst (λ (s : PassState (List DomainTree)). s.version ≤ p2.version.version) start_version rises;
      versions = subst (λ (s : PassState (List DomainTree)). IsPrefix s.view.known p2.version.view.known) start_version knows;
      own_versions = own ∙ ap (λ (s : PassState (List DomainTree)). s.view.own) start_version;
      ticks = subst (HasOffered now p.cells) (sym cells_same) offered;
      counts = subst (Keeps p.cells) (sym cells_same) (ticks_keep p p1 ticked);
      claims = subst (IsPrefix p.claims.known) (ap (λ (t : KnownClaims). t.known) (sym start_claims)) (prefix_self p.claims.known);
      own_claims = ap (λ (t : KnownClaims). t.own) start_claims;
      bare = bare;
    }),
    ap (λ (x : PassView). x.refused) e ∙ start_refused,
    ap (λ (x : PassView). x.claims) e ∙ start_claims,
  )

  held_same : (w : CellView) (held : List ℕ) → HeldSince p2.cells w [] held → HeldSince p.cells w [] held
  held_same w held h k =
      let e : held_on k p2.cells ≡ held_on k p.cells = ap (held_on k) cells_same ∙ ap (λ (x : PassView). held_on k x.cells) ticked in
      let g = h k in
      omega arith

  module _ (b : Bounds) (names : List CounterName) (rules : List Found) (w : CellView) (u : KnownClaims) (renewed : HasRenewed p1.version p2.version)
      (rules_are : rules ≡ map (found_for p2.version.index request) request.descriptors) (names_are : names ≡ names_under request request.descriptors rules) where
    named_so : keys_at w.moment names ≡ counters_named p2.version.index request w.moment
    named_so =
        ap (keys_at w.moment) (names_are ∙ ap (names_under request request.descriptors) rules_are) ∙ keys_named u.known request w.moment p2.version.index request.descriptors

    renewed_so : HasRenewed p.version p2.version
    renewed_so = subst (λ (s : PassState (List DomainTree)). HasRenewed s p2.version) start_version renewed

    -- the pass at the end of a refused check
    abbrev ended : ℕ → PassView
    ended refused = record { limiter = p2.limiter; version = p2.version; claims = u; cells = w; known = q.known; refused = refused }

    -- what is left of it, with these claims
    left_of : (refused : ℕ) (made : KnownClaims) → HasWaited p2.cells w → w.good ≡ [] → IsPrefix p.claims.known made.known → made.own ≡ p.claims.own
        → HasRefused now p (record (ended refused) { claims = made })
    left_of refused made waited bare knew own = record {
      same = start_limiter;
      version = renewed_so.rises;
      versions = renewed_so.knows;
      own_versions = renewed_so.own;
      ticks = waited_offers w waited;
      counts = waited_keeps w waited;
      claims = knew;
      own_claims = own;
      bare = bare;
    }

    knew_so : IsPrefix p2.claims.known u.known → IsPrefix p.claims.known u.known
    knew_so h = subst (λ (t : KnownClaims). IsPrefix t.known u.known) start_claims h

    own_so : u.own ≡ p2.claims.own → u.own ≡ p.claims.own
    own_so h = h ∙ ap (λ (t : KnownClaims). t.own) start_claims

    claimed_so : HasClaimed (keys_at w.moment names) w.moment p2.claims u → HasClaimed (counters_named p2.version.index request w.moment) w.moment p.claims u
    claimed_so h =
        subst (λ (t : KnownClaims). HasClaimed (counters_named p2.version.index request w.moment) w.moment t u) start_claims
        (subst (λ ks. HasClaimed ks w.moment p2.claims u) named_so h)

    full_so : (moment live held wanted : ℕ) → AreCountersFull b (keys_at w.moment names) u.known p2.cells w moment live held wanted
        → AreCountersFull b (counters_named p2.version.index request w.moment) u.known p.cells w moment live held wanted
    full_so moment live held wanted c = subst (λ ks. AreCountersFull b ks u.known p.cells w moment live held wanted) named_so (record {
      moment_is = c.moment_is;
      wanted_is = c.wanted_is;
      some = c.some;
      live_is = c.live_is;
      held_is = (c.held_is.0, c.held_is.1, held_same w c.held_is.0 c.held_is.2, c.held_is.3);
      few = c.few;
      full = c.full;
    })

    ended_so : (fault : AcquireFault) → HasNoPins b names fault p2.cells w p2.claims u
        → HasRefused now p (but_for_claims (fault_of fault) p (ended (refused_after fault p2.refused)))
        × HasCause b request p (fault_of fault) (ended (refused_after fault p2.refused))
    ended_so OutOfMemory h = (left_of p2.refused p.claims h.waited h.bare (prefix_self p.claims.known) refl, (start_refused, inr (renewed_so, claimed_so h.own)))
    ended_so (ClaimsSpent claims wanted) h = (
      left_of (one_more p2.refused) u h.waited h.bare (knew_so h.knew) (own_so h.own),
      (ap one_more start_refused, renewed_so, subst (λ ks. AreClaimsSpent b ks u.known claims wanted) named_so h.cause),
    )
    ended_so (CountersFull moment live held wanted) h = (
      left_of (one_more p2.refused) u h.waited h.bare (knew_so h.knew) (own_so h.own),
      (ap one_more start_refused, renewed_so, full_so moment live held wanted h.cause),
    )

    pub refusal_of : (fault : AcquireFault) → HasNoPins b names fault p2.cells w p2.claims u → q ≡ ended (refused_after fault p2.refused)
        → HasRefused now p (but_for_claims (fault_of fault) p q) × HasCause b request p (fault_of fault) q
    refusal_of fault h e =
        subst (λ (x : PassView). HasRefused now p (but_for_claims (fault_of fault) p x) × HasCause b request p (fault_of fault) x) (sym e) (ended_so fault h)

-- ---- the answer of counters that are held

module _ (limiter : LimiterView) (request : RequestParts) (fs : List Found) (reply : Reply) (number : ℕ) (w x : CountersView)
    (h : HasAnswered limiter number request fs reply w x) where
  pub answered_still : Still w.cells x.cells
  answered_still =
      still_then w.cells h.mid x.cells (counts_still w.cells h.mid
      (each_same w.claims.claims.known request w.cells.moment request.descriptors fs reply.statuses.items w.cells h.mid h.counted))
      (leaves_still h.mid x.cells h.left)

  -- it is the step of a pass whose plan is made
  pub step_of : (now : ℕ) (p : PassView) (versions : TableId) (version : PassState (List DomainTree)) (u v : CountersView) (refused : ℕ)
      → IsPlanned request now p versions version u v refused fs → (cells : ℕ) (asked : List Asked) (spots : List Spot) → HasHeld cells request fs asked spots v w
      → number ≡ version.version → w.claims.list_id ≡ u.claims.list_id → IsPassStep limiter request now p reply (pass_with versions version x refused)
  step_of now p versions version u v refused plan cells asked spots held number_is same =
      let ds = request.descriptors in
      let config = version.index in
      let sts = reply.statuses.items in
      let m = w.cells.moment in
      let q = pass_with versions version x refused in
      let counted : AreCounted w.claims.claims.known request m ds (map (found_for config request) ds) sts w.cells h.mid
      = subst (λ (l : List Found). AreCounted w.claims.claims.known request m ds l sts w.cells h.mid) plan.founds h.counted in
      let back : Keeps h.mid x.cells = record { looks = ap (λ (y : CellView). y.looks) h.left; charges = ap (λ (y : CellView). y.charges) h.left } in
      let counts : CountsEach w.claims.claims.known config request m ds sts w.cells x.cells
      = each_back w.claims.claims.known request m config ds sts w.cells h.mid x.cells (counts_of w.claims.claims.known request m config ds sts w.cells h.mid counted) back in
      let named : keys_at m (names_under request ds fs) ≡ counters_named config request m
      = ap (λ (l : List Found). keys_at m (names_under request ds l)) plan.founds ∙ keys_named w.claims.claims.known request m config ds in
      let claimed : HasClaimed (counters_named config request m) m u.claims.claims w.claims.claims
      = subst (λ (t : DirectoryPassView). HasClaimed (counters_named config request m) m t.claims w.claims.claims) (ap (λ (y : CountersView). y.claims) plan.planned)
      (subst (λ ks. HasClaimed ks m v.claims.claims w.claims.claims) named held.claimed) in
      let knows : KnowsUnder (length ds) request m w.known ds fs
      = subst (λ (l : List Found). KnowsUnder (length ds) request m w.known ds l) held.founds_are
      (subst (λ n. KnowsUnder n request m w.known ds (founds asked)) held.asked_are.count
      (knows_of cells request w asked held.asked_are (length asked) held.held.known)) in
      step_with limiter request now p plan.p1 (pass_with versions version u refused) q plan.offered plan.rest plan.kept fs w.cells reply plan.renewed plan.founds
      (subst (λ (y : CellView). HasWaited y w.cells) (ap (λ (y : CountersView). y.cells) plan.planned) held.waited)
      answered_still (subst (λ (t : DirectoryPassView). HasClaimed (counters_named config request m) m u.claims.claims t.claims) (sym h.claims) claimed)
      (subst (λ (t : DirectoryPassView). CountsEach t.claims.known config request m ds sts w.cells x.cells) (sym h.claims) counts)
      (statuses_of w.claims.claims.known request m config ds sts w.cells h.mid counted) h.bare refl
      (ap (λ i. record { claims = i; versions = versions }) (ap (λ (t : DirectoryPassView). t.list_id) h.claims ∙ same)) refl (h.version_is ∙ number_is) h.moment_is h.over_is
      w.known h.known.spots knows

-- ---- counters that aren't held

module _ (limiter : LimiterView) (request : RequestParts) (now : ℕ) (p : PassView) (versions : TableId) (version : PassState (List DomainTree)) (u v : CountersView) (refused : ℕ)
    (fs : List Found) (plan : IsPlanned request now p versions version u v refused fs) where
  -- what is left of the pass, and the cause
  pub refused_of : (b : Bounds) (w : CountersView) (fault : AcquireFault) (left : ℕ) (f : CheckFault)
      → HasNoPins b (names_under request request.descriptors fs) fault v.cells w.cells v.claims.claims w.claims.claims → w.claims.list_id ≡ u.claims.list_id
      → left ≡ refused_after fault refused → f ≡ fault_of fault
      → HasRefused now p (but_for_claims f p (pass_with versions version w left)) × HasCause b request p f (pass_with versions version w left)
  refused_of b w fault left f none list left_is f_is =
      let q = pass_with versions version w left in
      let names = names_under request request.descriptors fs in
      let none_first = subst (λ (y : CountersView). HasNoPins b names fault y.cells w.cells y.claims.claims w.claims.claims) plan.planned none in
      subst (λ (e : CheckFault). HasRefused now p (but_for_claims e p q) × HasCause b request p e q) (sym f_is)
      (refusal_of limiter request now p plan.p1 (pass_with versions version u refused) q plan.offered plan.rest plan.kept b names fs w.cells w.claims.claims plan.renewed plan.founds
      refl fault none_first
      (λ i. record {
        limiter = record { claims = list i; versions = versions };
        version = version;
        claims = w.claims.claims;
        cells = w.cells;
        known = w.known;
        refused = left_is i;
      }))

-- for want of memory
pub early : (b : Bounds) (limiter : LimiterView) (request : RequestParts) (now : ℕ) (p q : PassView) (r : Result (Unit {0}) CheckFault) (reply : Reply)
    → IsErr r × IsErrAnd r (λ f. f ≡ check.OutOfMemory) → HasRefused now p q × (q.refused ≡ p.refused) × (q.claims ≡ p.claims)
    → Checks b limiter request now p (replied r reply) q
early b limiter request now p q (Ok x) reply e h = absurd e.1
early b limiter request now p q (Err fault) reply e h =
    subst (λ (f : CheckFault). HasRefused now p (but_for_claims f p q) × HasCause b request p f q) (sym e.1)
    (subst (HasRefused now p) (λ i. record q { claims = h.2 i }) h.0, (h.1, inl h.2))
