-- From the parts of a check without lock and memory to what it promises.
use Rattle.std.proofs.Common.{◌≡◌, ℕ, ◌+◌, ◌≤◌, List, [], ◌∷◌, ◌++◌, length, map, Some, None, sym, ap, ◌∙◌, subst}
use mathlib.Core.Option.{some, some-injective}
use lib.ListN.{get_elem?}
use Rattle.rate_types.specs.Requests.{RequestParts}
use Rattle.rate_types.specs.declared.counter_key.CounterKey.{CounterKey}
use Rattle.rate_types.specs.declared.request.Descriptor.{Descriptor}
use Rattle.descriptor_tree.specs.Trees.{DomainTree}
use Rattle.rule_lookup.specs.declared.found.Found.{Found}
use Rattle.config_versions.specs.PassState.{PassState, IsVersion, HasLoaded}
use Rattle.atomic_table.specs.Seated.{TableId}
use Rattle.counter_cells.specs.Steps.{ticked}
use Rattle.counter_cells.specs.declared.view.CellView.{CellView}
use Rattle.counter_cells.specs.declared.view.OtherGate.{OtherGate}
use Rattle.counter_cells.specs.declared.answers.Spot.{Spot}
use Rattle.rls_core.specs.Reply.{found_for}
use Rattle.over_cache.specs.Entries.{Entries}
use Rattle.rate_limiter.specs.declared.missed.Missed.{Missed}
use Rattle.rate_limiter.specs.declared.missed.Missed.TheVariants.{Unknown, Reclaimed}
use Rattle.rate_limiter.specs.Known.{key_of, spot_of, SameSpots, HasCounter, HasMissed}
use Rattle.rate_limiter.specs.Passes.{LimiterView, PassView, KeepsAllButTicks, KeepsAllButVersion}
use Rattle.rate_limiter.specs.PassStep.{HasRenewed, HasOffered}
use Rattle.rate_limiter.specs.Pinned.{SameButPins}
use Rattle.rate_limiter.specs.Sought.{SameKnown, KnowsUnder, IsAt, HasMissCause}
use Rattle.rate_limiter.specs.Opens.{IsUpToDate, HasStayedOpen, HasNotCounted, HasOnlyTicked, KnowsFirst, IsCounterAt, Opens}
use Rattle.rate_limiter.specs.Opening.{refusal_for}
use Rattle.std.specs.Prelude.{Err}
use Rattle.rate_limiter.specs.Counters.{CountersView, pass_with}
use Rattle.rate_limiter.proofs.Planned.{IsPlanned}
use Rattle.rate_limiter.proofs.Renewing.{shown_renews}
use Rattle.rate_limiter.proofs.Lists.{map_some}
use Rattle.rate_limiter.proofs.Noting.{knows_still}

-- a pass of which nothing changed but its version
pub loaded_alone : (p p1 : PassView) → p1.limiter ≡ p.limiter → p1.claims ≡ p.claims → p1.cells ≡ p.cells → p1.known ≡ p.known → p1.refused ≡ p.refused → KeepsAllButVersion p p1
loaded_alone p p1 limiter claims cells known refused i = record {
  limiter = limiter i;
  version = p1.version;
  claims = claims i;
  cells = cells i;
  known = known i;
  refused = refused i;
}

-- what isn't known after questions wasn't before
pub cause_since : (request : RequestParts) (moment : ℕ) (old new : Entries) (ds : List Descriptor) (fs : List Found) (m : Missed) (v w : CellView) → SameSpots new old
    → HasMissCause request moment new ds fs m v w → HasMissCause request moment old ds fs m v w
cause_since request moment old new ds fs (Unknown place) v w same c = (
  record {
    d = c.0.d;
    f = c.0.f;
    at = c.0.at;
    unknown = record { q = c.0.unknown.q; counter = c.0.unknown.counter; unknown = same (key_of c.0.unknown.q) ∙ c.0.unknown.unknown };
    before = knows_still request moment new old same ds fs place c.0.before;
  },
  c.1,
)
cause_since request moment old new ds fs (Reclaimed place claim) v w same c = (
  record {
    d = c.0.d;
    f = c.0.f;
    at = c.0.at;
    q = c.0.q;
    counter = c.0.counter;
    s = c.0.s;
    known = same (key_of c.0.q) ∙ c.0.known;
    missed = c.0.missed;
  },
  knows_still request moment new old same ds fs (length ds) c.1,
)

-- A load of the versions and then a tick: the same as the tick and then the load
module _ (now : ℕ) (p p1 p2 : PassView) (loads : KeepsAllButVersion p p1) (offered : HasOffered now p1.cells p2.cells) (ticks : KeepsAllButTicks p1 p2) where
  cells_same : p1.cells ≡ p.cells
  cells_same = ap (λ (x : PassView). x.cells) loads

  abbrev pub between : PassView
  between = record p { cells = p2.cells }

  pub first_offered : HasOffered now p.cells between.cells
  first_offered = subst (λ (v : CellView). HasOffered now v p2.cells) cells_same offered

  cells_ticked : p2.cells ≡ record p.cells { ticks = p2.cells.ticks; moment = p2.cells.moment }
  cells_ticked =
      ap (λ (x : PassView). x.cells) ticks ∙ ap (λ (v : CellView). record v { ticks = p2.cells.ticks; moment = p2.cells.moment }) cells_same

  pub first_ticks : KeepsAllButTicks p between
  first_ticks = ap (λ (v : CellView). record p { cells = v }) cells_ticked

  limiter_kept : p2.limiter ≡ p.limiter
  limiter_kept = ap (λ (x : PassView). x.limiter) ticks ∙ ap (λ (x : PassView). x.limiter) loads

  claims_kept : p2.claims ≡ p.claims
  claims_kept = ap (λ (x : PassView). x.claims) ticks ∙ ap (λ (x : PassView). x.claims) loads

  known_kept : p2.known ≡ p.known
  known_kept = ap (λ (x : PassView). x.known) ticks ∙ ap (λ (x : PassView). x.known) loads

  refused_kept : p2.refused ≡ p.refused
  refused_kept = ap (λ (x : PassView). x.refused) ticks ∙ ap (λ (x : PassView). x.refused) loads

  version_kept : p2.version ≡ p1.version
  version_kept = ap (λ (x : PassView). x.version) ticks

  others_kept : p2.cells.others ≡ p.cells.others
  others_kept = ap (λ (v : CellView). v.others) cells_ticked

  pub then_version : KeepsAllButVersion between p2
  then_version = λ i. record {
    limiter = limiter_kept i;
    version = p2.version;
    claims = claims_kept i;
    cells = p2.cells;
    known = known_kept i;
    refused = refused_kept i;
  }

  pub open_renews : HasLoaded p.version p1.version → IsVersion p1.version.view.known p1.version.version p1.version.index → p1.version.view.shown ≡ p.version.version + 1
      → HasRenewed p.version p2.version
  open_renews loaded at newest = subst (HasRenewed p.version) (sym version_kept) (shown_renews p.version p1.version loaded at newest)

  -- the pass at the end of the check
  module _ (q : PassView) (limiter : q.limiter ≡ p2.limiter) (version : q.version ≡ p2.version) (claims : q.claims ≡ p2.claims) (known : SameSpots p2.known q.known)
      (refused : q.refused ≡ p2.refused) (loaded : HasLoaded p.version p1.version) (newest : p1.version.view.shown ≡ p.version.version + 1) where
    pub stayed_open : HasStayedOpen p q
    stayed_open = record {
      same = limiter ∙ limiter_kept;
      version = subst (λ (s : PassState (List DomainTree)). IsUpToDate p.version s) (sym (version ∙ version_kept)) (record { loaded = loaded; newest = newest });
      claims = claims ∙ claims_kept;
      known = subst (λ (l : Entries). SameSpots l q.known) known_kept known;
      refused = refused ∙ refused_kept;
    }

    not_counted : SameButPins p2.cells q.cells → q.cells.good ≡ [] → HasNotCounted now p q
    not_counted same bare =
        let f = first_offered in
        record {
          ticks = record {
            number = same.number ∙ f.number;
            added = f.added;
            ticks = same.ticks ∙ f.ticks;
            some = f.some;
            offers = f.offers;
            moment = same.moment ∙ f.moment;
            least = subst (λ n. now ≤ n) (sym same.moment) f.least;
            later = subst (λ n. p.cells.moment ≤ n) (sym same.moment) f.later;
          };
          counts = record {
            looks = same.looks ∙ ap (λ (v : CellView). v.looks) cells_ticked;
            charges = same.charges ∙ ap (λ (v : CellView). v.charges) cells_ticked;
          };
          bare = bare;
        }

    module _ (request : RequestParts) (moment : q.cells.moment ≡ p2.cells.moment) (rules : List Found)
        (are : rules ≡ map (found_for q.version.index request) request.descriptors) where
      pub knows_first : (n : ℕ) → KnowsUnder n request p2.cells.moment p2.known request.descriptors rules → KnowsFirst n request p q
      knows_first n h i d lt at =
          let f = found_for q.version.index request d in
          let here = map_some (found_for q.version.index request) request.descriptors i d at in
          let k = h i d f lt at (subst (λ (l : List Found). get_elem? l i ≡ some f) (sym are) here) in
          subst (λ (l : Entries). Rattle.rate_limiter.specs.Known.KnowsCounter request q.cells.moment l d f) known_kept
          (subst (λ m. Rattle.rate_limiter.specs.Known.KnowsCounter request m p2.known d f) (sym moment) k)

      counter_here : (place : ℕ) (d : Descriptor) (f : Found) (key : CounterKey) → IsAt request.descriptors rules place d f
          → HasCounter request p2.cells.moment d f key → IsCounterAt request q place key
      counter_here place d f key at has =
          let here = map_some (found_for q.version.index request) request.descriptors place d at.descriptor in
          let f_is : f ≡ found_for q.version.index request d
          = some-injective f (found_for q.version.index request d) (sym at.found ∙ ap (λ (l : List Found). get_elem? l place) are ∙ here) in (
            d,
            at.descriptor,
            subst (λ m. HasCounter request m d (found_for q.version.index request d) key) (sym moment)
                (subst (λ (g : Found). HasCounter request p2.cells.moment d g key) f_is has),
          )

      missed_first : (s : Spot) (claim : ℕ) → HasMissed s claim p2.cells q.cells → HasMissed s claim p.cells q.cells
      missed_first s claim h = record {
        other = h.other;
        is_open = h.is_open;
        noted = h.noted ∙ ap (λ (l : List OtherGate). l ++ (record { cell = s.cell; claim = claim; is_open = h.is_open }) ∷ []) others_kept;
      }

      -- a check whose counters aren't pinned
      pub opens_not : (limiter_view : LimiterView) (m : Missed) → SameButPins p2.cells q.cells → q.cells.good ≡ []
          → HasMissCause request p2.cells.moment p2.known request.descriptors rules m p2.cells q.cells
          → Opens limiter_view request now p (Err (refusal_for m)) q
      opens_not limiter_view (Unknown place) same bare c = (
        stayed_open,
        not_counted same bare,
        subst (λ (v : CellView). HasOnlyTicked p.cells v) (sym c.1) cells_ticked,
        knows_first place c.0.before,
        c.0.unknown.q,
        counter_here place c.0.d c.0.f c.0.unknown.q c.0.at c.0.unknown.counter,
        subst (λ (l : Entries). spot_of c.0.unknown.q l ≡ None) known_kept c.0.unknown.unknown,
      )
      opens_not limiter_view (Reclaimed place claim) same bare c = (
        stayed_open,
        not_counted same bare,
        knows_first (length request.descriptors) c.1,
        c.0.q,
        counter_here place c.0.d c.0.f c.0.q c.0.at c.0.counter,
        c.0.s,
        subst (λ (l : Entries). spot_of c.0.q l ≡ Some c.0.s) known_kept c.0.known,
        missed_first c.0.s claim c.0.missed,
      )

-- the plan of such a check, from what the calls leave: q is the pass of which the plan takes the parts
module _ (request : RequestParts) (now : ℕ) (p p1 q : PassView) (versions : TableId) (version : PassState (List DomainTree)) (u v : CountersView) (refused : ℕ)
    (is : pass_with versions version u refused ≡ q) (loads : KeepsAllButVersion p p1) (offered : HasOffered now p1.cells q.cells) (ticks : KeepsAllButTicks p1 q) where
  pub offered_so : HasOffered now p1.cells u.cells
  offered_so = subst (λ (x : PassView). HasOffered now p1.cells x.cells) (sym is) offered

  pub ticks_so : KeepsAllButTicks p1 (pass_with versions version u refused)
  ticks_so = subst (KeepsAllButTicks p1) (sym is) ticks

  pub planned_open : (moment : ℕ) → q.cells ≡ ticked moment now p1.cells → HasLoaded p.version p1.version
      → IsVersion p1.version.view.known p1.version.version p1.version.index → p1.version.view.shown ≡ p.version.version + 1 → v ≡ record u { known = v.known }
      → SameKnown u.known v.known → (fs : List Found) → fs ≡ map (found_for version.index request) request.descriptors
      → IsPlanned request now p versions version u v refused fs
  planned_open moment at loaded index newest planned same fs founds =
      let p2 = pass_with versions version u refused in
      record {
        p1 = between now p p1 p2 loads offered_so ticks_so;
        moment = moment;
        ticks = ap (λ (x : PassView). x.cells) is ∙ at ∙ ap (ticked moment now) (ap (λ (x : PassView). x.cells) loads);
        offered = first_offered now p p1 p2 loads offered_so ticks_so;
        rest = first_ticks now p p1 p2 loads offered_so ticks_so;
        renewed = open_renews now p p1 p2 loads offered_so ticks_so loaded index newest;
        kept = then_version now p p1 p2 loads offered_so ticks_so;
        planned = planned;
        same = same;
        founds = founds;
      }
