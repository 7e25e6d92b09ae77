-- A check that took no turn at the directory, and one that tried no pin.
use Rattle.std.proofs.Common.{◌≡◌, ℕ, List, [], ◌∷◌, ◌++◌, length, map, refl, sym, ap, ◌∙◌, subst, append_assoc}
use mathlib.Core.Option.{some, some-injective}
use lib.ListN.{get_elem?}
use Rattle.rate_types.specs.Requests.{RequestParts}
use Rattle.rate_types.specs.declared.request.Descriptor.{Descriptor}
use Rattle.descriptor_tree.specs.Trees.{DomainTree}
use Rattle.rule_lookup.specs.declared.found.Found.{Found}
use Rattle.config_versions.specs.PassState.{PassState}
use Rattle.counter_cells.specs.Steps.{ticked, tick_of}
use Rattle.counter_cells.specs.declared.view.CellView.{CellView}
use Rattle.counter_cells.specs.declared.view.Tick.{Tick}
use Rattle.over_cache.specs.Entries.{Entries}
use Rattle.rls_core.specs.Reply.{found_for}
use Rattle.rate_limiter.specs.Known.{KnowsCounter}
use Rattle.rate_limiter.specs.Passes.{PassView, KeepsAllButTicks, KeepsAllButVersion}
use Rattle.rate_limiter.specs.Sought.{KnowsUnder, AreKnownOver}
use Rattle.atomic_table.specs.Seated.{TableId}
use Rattle.rate_limiter.specs.Counters.{CountersView, pass_with}
use Rattle.rate_limiter.specs.Turns.{TakesNoTurn, TriesNoPin, IsKnownOver}
use Rattle.rate_limiter.proofs.Planned.{IsPlanned}
use Rattle.rate_limiter.proofs.Lists.{map_some}
use Rattle.rate_limiter.proofs.AskedCounters.{over_still}
use Rattle.rate_limiter.proofs.Knowing.{spots_same}
use Rattle.rate_limiter.proofs.Noting.{knows_still}

-- lists that are equal behind equal ones
pub rest_same : {A : Type 0} (xs ys zs : List A) → xs ++ ys ≡ xs ++ zs → ys ≡ zs
rest_same [] ys zs e = e
rest_same (x ∷ xs) ys zs e = rest_same xs ys zs (ap (tail xs ys) e)
  where
    tail : {A : Type 0} → List A → List A → List A → List A
    tail xs ys [] = xs ++ ys
    tail xs ys (z ∷ l) = l

pub first_same : {A : Type 0} (x y : A) (xs ys : List A) → x ∷ xs ≡ y ∷ ys → x ≡ y
first_same x y xs ys e = ap (head x) e
  where
    head : {A : Type 0} → A → List A → A
    head d [] = d
    head d (z ∷ l) = z

module _ (request : RequestParts) (moment now : ℕ) (p p1 p2 q : PassView) (ticks : p1.cells ≡ ticked moment now p.cells) (rest : KeepsAllButTicks p p1)
    (renewed : KeepsAllButVersion p1 p2) where
  cells_same : p2.cells ≡ ticked moment now p.cells
  cells_same = ap (λ (x : PassView). x.cells) renewed ∙ ticks

  -- nothing was claimed after it
  pub no_turn_at_all : q.claims ≡ p2.claims → TakesNoTurn request p q
  no_turn_at_all same first more is knew others = same ∙ ap (λ (x : PassView). x.claims) renewed ∙ ap (λ (x : PassView). x.claims) rest

  -- no pin was tried after it
  pub no_pin_at_all : q.cells.pairs ≡ p2.cells.pairs → q.cells.others ≡ p2.cells.others → TriesNoPin request p q
  no_pin_at_all pairs others first more is over = (pairs ∙ ap (λ (v : CellView). v.pairs) cells_same, others ∙ ap (λ (v : CellView). v.others) cells_same)

  module _ (ds : List Descriptor) (rules : List Found) (all : ds ≡ request.descriptors) (are : rules ≡ map (found_for p2.version.index request) request.descriptors)
      (version : q.version ≡ p2.version) (added : List Tick) (then_ticks : q.cells.ticks ≡ p2.cells.ticks ++ added) where
    -- what holds of each descriptor before the check, in the windows of its first tick, holds when the rules are found
    then_found : (P : ℕ → Entries → Descriptor → Found → Type 0) (first : Tick) (more : List Tick) → q.cells.ticks ≡ p.cells.ticks ++ first ∷ more
        → ((i : ℕ) (d : Descriptor) → get_elem? request.descriptors i ≡ some d → P first.moment p.known d (found_for q.version.index request d))
        → (i : ℕ) (d : Descriptor) (f : Found) → get_elem? ds i ≡ some d → get_elem? rules i ≡ some f → P p2.cells.moment p2.known d f
    then_found P first more is before i d f a b =
        let at = subst (λ (l : List Descriptor). get_elem? l i ≡ some d) all a in
        let g = found_for p2.version.index request d in
        let here = map_some (found_for p2.version.index request) request.descriptors i d at in
        let f_is : g ≡ f = some-injective g f (sym here ∙ sym (ap (λ (l : List Found). get_elem? l i) are) ∙ b) in
        let k = before i d at in
        let index : q.version.index ≡ p2.version.index = ap (λ (s : PassState (List DomainTree)). s.index) version in
        subst (P p2.cells.moment p2.known d) f_is
        (subst (λ (c : List DomainTree). P p2.cells.moment p2.known d (found_for c request d)) index
        (subst (λ (l : Entries). P p2.cells.moment l d (found_for q.version.index request d)) (sym known_same)
        (subst (λ m. P m p.known d (found_for q.version.index request d)) at_first k)))
      where
        tick : Tick
        tick = tick_of moment now p.cells

        whole : q.cells.ticks ≡ p.cells.ticks ++ tick ∷ added
        whole =
            then_ticks ∙ ap (λ (v : CellView). v.ticks ++ added) cells_same ∙ append_assoc p.cells.ticks (tick ∷ []) added

        at_first : first.moment ≡ p2.cells.moment
        at_first =
            ap (λ (t : Tick). t.moment) (sym (first_same tick first added more (rest_same p.cells.ticks (tick ∷ added) (first ∷ more) (sym whole ∙ is))))
            ∙ sym (ap (λ (v : CellView). v.moment) cells_same)

        known_same : p2.known ≡ p.known
        known_same = ap (λ (x : PassView). x.known) renewed ∙ ap (λ (x : PassView). x.known) rest

    pub no_turn : (KnowsUnder (length ds) request p2.cells.moment p2.known ds rules → q.cells.others ≡ p2.cells.others → q.claims ≡ p2.claims) → TakesNoTurn request p q
    no_turn stays first more is knew others =
        let others_same : q.cells.others ≡ p2.cells.others = others ∙ sym (ap (λ (v : CellView). v.others) cells_same) in
        no_turn_at_all (stays (λ i d f lt a b. then_found (KnowsCounter request) first more is knew i d f a b) others_same) first more is knew others

    -- where nothing was to be counted no pin was tried
    pub no_pin : (AreKnownOver request p2.cells.moment p2.known ds rules → (q.cells.pairs ≡ p2.cells.pairs) × (q.cells.others ≡ p2.cells.others)) → TriesNoPin request p q
    no_pin stays first more is over =
        let still = stays (λ i d f a b. then_found (IsKnownOver request) first more is over i d f a b) in
        no_pin_at_all still.0 still.1 first more is over

-- a plan asks for the counters, and changes nothing but the order of what is known; the check ends with these counters, and ticked after the plan
module _ (request : RequestParts) (now : ℕ) (p : PassView) (versions : TableId) (version : PassState (List DomainTree)) (u v : CountersView) (refused : ℕ) (fs : List Found)
    (h : IsPlanned request now p versions version u v refused fs) (x : CountersView) (left : ℕ) (added : List Tick) (ticks : x.cells.ticks ≡ v.cells.ticks ++ added) where
  cells_planned : v.cells ≡ u.cells
  cells_planned = ap (λ (y : CountersView). y.cells) h.planned

  ticks_planned : x.cells.ticks ≡ u.cells.ticks ++ added
  ticks_planned = ticks ∙ ap (λ (y : CellView). y.ticks ++ added) cells_planned

  pub planned_turn : (KnowsUnder (length request.descriptors) request v.cells.moment v.known request.descriptors fs → x.cells.others ≡ v.cells.others
      → x.claims.claims ≡ v.claims.claims) → TakesNoTurn request p (pass_with versions version x left)
  planned_turn stays =
      no_turn request h.moment now p h.p1 (pass_with versions version u refused) (pass_with versions version x left) h.ticks h.rest h.kept request.descriptors fs refl h.founds
      refl added ticks_planned
      (λ knows others.
      stays (subst (λ (y : CellView). KnowsUnder (length request.descriptors) request y.moment v.known request.descriptors fs) (sym cells_planned)
      (knows_still request u.cells.moment u.known v.known (spots_same u.known v.known h.same) request.descriptors fs (length request.descriptors) knows))
      (others ∙ sym (ap (λ (y : CellView). y.others) cells_planned))
      ∙ ap (λ (y : CountersView). y.claims.claims) h.planned)

  pub planned_pin : (AreKnownOver request v.cells.moment v.known request.descriptors fs → (x.cells.pairs ≡ v.cells.pairs) × (x.cells.others ≡ v.cells.others))
      → TriesNoPin request p (pass_with versions version x left)
  planned_pin stays =
      no_pin request h.moment now p h.p1 (pass_with versions version u refused) (pass_with versions version x left) h.ticks h.rest h.kept request.descriptors fs refl h.founds
      refl added ticks_planned
      (λ over.
      let still = stays (subst (λ (y : CellView). AreKnownOver request y.moment v.known request.descriptors fs) (sym cells_planned)
      (over_still request u.cells.moment u.known v.known h.same request.descriptors fs over)) in
      (still.0 ∙ ap (λ (y : CellView). y.pairs) cells_planned, still.1 ∙ ap (λ (y : CellView). y.others) cells_planned))
