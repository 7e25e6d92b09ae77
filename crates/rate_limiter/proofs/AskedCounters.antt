-- From what a check asks to what it may count, and to why it can't.
use Rattle.std.proofs.Common.{◌≡◌, ◌⊎◌, inl, inr, ℕ, zero, suc, ◌+◌, ◌≤◌, ◌<◌, ◌||◌, ◌&&◌, not, Bool, true, false, true≢false, List, [], ◌∷◌, ◌++◌, length, Option, Some, None, IfSome}
use Rattle.std.proofs.Common.{refl, sym, ap, ◌∙◌, subst, arith, length-append}
use Rattle.std.proofs.lemmas.Bool.{lt-ltb}
use Rattle.std.specs.Prelude.{IsSome}
use Rattle.std.specs.List.{list_any}
use mathlib.Core.Option.{some, some-injective, some-ne-none}
use lib.ListN.{get_elem?}
use Rattle.rate_types.specs.Requests.{RequestParts}
use Rattle.rate_types.specs.declared.counter_key.CounterKey.{CounterKey}
use Rattle.rate_types.specs.declared.request.Descriptor.{Descriptor}
use Rattle.window_keys.specs.Counter.{counter_of}
use Rattle.rule_lookup.specs.declared.found.Found.{Found}
use Rattle.rule_lookup.specs.declared.found.Found.TheVariants.{NoRule, Unlimited, Limited}
use Rattle.counter_cells.specs.declared.view.CellView.{CellView}
use Rattle.counter_cells.specs.declared.answers.Spot.{Spot}
use Rattle.counter_directory.specs.Passes.{DirectoryPassView}
use Rattle.counter_directory.specs.declared.claim.Claim.{Claim}
use Rattle.over_cache.specs.Entries.{Entries}
use Rattle.over_cache.specs.declared.known.Known.{Known}
use Rattle.rls_core.specs.Reply.{hits_of, counter_under}
use Rattle.rate_limiter.specs.Names.{name_under, names_under}
use Rattle.rate_limiter.specs.Known.{key_of, spot_in, seen_in, spot_of, KnowsCounter, HasCounter, PinsGrow}
use Rattle.rate_limiter.specs.Counters.{CountersView, IsPinned}
use Rattle.rate_limiter.specs.Sought.{SameKnown, KnowsUnder, AreKnownOver, IsUnknownAt, HasMissCause}
use Rattle.rate_limiter.specs.Turns.{IsKnownOver}
use Rattle.rate_limiter.specs.Asked.{known_for, IsOwn, IsAsked, AreAsked, founds, is_missing, is_to_count, NoneMissing, IsThere, AreThere, AreHeld, IsNotHeld, ReadyAt, AreReady, AreKnown}
use Rattle.rate_limiter.specs.declared.asked.Asked.{Asked}
use Rattle.rate_limiter.specs.declared.missed.Missed.{Missed}
use Rattle.rate_limiter.specs.declared.missed.Missed.TheVariants.{Unknown, Reclaimed}
use Rattle.rate_limiter.proofs.Knowing.{at_less}
use Rattle.rate_limiter.proofs.Lists.{map_some}
use Rattle.rate_limiter.proofs.Seeking.{some_at, one_at}

-- ---- tests of lists

any_none : {A : Type 0} (test : A → Bool) (xs : List A) → ((i : ℕ) (x : A) → get_elem? xs i ≡ some x → test x ≡ false) → list_any test xs ≡ false
any_none test [] h = refl
any_none test (x ∷ xs) h = (λ j. h zero x refl j || list_any test xs) ∙ any_none test xs (λ i y at. h (suc i) y at)

pub neither : (a b : Bool) → (a || b) ≡ false → (a ≡ false) × (b ≡ false)
neither true b e = absurd (true≢false e)
neither false b e = (refl, e)

pub none_at : {A : Type 0} (test : A → Bool) (xs : List A) → list_any test xs ≡ false → (i : ℕ) (x : A) → get_elem? xs i ≡ some x → test x ≡ false
none_at test [] h i x at = absurd (some-ne-none x (sym at))
none_at test (y ∷ xs) h zero x at = subst (λ z. test z ≡ false) (some-injective y x at) (neither (test y) (list_any test xs) h).0
none_at test (y ∷ xs) h (suc i) x at = none_at test xs (neither (test y) (list_any test xs) h).1 i x at

below_next : (i n : ℕ) → i < suc n → (i < n) ⊎ (i ≡ n)
below_next zero zero lt = inr refl
below_next zero (suc n) lt = inl (omega arith)
below_next (suc i) zero lt = absurd (omega arith)
below_next (suc i) (suc n) lt = by (below_next i n (omega arith))
  where
    by : (i < n) ⊎ (i ≡ n) → (suc i < suc n) ⊎ (suc i ≡ suc n)
    by (inl h) = inl (omega arith)
    by (inr e) = inr (ap suc e)

-- what holds below a place and there holds below the next one
pub each_below : {A : Type 0} (P : A → Type 0) (xs : List A) (n : ℕ) (x : A) → get_elem? xs n ≡ some x → P x
    → ((i : ℕ) (y : A) → i < n → get_elem? xs i ≡ some y → P y) → (i : ℕ) (y : A) → i < n + 1 → get_elem? xs i ≡ some y → P y
each_below {A} P xs n x here is all i y lt at = by (below_next i n (omega arith))
  where
    by : (i < n) ⊎ (i ≡ n) → P y
    by (inl h) = all i y h at
    by (inr e) = subst P (one_at xs n x y here (subst (λ m. get_elem? xs m ≡ some y) e at)) is

-- what stands in a place that is beyond what is asked
abbrev pub no_ask : Asked
no_ask = record { found = NoRule; hits = 0; known = None }

-- ---- one descriptor

module _ (cells : ℕ) (claims : List Claim) (pins : List (ℕ × ℕ)) (request : RequestParts) (moment : ℕ) (es : Entries) (d : Descriptor) where
  there_one : (f : Found) (k : Option Known) → k ≡ known_for request moment es d f → IsOwn cells claims pins request moment d f k → IfSome k (λ x. IsThere cells pins x.spot)
  there_one NoRule None is own = tt
  there_one NoRule (Some k) is own = absurd (cc)
  there_one (Unlimited rule) None is own = tt
  there_one (Unlimited rule) (Some k) is own = absurd (cc)
  there_one (Limited limit unit shadow rule) None is own = tt
  there_one (Limited limit unit shadow rule) (Some k) is own = record { there = own.there; had = own.had }

  knows_one : (f : Found) (k : Option Known) → k ≡ known_for request moment es d f → is_missing f k ≡ false → KnowsCounter request moment es d f
  knows_one NoRule k is missing = tt
  knows_one (Unlimited rule) k is missing = tt
  knows_one (Limited limit unit shadow rule) None is missing = absurd (true≢false missing)
  knows_one (Limited limit unit shadow rule) (Some k) is missing = (subst (λ (o : Option Known). IsSome (spot_in o)) is refl, tt)

  unknown_one : (f : Found) (k : Option Known) → k ≡ known_for request moment es d f → is_missing f k ≡ true → IsUnknownAt request moment es d f
  unknown_one NoRule k is missing = absurd (true≢false (sym missing))
  unknown_one (Unlimited rule) k is missing = absurd (true≢false (sym missing))
  unknown_one (Limited limit unit shadow rule) None is missing = record {
    q = counter_of request.domain d unit moment;
    counter = refl;
    unknown = ap spot_in (sym is);
  }
  unknown_one (Limited limit unit shadow rule) (Some k) is missing = absurd (true≢false (sym missing))

  counter_one : (f : Found) (k : Known) → Some k ≡ known_for request moment es d f → (q : CounterKey) × HasCounter request moment d f q × (spot_of q es ≡ Some k.spot)
  counter_one NoRule k is = absurd (cc)
  counter_one (Unlimited rule) k is = absurd (cc)
  counter_one (Limited limit unit shadow rule) k is = (counter_of request.domain d unit moment, refl, ap spot_in (sym is))

  own_later : (more : List (ℕ × ℕ)) (f : Found) (k : Option Known) → PinsGrow pins more → IsOwn cells claims pins request moment d f k → IsOwn cells claims more request moment d f k
  own_later more NoRule k grow own = tt
  own_later more (Unlimited rule) k grow own = tt
  own_later more (Limited limit unit shadow rule) None grow own = tt
  own_later more (Limited limit unit shadow rule) (Some k) grow own =
      let g = grow k.spot.cell k.spot.claim in
      let had = own.had in
      record { there = own.there; bound = own.bound; had = omega arith }

  pub known_later : (new : Entries) (f : Found) (k : Option Known) → SameKnown es new → k ≡ known_for request moment es d f → k ≡ known_for request moment new d f
  known_later new NoRule k same is = is
  known_later new (Unlimited rule) k same is = is
  known_later new (Limited limit unit shadow rule) k same is = is ∙ sym (same (key_of (counter_of request.domain d unit moment)))

  over_missing : (f : Found) (k : Option Known) → k ≡ known_for request moment es d f → IsKnownOver request moment es d f → is_missing f k ≡ false
  over_missing NoRule k is over = refl
  over_missing (Unlimited rule) k is over = refl
  over_missing (Limited limit unit shadow rule) None is over = let e = ap seen_in is in absurd (omega (arith, over.1, e))
  over_missing (Limited limit unit shadow rule) (Some k) is over = refl

  over_counts : (f : Found) (hits : ℕ) (k : Option Known) → hits ≡ hits_of request d → k ≡ known_for request moment es d f → IsKnownOver request moment es d f
      → is_to_count f hits k ≡ false
  over_counts NoRule hits k hits_are is over = refl
  over_counts (Unlimited rule) hits k hits_are is over = refl
  over_counts (Limited limit unit shadow rule) hits k hits_are is over =
      let some_hits : 0 < hits = subst (λ n. 0 < n) (sym hits_are) over.0 in
      let more : limit < seen_in k = subst (λ (o : Option Known). limit < seen_in o) (sym is) over.1 in
      λ i. not (lt-ltb 0 hits some_hits i && lt-ltb limit (seen_in k) more i)

module _ (cells : ℕ) (claims : List Claim) (pins : List (ℕ × ℕ)) (request : RequestParts) (v : CellView) (d : Descriptor) where
  ready_one : (f : Found) (hits : ℕ) (k : Option Known) (es : Entries) → k ≡ known_for request v.moment es d f → IsOwn cells claims pins request v.moment d f k
      → is_missing f k ≡ false → (is_to_count f hits k ≡ true → IfSome k (λ x. IsPinned v x.spot)) → ReadyAt cells claims request v d f hits k
  ready_one NoRule hits k es is own missing pinned = is
  ready_one (Unlimited rule) hits k es is own missing pinned = is
  ready_one (Limited limit unit shadow rule) hits None es is own missing pinned = absurd (true≢false missing)
  ready_one (Limited limit unit shadow rule) hits (Some k) es is own missing pinned = (
    k,
    refl,
    record { there = own.there; bound = own.bound; pinned = λ over. pinned (ap not over) },
  )

-- ---- all descriptors of a request

module _ (cells : ℕ) (request : RequestParts) (v : CountersView) (asked : List Asked) (h : AreAsked cells request v asked) where
  -- the descriptor of each
  pub of_each : (i : ℕ) (a : Asked) → get_elem? asked i ≡ some a → (d : Descriptor) × (get_elem? request.descriptors i ≡ some d) × IsAsked cells request v d a
  of_each i a at =
      let lt = at_less asked i a at in
      let count = h.count in
      let d = some_at request.descriptors i (omega arith) in
      (d.0, d.1, h.each i d.0 a d.1 at)

  -- what is asked for each
  asked_at : (i : ℕ) (d : Descriptor) (f : Found) → get_elem? request.descriptors i ≡ some d → get_elem? (founds asked) i ≡ some f
      → (a : Asked) × (get_elem? asked i ≡ some a) × (a.found ≡ f)
  asked_at i d f in_ds in_fs =
      let lt = at_less request.descriptors i d in_ds in
      let count = h.count in
      let a = some_at asked i (omega arith) in
      (a.0, a.1, one_at (founds asked) i a.0.found f (map_some (λ (x : Asked). x.found) asked i a.0 a.1) in_fs)

  pub there_of : AreThere cells v.cells.pairs asked
  there_of i a at =
      let x = of_each i a at in
      there_one cells v.claims.claims.known v.cells.pairs request v.cells.moment v.known x.0 a.found a.known x.2.known x.2.own

  pub asked_known : AreKnown request v asked
  asked_known i d a in_ds at = (h.each i d a in_ds at).known

  -- where none is missing the counters are known
  pub knows_of : (n : ℕ) → NoneMissing n asked → KnowsUnder n request v.cells.moment v.known request.descriptors (founds asked)
  knows_of n none i d f lt in_ds in_fs =
      let a = asked_at i d f in_ds in_fs in
      subst (KnowsCounter request v.cells.moment v.known d) a.2
      (knows_one cells v.claims.claims.known v.cells.pairs request v.cells.moment v.known d a.0.found a.0.known (h.each i d a.0 in_ds a.1).known (none i a.0 lt a.1))

  -- why they aren't held
  pub cause_of : (m : Missed) (w : CellView) → IsNotHeld asked m v.cells w
      → HasMissCause request v.cells.moment v.known request.descriptors (founds asked) m v.cells w
  cause_of (Unknown place) w c =
      let a = c.0.a in
      let x = of_each place a c.0.at in (
        record {
          d = x.0;
          f = a.found;
          at = record { descriptor = x.1; found = map_some (λ (y : Asked). y.found) asked place a c.0.at };
          unknown = unknown_one cells v.claims.claims.known v.cells.pairs request v.cells.moment v.known x.0 a.found a.known x.2.known c.0.missing;
          before = knows_of place c.1;
        },
        c.2,
      )
  cause_of (Reclaimed place claim) w c =
      let m = c.1 in
      let a = m.a in
      let x = of_each place a m.at in
      let q = counter_one cells v.claims.claims.known v.cells.pairs request v.cells.moment v.known x.0 a.found m.k (sym m.is ∙ x.2.known) in (
        record {
          d = x.0;
          f = a.found;
          at = record { descriptor = x.1; found = map_some (λ (y : Asked). y.found) asked place a m.at };
          q = q.0;
          counter = q.1;
          s = m.k.spot;
          known = q.2;
          missed = m.missed;
        },
        subst (λ n. KnowsUnder n request v.cells.moment v.known request.descriptors (founds asked)) h.count (knows_of (length asked) c.0),
      )

  -- the counters that are held can be counted
  pub ready_of : (spots : List Spot) → AreHeld cells asked spots v.cells → AreReady cells v.claims.claims.known request v.cells asked
  ready_of spots held i d a in_ds at =
      let x = h.each i d a in_ds at in
      record {
        hits = x.hits;
        spot = ready_one cells v.claims.claims.known v.cells.pairs request v.cells d a.found a.hits a.known v.known x.known x.own
            (held.known i a (at_less asked i a at) at) (held.pinned i a at);
      }

  -- the same is asked where the same is known, and pins were added
  pub asked_later : (w : CountersView) → w.claims ≡ v.claims → SameKnown v.known w.known → w.cells.moment ≡ v.cells.moment → PinsGrow v.cells.pairs w.cells.pairs → AreAsked cells request w asked
  asked_later w claims_are same moment grow = record {
    count = h.count;
    each = λ i d a in_ds at.
        let x = h.each i d a in_ds at in
        record {
          hits = x.hits;
          known = subst (λ n. a.known ≡ known_for request n w.known d a.found) (sym moment)
              (known_later cells v.claims.claims.known v.cells.pairs request v.cells.moment v.known d w.known a.found a.known same x.known);
          own = subst (λ n. IsOwn cells w.claims.claims.known w.cells.pairs request n d a.found a.known) (sym moment)
              (subst (λ (t : DirectoryPassView). IsOwn cells t.claims.known w.cells.pairs request v.cells.moment d a.found a.known)
              (sym claims_are)
              (own_later cells v.claims.claims.known v.cells.pairs request v.cells.moment v.known d w.cells.pairs a.found a.known grow x.own));
        };
  }

  -- what is known above all limits is known, and nothing is to be counted
  module _ (over : AreKnownOver request v.cells.moment v.known request.descriptors (founds asked)) where
    over_at : (i : ℕ) (a : Asked) → get_elem? asked i ≡ some a → (d : Descriptor) × IsAsked cells request v d a × IsKnownOver request v.cells.moment v.known d a.found
    over_at i a at =
        let x = of_each i a at in
        (x.0, x.2, over i x.0 a.found x.1 (map_some (λ (y : Asked). y.found) asked i a at))

    pub over_known : NoneMissing (length asked) asked
    over_known i a lt at =
        let x = over_at i a at in
        over_missing cells v.claims.claims.known v.cells.pairs request v.cells.moment v.known x.0 a.found a.known x.1.known x.2

    pub over_none : list_any (λ (a : Asked). is_to_count a.found a.hits a.known) asked ≡ false
    over_none = any_none (λ (a : Asked). is_to_count a.found a.hits a.known) asked
        (λ i a at.
        let x = over_at i a at in
        over_counts cells v.claims.claims.known v.cells.pairs request v.cells.moment v.known x.0 a.found a.hits a.known x.1.hits x.1.known x.2)

-- ---- the names of counters that are asked for

-- where a descriptor has a counter there is a name
pub names_some : (request : RequestParts) (moment : ℕ) (ds : List Descriptor) (fs : List Found) (i : ℕ) (d : Descriptor) (f : Found) (q : CounterKey)
    → get_elem? ds i ≡ some d → get_elem? fs i ≡ some f → HasCounter request moment d f q → 1 ≤ length (names_under request ds fs)
names_some request moment [] fs i d f q a b has = absurd (some-ne-none d (sym a))
names_some request moment (e ∷ ds) [] i d f q a b has = absurd (some-ne-none f (sym b))
names_some request moment (e ∷ ds) (g ∷ fs) zero d f q a b has = here g (some-injective g f b)
  where
    here : (g : Found) → g ≡ f → 1 ≤ length (name_under request e g ++ names_under request ds fs)
    here NoRule is = let none : [] ≡ q ∷ [] = ap (counter_under request moment d) is ∙ has in absurd (cc)
    here (Unlimited rule) is = let none : [] ≡ q ∷ [] = ap (counter_under request moment d) is ∙ has in absurd (cc)
    here (Limited limit unit shadow rule) is = omega arith
names_some request moment (e ∷ ds) (g ∷ fs) (suc i) d f q a b has =
    let more = names_some request moment ds fs i d f q a b has in
    let both = length-append (name_under request e g) (names_under request ds fs) in
    omega arith

-- where some aren't held there is one
pub some_named : (request : RequestParts) (moment : ℕ) (es : Entries) (ds : List Descriptor) (fs : List Found) (m : Missed) (v w : CellView)
    → HasMissCause request moment es ds fs m v w → 1 ≤ length (names_under request ds fs)
some_named request moment es ds fs (Unknown place) v w c =
    names_some request moment ds fs place c.0.d c.0.f c.0.unknown.q c.0.at.descriptor c.0.at.found c.0.unknown.counter
some_named request moment es ds fs (Reclaimed place claim) v w c = names_some request moment ds fs place c.0.d c.0.f c.0.q c.0.at.descriptor c.0.at.found c.0.counter

-- what is known above the limits stays so
pub over_still : (request : RequestParts) (moment : ℕ) (es new : Entries) → SameKnown es new → (ds : List Descriptor) (fs : List Found) → AreKnownOver request moment es ds fs
    → AreKnownOver request moment new ds fs
over_still request moment es new same ds fs h i d f a b = by f (h i d f a b)
  where
    by : (g : Found) → IsKnownOver request moment es d g → IsKnownOver request moment new d g
    by NoRule over = tt
    by (Unlimited rule) over = tt
    by (Limited limit unit shadow rule) over =
        (over.0, subst (λ (o : Option Known). limit < seen_in o) (sym (same (key_of (counter_of request.domain d unit moment)))) over.1)
