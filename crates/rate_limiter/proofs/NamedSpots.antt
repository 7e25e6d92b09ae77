-- The spots that the directory answers are those of the counters that are asked for.
use Rattle.std.proofs.Common.{◌≡◌, ℕ, zero, suc, ◌≤◌, ◌==◌, List, [], ◌∷◌, ◌++◌, length, Option, Some, None, IfSome, refl, sym, ap, subst, arith, eq-eqb}
use mathlib.Core.Option.{some, some-injective, some-ne-none}
use lib.ListN.{get_elem?}
use Rattle.rate_types.specs.Sums.{one_if}
use Rattle.rate_types.specs.Requests.{RequestParts}
use Rattle.rate_types.specs.declared.request.Descriptor.{Descriptor}
use Rattle.rule_lookup.specs.declared.found.Found.{Found}
use Rattle.rule_lookup.specs.declared.found.Found.TheVariants.{NoRule, Unlimited, Limited}
use Rattle.counter_cells.specs.Views.{claim_on}
use Rattle.counter_cells.specs.declared.view.CellView.{CellView}
use Rattle.counter_cells.specs.declared.answers.Spot.{Spot}
use Rattle.window_keys.specs.Counter.{counter_of}
use Rattle.counter_directory.specs.declared.claim.Claim.{Claim}
use Rattle.counter_directory.specs.Claims.{bindings_of}
use Rattle.counter_directory.specs.Keys.{keys_at}
use Rattle.counter_directory.specs.Spots.{spots_on, Bound}
use Rattle.over_cache.specs.Entries.{Entries}
use Rattle.over_cache.specs.declared.known.Known.{Known}
use Rattle.rate_limiter.specs.Asked.{known_for, IsOwn}
use Rattle.rate_limiter.specs.Counters.{IsPinned, Holds}
use Rattle.rate_limiter.specs.Known.{AreClaimedOnce}
use Rattle.rate_limiter.specs.Names.{name_under, names_under}
use Rattle.rate_limiter.proofs.Claiming.{one_spot}
use Rattle.rate_limiter.proofs.Lists.{total_at}

stands : (ss : List Spot) (i : ℕ) (s : Spot) → get_elem? ss i ≡ some s → 1 ≤ spots_on s.cell ss
stands ss i s at =
    let many = total_at (λ (t : Spot). one_if (t.cell == s.cell)) ss i s at in
    let one : one_if (s.cell == s.cell) ≡ 1 = ap one_if (eq-eqb s.cell s.cell refl) in
    omega arith

-- each of the spots is pinned
pub pinned_each : (cells : ℕ) (v : CellView) (ss : List Spot) → Holds cells ss v → ((i : ℕ) (s : Spot) → get_elem? ss i ≡ some s → claim_on s.cell v.good ≡ s.claim)
    → (i : ℕ) (s : Spot) → get_elem? ss i ≡ some s → IsPinned v s
pinned_each cells v ss h under i s at =
    let one = stands ss i s at in
    let pins = h.pins s.cell in
    record { held = omega arith; under = under i s at }

-- where a descriptor has a limit, a claim binds its counter to a spot that is pinned
abbrev pub IsNamedSpot : List Claim → RequestParts → CellView → Descriptor → Found → Type 0
IsNamedSpot claims request v d (Limited limit unit shadow rule) =
    (s : Spot) × (1 ≤ bindings_of (counter_of request.domain d unit v.moment) s.cell s.claim claims) × IsPinned v s
IsNamedSpot claims request v d found = Unit {0}

module _ (claims : List Claim) (request : RequestParts) (v : CellView) where
  -- the spots of the names are those of the descriptors that have a limit, in order
  pub named_spots : (ds : List Descriptor) (fs : List Found) (ss : List Spot) → length ss ≡ length (names_under request ds fs)
      → Bound claims (keys_at v.moment (names_under request ds fs)) ss → ((i : ℕ) (s : Spot) → get_elem? ss i ≡ some s → IsPinned v s)
      → (i : ℕ) (d : Descriptor) (f : Found) → get_elem? ds i ≡ some d → get_elem? fs i ≡ some f → IsNamedSpot claims request v d f
  named_spots [] fs ss len bound pinned i d f a b = absurd (some-ne-none d (sym a))
  named_spots (e ∷ ds) [] ss len bound pinned i d f a b = absurd (some-ne-none f (sym b))
  named_spots (e ∷ ds) (g ∷ fs) ss len bound pinned zero d f a b =
      subst (λ (x : Found). IsNamedSpot claims request v d x) (some-injective g f b)
      (subst (λ (x : Descriptor). IsNamedSpot claims request v x g) (some-injective e d a) (first g ss len bound pinned))
    where
      first : (g : Found) (ss : List Spot) → length ss ≡ length (name_under request e g ++ names_under request ds fs)
          → Bound claims (keys_at v.moment (name_under request e g ++ names_under request ds fs)) ss
          → ((i : ℕ) (s : Spot) → get_elem? ss i ≡ some s → IsPinned v s) → IsNamedSpot claims request v e g
      first NoRule ss len bound pinned = tt
      first (Unlimited rule) ss len bound pinned = tt
      first (Limited limit unit shadow rule) [] len bound pinned = absurd (omega arith)
      first (Limited limit unit shadow rule) (s ∷ ss) len bound pinned =
          (s, bound 0 (counter_of request.domain e unit v.moment) s refl refl, pinned 0 s refl)
  named_spots (e ∷ ds) (g ∷ fs) ss len bound pinned (suc i) d f a b =
      rest g ss len bound pinned (λ l same all each. named_spots ds fs l same all each i d f a b)
    where
      rest : (g : Found) (ss : List Spot) → length ss ≡ length (name_under request e g ++ names_under request ds fs)
          → Bound claims (keys_at v.moment (name_under request e g ++ names_under request ds fs)) ss
          → ((i : ℕ) (s : Spot) → get_elem? ss i ≡ some s → IsPinned v s)
          → ((l : List Spot) → length l ≡ length (names_under request ds fs) → Bound claims (keys_at v.moment (names_under request ds fs)) l
          → ((i : ℕ) (s : Spot) → get_elem? l i ≡ some s → IsPinned v s) → IsNamedSpot claims request v d f) → IsNamedSpot claims request v d f
      rest NoRule ss len bound pinned more = more ss len bound pinned
      rest (Unlimited rule) ss len bound pinned more = more ss len bound pinned
      rest (Limited limit unit shadow rule) [] len bound pinned more = absurd (omega arith)
      rest (Limited limit unit shadow rule) (s ∷ ss) len bound pinned more =
          more ss (omega arith) (λ j k t x y. bound (suc j) k t x y) (λ j t x. pinned (suc j) t x)

  -- what is known of a counter is the spot of its name
  pub known_pinned : (cells : ℕ) (pins : List (ℕ × ℕ)) (d : Descriptor) (f : Found) (k : Option Known) (es : Entries) → AreClaimedOnce claims
      → k ≡ known_for request v.moment es d f → IsOwn cells claims pins request v.moment d f k → IsNamedSpot claims request v d f → IfSome k (λ x. IsPinned v x.spot)
  known_pinned cells pins d NoRule None es once is own named = tt
  known_pinned cells pins d NoRule (Some k) es once is own named = absurd (cc)
  known_pinned cells pins d (Unlimited rule) None es once is own named = tt
  known_pinned cells pins d (Unlimited rule) (Some k) es once is own named = absurd (cc)
  known_pinned cells pins d (Limited limit unit shadow rule) None es once is own named = tt
  known_pinned cells pins d (Limited limit unit shadow rule) (Some k) es once is own named =
      let q = counter_of request.domain d unit v.moment in
      subst (IsPinned v) (one_spot q named.0 k.spot claims (once.counters q) named.1 own.bound) named.2

-- there are no more names than descriptors, and as many plans
pub names_few : (request : RequestParts) (ds : List Descriptor) (fs : List Found) → length (names_under request ds fs) ≤ length ds
names_few request [] fs = omega arith
names_few request (d ∷ ds) [] = omega arith
names_few request (d ∷ ds) (f ∷ fs) = let r = names_few request ds fs in one f r
  where
    one : (f : Found) → length (names_under request ds fs) ≤ length ds → length (name_under request d f ++ names_under request ds fs) ≤ suc (length ds)
    one NoRule r = omega arith
    one (Unlimited rule) r = omega arith
    one (Limited limit unit shadow rule) r = omega arith
