-- What was counted for the descriptors of a request is what its statuses show as charges and sights.
use Rattle.std.proofs.Common.{◌≡◌, inl, inr, ℕ, ◌+◌, ◌≤◌, ◌==◌, ◌&&◌, ◌||◌, nat_lt, List, [], ◌∷◌, ◌++◌, map, cond, Bool, true, false, Option, Some, None, refl, sym, ap, ◌∙◌}
use Rattle.std.proofs.Common.{subst, arith, append_assoc, eq-eqb}
use Rattle.std.proofs.lemmas.List.{append-nil, map-append}
use mathlib.Core.List.{IsPrefix}
use Rattle.rate_types.specs.Sums.{total, one_if}
use Rattle.rate_types.specs.Counters.{same_counter}
use Rattle.rate_types.specs.Ledger.{Charge, Sight}
use Rattle.rate_types.specs.Requests.{RequestParts}
use Rattle.rate_types.specs.declared.counter_key.CounterKey.{CounterKey}
use Rattle.rate_types.specs.declared.request.Descriptor.{Descriptor}
use Rattle.rate_types.specs.declared.request.OwnLimit.{OwnLimit}
use Rattle.rate_types.specs.declared.unit.Unit as unit_type
use Rattle.window_keys.specs.Counter.{counter_of}
use Rattle.descriptor_tree.specs.Trees.{DomainTree}
use Rattle.rule_lookup.specs.declared.found.Found.{Found}
use Rattle.rule_lookup.specs.declared.found.Found.TheVariants.{NoRule, Unlimited, Limited}
use Rattle.counter_cells.specs.Ledgers.{charge_of}
use Rattle.counter_cells.specs.declared.view.CellView.{CellView}
use Rattle.counter_cells.specs.declared.view.Charge as cell_charge
use Rattle.counter_directory.specs.declared.claim.Claim.{Claim}
use Rattle.counter_directory.specs.Claims.{bindings_of}
use Rattle.rls_core.specs.Reply.{hits_of, found_for, AreStatuses, charge_shown, charges_of, sight_shown, sights_of}
use Rattle.rls_core.specs.Status.{status_of}
use Rattle.rls_core.specs.declared.status.Count.{Count}
use Rattle.rls_core.specs.declared.status.Count.TheVariants.{NoCount, Before, Seen}
use Rattle.rls_core.specs.declared.status.Status.{Status}
use Rattle.rate_limiter.specs.Named.{claimed_as, AreNamed}
use Rattle.rate_limiter.specs.Values.{HasValue, HasSight, HasSights}
use Rattle.rate_limiter.specs.Counts.{Keeps, Looks, Counted, CountsOne, CountsEach}
use Rattle.rate_limiter.specs.PassStep.{HasCharged}
use Rattle.rate_limiter.proofs.Lists.{total_more, each_append, each_more, prefix_then}

-- ---- the limit that a status shows

abbrev limit_shown : Option Status → Option OwnLimit
limit_shown None = None
limit_shown (Some s) = s.limit

abbrev limit_found : Found → Option OwnLimit
limit_found (Limited limit unit shadow rule) = Some (record { limit = limit; unit = unit })
limit_found found = None

-- a status shows the limit that was found
shows_limit : (f : Found) (moment hits : ℕ) (c : Count) (s : Status) → status_of f moment hits c ≡ Some s → s.limit ≡ limit_found f
shows_limit NoRule moment hits NoCount s e = sym (ap limit_shown e)
shows_limit NoRule moment hits (Before before) s e = absurd (cc)
shows_limit NoRule moment hits (Seen seen) s e = absurd (cc)
shows_limit (Unlimited rule) moment hits NoCount s e = sym (ap limit_shown e)
shows_limit (Unlimited rule) moment hits (Before before) s e = absurd (cc)
shows_limit (Unlimited rule) moment hits (Seen seen) s e = absurd (cc)
shows_limit (Limited limit unit shadow rule) moment hits NoCount s e = absurd (cc)
shows_limit (Limited limit unit shadow rule) moment hits (Before before) s e = by (nat_lt 0 hits) _ e refl
  where
    by : (b : Bool) (t : Status) → cond b (Some t) None ≡ Some s → t.limit ≡ Some (record { limit = limit; unit = unit })
        → s.limit ≡ Some (record { limit = limit; unit = unit })
    by true t h l = sym (ap limit_shown h) ∙ l
    by false t h l = absurd (cc)
shows_limit (Limited limit unit shadow rule) moment hits (Seen seen) s e = by ((hits == 0) || nat_lt limit seen) _ e refl
  where
    by : (b : Bool) (t : Status) → cond b (Some t) None ≡ Some s → t.limit ≡ Some (record { limit = limit; unit = unit })
        → s.limit ≡ Some (record { limit = limit; unit = unit })
    by true t h l = sym (ap limit_shown h) ∙ l
    by false t h l = absurd (cc)

-- ---- what is bound is named

bound_named : (a b c : Bool) → one_if (a && (b && c)) ≤ one_if (a && c)
bound_named true true c = omega arith
bound_named true false c = omega arith
bound_named false b c = omega arith

-- a claim that binds the counter to a cell under a number binds it under the number
pub binds_as : (q : CounterKey) (cell number : ℕ) (claims : List Claim) → bindings_of q cell number claims ≤ claimed_as q number claims
binds_as q cell number [] = omega arith
binds_as q cell number (x ∷ xs) =
    let r = binds_as q cell number xs in
    let o = bound_named (same_counter x.key q) (x.cell == cell) (x.claim == number) in
    omega arith

named_append : (claims : List Claim) (xs xs' : List (Charge ℕ)) (ys ys' : List (Charge CounterKey)) → AreNamed claims xs ys → AreNamed claims xs' ys'
    → AreNamed claims (xs ++ xs') (ys ++ ys')
named_append claims [] xs' [] ys' a b = b
named_append claims [] xs' (y ∷ ys) ys' a b = absurd a
named_append claims (x ∷ xs) xs' [] ys' a b = absurd a
named_append claims (x ∷ xs) xs' (y ∷ ys) ys' a b = (a.0, named_append claims xs xs' ys ys' a.1 b)

-- ---- what a pass has it keeps

-- a view looked and charged more
pub record Grows (v w : CellView) : Type 0 where
  pub looks : IsPrefix v.looks w.looks
  pub charges : IsPrefix v.charges w.charges

pub value_grows : (claim value : ℕ) (v w : CellView) → Grows v w → HasValue claim value v → HasValue claim value w
value_grows claim value v w g h =
    let f : ℕ × ℕ → ℕ = λ p. one_if ((p.0 == claim) && (p.1 == value)) in
    let n : cell_charge.Charge → ℕ = λ x. one_if ((x.claim == claim) && (x.before + x.hits == value)) in
    let a = ap (total f) (sym g.looks.1) ∙ total_more f v.looks g.looks.0 in
    let b = ap (total n) (sym g.charges.1) ∙ total_more n v.charges g.charges.0 in
    omega arith

sight_grows : (claims : List Claim) (v w : CellView) → Grows v w → (y : Sight CounterKey) → HasSight claims v y → HasSight claims w y
sight_grows claims v w g y h = (h.0, h.1, value_grows h.0 y.seen v w g h.2)

-- ---- one descriptor

same_prefix : {A : Type 0} (xs ys : List A) → ys ≡ xs → IsPrefix xs ys
same_prefix xs ys e = ([], append-nil xs ∙ sym e)

nothing_charged : (claims : List Claim) (v w : CellView) → w.charges ≡ v.charges → IsPrefix v.looks w.looks → HasCharged claims [] v w
nothing_charged claims v w e looks = record { added = []; grew = e ∙ sym (append-nil v.charges); named = tt; looks = looks }

-- a look found the value
look_has : (claim seen : ℕ) (v w : CellView) → Looks claim seen v w → HasValue claim seen w
look_has claim seen v w l =
    let f : ℕ × ℕ → ℕ = λ p. one_if ((p.0 == claim) && (p.1 == seen)) in
    let a = ap (total f) l.looks ∙ total_more f v.looks ((claim, seen) ∷ []) in
    let o : f (claim, seen) ≡ 1 = λ i. one_if (eq-eqb claim claim refl i && eq-eqb seen seen refl i) in
    omega arith

module _ (claims : List Claim) (request : RequestParts) (moment : ℕ) where
  -- what is charged and seen where there is a limit
  module _ (d : Descriptor) (limit : ℕ) (unit : unit_type.Unit) where
    abbrev key : CounterKey
    key = counter_of request.domain d unit moment

    abbrev own : Option OwnLimit
    own = Some (record { limit = limit; unit = unit })

    counted_charged : (c : Count) (v w : CellView) → Counted claims key limit (hits_of request d) c v w
        → HasCharged claims (charge_shown request moment d own c) v w
    counted_charged (Seen seen) v w (s, bound, inl l) = nothing_charged claims v w l.charges ((s.claim, seen) ∷ [], sym l.looks)
    counted_charged (Seen seen) v w (s, bound, inr h) = nothing_charged claims v w h.1.keeps.charges (same_prefix v.looks w.looks h.1.keeps.looks)
    counted_charged (Before before) v w h =
        let c = h.2 in
        let e : List (ℕ × ℕ) = (h.0.claim, c.found) ∷ [] in
        let b = binds_as key h.0.cell h.0.claim claims in
        let bound = h.1 in
        record {
          added = record { claim = h.0.claim; before = before; hits = hits_of request d } ∷ [];
          grew = c.charges ∙ ap (λ l. l ++ (record { claim = h.0.claim; before = before; hits = hits_of request d }) ∷ []) c.look.charges;
          named = (record { bound = omega arith; before = refl; hits = refl }, tt);
          looks = (e, sym (c.looks ∙ c.look.looks));
        }
    counted_charged NoCount v w h = absurd h

    counted_seen : (c : Count) (v w : CellView) → Counted claims key limit (hits_of request d) c v w
        → HasSights claims w (sight_shown request moment d own c)
    counted_seen (Seen seen) v w (s, bound, inl l) =
        let b = binds_as key s.cell s.claim claims in
        ((s.claim, omega arith, look_has s.claim seen v w l), tt)
    counted_seen (Seen seen) v w (s, bound, inr h) =
        let b = binds_as key s.cell s.claim claims in
        let k = h.1.keeps in (
          (
            s.claim,
            omega arith,
            value_grows s.claim seen v w (record { looks = same_prefix v.looks w.looks k.looks; charges = same_prefix v.charges w.charges k.charges }) h.1.had,
          ),
          tt,
        )
    counted_seen (Before before) v w h = tt
    counted_seen NoCount v w h = absurd h

  kept_charged : (v w : CellView) → Keeps v w → HasCharged claims [] v w
  kept_charged v w k = nothing_charged claims v w k.charges (same_prefix v.looks w.looks k.looks)

  one_charged : (d : Descriptor) (f : Found) (c : Count) (v w : CellView) → CountsOne claims request moment d f c v w
      → HasCharged claims (charge_shown request moment d (limit_found f) c) v w
  one_charged d NoRule (Before before) v w h = kept_charged v w h
  one_charged d NoRule (Seen seen) v w h = kept_charged v w h
  one_charged d NoRule NoCount v w h = kept_charged v w h
  one_charged d (Unlimited rule) (Before before) v w h = kept_charged v w h
  one_charged d (Unlimited rule) (Seen seen) v w h = kept_charged v w h
  one_charged d (Unlimited rule) NoCount v w h = kept_charged v w h
  one_charged d (Limited limit unit shadow rule) c v w h = counted_charged d limit unit c v w h

  one_seen : (d : Descriptor) (f : Found) (c : Count) (v w : CellView) → CountsOne claims request moment d f c v w
      → HasSights claims w (sight_shown request moment d (limit_found f) c)
  one_seen d NoRule (Before before) v w h = tt
  one_seen d NoRule (Seen seen) v w h = tt
  one_seen d NoRule NoCount v w h = tt
  one_seen d (Unlimited rule) (Before before) v w h = tt
  one_seen d (Unlimited rule) (Seen seen) v w h = tt
  one_seen d (Unlimited rule) NoCount v w h = tt
  one_seen d (Limited limit unit shadow rule) c v w h = counted_seen d limit unit c v w h

  -- ---- all descriptors

  charged_then : (xs ys : List (Charge CounterKey)) (u v w : CellView) → HasCharged claims xs u v → HasCharged claims ys v w → HasCharged claims (xs ++ ys) u w
  charged_then xs ys u v w a b = record {
    added = a.added ++ b.added;
    grew = b.grew ∙ ap (λ l. l ++ b.added) a.grew ∙ append_assoc u.charges a.added b.added;
    named = subst (λ l. AreNamed claims l (xs ++ ys)) (sym (map-append charge_of a.added b.added))
        (named_append claims (map charge_of a.added) (map charge_of b.added) xs ys a.named b.named);
    looks = prefix_then u.looks v.looks w.looks a.looks b.looks;
  }

  grown : (xs : List (Charge CounterKey)) (v w : CellView) → HasCharged claims xs v w → Grows v w
  grown xs v w h = record { looks = h.looks; charges = (h.added, sym h.grew) }

  module _ (config : List DomainTree) where
    pub charged_of : (ds : List Descriptor) (sts : List Status) (v w : CellView) → AreStatuses config request moment ds sts
        → CountsEach claims config request moment ds sts v w → HasCharged claims (charges_of request moment ds sts) v w
    charged_of [] [] v w a h = kept_charged v w h
    charged_of [] (s ∷ sts) v w a h = absurd h
    charged_of (d ∷ ds) [] v w a h = absurd h
    charged_of (d ∷ ds) (s ∷ sts) v w a h =
        let f = found_for config request d in
        let limit = shows_limit f moment (hits_of request d) s.count s a.0 in
        let one = subst (λ (o : Option OwnLimit). HasCharged claims (charge_shown request moment d o s.count) v h.0) (sym limit)
        (one_charged d f s.count v h.0 h.1) in
        charged_then (charge_shown request moment d s.limit s.count) (charges_of request moment ds sts) v h.0 w one (charged_of ds sts h.0 w a.1 h.2)

    pub seen_of : (ds : List Descriptor) (sts : List Status) (v w : CellView) → AreStatuses config request moment ds sts
        → CountsEach claims config request moment ds sts v w → HasSights claims w (sights_of request moment ds sts)
    seen_of [] [] v w a h = tt
    seen_of [] (s ∷ sts) v w a h = absurd h
    seen_of (d ∷ ds) [] v w a h = absurd h
    seen_of (d ∷ ds) (s ∷ sts) v w a h =
        let f = found_for config request d in
        let mid = h.0 in
        let limit = shows_limit f moment (hits_of request d) s.count s a.0 in
        let one = subst (λ (o : Option OwnLimit). HasSights claims mid (sight_shown request moment d o s.count)) (sym limit) (one_seen d f s.count v mid h.1) in
        let later = grown (charges_of request moment ds sts) mid w (charged_of ds sts mid w a.1 h.2) in
        each_append (HasSight claims w) (sight_shown request moment d s.limit s.count) (sights_of request moment ds sts)
        (each_more (HasSight claims mid) (HasSight claims w) (sight_grows claims mid w later) (sight_shown request moment d s.limit s.count) one)
        (seen_of ds sts mid w a.1 h.2)
