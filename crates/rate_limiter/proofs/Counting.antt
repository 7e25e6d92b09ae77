-- What was done for the descriptors of a request is what its reply shows.
use Rattle.std.proofs.Common.{◌≡◌, ℕ, zero, suc, ◌+◌, ◌≤◌, ◌<◌, ◌==◌, ◌&&◌, ◌||◌, nat_lt, List, [], ◌∷◌, ◌++◌, length, map, take, drop, get_or, cond, Bool, true, false, Option}
use Rattle.std.proofs.Common.{Some, None, is_some, IfSome, IsSome, All, refl, sym, ap, ◌∙◌, subst, arith, ◌⊎◌, inl, inr}
use Rattle.std.proofs.lemmas.List.{take_more, map-append}
use Rattle.std.specs.List.{AllByRecursion}
use Rattle.rate_types.specs.Sums.{total, one_if}
use Rattle.rate_types.specs.Requests.{RequestParts}
use Rattle.rate_types.specs.declared.counter_key.CounterKey.{CounterKey}
use Rattle.rate_types.specs.declared.counter_name.CounterName.{CounterName}
use Rattle.rate_types.specs.declared.request.Descriptor.{Descriptor}
use Rattle.window_keys.specs.Counter.{counter_of}
use Rattle.descriptor_tree.specs.Trees.{DomainTree}
use Rattle.rule_lookup.specs.declared.found.Found.{Found}
use Rattle.rule_lookup.specs.declared.found.Found.TheVariants.{NoRule, Unlimited, Limited}
use Rattle.counter_cells.specs.Views.{claim_on, Capped}
use Rattle.counter_cells.specs.Steps.{number_of, looked}
use Rattle.counter_cells.specs.declared.view.CellView.{CellView}
use Rattle.counter_cells.specs.declared.view.Charge as cell_charge
use Rattle.counter_cells.specs.declared.answers.Spot.{Spot}
use Rattle.counter_directory.specs.declared.claim.Claim.{Claim}
use Rattle.counter_directory.specs.Claims.{bindings_of}
use Rattle.counter_directory.specs.Keys.{key_at, keys_at}
use Rattle.rls_core.specs.Reply.{hits_of, found_for, counter_under, AreStatuses}
use Rattle.rls_core.specs.Status.{status_of}
use Rattle.rls_core.specs.declared.status.Count.{Count}
use Rattle.rls_core.specs.declared.status.Count.TheVariants.{NoCount, Before, Seen}
use Rattle.rls_core.specs.declared.status.Status.{Status}
use Rattle.rate_limiter.specs.Values.{looks_at, charges_to}
use Rattle.rate_limiter.specs.Counts.{Keeps, Looks, Knows, Counted, CountsOne, CountsEach}
use Rattle.rate_limiter.specs.Names.{name_under, names_under}
use Rattle.rate_limiter.specs.Counted.{CountedAt, IsCounted, AreCounted, SameButCounts}

-- ---- steps on the cells

-- what was counted has a status
pub has_status : (limit : ℕ) (unit : _) (shadow : Bool) (rule : _) (moment hits : ℕ) (spot : Spot) (c : Count) (v w : CellView)
    → CountedAt spot limit hits c v w → IsSome (status_of (Limited limit unit shadow rule) moment hits c)
has_status limit unit shadow rule moment hits spot (Seen seen) v w h = rw h.0 refl
has_status limit unit shadow rule moment hits spot (Before before) v w h = rw h.0 refl
has_status limit unit shadow rule moment hits spot NoCount v w h = absurd h

pub same_of : (v w : CellView) → w ≡ v → SameButCounts v w
same_of v w e = record {
  number = ap number_of e;
  good = ap (λ (x : CellView). x.good) e;
  pins = ap (λ (x : CellView). x.pairs) e;
  others = ap (λ (x : CellView). x.others) e;
  ticks = ap (λ (x : CellView). x.ticks) e;
  moment = ap (λ (x : CellView). x.moment) e;
}

-- a count leaves all but looks and charges
pub counted_same : (spot : Spot) (limit hits : ℕ) (c : Count) (v w : CellView) → CountedAt spot limit hits c v w → SameButCounts v w
counted_same spot limit hits (Seen seen) v w (b, inl l) =
    let e = l.1 in
    record {
      number = ap number_of e;
      good = ap (λ (x : CellView). x.good) e;
      pins = ap (λ (x : CellView). x.pairs) e;
      others = ap (λ (x : CellView). x.others) e;
      ticks = ap (λ (x : CellView). x.ticks) e;
      moment = ap (λ (x : CellView). x.moment) e;
    }
counted_same spot limit hits (Seen seen) v w (b, inr k) = same_of v w k.1.2
counted_same spot limit hits (Before before) v w h =
    let e = h.1.charge in
    record {
      number = ap number_of e;
      good = ap (λ (x : CellView). x.good) e;
      pins = ap (λ (x : CellView). x.pairs) e;
      others = ap (λ (x : CellView). x.others) e;
      ticks = ap (λ (x : CellView). x.ticks) e;
      moment = ap (λ (x : CellView). x.moment) e;
    }
counted_same spot limit hits NoCount v w h = absurd h

pub same_counts_then : (u v w : CellView) → SameButCounts u v → SameButCounts v w → SameButCounts u w
same_counts_then u v w a b = record {
  number = b.number ∙ a.number;
  good = b.good ∙ a.good;
  pins = b.pins ∙ a.pins;
  others = b.others ∙ a.others;
  ticks = b.ticks ∙ a.ticks;
  moment = b.moment ∙ a.moment;
}

-- all counts of a check do
pub each_same : (claims : List Claim) (request : RequestParts) (moment : ℕ) (ds : List Descriptor) (fs : List Found) (sts : List Status) (v w : CellView)
    → AreCounted claims request moment ds fs sts v w → SameButCounts v w
each_same claims request moment [] [] [] v w h = same_of v w h
each_same claims request moment [] [] (s ∷ sts) v w h = absurd h
each_same claims request moment [] (f ∷ fs) sts v w h = absurd h
each_same claims request moment (d ∷ ds) [] sts v w h = absurd h
each_same claims request moment (d ∷ ds) (f ∷ fs) [] v w h = absurd h
each_same claims request moment (d ∷ ds) (f ∷ fs) (s ∷ sts) v w h =
    same_counts_then v h.0 w h.1.same (each_same claims request moment ds fs sts h.0 w h.2)

counted_more : (claims : List Claim) (request : RequestParts) (moment : ℕ) (ds : List Descriptor) (fs : List Found) (sts : List Status) (d : Descriptor) (f : Found)
    (s : Status) (v w x : CellView) → AreCounted claims request moment ds fs sts v w → IsCounted claims request moment d f s w x
    → AreCounted claims request moment (ds ++ d ∷ []) (fs ++ f ∷ []) (sts ++ s ∷ []) v x
counted_more claims request moment [] [] [] d f s v w x h one =
    (x, subst (λ (u : CellView). IsCounted claims request moment d f s u x) h one, refl)
counted_more claims request moment [] [] (t ∷ sts) d f s v w x h one = absurd h
counted_more claims request moment [] (g ∷ fs) sts d f s v w x h one = absurd h
counted_more claims request moment (e ∷ ds) [] sts d f s v w x h one = absurd h
counted_more claims request moment (e ∷ ds) (g ∷ fs) [] d f s v w x h one = absurd h
counted_more claims request moment (e ∷ ds) (g ∷ fs) (t ∷ sts) d f s v w x h one =
    (h.0, h.1, counted_more claims request moment ds fs sts d f s h.0 w x h.2 one)

-- one more was counted
pub counted_next : (claims : List Claim) (request : RequestParts) (moment : ℕ) (ds : List Descriptor) (fs : List Found) (i : ℕ) (d : Descriptor) (f : Found)
    (sts new : List Status) (s : Status) (v w x : CellView) → i < length ds → i < length fs → get_or ds i d ≡ d → get_or fs i f ≡ f → new ≡ sts ++ s ∷ []
    → AreCounted claims request moment (take i ds) (take i fs) sts v w → IsCounted claims request moment d f s w x
    → AreCounted claims request moment (take (i + 1) ds) (take (i + 1) fs) new v x
counted_next claims request moment ds fs i d f sts new s v w x in_ds in_fs d_is f_is pushed h one =
    let more_ds : take (i + 1) ds ≡ take i ds ++ d ∷ [] = take_more ds i d in_ds ∙ ap (λ (e : Descriptor). take i ds ++ e ∷ []) d_is in
    let more_fs : take (i + 1) fs ≡ take i fs ++ f ∷ [] = take_more fs i f in_fs ∙ ap (λ (g : Found). take i fs ++ g ∷ []) f_is in
    subst (λ (l : List Descriptor). AreCounted claims request moment l (take (i + 1) fs) new v x) (sym more_ds)
    (subst (λ (l : List Found). AreCounted claims request moment (take i ds ++ d ∷ []) l new v x) (sym more_fs)
    (subst (λ (l : List Status). AreCounted claims request moment (take i ds ++ d ∷ []) (take i fs ++ f ∷ []) l v x) (sym pushed)
    (counted_more claims request moment (take i ds) (take i fs) sts d f s v w x h one)))

-- what caps a view caps one that looked and charged as much
cap_front : (claim n : ℕ) (u v : CellView) → Keeps u v → Capped claim n v → Capped claim n u
cap_front claim n u v k c = record {
  charges = subst (AllByRecursion (λ (x : cell_charge.Charge). x.claim ≡ claim → x.before + x.hits ≤ n)) k.charges c.charges;
  looks = subst (AllByRecursion (λ (p : ℕ × ℕ). p.0 ≡ claim → p.1 ≤ n)) k.looks c.looks;
}

look_front : (claim found : ℕ) (u v w : CellView) → Keeps u v → Looks claim found v w → Looks claim found u w
look_front claim found u v w k h = record {
  looks = h.looks ∙ ap (λ (l : List (ℕ × ℕ)). l ++ (claim, found) ∷ []) k.looks;
  charges = h.charges ∙ k.charges;
  most = cap_front claim found u v k h.most;
}

value_front : (claim value : ℕ) (u v : CellView) → Keeps u v → looks_at claim value v + charges_to claim value v ≡ looks_at claim value u + charges_to claim value u
value_front claim value u v k = λ i.
    total (λ (p : ℕ × ℕ). one_if ((p.0 == claim) && (p.1 == value))) (k.looks i)
    + total (λ (x : cell_charge.Charge). one_if ((x.claim == claim) && (x.before + x.hits == value))) (k.charges i)

keeps_then : (u v w : CellView) → Keeps u v → Keeps v w → Keeps u w
keeps_then u v w a b = record { looks = b.looks ∙ a.looks; charges = b.charges ∙ a.charges }

know_front : (claim seen : ℕ) (u v w : CellView) → Keeps u v → Knows claim seen v w → Knows claim seen u w
know_front claim seen u v w k h = record {
  keeps = keeps_then u v w k h.keeps;
  had = subst (λ n. 1 ≤ n) (value_front claim seen u v k) h.had;
  most = cap_front claim seen u v k h.most;
}

seen_front : (claim hits seen : ℕ) (u v w : CellView) → Keeps u v → Looks claim seen v w ⊎ ((1 ≤ hits) × Knows claim seen v w)
    → Looks claim seen u w ⊎ ((1 ≤ hits) × Knows claim seen u w)
seen_front claim hits seen u v w k (inl l) = inl (look_front claim seen u v w k l)
seen_front claim hits seen u v w k (inr h) = inr (h.0, know_front claim seen u v w k h.1)

-- ---- the reply

module _ (claims : List Claim) (request : RequestParts) (moment : ℕ) where
  -- what a count on a pinned cell is on its counter
  looks_of : (key : CounterKey) (s : Spot) (limit hits seen : ℕ) (v w : CellView) → 1 ≤ bindings_of key s.cell s.claim claims
      → claim_on s.cell v.good ≡ s.claim → CountedAt s limit hits (Seen seen) v w → Counted claims key limit hits (Seen seen) v w
  looks_of key s limit hits seen v w bound under (b, inl l) = (
    s,
    bound,
    inl (record {
      looks = ap (λ (x : CellView). x.looks) l.1 ∙ ap (λ n. v.looks ++ (n, seen) ∷ []) under;
      charges = ap (λ (x : CellView). x.charges) l.1;
      most = subst (λ n. Capped n seen v) under l.0;
    }),
  )
  looks_of key s limit hits seen v w bound under (b, inr k) = (
    s,
    bound,
    inr (
      k.0,
      record {
        keeps = record { looks = ap (λ (x : CellView). x.looks) k.1.2; charges = ap (λ (x : CellView). x.charges) k.1.2 };
        had = k.1.0;
        most = k.1.1;
      },
    ),
  )

  charges_of : (key : CounterKey) (s : Spot) (limit hits before : ℕ) (v w : CellView) → 1 ≤ bindings_of key s.cell s.claim claims
      → claim_on s.cell v.good ≡ s.claim → CountedAt s limit hits (Before before) v w → Counted claims key limit hits (Before before) v w
  charges_of key s limit hits before v w bound under h =
      let c = h.1 in
      let u = looked s.cell c.found v in (
        s,
        bound,
        record {
          looked = u;
          found = c.found;
          look = record {
            looks = ap (λ n. v.looks ++ (n, c.found) ∷ []) under;
            charges = refl;
            most = subst (λ n. Capped n c.found v) under c.most_found;
          };
          within = c.within;
          looks = ap (λ (x : CellView). x.looks) c.charge;
          charges = ap (λ (x : CellView). x.charges) c.charge ∙ ap (λ n. u.charges ++ (record { claim = n; before = before; hits = hits }) ∷ []) under;
          most = subst (λ n. Capped n before u) under c.most;
        },
      )

  pub counted_of : (key : CounterKey) (s : Spot) (limit hits : ℕ) (c : Count) (v w : CellView) → 1 ≤ bindings_of key s.cell s.claim claims
      → claim_on s.cell v.good ≡ s.claim → CountedAt s limit hits c v w → Counted claims key limit hits c v w
  counted_of key s limit hits (Seen seen) v w = looks_of key s limit hits seen v w
  counted_of key s limit hits (Before before) v w = charges_of key s limit hits before v w
  counted_of key s limit hits NoCount v w = λ bound under h. absurd h

  module _ (config : List DomainTree) where
    abbrev rules : List Descriptor → List Found
    rules ds = map (found_for config request) ds

    -- what was counted is what the statuses show
    pub counts_of : (ds : List Descriptor) (sts : List Status) (v w : CellView) → AreCounted claims request moment ds (rules ds) sts v w
        → CountsEach claims config request moment ds sts v w
    counts_of [] [] v w h = record { looks = ap (λ (x : CellView). x.looks) h; charges = ap (λ (x : CellView). x.charges) h }
    counts_of [] (s ∷ sts) v w h = absurd h
    counts_of (d ∷ ds) [] v w h = absurd h
    counts_of (d ∷ ds) (s ∷ sts) v w h = (h.0, h.1.counts, counts_of ds sts h.0 w h.2)

    pub statuses_of : (ds : List Descriptor) (sts : List Status) (v w : CellView) → AreCounted claims request moment ds (rules ds) sts v w
        → AreStatuses config request moment ds sts
    statuses_of [] [] v w h = tt
    statuses_of [] (s ∷ sts) v w h = absurd h
    statuses_of (d ∷ ds) [] v w h = absurd h
    statuses_of (d ∷ ds) (s ∷ sts) v w h = (h.1.status, statuses_of ds sts h.0 w h.2)

    -- the names in the windows of the moment are the counters that the request names
    pub keys_named : (ds : List Descriptor)
        → keys_at moment (names_under request ds (rules ds)) ≡ Rattle.std.specs.List.flat_map (λ d. counter_under request moment d (found_for config request d)) ds
    keys_named [] = refl
    keys_named (d ∷ ds) =
        map-append (key_at moment) (name_under request d (found_for config request d)) (names_under request ds (rules ds))
        ∙ ap (λ (l : List CounterKey). l ++ keys_at moment (names_under request ds (rules ds))) (one (found_for config request d))
        ∙ ap (λ (l : List CounterKey). counter_under request moment d (found_for config request d) ++ l) (keys_named ds)
      where
        one : (f : Found) → map (key_at moment) (name_under request d f) ≡ counter_under request moment d f
        one NoRule = refl
        one (Unlimited rule) = refl
        one (Limited limit unit shadow rule) = refl

  -- what stands before and after
  counted_front : (key : CounterKey) (limit hits : ℕ) (c : Count) (u v w : CellView) → Keeps u v → Counted claims key limit hits c v w → Counted claims key limit hits c u w
  counted_front key limit hits (Seen seen) u v w k h = (h.0, h.1, seen_front h.0.claim hits seen u v w k h.2)
  counted_front key limit hits (Before before) u v w k h =
      let c = h.2 in
      let look = look_front h.0.claim c.found u v c.looked k c.look in
      (h.0, h.1, record { looked = c.looked; found = c.found; look = look; within = c.within; looks = c.looks; charges = c.charges; most = c.most })
  counted_front key limit hits NoCount u v w k h = absurd h

  one_front : (d : Descriptor) (f : Found) (c : Count) (u v w : CellView) → Keeps u v → CountsOne claims request moment d f c v w → CountsOne claims request moment d f c u w
  one_front d NoRule c u v w k h = keeps_then u v w k h
  one_front d (Unlimited rule) c u v w k h = keeps_then u v w k h
  one_front d (Limited limit unit shadow rule) c u v w k h = counted_front (counter_of request.domain d unit moment) limit (hits_of request d) c u v w k h

  pub each_front : (config : List DomainTree) (ds : List Descriptor) (sts : List Status) (u v w : CellView) → Keeps u v
      → CountsEach claims config request moment ds sts v w → CountsEach claims config request moment ds sts u w
  each_front config [] [] u v w k h = keeps_then u v w k h
  each_front config [] (s ∷ sts) u v w k h = absurd h
  each_front config (d ∷ ds) [] u v w k h = absurd h
  each_front config (d ∷ ds) (s ∷ sts) u v w k h = (h.0, one_front d (found_for config request d) s.count u v h.0 k h.1, h.2)

  pub each_back : (config : List DomainTree) (ds : List Descriptor) (sts : List Status) (u v w : CellView)
      → CountsEach claims config request moment ds sts u v → Keeps v w → CountsEach claims config request moment ds sts u w
  each_back config [] [] u v w h k = keeps_then u v w h k
  each_back config [] (s ∷ sts) u v w h k = absurd h
  each_back config (d ∷ ds) [] u v w h k = absurd h
  each_back config (d ∷ ds) (s ∷ sts) u v w h k = (h.0, h.1, each_back config ds sts h.0 v w h.2 k)

-- ---- names

pub take_len : {A : Type 0} (xs : List A) (i : ℕ) → i < length xs → length (take i xs) ≡ i
take_len [] i h = absurd (omega arith)
take_len (x ∷ xs) zero h = refl
take_len (x ∷ xs) (suc i) h = ap suc (take_len xs i (omega arith))

names_more : (request : RequestParts) (ds : List Descriptor) (fs : List Found) (d : Descriptor) (f : Found) → length ds ≡ length fs
    → names_under request (ds ++ d ∷ []) (fs ++ f ∷ []) ≡ names_under request ds fs ++ name_under request d f
names_more request [] [] d f len = Rattle.std.proofs.lemmas.List.append-nil (name_under request d f)
names_more request [] (g ∷ fs) d f len = absurd (omega arith)
names_more request (e ∷ ds) [] d f len = absurd (omega arith)
names_more request (e ∷ ds) (g ∷ fs) d f len =
    ap (λ (l : List CounterName). name_under request e g ++ l) (names_more request ds fs d f (omega arith))
    ∙ sym (Rattle.std.proofs.Common.append_assoc (name_under request e g) (names_under request ds fs) (name_under request d f))

-- one more is named
pub names_next : (request : RequestParts) (ds : List Descriptor) (fs : List Found) (d : Descriptor) (f : Found) (i : ℕ) → i < length ds
    → length fs ≡ length ds
    → names_under request (take (i + 1) ds) (take (i + 1) fs) ≡ names_under request (take i ds) (take i fs) ++ name_under request (get_or ds i d) (get_or fs i f)
names_next request ds fs d f i lt len =
    (λ j. names_under request (take_more ds i d lt j) (take_more fs i f (omega arith) j))
    ∙ names_more request (take i ds) (take i fs) (get_or ds i d) (get_or fs i f) (take_len ds i lt ∙ sym (take_len fs i (omega arith)))
