-- From the counters of a call to its names.
use Rattle.std.proofs.Common.{◌≡◌, ◌⊎◌, ℕ, zero, suc, ◌+◌, ◌≤◌, ◌==◌, ◌&&◌, List, [], ◌∷◌, ◌++◌, length, Bool, true, false, refl, sym, ap, ◌∙◌, subst, arith, eq-eqb}
use Rattle.std.proofs.Common.{append_assoc, length-append, inl, inr}
use Rattle.std.specs.Prelude.{ltb, nat_lt, max, Ok, Err, None, Some, if◌then◌else◌}
use Rattle.std.specs.List.{AllByRecursion}
use Rattle.std.proofs.lemmas.Bool.Decides.{nat_tests}
use Rattle.std.proofs.lemmas.Bool.{le-ltb, ne_eqb}
use Rattle.std.proofs.lemmas.List.{append-nil}
use native.Mathlib.Decide.{ℕ_discrete}
use mathlib.Core.Option.{some, some-ne-none, some-injective}
use lib.ListN.{get_elem?}
use Rattle.rate_types.specs.declared.counter_key.CounterKey.{CounterKey}
use Rattle.rate_types.specs.declared.counter_name.CounterName.{CounterName}
use Rattle.window_keys.specs.Window.{window_start}
use Rattle.rate_types.specs.Sums.{total, one_if}
use Rattle.rate_types.proofs.Sums.{total_one, total_append, cond_yes, cond_no}
use Rattle.counter_cells.specs.Views.{held_on, claim_on}
use Rattle.counter_cells.specs.Steps.{number_of, tick_of, ticked, last_moment, held_by, good_pin, has_heard}
use Rattle.counter_cells.specs.declared.answers.Spot.{Spot}
use Rattle.counter_directory.specs.Gates.{HeldSince}
use Rattle.counter_cells.specs.declared.view.CellView.{CellView}
use Rattle.counter_cells.specs.declared.view.Tick.{Tick}
use Rattle.counter_directory.specs.declared.acquired.Acquired.{Acquired}
use Rattle.counter_directory.specs.declared.acquired.AcquireFault.{AcquireFault}
use Rattle.counter_directory.specs.declared.acquired.AcquireFault.TheVariants.{OutOfMemory, ClaimsSpent, CountersFull}
use Rattle.counter_directory.specs.declared.claim.Claim.{Claim}
use Rattle.counter_directory.specs.Claims.{claims_of}
use Rattle.counter_directory.specs.Keys.{keys_at, key_count, IsMissing, AddsEach}
use Rattle.counter_directory.specs.Acquiring.{AreOf, TicksSoFar, OnlyTicked, HasBeenTold}
use Rattle.counter_directory.specs.Spots.{Bound, Agree, spots_on, pinned_on}
use Rattle.counter_directory.specs.Acquired.{OffersNothing, HasTicked, PinsAfterMisses, Bounds, ClaimTableView, Grows, IsWanted, HasBound, AreFull, AreSpent, Acquires}
use Rattle.counter_directory.specs.Acquiring.{Binds}
use Rattle.counter_directory.proofs.KeyLists.{len_keys}
use Rattle.counter_directory.proofs.Missing.{grows_none}
use Rattle.counter_directory.proofs.Finding.{none_missing}
use Rattle.counter_directory.proofs.Pinning.{pins_moment}

pub are_of : (m : ℕ) (names : List CounterName) → AreOf m (keys_at m names)
are_of m [] i k at = absurd (some-ne-none k (sym at))
are_of m (n ∷ ns) zero k at = subst (λ (x : CounterKey). x.start ≡ window_start x.name.unit m) (some-injective _ _ at) refl
are_of m (n ∷ ns) (suc i) k at = are_of m ns i k at

-- nothing has ticked yet
pub no_ticks : (v : CellView) → TicksSoFar v v
no_ticks v = record { added = []; ticks = tt; view = ap (λ (l : List Tick). record v { ticks = l }) (sym nil); later = omega arith }
  where
    nil : v.ticks ++ [] ≡ v.ticks
    nil = simp append-nil

-- one more tick with the pass's own moment
pub ticks_more : (v w x : CellView) (moment now : ℕ) → TicksSoFar v w → now ≡ w.moment → w.moment ≤ moment → x ≡ ticked moment now w → OnlyTicked v x
ticks_more v w x moment now h own le e =
    let view = h.view in
    let one : List Tick = tick_of moment now w ∷ [] in
    let later = h.later in
    let m : x.moment ≡ moment = ap (λ (u : CellView). u.moment) e in
    let len = length-append h.added one in (
      record {
        added = h.added ++ one;
        ticks = all_push h.added (tick_of moment now w) h.ticks (ap number_of view, nothing);
        view = e ∙ ap (λ (u : CellView). record u { moment = moment; ticks = u.ticks ++ one }) view ∙ same;
        later = omega arith;
      },
      omega arith,
    )
  where
    nothing : (tick_of moment now w).offer ≡ None
    nothing = let z : nat_lt w.moment now ≡ false = le-ltb w.moment now (omega arith) in ap (λ b. if b then Some now else None) z

    all_push : (xs : List Tick) (y : Tick) → AllByRecursion (OffersNothing v) xs → OffersNothing v y → AllByRecursion (OffersNothing v) (xs ++ y ∷ [])
    all_push [] y all here = (here, tt)
    all_push (x ∷ xs) y all here = (all.0, all_push xs y all.1 here)

    last_push : (m : ℕ) (xs : List Tick) (y : Tick) → last_moment m (xs ++ y ∷ []) ≡ y.moment
    last_push m [] y = refl
    last_push m (x ∷ xs) y = last_push x.moment xs y

    same : record v { ticks = (v.ticks ++ h.added) ++ tick_of moment now w ∷ []; moment = moment } ≡ record v {
      ticks = v.ticks ++ (h.added ++ tick_of moment now w ∷ []);
      moment = last_moment v.moment (h.added ++ tick_of moment now w ∷ []);
    }
    same = let a = append_assoc v.ticks h.added (tick_of moment now w ∷ []) in let l = last_push v.moment h.added (tick_of moment now w) in
        λ i. record v { ticks = a i; moment = sym l i }

-- what a pass was told
pub told_none : (v w : CellView) → w ≡ v → HasBeenTold v w
told_none v w e = ([], e ∙ ap (λ (l : List (ℕ × ℕ)). record v { held = l }) (sym nil))
  where
    nil : v.held ++ [] ≡ v.held
    nil = simp append-nil

pub told_one : (v w : CellView) (k pins : ℕ) → w ≡ held_by k pins v → HasBeenTold v w
told_one v w k pins e = ((k, pins) ∷ [], e)

pub told_more : (v w x : CellView) → HasBeenTold v w → HasBeenTold w x → HasBeenTold v x
told_more v w x p q = (
  p.0 ++ q.0,
  q.1 ∙ ap (λ (u : CellView). record u { held = u.held ++ q.0 }) p.1 ∙ ap (λ (l : List (ℕ × ℕ)). record v { held = l }) (append_assoc v.held p.0 q.0),
)

-- cells were found pinned since then at most as often as the pass was told
pub told_grows : (v w : CellView) → HasBeenTold v w → HeldSince v w [] []
told_grows v w p k =
    let e : held_on k w ≡ held_on k v + total (λ (q : ℕ × ℕ). one_if (q.0 == k)) p.0 =
    ap (held_on k) p.1 ∙ total_append (λ (q : ℕ × ℕ). one_if (q.0 == k)) v.held p.0 in omega arith

pub held_more : (v w x : CellView) (held held' : List ℕ) → HeldSince v w [] held → HeldSince w x held held' → HeldSince v x [] held'
held_more v w x held held' a b k = let p = a k in let q = b k in omega arith

pub told_moment : (v w : CellView) → HasBeenTold v w → w.moment ≡ v.moment
told_moment v w p = ap (λ (u : CellView). u.moment) p.1

pub told_good : (v w : CellView) → HasBeenTold v w → w.good ≡ v.good
told_good v w p = ap (λ (u : CellView). u.good) p.1

-- ticks, and what was told behind them
pub ticked_told : (v w x : CellView) → OnlyTicked v w → HasBeenTold w x → HasTicked v x
ticked_told v w x t p = record {
  added = t.0.added;
  some = t.1;
  ticks = t.0.ticks;
  told = p.0;
  view = p.1 ∙ ap (λ (u : CellView). record u { held = u.held ++ p.0 }) t.0.view;
  later = let a = t.0.later in let b = told_moment w x p in omega arith;
}

-- what was found pinned since the ticks was found so since the call began
pub held_from : (v w x : CellView) (held : List ℕ) → TicksSoFar v w → HeldSince w x [] held → HeldSince v x [] held
held_from v w x held t h k = let a = h k in let e : held_on k w ≡ held_on k v = ap (held_on k) t.view in omega arith

-- the claimer heard the clock once more
pub heard_again : (u v w : CellView) (n : ℕ) → v ≡ has_heard v.heard u → w ≡ has_heard n v → w ≡ has_heard w.heard u
heard_again u v w n is e =
    let n_is : n ≡ w.heard = sym (ap (λ (x : CellView). x.heard) e) in e ∙ ap (has_heard n) is ∙ ap (λ k. has_heard k u) n_is

-- each counter of the call has a claim afterwards
pub all_there : (b : Bounds) (m : ℕ) (keys : List CounterKey) (found left : ClaimTableView) → HasBound b m keys found left → (q : CounterKey) → 1 ≤ key_count q keys
    → 1 ≤ claims_of q left.claims
all_there b m keys found left did q h =
    let is = did.are q in
    let adds = did.adds q in
    pick (claims_of q found.claims) refl is adds
  where
    pick : (n : ℕ) → claims_of q found.claims ≡ n → key_count q did.missing ≡ one_if ((claims_of q found.claims == 0) && ltb 0 (key_count q keys))
        → claims_of q left.claims ≡ claims_of q found.claims + key_count q did.missing → 1 ≤ claims_of q left.claims
    pick zero e is adds =
        let a : (claims_of q found.claims == 0) ≡ true = eq-eqb (claims_of q found.claims) 0 e in
        let l : ltb 0 (key_count q keys) ≡ true = grind (arith, nat_tests) in
        let c : key_count q did.missing ≡ 1 = is ∙ ap (λ x. one_if (x && ltb 0 (key_count q keys))) a ∙ ap one_if l in
        omega arith
    pick (suc n) e is adds = omega arith

-- all counters of the call have claims
pub bound_none : (b : Bounds) (m : ℕ) (keys : List CounterKey) (spots : List Spot) (t : ClaimTableView) → length spots ≡ length keys → Bound t.claims keys spots
    → length t.claims ≤ b.claims → length t.claims ≤ t.used → HasBound b m keys t t
bound_none b m keys spots t len bound few used = record {
  grows = grows_none m t.claims;
  missing = [];
  are = none_missing keys spots t.claims len bound;
  adds = λ q. omega arith;
  room = omega arith;
  used = omega arith;
}

-- a refusal before the pins is one of the whole call
pub refuses : (b : Bounds) (m : ℕ) (names : List CounterName) (keys : List CounterKey) (cell_pass mid cell_pass' : CellView) (found left : ClaimTableView) (f : AcquireFault)
    → keys ≡ keys_at m names → m ≡ mid.moment → OnlyTicked cell_pass mid → HasBeenTold mid cell_pass' → Binds {A = Unit {0}} b m keys found (Err f) left mid cell_pass'
    → Acquires b names cell_pass found (Err f) cell_pass' left
refuses b m names keys cell_pass mid cell_pass' found left OutOfMemory e at ticks told did = (ticked_told cell_pass mid cell_pass' ticks told, did)
refuses b m names keys cell_pass mid cell_pass' found left (ClaimsSpent claims wanted) e at ticks told did = (
  ticked_told cell_pass mid cell_pass' ticks told,
  subst (λ (l : List CounterKey). AreSpent b l found left claims wanted) (e ∙ ap (λ t. keys_at t names) (at ∙ sym (told_moment mid cell_pass' told))) did,
)
refuses b m names keys cell_pass mid cell_pass' found left (CountersFull moment live held wanted) e at ticks told did =
    let f = did.1 in
    let h = f.held_is in (
      ticked_told cell_pass mid cell_pass' ticks told,
      did.0 ∙ at ∙ sym (told_moment mid cell_pass' told),
      subst (λ (l : List CounterKey). AreFull b l found left cell_pass cell_pass' moment live held wanted) (e ∙ ap (λ t. keys_at t names) (sym did.0)) (record {
        same = f.same;
        wanted_is = f.wanted_is;
        some = f.some;
        unspent = f.unspent;
        live_is = f.live_is;
        held_is = (h.0, h.1, held_from cell_pass mid cell_pass' h.0 ticks.0 h.2, h.3);
        few = f.few;
        full = f.full;
        used = f.used;
      }),
    )

-- a pin on each spot, and none before: the claim on a spot's cell is the spot's
claim_pinned : (k c : ℕ) (ss : List Spot) (v : CellView) → ((i : ℕ) (t : Spot) → get_elem? ss i ≡ some t → t.cell ≡ k → t.claim ≡ c)
    → (1 ≤ spots_on k ss) ⊎ (claim_on k v.good ≡ c) → claim_on k (pinned_on ss v).good ≡ c
claim_pinned k c [] v all (inl o) = absurd (omega arith)
claim_pinned k c [] v all (inr e) = e
claim_pinned k c (s ∷ ss) v all h = claim_pinned k c ss (good_pin s.cell s.claim v) (λ i t at. all (suc i) t at) (pick (ℕ_discrete s.cell k) h)
  where
    pick : Dec (s.cell ≡ k) → (1 ≤ spots_on k (s ∷ ss)) ⊎ (claim_on k v.good ≡ c) → (1 ≤ spots_on k ss) ⊎ (claim_on k (good_pin s.cell s.claim v).good ≡ c)
    pick (yes e) o = inr (cond_yes s.cell k s.claim (claim_on k v.good) e ∙ all 0 s refl e)
    pick (no n) (inl o) = let z = cond_no s.cell k 1 0 n in inl (omega arith)
    pick (no n) (inr e) = inr (cond_no s.cell k s.claim (claim_on k v.good) n ∙ e)

under_each : (ss : List Spot) (v w : CellView) → PinsAfterMisses ss v w → Agree ss → (i : ℕ) (s : Spot) → get_elem? ss i ≡ some s → claim_on s.cell w.good ≡ s.claim
under_each ss v w p agree i s at =
    let o = total_one (λ (t : Spot). one_if (t.cell == s.cell)) ss i s at in
    let one = cond_yes s.cell s.cell 1 0 refl in
    ap (λ (u : CellView). claim_on s.cell u.good) p.1
    ∙ claim_pinned s.cell s.claim ss (record v { others = v.others ++ p.0 }) (λ j t e same. agree j i t s e at same) (inl (omega arith))

pub acquires : (b : Bounds) (m : ℕ) (names : List CounterName) (keys : List CounterKey) (cell_pass mid told cell_pass' : CellView) (found left : ClaimTableView) (a : Acquired)
    → keys ≡ keys_at m names → a.moment ≡ m → m ≡ mid.moment → OnlyTicked cell_pass mid → HasBeenTold mid told → PinsAfterMisses a.spots.items told cell_pass'
    → Bound left.claims keys a.spots.items
    → length a.spots.items ≡ length keys → Agree a.spots.items → HasBound b m keys found left → Acquires b names cell_pass found (Ok a) cell_pass' left
acquires b m names keys cell_pass mid told cell_pass' found left a e same at ticks was pins bound len agree did =
    let k : keys ≡ keys_at a.moment names = e ∙ ap (λ t. keys_at t names) (sym same) in (
      record {
        ticked = told;
        ticks = ticked_told cell_pass mid told ticks was;
        pins = pins;
        moment = same ∙ at ∙ sym (told_moment mid told was) ∙ sym (pins_moment a.spots.items told cell_pass' pins);
        count = len ∙ ap (λ (l : List CounterKey). length l) e ∙ len_keys m names;
        bound = subst (λ (l : List CounterKey). Bound left.claims l a.spots.items) k bound;
        agree = agree;
        under = under_each a.spots.items told cell_pass' pins agree;
      },
      subst (λ t. HasBound b t (keys_at a.moment names) found left) (sym same) (subst (λ (l : List CounterKey). HasBound b m l found left) k did),
    )

-- as many counters have no claim as names were found missing
pub wanted_of : (m n : ℕ) (claims : List Claim) (keys : List CounterKey) (missing : List CounterName) → IsMissing claims keys (keys_at m missing) → n ≡ length missing
    → IsWanted claims keys n
wanted_of m n claims keys missing is e = (keys_at m missing, is, e ∙ sym (len_keys m missing))

-- the counters of the missing names got claims
pub bound_new : (b : Bounds) (m m' used used' : ℕ) (claims claims' after : List Claim) (keys : List CounterKey) (missing : List CounterName) → claims' ≡ claims → m' ≡ m
    → Grows m' claims' after → AddsEach claims' (keys_at m' missing) after → IsMissing claims keys (keys_at m missing) → length claims + length missing ≤ b.claims
    → used' ≡ max used (length after) → HasBound b m keys (record { used = used; claims = claims }) (record { used = used'; claims = after })
bound_new b m m' used used' claims claims' after keys missing same at grows adds are room taken = record {
  grows = subst (λ t. Grows t claims after) at (subst (λ l. Grows m' l after) same grows);
  missing = keys_at m missing;
  are = are;
  adds = subst (λ t. AddsEach claims (keys_at t missing) after) at (subst (λ l. AddsEach l (keys_at m' missing) after) same adds);
  room = omega (arith, len_keys m missing);
  used = taken;
}
