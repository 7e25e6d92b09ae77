-- Counters that are known, and their pins.
use Rattle.std.proofs.Common.{◌≡◌, ◌⊎◌, inl, inr, ℕ, zero, suc, ◌+◌, ◌-◌, ◌≤◌, ◌<◌, ◌==◌, ◌&&◌, List, [], ◌∷◌, ◌++◌, length, map, take, get_or, cond}
use Rattle.std.proofs.Common.{Bool, true, false, true≢false, max, Option, Some, None, IfSome, refl, sym, ap, ◌∙◌, subst, arith, eq-eqb}
use Rattle.std.proofs.lemmas.Bool.Decides.{nat_tests}
use Rattle.std.specs.Prelude.{Result, Ok, Err, OnOk, OnErr}
use Rattle.std.specs.List.{AllByRecursion}
use Rattle.std.specs.Map.{lookup, lookup_entry, remove_entry}
use Rattle.std.specs.Option.{option_map_or}
use Rattle.std.specs.Cmp.Lexicographic.{bytes_decides}
use mathlib.Core.List.{IsPrefix}
use mathlib.Core.Option.{some, some-injective, some-ne-none}
use lib.ListN.{get_elem?}
use Rattle.rate_types.specs.Sums.{total, one_if}
use Rattle.rate_types.specs.Counters.{same_counter}
use Rattle.rate_types.specs.declared.counter_key.CounterKey.{CounterKey}
use Rattle.rate_types.specs.declared.counter_name.CounterName.{CounterName}
use Rattle.window_keys.proofs.Counters.{same_is, is_same}
use Rattle.counter_directory.specs.Passes.{KnownClaims}
use Rattle.counter_cells.specs.Views.{claim_on, held_on, Capped}
use Rattle.counter_cells.specs.Steps.{last_moment}
use Rattle.counter_cells.specs.declared.view.CellView.{CellView}
use Rattle.counter_cells.specs.declared.view.Tick.{Tick}
use Rattle.counter_cells.specs.declared.answers.Spot.{Spot}
use Rattle.counter_directory.specs.declared.claim.Claim.{Claim}
use Rattle.counter_directory.specs.declared.acquired.AcquireFault.{AcquireFault}
use Rattle.counter_directory.specs.declared.acquired.AcquireFault.TheVariants.{OutOfMemory, ClaimsSpent, CountersFull}
use Rattle.counter_directory.specs.Acquired.{Bounds, OffersNothing}
use Rattle.counter_directory.specs.Claims.{bindings_of}
use Rattle.counter_directory.specs.Gates.{HeldSince}
use Rattle.over_cache.specs.Entries.{Entries, is_key, known_of, known_then, asked, noted, without}
use Rattle.over_cache.specs.declared.known.Known.{Known}
use Rattle.over_cache.specs.declared.over_cache.TheConstants.{MOST_KNOWN}
use Rattle.rate_limiter.specs.Known.{key_of, key_bindings, IsBoundEntry, AreBoundEntries, AreSeenEntries, SameSpots, spot_in, PinsGrow}
use Rattle.rate_limiter.specs.Values.{HasValue, HasSeen}
use Rattle.rate_limiter.specs.Sought.{SameKnown, IsOwnSpot}
use Rattle.rate_limiter.specs.PassStep.{HasClaimed}
use Rattle.rate_limiter.specs.Pinned.{HasWaited, SameButPins, HasPinCause, HasNoPins}
use Rattle.rate_limiter.proofs.Lists.{total_more, each_more, prefix_then}

-- ---- keys and counters

same_bytes : (a b : List ℕ) → is_key a b ≡ true → a ≡ b
same_bytes a b h = (bytes_decides a b).0 h

one_less : (s t r : Bool) → (s ≡ true → t ≡ true) → one_if (s && r) ≤ one_if (t && r)
one_less true t r h = subst (λ b. one_if r ≤ one_if (b && r)) (sym (h refl)) (omega arith)
one_less false t r h = omega arith

-- a claim that binds the counter with the key binds the one counter that has it
pub key_bound : (q : CounterKey) (bytes : List ℕ) → ((x : CounterKey) → key_of x ≡ bytes → x ≡ q) → (cell number : ℕ) (claims : List Claim)
    → key_bindings bytes cell number claims ≤ bindings_of q cell number claims
key_bound q bytes only cell number [] = omega arith
key_bound q bytes only cell number (x ∷ xs) =
    let r = key_bound q bytes only cell number xs in
    let o = one_less (is_key bytes (key_of x.key)) (same_counter x.key q) ((x.cell == cell) && (x.claim == number))
    (λ h. is_same x.key q (only x.key (sym (same_bytes bytes (key_of x.key) h)))) in
    omega arith

-- ---- entries

module _ (P : List ℕ × Known → Type 0) where
  entry_of : (test : List ℕ → Bool) (entries : Entries) → AllByRecursion P entries → IfSome (lookup_entry test entries) P
  entry_of test [] h = tt
  entry_of test (e ∷ entries) h = by (test e.0) (entry_of test entries h.1)
    where
      by : (b : Bool) → IfSome (lookup_entry test entries) P → IfSome (cond b (Some e) (lookup_entry test entries)) P
      by true more = h.0
      by false more = more

  rest_of : (test : List ℕ → Bool) (entries : Entries) → AllByRecursion P entries → AllByRecursion P (remove_entry test entries)
  rest_of test [] h = tt
  rest_of test (e ∷ entries) h = by (test e.0) (rest_of test entries h.1)
    where
      by : (b : Bool) → AllByRecursion P (remove_entry test entries) → AllByRecursion P (cond b entries (e ∷ remove_entry test entries))
      by true more = h.1
      by false more = (h.0, more)

  -- a question keeps what is known
  pub asked_all : (key : List ℕ) (entries : Entries) → AllByRecursion P entries → AllByRecursion P (asked key entries)
  asked_all key entries h = by (lookup_entry (is_key key) entries) (entry_of (is_key key) entries h)
    where
      by : (o : Option (List ℕ × Known)) → IfSome o P → AllByRecursion P (option_map_or (λ e. e ∷ without key entries) o entries)
      by None p = h
      by (Some e) p = (p, rest_of (is_key key) entries h)

entry_passes : (test : List ℕ → Bool) (xs : Entries) (e : List ℕ × Known) → lookup_entry test xs ≡ Some e → test e.0 ≡ true
entry_passes test [] e h = absurd (cc)
entry_passes test (x ∷ xs) e h = by (test x.0) refl h (entry_passes test xs e)
  where
    by : (b : Bool) → test x.0 ≡ b → cond b (Some x) (lookup_entry test xs) ≡ Some e → (lookup_entry test xs ≡ Some e → test e.0 ≡ true) → test e.0 ≡ true
    by true is f rest = let g : x ≡ e = cc in subst (λ (y : List ℕ × Known). test y.0 ≡ true) g is
    by false is f rest = rest f

-- another key of the one that is asked for isn't the key of the entry found
apart : (k key x e : List ℕ) → is_key key x ≡ false → is_key key e ≡ true → is_key k x ≡ true → is_key k e ≡ false
apart k key x e differs equal at = by (is_key k e) refl
  where
    by : (b : Bool) → is_key k e ≡ b → b ≡ false
    by false is = refl
    by true is =
        let same : key ≡ x = same_bytes key e equal ∙ sym (same_bytes k e is) ∙ same_bytes k x at in
        absurd (true≢false (sym ((bytes_decides key x).1 same) ∙ differs))

asked_at : (k key : List ℕ) (xs : Entries) (e : List ℕ × Known) → lookup_entry (is_key key) xs ≡ Some e
    → cond (is_key k e.0) (Some e.1) (lookup (is_key k) (remove_entry (is_key key) xs)) ≡ lookup (is_key k) xs
asked_at k key [] e h = absurd (cc)
asked_at k key (x ∷ xs) e h = by (is_key key x.0) refl h (asked_at k key xs e)
  where
    other : (b c : Bool) → is_key k e.0 ≡ b → is_key k x.0 ≡ c → (c ≡ true → b ≡ false)
        → cond b (Some e.1) (lookup (is_key k) (remove_entry (is_key key) xs)) ≡ lookup (is_key k) xs
        → cond b (Some e.1) (cond c (Some x.1) (lookup (is_key k) (remove_entry (is_key key) xs))) ≡ cond c (Some x.1) (lookup (is_key k) xs)
    other true true is at f rest = absurd (true≢false (f refl))
    other false true is at f rest = refl
    other true false is at f rest = rest
    other false false is at f rest = rest

    by : (b : Bool) → is_key key x.0 ≡ b → cond b (Some x) (lookup_entry (is_key key) xs) ≡ Some e
        → (lookup_entry (is_key key) xs ≡ Some e
        → cond (is_key k e.0) (Some e.1) (lookup (is_key k) (remove_entry (is_key key) xs)) ≡ lookup (is_key k) xs)
        → cond (is_key k e.0) (Some e.1) (lookup (is_key k) (cond b xs (x ∷ remove_entry (is_key key) xs))) ≡ cond (is_key k x.0) (Some x.1) (lookup (is_key k) xs)
    by true is f rest =
        let g : x ≡ e = cc in
        subst (λ (y : List ℕ × Known). cond (is_key k y.0) (Some y.1) (lookup (is_key k) xs) ≡ cond (is_key k x.0) (Some x.1) (lookup (is_key k) xs)) g refl
    by false is f rest =
        other (is_key k e.0) (is_key k x.0) refl refl (λ at. apart k key x.0 e.0 is (entry_passes (is_key key) xs e f) at) (rest f)

-- a question leaves what is known of each key
asked_known : (k key : List ℕ) (entries : Entries) → known_of k (asked key entries) ≡ known_of k entries
asked_known k key entries = by (lookup_entry (is_key key) entries) refl
  where
    by : (o : Option (List ℕ × Known)) → lookup_entry (is_key key) entries ≡ o
        → known_of k (option_map_or (λ e. e ∷ without key entries) o entries) ≡ known_of k entries
    by None is = refl
    by (Some e) is = asked_at k key entries e is

pub asked_same : (key : List ℕ) (entries new : Entries) → new ≡ asked key entries → SameKnown entries new
asked_same key entries new is k = ap (known_of k) is ∙ asked_known k key entries

pub spots_same : (entries new : Entries) → SameKnown entries new → SameSpots entries new
spots_same entries new same key = ap spot_in (same key)

-- what is known of a key holds of it
pub known_all : (P : List ℕ → Known → Type 0) (key : List ℕ) (entries : Entries) → AllByRecursion (λ e. P e.0 e.1) entries → (k : Known)
    → known_of key entries ≡ Some k → P key k
known_all P key [] h k e = absurd (cc)
known_all P key (x ∷ entries) h k e = by (is_key key x.0) refl e (known_all P key entries h.1 k)
  where
    by : (b : Bool) → is_key key x.0 ≡ b → cond b (Some x.1) (lookup (is_key key) entries) ≡ Some k → (lookup (is_key key) entries ≡ Some k → P key k) → P key k
    by true is f rest = let g : x.1 ≡ k = cc in subst (P key) g (subst (λ b. P b x.1) (sym (same_bytes key x.0 is)) h.0)
    by false is f rest = rest f

-- what is known of a counter's key is where a claim binds the counter, and where a pin was good
pub entry_bound : (cells : ℕ) (claims : List Claim) (pins : List (ℕ × ℕ)) (q : CounterKey) (bytes : List ℕ) → ((x : CounterKey) → key_of x ≡ bytes → x ≡ q)
    → (entries : Entries) → AreBoundEntries cells claims pins entries → (k : Known) → known_of bytes entries ≡ Some k → IsOwnSpot cells claims pins q k.spot
entry_bound cells claims pins q bytes only entries h k e =
    let b = known_all (λ key known. IsBoundEntry cells claims pins (key, known)) bytes entries h k e in
    let n = key_bound q bytes only k.spot.cell k.spot.claim claims in
    let m = b.bound in
    record { there = b.there; bound = omega arith; had = b.had }

-- the spot of what is known of a counter
pub own_entry : (cells : ℕ) (claims : List Claim) (pins : List (ℕ × ℕ)) (q : CounterKey) → ((x : CounterKey) → key_of x ≡ key_of q → x ≡ q) → (entries : Entries)
    → AreBoundEntries cells claims pins entries → (o : Option Known) → o ≡ known_of (key_of q) entries → IfSome o (λ k. IsOwnSpot cells claims pins q k.spot)
own_entry cells claims pins q only entries h None e = tt
own_entry cells claims pins q only entries h (Some k) e = entry_bound cells claims pins q (key_of q) only entries h k (sym e)

-- ---- pins

pub under_in : (cell : ℕ) (ps : List (ℕ × ℕ)) → 1 ≤ total (λ (p : ℕ × ℕ). one_if (p.0 == cell)) ps
    → 1 ≤ total (λ (p : ℕ × ℕ). one_if ((p.0 == cell) && (p.1 == claim_on cell ps))) ps
under_in cell [] h = absurd (omega arith)
under_in cell (p ∷ ps) h = pick (p.0 == cell) refl (under_in cell ps)
  where
    pick : (b : Bool) → (p.0 == cell) ≡ b
        → (1 ≤ total (λ (q : ℕ × ℕ). one_if (q.0 == cell)) ps → 1 ≤ total (λ (q : ℕ × ℕ). one_if ((q.0 == cell) && (q.1 == claim_on cell ps))) ps)
        → 1 ≤ one_if ((p.0 == cell) && (p.1 == cond (p.0 == cell) p.1 (claim_on cell ps)))
        + total (λ (q : ℕ × ℕ). one_if ((q.0 == cell) && (q.1 == cond (p.0 == cell) p.1 (claim_on cell ps)))) ps
    pick true is rest =
        let o : one_if ((p.0 == cell) && (p.1 == cond (p.0 == cell) p.1 (claim_on cell ps))) ≡ 1
        = (λ i. one_if (is i && (p.1 == cond (is i) p.1 (claim_on cell ps)))) ∙ ap one_if (eq-eqb p.1 p.1 refl) in
        omega arith
    pick false is rest =
        let z : one_if (p.0 == cell) ≡ 0 = ap one_if is in
        let r = rest (omega arith) in
        let e : total (λ (q : ℕ × ℕ). one_if ((q.0 == cell) && (q.1 == cond (p.0 == cell) p.1 (claim_on cell ps)))) ps
        ≡ total (λ (q : ℕ × ℕ). one_if ((q.0 == cell) && (q.1 == claim_on cell ps))) ps
        = λ i. total (λ (q : ℕ × ℕ). one_if ((q.0 == cell) && (q.1 == cond (is i) p.1 (claim_on cell ps)))) ps in
        omega arith

-- ---- one more in lists of one length

module _ {A : Type 0} where
  pub at_less : (xs : List A) (i : ℕ) (x : A) → get_elem? xs i ≡ some x → i < length xs
  at_less [] i x e = absurd (some-ne-none x (sym e))
  at_less (y ∷ xs) zero x e = omega arith
  at_less (y ∷ xs) (suc i) x e = let r = at_less xs i x e in omega arith

  pub at_append : (xs : List A) (y : A) (i : ℕ) (z : A) → get_elem? (xs ++ y ∷ []) i ≡ some z → (get_elem? xs i ≡ some z) ⊎ ((i ≡ length xs) × (y ≡ z))
  at_append [] y zero z e = inr (refl, some-injective y z e)
  at_append [] y (suc i) z e = absurd (some-ne-none z (sym e))
  at_append (x ∷ xs) y zero z e = inl e
  at_append (x ∷ xs) y (suc i) z e = by (at_append xs y i z e)
    where
      by : (get_elem? xs i ≡ some z) ⊎ ((i ≡ length xs) × (y ≡ z)) → (get_elem? xs i ≡ some z) ⊎ ((suc i ≡ suc (length xs)) × (y ≡ z))
      by (inl h) = inl h
      by (inr h) = inr (ap suc h.0, h.1)

pub same_then : (u v w : CellView) → SameButPins u v → SameButPins v w → SameButPins u w
same_then u v w a b = record {
  number = b.number ∙ a.number;
  ticks = b.ticks ∙ a.ticks;
  moment = b.moment ∙ a.moment;
  looks = b.looks ∙ a.looks;
  charges = b.charges ∙ a.charges;
  held = b.held ∙ a.held;
}

pub same_itself : (v : CellView) → SameButPins v v
same_itself v = record { number = refl; ticks = refl; moment = refl; looks = refl; charges = refl; held = refl }

-- pins that missed change nothing of what a turn leaves
module _ (v v' w : CellView) (same : SameButPins v v') where
  pub waited_after : HasWaited v' w → HasWaited v w
  waited_after h = record {
    ticked = record {
      number = h.ticked.number ∙ same.number;
      added = h.ticked.added;
      ticks = h.ticked.ticks ∙ ap (λ (l : List Tick). l ++ h.ticked.added) same.ticks;
      offers = each_more (OffersNothing v') (OffersNothing v) (λ x o. (o.0 ∙ same.number, o.1)) h.ticked.added h.ticked.offers;
      moment = h.ticked.moment ∙ ap (λ n. last_moment n h.ticked.added) same.moment;
      later = subst (λ n. n ≤ w.moment) same.moment h.ticked.later;
    };
    keeps = record { looks = h.keeps.looks ∙ same.looks; charges = h.keeps.charges ∙ same.charges };
  }

  held_after : (held : List ℕ) → HeldSince v' w [] held → HeldSince v w [] held
  held_after held h k = let e : held_on k v' ≡ held_on k v = ap (λ l. total (λ (p : ℕ × ℕ). one_if (p.0 == k)) l) same.held in let g = h k in omega arith

  cause_after : (b : Bounds) (names : List CounterName) (fault : AcquireFault) (u : KnownClaims) → HasPinCause b names v' fault w u → HasPinCause b names v fault w u
  cause_after b names OutOfMemory u c = tt
  cause_after b names (ClaimsSpent claims wanted) u c = c
  cause_after b names (CountersFull moment live held wanted) u c = record {
    moment_is = c.moment_is;
    wanted_is = c.wanted_is;
    some = c.some;
    live_is = c.live_is;
    held_is = (c.held_is.0, c.held_is.1, held_after c.held_is.0 c.held_is.2, c.held_is.3);
    few = c.few;
    full = c.full;
  }

  pub no_pins_after : (b : Bounds) (names : List CounterName) (fault : AcquireFault) (t u : KnownClaims) → HasNoPins b names fault v' w t u → HasNoPins b names fault v w t u
  no_pins_after b names fault t u h = record { waited = waited_after h.waited; bare = h.bare; knew = h.knew; own = h.own; cause = cause_after b names fault u h.cause }

-- ---- entries of later claims, and notes

pub grow_self : (pins : List (ℕ × ℕ)) → PinsGrow pins pins
grow_self pins cell number = omega arith

pub grow_then : (a b c : List (ℕ × ℕ)) → PinsGrow a b → PinsGrow b c → PinsGrow a c
grow_then a b c p q cell number = let x = p cell number in let y = q cell number in omega arith

-- what is bound stays so when claims and pins are added
pub entries_later : (cells : ℕ) (xs ys : List Claim) (pins more : List (ℕ × ℕ)) (entries : Entries) → IsPrefix xs ys → PinsGrow pins more
    → AreBoundEntries cells xs pins entries → AreBoundEntries cells ys more entries
entries_later cells xs ys pins more entries p grow h = each_more (IsBoundEntry cells xs pins) (IsBoundEntry cells ys more) later entries h
  where
    later : (e : List ℕ × Known) → IsBoundEntry cells xs pins e → IsBoundEntry cells ys more e
    later e b =
        let f : Claim → ℕ = λ x. one_if (is_key e.0 (key_of x.key) && ((x.cell == e.1.spot.cell) && (x.claim == e.1.spot.claim))) in
        let n = ap (total f) (sym p.1) ∙ total_more f xs p.0 in
        let m = b.bound in
        let g = grow e.1.spot.cell e.1.spot.claim in
        let had = b.had in
        record { there = b.there; bound = omega arith; had = omega arith }

bound_key : (q : CounterKey) (cell number : ℕ) (claims : List Claim) → bindings_of q cell number claims ≤ key_bindings (key_of q) cell number claims
bound_key q cell number [] = omega arith
bound_key q cell number (x ∷ xs) =
    let r = bound_key q cell number xs in
    let o = one_less (same_counter x.key q) (is_key (key_of q) (key_of x.key)) ((x.cell == cell) && (x.claim == number))
    (λ h. (bytes_decides (key_of q) (key_of x.key)).1 (ap key_of (sym (same_is x.key q h)))) in
    omega arith

take_all : (P : List ℕ × Known → Type 0) (n : ℕ) (entries : Entries) → AllByRecursion P entries → AllByRecursion P (take n entries)
take_all P zero [] h = tt
take_all P zero (e ∷ entries) h = tt
take_all P (suc n) [] h = tt
take_all P (suc n) (e ∷ entries) h = (h.0, take_all P n entries h.1)

-- a note of a counter that a claim binds to a cell where a pin was good
pub noted_all : (cells : ℕ) (claims : List Claim) (pins : List (ℕ × ℕ)) (q : CounterKey) (s : Spot) (seen : ℕ) (entries : Entries)
    → IsOwnSpot cells claims pins q s → AreBoundEntries cells claims pins entries → AreBoundEntries cells claims pins (noted (key_of q) s seen entries)
noted_all cells claims pins q s seen entries own h = (
  by (known_of (key_of q) entries),
  take_all (IsBoundEntry cells claims pins) (MOST_KNOWN - 1) (without (key_of q) entries) (rest_of (IsBoundEntry cells claims pins) (is_key (key_of q)) entries h),
)
  where
    by : (o : Option Known) → IsBoundEntry cells claims pins (key_of q, known_then o s seen)
    by None = let k = bound_key q s.cell s.claim claims in let b = own.bound in record { there = own.there; bound = omega arith; had = own.had }
    by (Some old) = let k = bound_key q s.cell s.claim claims in let b = own.bound in record { there = own.there; bound = omega arith; had = own.had }

-- a note that was taken or refused
pub note_bound : {A E : Type 0} (cells : ℕ) (claims : List Claim) (pins : List (ℕ × ℕ)) (q : CounterKey) (s : Spot) (bytes : List ℕ) (entries new : Entries)
    (r : Result A E) → OnOk r (new ≡ noted bytes s 0 entries) → OnErr r (new ≡ entries) → bytes ≡ key_of q → IsOwnSpot cells claims pins q s
    → AreBoundEntries cells claims pins entries → AreBoundEntries cells claims pins new
note_bound cells claims pins q s bytes entries new (Ok a) ok err is own h =
    subst (AreBoundEntries cells claims pins) (sym (ok ∙ ap (λ b. noted b s 0 entries) is)) (noted_all cells claims pins q s 0 entries own h)
note_bound cells claims pins q s bytes entries new (Err e) ok err is own h = subst (AreBoundEntries cells claims pins) (sym err) h

-- the values that are known stay, and none is noted
module _ (v : CellView) (key : List ℕ) (s : Spot) (entries new : Entries) (h : AreSeenEntries v entries) where
  over_seen : (b : Bool) (old : Known) → (old.spot.claim == s.claim) ≡ b → known_of key entries ≡ Some old → HasSeen s.claim (cond b (max old.seen 0) 0) v
  over_seen true old e is pos =
      let claim : old.spot.claim ≡ s.claim = grind (arith, nat_tests) in
      let seen : old.seen ≡ max old.seen 0 = omega arith in
      subst (λ n. HasValue s.claim n v × Capped s.claim n v) seen (subst (λ n. HasValue n old.seen v × Capped n old.seen v) claim (h key old is (omega arith)))
  over_seen false old e is pos = absurd (omega arith)

  then_seen : (o : Option Known) → known_of key entries ≡ o → HasSeen (known_then o s 0).spot.claim (known_then o s 0).seen v
  then_seen None is = λ pos. absurd (omega arith)
  then_seen (Some old) is = over_seen (old.spot.claim == s.claim) old refl is

  noted_seen : new ≡ noted key s 0 entries
      → ((other : List ℕ) (known : Known) → is_key other key ≡ false → known_of other new ≡ Some known → known_of other entries ≡ Some known) → AreSeenEntries v new
  noted_seen is others k known at = by (is_key k key) refl
    where
      by : (b : Bool) → is_key k key ≡ b → HasSeen known.spot.claim known.seen v
      by true e =
          let here : known_of key new ≡ Some (known_then (known_of key entries) s 0)
          = ap (known_of key) is
          ∙ ap (λ b. cond b (Some (known_then (known_of key entries) s 0)) (known_of key (take (MOST_KNOWN - 1) (without key entries)))) ((bytes_decides key key).1 refl) in
          let there = sym here ∙ sym (ap (λ l. known_of l new) (same_bytes k key e)) ∙ at in
          let same : known_then (known_of key entries) s 0 ≡ known = cc in
          subst (λ (x : Known). HasSeen x.spot.claim x.seen v) same (then_seen (known_of key entries) refl)
      by false e = h k known (others k known e at)

pub note_seen : {A E : Type 0} (v : CellView) (key : List ℕ) (s : Spot) (entries new : Entries) (r : Result A E) → OnOk r (new ≡ noted key s 0 entries) → OnErr r (new ≡ entries)
    → OnOk r ((other : List ℕ) (known : Known) → is_key other key ≡ false → known_of other new ≡ Some known → known_of other entries ≡ Some known)
    → AreSeenEntries v entries → AreSeenEntries v new
note_seen v key s entries new (Ok a) ok err others h = noted_seen v key s entries new h ok others
note_seen v key s entries new (Err e) ok err others h = subst (AreSeenEntries v) (sym err) h

pub map_at : {A B : Type 0} (f : A → B) (xs : List A) (i : ℕ) (d : A) → i < length xs → get_elem? (map f xs) i ≡ some (f (get_or xs i d))
map_at f [] i d lt = absurd (omega arith)
map_at f (x ∷ xs) zero d lt = refl
map_at f (x ∷ xs) (suc i) d lt = map_at f xs i d (omega arith)

-- what is known of the claims after some were made
pub claimed_prefix : (keys : List CounterKey) (moment : ℕ) (t u : KnownClaims) → HasClaimed keys moment t u → IsPrefix t.known u.known
claimed_prefix keys moment t u h = subst (IsPrefix t.known) (sym h.known) (prefix_then t.known h.found (h.found ++ h.added) h.knew (h.added, refl))

-- what stands in a place that is beyond spots
abbrev pub no_spot : Spot
no_spot = record { cell = 0; claim = 0 }
