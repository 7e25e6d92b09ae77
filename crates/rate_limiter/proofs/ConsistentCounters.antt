-- What a pass knows of its counters stays bound by the claims and seen on the cells.
use Rattle.std.proofs.Common.{◌≡◌, ℕ, List, [], false, sym, subst}
use Rattle.std.specs.Prelude.{Result, Ok, Err, OnOk, OnErr, Some}
use mathlib.Core.List.{IsPrefix}
use Rattle.rate_types.specs.declared.counter_key.CounterKey.{CounterKey}
use Rattle.counter_cells.specs.declared.view.CellView.{CellView}
use Rattle.counter_cells.specs.declared.answers.Spot.{Spot}
use Rattle.rate_types.specs.declared.counter_name.CounterName.{CounterName}
use Rattle.counter_directory.specs.Acquired.{Bounds}
use Rattle.counter_directory.specs.Turns.{Turned}
use Rattle.counter_directory.specs.Answered.{answered}
use Rattle.counter_directory.specs.Keys.{keys_at}
use Rattle.counter_directory.specs.Passes.{KnownClaims}
use Rattle.counter_directory.specs.declared.acquired.Acquired.{Acquired}
use Rattle.counter_directory.specs.declared.acquired.AcquireFault.{AcquireFault}
use Rattle.counter_directory.specs.declared.claim.Claim.{Claim}
use Rattle.over_cache.specs.Entries.{Entries, is_key, known_of, asked, noted}
use Rattle.over_cache.specs.declared.known.Known.{Known}
use Rattle.rate_limiter.specs.Counters.{IsConsistent}
use Rattle.rate_limiter.specs.Counts.{Keeps}
use Rattle.rate_limiter.specs.Known.{key_of, IsBoundEntry, AreClaimedOnce, AreBoundEntries, PinsGrow}
use Rattle.rate_limiter.specs.Sought.{IsOwnSpot}
use Rattle.rate_limiter.proofs.Knowing.{claimed_prefix, asked_all, asked_same, entries_later, note_bound, note_seen}
use Rattle.rate_limiter.proofs.Lists.{prefix_self}
use Rattle.rate_limiter.proofs.Turning.{turned_pins, turned_not, turned_grow, turned_once}
use Rattle.rate_limiter.proofs.Seeing.{looks_kept, seen_kept, seen_same}

-- when claims are learned and pins are added
pub consistent_later : (cells : ℕ) (xs ys : List Claim) (v w : CellView) (es : Entries) (n : ℕ) → IsPrefix xs ys → AreClaimedOnce ys → PinsGrow v.pairs w.pairs
    → Keeps v w → IsConsistent cells xs v es n → IsConsistent cells ys w es n
consistent_later cells xs ys v w es n prefix once grow keeps h = record {
  bound = entries_later cells xs ys v.pairs w.pairs es prefix grow h.bound;
  seen = seen_kept v w es keeps h.seen;
  once = once;
  looks_are = looks_kept n v w keeps.looks h.looks_are;
}

module _ (cells : ℕ) (claims : List Claim) (v : CellView) (es : Entries) (n : ℕ) (h : IsConsistent cells claims v es n) where
  pub consistent_pins : (w : CellView) → PinsGrow v.pairs w.pairs → Keeps v w → IsConsistent cells claims w es n
  consistent_pins w grow keeps = consistent_later cells claims claims v w es n (prefix_self claims) h.once grow keeps h

  -- when a counter is asked for
  pub consistent_asked : (key : List ℕ) (new : Entries) → new ≡ asked key es → IsConsistent cells claims v new n
  consistent_asked key new is = record {
    bound = subst (AreBoundEntries cells claims v.pairs) (sym is) (asked_all (IsBoundEntry cells claims v.pairs) key es h.bound);
    seen = seen_same v es new (asked_same key es new is) h.seen;
    once = h.once;
    looks_are = h.looks_are;
  }

  -- when its spot is noted, or isn't for want of memory
  pub consistent_noted : {A E : Type 0} (q : CounterKey) (s : Spot) (bytes : List ℕ) (new : Entries) (r : Result A E) → OnOk r (new ≡ noted bytes s 0 es) → OnErr r (new ≡ es)
      → OnOk r ((other : List ℕ) (known : Known) → is_key other bytes ≡ false → known_of other new ≡ Some known → known_of other es ≡ Some known)
      → bytes ≡ key_of q → IsOwnSpot cells claims v.pairs q s → IsConsistent cells claims v new n
  consistent_noted q s bytes new r ok err others is own = record {
    bound = note_bound cells claims v.pairs q s bytes es new r ok err is own h.bound;
    seen = note_seen v bytes s es new r ok err others h.seen;
    once = h.once;
    looks_are = h.looks_are;
  }

-- a turn at the directory
pub turned_consistent : (b : Bounds) (names : List CounterName) (r : Result (Unit {0}) AcquireFault) (a : Acquired) (v w : CellView) (t u : KnownClaims)
    → OnErr r (w.good ≡ []) → Turned b names v (answered r a) w t u → (cells : ℕ) (es : Entries) (n : ℕ) → IsConsistent cells t.known v es n
    → IsConsistent cells u.known w es n
turned_consistent b names (Ok x) a v w t u none turn cells es n h =
    let p = turned_pins b names (Ok x) a v w t u turn in
    consistent_later cells t.known u.known v w es n (claimed_prefix (keys_at w.moment names) w.moment t u p.claimed)
    (turned_once b names (answered (Ok x) a) v w t u turn) (turned_grow b names (answered (Ok x) a) v w t u turn) p.waited.keeps h
turned_consistent b names (Err f) a v w t u none turn cells es n h =
    let p = turned_not b names (Err f) a v w t u none turn in
    consistent_later cells t.known u.known v w es n p.knew
    (turned_once b names (answered (Err f) a) v w t u turn) (turned_grow b names (answered (Err f) a) v w t u turn) p.waited.keeps h
