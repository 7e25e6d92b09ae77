-- What pins a cell pass holds after a call.
use Rattle.std.proofs.Common.{◌≡◌, ℕ, zero, suc, ◌+◌, ◌<◌, ◌==◌, List, [], ◌∷◌, ◌++◌, length, get_or, refl, ap, ◌∙◌, arith}
use Rattle.std.specs.Prelude.{All, Result, Ok, Err, IfOk, OnOk, OnErr}
use mathlib.Core.Option.{some}
use lib.ListN.{get_elem?}
use Rattle.rate_types.specs.declared.counter_key.CounterKey.{CounterKey}
use Rattle.rate_types.specs.declared.counter_name.CounterName.{CounterName}
use Rattle.rate_types.specs.Sums.{total, one_if}
use Rattle.counter_cells.specs.Views.{good_on}
use Rattle.counter_cells.specs.Steps.{good_pin}
use Rattle.counter_cells.specs.declared.view.CellView.{CellView}
use Rattle.counter_cells.specs.declared.answers.Spot.{Spot}
use Rattle.counter_directory.specs.declared.acquired.Acquired.{Acquired}
use Rattle.counter_directory.specs.declared.acquired.AcquireFault.{AcquireFault}
use Rattle.counter_directory.specs.declared.acquired.AcquireFault.TheVariants.{OutOfMemory, ClaimsSpent, CountersFull}
use Rattle.counter_directory.specs.Claims.{IsLawfulClaims}
use Rattle.counter_directory.specs.Keys.{keys_at}
use Rattle.counter_directory.specs.Spots.{pinned_on, spots_on}
use Rattle.counter_directory.specs.Acquired.{Bounds, ClaimTableView, HasTicked, Acquires}
use Rattle.counter_directory.specs.Answered.{answered}
use Rattle.counter_directory.proofs.Lists.{at_read}
use Rattle.counter_directory.proofs.Pinning.{cell_bound}
use Rattle.counter_directory.proofs.KeyLists.{len_keys}

good_pinned : (k : ℕ) (ss : List Spot) (v : CellView) → good_on k (pinned_on ss v) ≡ spots_on k ss + good_on k v
good_pinned k [] v = omega arith
good_pinned k (s ∷ ss) v = let r = good_pinned k ss (good_pin s.cell s.claim v) in omega arith

bare_ticked : (v w : CellView) → HasTicked v w → v.good ≡ [] → w.good ≡ []
bare_ticked v w h bare = ap (λ (u : CellView). u.good) h.view ∙ bare

pub pins_held : (b : Bounds) (names : List CounterName) (cell_pass cell_pass1 cell_pass' : CellView) (found left : ClaimTableView) (r : Result Acquired AcquireFault)
    → Acquires b names cell_pass found r cell_pass1 left → cell_pass' ≡ cell_pass1 → cell_pass.good ≡ [] → IfOk r (λ a. (k : ℕ) → good_on k cell_pass' ≡ spots_on k a.spots.items)
pins_held b names cell_pass cell_pass1 cell_pass' found left (Ok a) did at bare = λ k.
    let h = did.0 in
    let ticked = h.ticked in
    let e = ap (good_on k) (at ∙ h.pins.1) in
    let p = good_pinned k a.spots.items (record ticked { others = ticked.others ++ h.pins.0 }) in
    let z : good_on k ticked ≡ 0 = ap (total (λ (q : ℕ × ℕ). one_if (q.0 == k))) (bare_ticked cell_pass ticked h.ticks bare) in
    omega arith
pins_held b names cell_pass cell_pass1 cell_pass' found left (Err f) did at bare = tt

pub none_held : (b : Bounds) (names : List CounterName) (cell_pass cell_pass1 cell_pass' : CellView) (found left : ClaimTableView) (r : Result Acquired AcquireFault)
    → Acquires b names cell_pass found r cell_pass1 left → cell_pass' ≡ cell_pass1 → cell_pass.good ≡ [] → OnErr r (cell_pass'.good ≡ [])
none_held b names cell_pass cell_pass1 cell_pass' found left (Ok a) did at bare = tt
none_held b names cell_pass cell_pass1 cell_pass' found left (Err OutOfMemory) did at bare = ap (λ (u : CellView). u.good) at ∙ bare_ticked cell_pass cell_pass1 did.0 bare
none_held b names cell_pass cell_pass1 cell_pass' found left (Err (ClaimsSpent claims wanted)) did at bare =
    ap (λ (u : CellView). u.good) at ∙ bare_ticked cell_pass cell_pass1 did.0 bare
none_held b names cell_pass cell_pass1 cell_pass' found left (Err (CountersFull moment live held wanted)) did at bare =
    ap (λ (u : CellView). u.good) at ∙ bare_ticked cell_pass cell_pass1 did.0 bare

some_at : (l : List CounterKey) (i : ℕ) → i < length l → (k : CounterKey) × (get_elem? l i ≡ some k)
some_at [] i h = absurd (omega arith)
some_at (x ∷ xs) zero h = (x, refl)
some_at (x ∷ xs) (suc i) h = some_at xs i (omega arith)

pub cells_held : (b : Bounds) (most : ℕ) (names : List CounterName) (cell_pass cell_pass' : CellView) (found left : ClaimTableView) (r : Result Acquired AcquireFault)
    → Acquires b names cell_pass found r cell_pass' left → IsLawfulClaims b.cells most left.claims → IfOk r (λ a. All (λ s. s.cell < b.cells) a.spots.items)
cells_held b most names cell_pass cell_pass' found left (Ok a) did law = λ i d lt.
    let h = did.0 in
    let keys = keys_at a.moment names in
    let k = some_at keys i (let n = len_keys a.moment names in let c = h.count in omega arith) in
    let s = get_or a.spots.items i d in
    cell_bound b.cells most k.0 s.cell s.claim left.claims law (h.bound i k.0 s k.1 (at_read a.spots.items i d lt))
cells_held b most names cell_pass cell_pass' found left (Err f) did law = tt

-- what holds of an answer holds of what was written, where there is no fault
pub ok_written : (r : Result (Unit {0}) AcquireFault) (a : Acquired) (P : Acquired → Type 0) → IfOk (answered r a) P → OnOk r (P a)
ok_written (Ok _) a P h = h
ok_written (Err f) a P h = tt
