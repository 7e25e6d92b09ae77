-- Pins on the cells of counters.
use Rattle.std.proofs.Common.{◌≡◌, ◌⊎◌, ℕ, zero, suc, ◌+◌, ◌≤◌, ◌<◌, ◌==◌, ◌&&◌, List, [], ◌∷◌, ◌++◌, length, take, get_or, Bool, true, false, refl, sym, ap, ◌∙◌, subst, arith}
use Rattle.std.proofs.Common.{inl, inr, append_assoc}
use Rattle.std.proofs.lemmas.Bool.Decides.{nat_tests}
use Rattle.std.proofs.lemmas.Grind.{common_steps}
use Rattle.std.proofs.lemmas.List.{take_more, append-nil}
use Rattle.std.specs.Prelude.{All}
use mathlib.Core.Option.{some}
use lib.ListN.{get_elem?}
use Rattle.rate_types.specs.declared.counter_key.CounterKey.{CounterKey}
use Rattle.rate_types.specs.Counters.{same_counter}
use Rattle.window_keys.specs.Counter.{window_end_of}
use Rattle.rate_types.specs.Sums.{one_if}
use Rattle.counter_cells.specs.Views.{cell_or}
use Rattle.counter_cells.specs.Steps.{good_pin, missed}
use Rattle.counter_cells.specs.declared.view.CellView.{CellView}
use Rattle.counter_cells.specs.declared.view.OtherGate.{OtherGate}
use Rattle.counter_cells.specs.declared.answers.Spot.{Spot}
use Rattle.counter_directory.specs.declared.claim.Claim.{Claim}
use Rattle.counter_directory.specs.Claims.{claims_of, bindings_of, IsLawfulClaims}
use Rattle.counter_directory.specs.Keys.{key_count}
use Rattle.counter_directory.specs.TableFits.{GatesFit}
use Rattle.counter_directory.specs.Acquiring.{AreOf, AreShown}
use Rattle.counter_directory.specs.Spots.{Bound, Agree, pinned_on}
use Rattle.counter_directory.specs.Acquired.{PinsAfterMisses}
use Rattle.window_keys.proofs.Counters.{same_is}
use Rattle.counter_directory.proofs.Lists.{at_within, at_read, some_at}
use Rattle.counter_directory.proofs.Counting.{total_some}
use Rattle.counter_directory.proofs.Missing.{bindings_few}
use Rattle.counter_directory.proofs.Ringing.{end_later}

parts : (a b d : Bool) → 1 ≤ one_if (a && (b && d)) → (a ≡ true) × (b ≡ true) × (d ≡ true)
parts true true true h = (refl, refl, refl)
parts true true false h = absurd (omega arith)
parts true false d h = absurd (omega arith)
parts false b d h = absurd (omega arith)

same_number : (a b : ℕ) → (a == b) ≡ true → a ≡ b
same_number a b t = grind (arith, nat_tests)

-- the claim that binds a counter
found : (q : CounterKey) (k c : ℕ) (claims : List Claim) → 1 ≤ bindings_of q k c claims → (i : ℕ) × (x : Claim) × (get_elem? claims i ≡ some x) × (x.key ≡ q) × (x.cell ≡ k)
    × (x.claim ≡ c)
found q k c claims some_one =
    let s = total_some (λ (x : Claim). one_if (same_counter x.key q && ((x.cell == k) && (x.claim == c)))) claims some_one in
    let e = parts (same_counter s.1.key q) (s.1.cell == k) (s.1.claim == c) s.3 in
    (s.0, s.1, s.2, same_is s.1.key q e.0, same_number s.1.cell k e.1, same_number s.1.claim c e.2)

pub cell_bound : (cells most : ℕ) (q : CounterKey) (k c : ℕ) (claims : List Claim) → IsLawfulClaims cells most claims → 1 ≤ bindings_of q k c claims → k < cells
cell_bound cells most q k c claims law some_one =
    let s = found q k c claims some_one in
    let f = law s.0 s.1 s.2 in
    let l = f.cell in
    let e = s.4 in
    omega arith

-- the claimer's view shows the number of a counter whose window hasn't ended
pub shown_by : (v : CellView) (cells last next_claim : ℕ) (q : CounterKey) (k c : ℕ) (claims : List Claim) (waiting : List Spot) → GatesFit v cells last next_claim claims waiting
    → 1 ≤ bindings_of q k c claims → last < window_end_of q → (cell_or v.cells k).claim ≡ c
shown_by v cells last next_claim q k c claims waiting g some_one lt =
    let s = found q k c claims some_one in
    let o = g.opened s.0 s.1 s.2 (subst (λ (z : CounterKey). last < window_end_of z) (sym s.3) lt) in
    ap (λ j. (cell_or v.cells j).claim) (sym s.4) ∙ o.2 ∙ s.5

pinned_more : (ss : List Spot) (s : Spot) (v : CellView) → pinned_on (ss ++ s ∷ []) v ≡ good_pin s.cell s.claim (pinned_on ss v)
pinned_more [] s v = refl
pinned_more (x ∷ xs) s v = pinned_more xs s (good_pin x.cell x.claim v)

-- misses beside pins
missed_through : (ss : List Spot) (more : List OtherGate) (v : CellView)
    → record (pinned_on ss v) { others = (pinned_on ss v).others ++ more } ≡ pinned_on ss (record v { others = v.others ++ more })
missed_through [] more v = refl
missed_through (s ∷ ss) more v = missed_through ss more (good_pin s.cell s.claim v)

pub no_misses : (v : CellView) → PinsAfterMisses [] v v
no_misses v = ([], nil v.others)
  where
    nil : (l : List OtherGate) → v ≡ record v { others = v.others ++ [] }
    nil l = let e : v.others ++ [] ≡ v.others = simp append-nil in ap (λ (o : List OtherGate). record v { others = o }) (sym e)

-- one more miss before a pin
pub miss_more : (v w x : CellView) (cell claim : ℕ) (is_open : Bool) → PinsAfterMisses [] v w → x ≡ missed cell claim is_open w → PinsAfterMisses [] v x
miss_more v w x cell claim is_open p e = let one : List OtherGate = record { cell = cell; claim = claim; is_open = is_open } ∷ [] in
    (p.0 ++ one, e ∙ ap (λ (u : CellView). record u { others = u.others ++ one }) p.1 ∙ ap (λ (o : List OtherGate). record v { others = o }) (append_assoc v.others p.0 one))

pub pin_after : (v w x : CellView) (s : Spot) → PinsAfterMisses [] v w → x ≡ good_pin s.cell s.claim w → PinsAfterMisses (s ∷ []) v x
pin_after v w x s p e = (p.0, e ∙ ap (good_pin s.cell s.claim) p.1)

pub pins_more : (ss new : List Spot) (s : Spot) (v w x : CellView) → new ≡ ss ++ s ∷ [] → PinsAfterMisses ss v w → PinsAfterMisses (s ∷ []) w x → PinsAfterMisses new v x
pins_more ss new s v w x e p q =
    let a : record w { others = w.others ++ q.0 } ≡ pinned_on ss (record v { others = v.others ++ (p.0 ++ q.0) })
    = ap (λ (u : CellView). record u { others = u.others ++ q.0 }) p.1 ∙ missed_through ss q.0 (record v { others = v.others ++ p.0 })
    ∙ ap (λ (o : List OtherGate). pinned_on ss (record v { others = o })) (append_assoc v.others p.0 q.0) in (
      p.0 ++ q.0,
      q.1 ∙ ap (good_pin s.cell s.claim) a ∙ sym (pinned_more ss s (record v { others = v.others ++ (p.0 ++ q.0) }))
          ∙ ap (λ (l : List Spot). pinned_on l (record v { others = v.others ++ (p.0 ++ q.0) })) (sym e),
    )

-- how many pins there are then
good_count : (ss : List Spot) (v : CellView) → length (pinned_on ss v).good ≡ length ss + length v.good
good_count [] v = omega arith
good_count (s ∷ ss) v = let r = good_count ss (good_pin s.cell s.claim v) in omega arith

pub pins_good : (ss : List Spot) (v w : CellView) → PinsAfterMisses ss v w → length w.good ≡ length ss + length v.good
pins_good ss v w p = ap (λ (u : CellView). length u.good) p.1 ∙ good_count ss (record v { others = v.others ++ p.0 })

pub pins_moment : (ss : List Spot) (v w : CellView) → PinsAfterMisses ss v w → w.moment ≡ v.moment
pins_moment ss v w p = ap (λ (u : CellView). u.moment) p.1 ∙ same ss (record v { others = v.others ++ p.0 })
  where
    same : (ss : List Spot) (v : CellView) → (pinned_on ss v).moment ≡ v.moment
    same [] v = refl
    same (s ∷ ss) v = same ss (good_pin s.cell s.claim v)

-- spots of one cell have one number
pub agrees : (v : CellView) (last : ℕ) (keys : List CounterKey) (spots : List Spot) → length spots ≡ length keys → AreOf last keys → AreShown v last keys spots → Agree spots
agrees v last keys spots len all shown i j s t at there same =
    sym (one i s at) ∙ ap (λ k. (cell_or v.cells k).claim) same ∙ one j t there
  where
    one : (i : ℕ) (s : Spot) → get_elem? spots i ≡ some s → (cell_or v.cells s.cell).claim ≡ s.claim
    one i s at =
        let k = some_at keys i (let a = at_within spots i s at in omega arith) in
        shown i k.0 s k.1 at (end_later last k.0 (all i k.0 k.1))

-- the claimer's view shows each spot's number where a claim binds the counter there
pub all_shown : (v : CellView) (cells last next_claim : ℕ) (keys : List CounterKey) (spots : List Spot) (claims : List Claim) (waiting : List Spot)
    → GatesFit v cells last next_claim claims waiting → Bound claims keys spots → AreShown v last keys spots
all_shown v cells last next_claim keys spots claims waiting g bound i k s at there lt =
    shown_by v cells last next_claim k s.cell s.claim claims waiting g (bound i k s at there) lt

-- each spot is on a cell that there is
pub all_within : (cells most : ℕ) (keys : List CounterKey) (spots : List Spot) (claims : List Claim) → IsLawfulClaims cells most claims → length spots ≡ length keys
    → Bound claims keys spots → All (λ s. s.cell < cells) spots
all_within cells most keys spots claims law len bound i d lt =
    let k = some_at keys i (omega arith) in
    let s = get_or spots i d in
    cell_bound cells most k.0 s.cell s.claim claims law (bound i k.0 s k.1 (at_read spots i d lt))

-- each counter that is bound at a spot has a claim
pub all_claimed : (keys : List CounterKey) (spots : List Spot) (claims : List Claim) → length spots ≡ length keys → Bound claims keys spots → (q : CounterKey)
    → 1 ≤ key_count q keys → 1 ≤ claims_of q claims
all_claimed keys spots claims len bound q h =
    let t = total_some (λ (k : CounterKey). one_if (same_counter k q)) keys h in
    let w = at_within keys t.0 t.1 t.2 in
    let s = some_spot spots t.0 (omega arith) in
    let b = bound t.0 t.1 s.0 t.2 s.1 in
    let f = bindings_few t.1 s.0.cell s.0.claim claims in
    let e : t.1 ≡ q = same_is t.1 q (one_is (same_counter t.1 q) t.3) in
    subst (λ (k : CounterKey). 1 ≤ claims_of k claims) e (omega arith)
  where
    one_is : (b : Bool) → 1 ≤ one_if b → b ≡ true
    one_is true h = refl
    one_is false h = absurd (omega arith)

    some_spot : (l : List Spot) (i : ℕ) → i < length l → (s : Spot) × (get_elem? l i ≡ some s)
    some_spot [] i h = absurd (omega arith)
    some_spot (x ∷ xs) zero h = (x, refl)
    some_spot (x ∷ xs) (suc i) h = some_spot xs i (omega arith)
