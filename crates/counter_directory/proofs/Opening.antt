-- The claimer's cells, step by step.
use Rattle.std.proofs.Common.{◌≡◌, ◌≢◌, ◌⊎◌, ℕ, zero, suc, ◌+◌, ◌-◌, ◌≤◌, ◌<◌, ◌==◌, List, [], ◌∷◌, ◌++◌, length, take, set, get_or, true, false, refl, sym, ap, ◌∙◌, subst, arith}
use Rattle.std.proofs.Common.{inl, inr, eq-eqb, length-set, get_or-set_other, get_or-set_same, append_assoc, length-append}
use Rattle.std.specs.Prelude.{ltb, Result, Ok, Err, IsOk, is_ok, OnOk}
use native.Mathlib.Decide.{ℕ_discrete}
use Rattle.std.proofs.lemmas.Bool.Decides.{nat_tests}
use Rattle.std.proofs.lemmas.Bool.{ne_eqb, le-ltb}
use Rattle.rate_types.proofs.Sums.{cond_yes, cond_no}
use mathlib.Core.Option.{some, some-ne-none}
use lib.ListN.{get_elem?}
use Rattle.counter_directory.proofs.Lists.{at_snoc, at_last, at_longer, at_read, last_expired}
use Rattle.rate_types.specs.Sums.{total, one_if, times}
use Rattle.counter_cells.specs.Views.{cell_or, no_cell, held_on}
use Rattle.counter_cells.specs.Steps.{taken_cell, claimed_by, held_by, has_heard, reset_by, opened_by}
use Rattle.counter_cells.specs.declared.view.CellView.{CellView}
use Rattle.counter_cells.specs.declared.view.Cell.{Cell}
use Rattle.counter_directory.specs.declared.claim.Claim.{Claim}
use Rattle.counter_directory.specs.declared.ring.Ring.{Ring}
use Rattle.counter_cells.specs.declared.answers.Spot.{Spot}
use Rattle.counter_directory.specs.Claims.{Fits, IsLawfulClaims, last_end, end_of}
use Rattle.counter_directory.specs.Pool.{IsLawfulPool, spot, reserved_on}
use Rattle.counter_directory.specs.Gates.{IsOpenAs, HeldSince}
use Rattle.counter_directory.specs.TableFits.{GatesFit}
use Rattle.rate_types.proofs.Sums.{total_push, total_one}
use Rattle.counter_directory.proofs.Sums.{last_end_push}
use Rattle.counter_directory.proofs.Moves.{one_most}
use Rattle.std.proofs.lemmas.List.{append-nil}
use Rattle.std.proofs.lemmas.Grind.{common_steps}

-- an entry of a cell ends no later than the last one
grows : (before : List Claim) (y : Claim) (i : ℕ) (x : Claim) → ((x.cell ≡ x.cell) → (j : ℕ) (z : Claim) → get_elem? before j ≡ some z → end_of z ≤ last_end 0 z.cell before)
    → last_end 0 y.cell before ≤ y.moment → y.moment < end_of y → get_elem? (before ++ y ∷ []) i ≡ some x → end_of x ≤ last_end 0 x.cell (before ++ y ∷ [])
grows before y i x all expired now at = pick (at_snoc before y x i at) (ℕ_discrete y.cell x.cell)
  where
    pick : (get_elem? before i ≡ some x) ⊎ (y ≡ x) → Dec (y.cell ≡ x.cell) → end_of x ≤ last_end 0 x.cell (before ++ y ∷ [])
    pick (inl e) (yes s) =
        let a = all refl i x e in
        let b = last_end_push 0 x.cell before y ∙ cond_yes y.cell x.cell (end_of y) (last_end 0 x.cell before) s in
        let q : last_end 0 y.cell before ≡ last_end 0 x.cell before = ap (λ k. last_end 0 k before) s in
        omega arith
    pick (inl e) (no n) = let a = all refl i x e in let b = last_end_push 0 x.cell before y ∙ cond_no y.cell x.cell (end_of y) (last_end 0 x.cell before) n in omega arith
    pick (inr e) (yes s) = let b = last_end_push 0 x.cell before y ∙ cond_yes y.cell x.cell (end_of y) (last_end 0 x.cell before) s in let q = ap (λ (z : Claim). end_of z) e in
        omega arith
    pick (inr e) (no n) = absurd (n (ap (λ (z : Claim). z.cell) e))

from_before : (cells most : ℕ) (before rest : List Claim) → ((i : ℕ) (x : Claim) → get_elem? (before ++ rest) (length before + i) ≡ some x
    → Fits cells most (take (length before + i) (before ++ rest)) x) → ((j : ℕ) (z : Claim) → get_elem? before j ≡ some z → end_of z ≤ last_end 0 z.cell before)
    → (i : ℕ) (x : Claim) → get_elem? (before ++ rest) i ≡ some x → end_of x ≤ last_end 0 x.cell (before ++ rest)
from_before cells most before [] law all i x at =
    let e : before ++ [] ≡ before = simp append-nil in
    subst (λ l. end_of x ≤ last_end 0 x.cell l) (sym e) (all i x (subst (λ l. get_elem? l i ≡ some x) e at))
from_before cells most before (y ∷ ys) law all i x at =
    let e : (before ++ y ∷ []) ++ ys ≡ before ++ y ∷ ys = append_assoc before (y ∷ []) ys in
    let here : get_elem? (before ++ y ∷ ys) (length before + 0) ≡ some y = at_mid before ys y in
    let f = law 0 y here in
    let t : take (length before + 0) (before ++ y ∷ ys) ≡ before = take_mid before (y ∷ ys) in
    let g = subst (λ l. Fits cells most l y) t f in
    subst (λ l. end_of x ≤ last_end 0 x.cell l) e
    (from_before cells most (before ++ y ∷ []) ys
    (λ j z h. let n : length (before ++ y ∷ []) + j ≡ length before + (j + 1) = omega (arith, length-append before (y ∷ [])) in
    subst (λ l. Fits cells most (take (length (before ++ y ∷ []) + j) l) z) (sym e)
    (subst (λ m. Fits cells most (take m (before ++ y ∷ ys)) z) (sym n)
    (law (j + 1) z (subst (λ m. get_elem? (before ++ y ∷ ys) m ≡ some z) n (subst (λ l. get_elem? l (length (before ++ y ∷ []) + j) ≡ some z) e h)))))
    (λ j z h. grows before y j z (λ _ k w q. all k w q) g.expired g.window.1 h)
    i x (subst (λ l. get_elem? l i ≡ some x) (sym e) at))
  where
    at_mid : (l m : List Claim) (y : Claim) → get_elem? (l ++ y ∷ m) (length l + 0) ≡ some y
    at_mid [] m y = refl
    at_mid (x ∷ xs) m y = let e : suc (length xs + 0) ≡ length (x ∷ xs) + 0 = omega arith in subst (λ n. get_elem? (x ∷ (xs ++ y ∷ m)) n ≡ some y) e (at_mid xs m y)

    take_mid : (l m : List Claim) → take (length l + 0) (l ++ m) ≡ l
    take_mid l m = grind (arith, common_steps)

pub end_at_most : (cells most : ℕ) (claims : List Claim) → IsLawfulClaims cells most claims → (i : ℕ) (x : Claim) → get_elem? claims i ≡ some x
    → end_of x ≤ last_end 0 x.cell claims
end_at_most cells most claims law =
    from_before cells most [] claims (λ i x at. let e : zero + i ≡ i = omega arith in
    subst (λ n. Fits cells most (take n claims) x) (sym e) (law i x (subst (λ n. get_elem? claims n ≡ some x) e at))) (λ j z h. absurd (some-ne-none z (sym h)))

other_cell : (cells : List Cell) (k j : ℕ) (c : Cell) → (j ≡ k → ⊥) → cell_or (set cells k c) j ≡ cell_or cells j
other_cell cells k j c ne = let n : j ≢ k = ne in get_or-set_other cells k j c no_cell n

same_cell : (cells : List Cell) (k : ℕ) (c : Cell) → k < length cells → cell_or (set cells k c) k ≡ c
same_cell cells k c lt = get_or-set_same cells k c no_cell lt

not_here : (k : ℕ) (waiting : List Spot) (i : ℕ) (p : Spot) → reserved_on k waiting ≡ 0 → get_elem? waiting i ≡ some p → p.cell ≡ k → ⊥
not_here k waiting i p none at e =
    let a = total_one (λ (q : Spot). one_if (q.cell == k)) waiting i p at in let b : one_if (p.cell == k) ≡ 1 = ap one_if (eq-eqb p.cell k e) in omega arith

-- an expired cell is reserved under the next number
pub gates_claimed : (v v' : CellView) (cells most last next_claim k : ℕ) (claims : List Claim) (waiting : List Spot) → k < cells → reserved_on k waiting ≡ 0
    → last_end 0 k claims ≤ last → IsLawfulClaims cells most claims → v' ≡ claimed_by k next_claim v → GatesFit v cells last next_claim claims waiting
    → GatesFit v' cells last (next_claim + 1) claims (waiting ++ (spot k next_claim) ∷ [])
gates_claimed v v' cells most last next_claim k claims waiting lt none expired law e g =
    subst (λ (w : CellView). GatesFit w cells last (next_claim + 1) claims (waiting ++ (spot k next_claim) ∷ [])) (sym e) (record {
      long = let q = g.long in length-set v.cells k (taken_cell next_claim) ∙ q;
      count = let q = g.count in omega arith;
      new = λ c h. let a = g.new c (omega arith) in let b : one_if (next_claim == c) ≡ 0 = ap one_if (ne_eqb next_claim c (λ s. omega arith)) in omega arith;
      shut = λ i p at. shut i p (at_snoc waiting (spot k next_claim) p i at);
      opened = λ i x at now. let o = g.opened i x at now in let m = end_at_most cells most claims law i x at in
          let ne : x.cell ≡ k → ⊥ = λ s. let q : last_end 0 x.cell claims ≡ last_end 0 k claims = ap (λ j. last_end 0 j claims) s in omega arith in
          subst (λ (c : Cell). IsOpenAs c x.claim) (sym (other_cell v.cells k x.cell (taken_cell next_claim) ne)) o;
    })
  where
    shut : (i : ℕ) (p : Spot) → (get_elem? waiting i ≡ some p) ⊎ ((spot k next_claim) ≡ p) → (p.cell < cells)
        × (cell_or (set v.cells k (taken_cell next_claim)) p.cell ≡ taken_cell p.claim)
    shut i p (inl at) = let s = g.shut i p at in (s.0, other_cell v.cells k p.cell (taken_cell next_claim) (not_here k waiting i p none at) ∙ s.1)
    shut i p (inr e) = subst (λ (q : Spot). (q.cell < cells) × (cell_or (set v.cells k (taken_cell next_claim)) q.cell ≡ taken_cell q.claim)) e
        (lt, same_cell v.cells k (taken_cell next_claim) (let q = g.long in omega arith))

pub gates_heard : (v v' : CellView) (cells last next_claim : ℕ) (claims : List Claim) (waiting : List Spot) → v' ≡ has_heard v'.heard v
    → GatesFit v cells last next_claim claims waiting → GatesFit v' cells last next_claim claims waiting
gates_heard v v' cells last next_claim claims waiting e g =
    subst (λ (w : CellView). GatesFit w cells last next_claim claims waiting) (sym e) (record { long = g.long; count = g.count; new = g.new; shut = g.shut; opened = g.opened })

pub gates_same : (v v' : CellView) (cells last next_claim : ℕ) (claims : List Claim) (waiting : List Spot) → v' ≡ v
    → GatesFit v cells last next_claim claims waiting → GatesFit v' cells last next_claim claims waiting
gates_same v v' cells last next_claim claims waiting e g = subst (λ (w : CellView). GatesFit w cells last next_claim claims waiting) (sym e) g

pub gates_later : (v : CellView) (cells last m next_claim : ℕ) (claims : List Claim) (waiting : List Spot) → last ≤ m → GatesFit v cells last next_claim claims waiting
    → GatesFit v cells m next_claim claims waiting
gates_later v cells last m next_claim claims waiting le g =
    record { long = g.long; count = g.count; new = g.new; shut = g.shut; opened = λ i x at now. g.opened i x at (omega arith) }

-- the cell reserved last is reset and opened, and its claim stands at the end
pub gates_opened : (v v1 v2 : CellView) (cells last next_claim : ℕ) (x : Claim) (claims : List Claim) (waiting : List Spot) → reserved_on x.cell waiting ≡ 0
    → v1 ≡ reset_by x.cell v → v2 ≡ opened_by x.cell v1 → ((i : ℕ) (y : Claim) → get_elem? claims i ≡ some y → last < end_of y → y.cell ≡ x.cell → ⊥)
    → GatesFit v cells last next_claim claims (waiting ++ (spot x.cell x.claim) ∷ []) → GatesFit v2 cells last next_claim (claims ++ x ∷ []) waiting
gates_opened v v1 v2 cells last next_claim x claims waiting none e1 e2 apart g =
    let l = g.shut (length waiting) (spot x.cell x.claim) (at_last waiting (spot x.cell x.claim) (length waiting) refl) in
    let lt : x.cell < length v.cells = let q = g.long in omega arith in
    let a : cell_or v1.cells x.cell ≡ record (cell_or v.cells x.cell) { reset = true } =
    ap (λ (w : CellView). cell_or w.cells x.cell) e1 ∙ same_cell v.cells x.cell (record (cell_or v.cells x.cell) { reset = true }) lt in
    let len1 : length v1.cells ≡ length v.cells = ap (λ (w : CellView). length w.cells) e1 ∙ length-set v.cells x.cell (record (cell_or v.cells x.cell) { reset = true }) in
    let b : cell_or v2.cells x.cell ≡ record (cell_or v1.cells x.cell) { is_open = true } =
    ap (λ (w : CellView). cell_or w.cells x.cell) e2 ∙ same_cell v1.cells x.cell (record (cell_or v1.cells x.cell) { is_open = true }) (omega arith) in
    let len2 : length v2.cells ≡ length v1.cells = ap (λ (w : CellView). length w.cells) e2 ∙ length-set v1.cells x.cell (record (cell_or v1.cells x.cell) { is_open = true }) in
    let here : IsOpenAs (cell_or v2.cells x.cell) x.claim = (
      ap (λ (c : Cell). c.ever) b ∙ ap (λ (c : Cell). c.ever) a ∙ ap (λ (c : Cell). c.ever) l.1,
      ap (λ (c : Cell). c.is_open) b,
      ap (λ (c : Cell). c.claim) b ∙ ap (λ (c : Cell). c.claim) a ∙ ap (λ (c : Cell). c.claim) l.1,
    ) in
    let other : (j : ℕ) → (j ≡ x.cell → ⊥) → cell_or v2.cells j ≡ cell_or v.cells j = λ j ne.
    ap (λ (w : CellView). cell_or w.cells j) e2 ∙ other_cell v1.cells x.cell j (record (cell_or v1.cells x.cell) { is_open = true }) ne
    ∙ ap (λ (w : CellView). cell_or w.cells j) e1 ∙ other_cell v.cells x.cell j (record (cell_or v.cells x.cell) { reset = true }) ne in
    record {
      long = let q = g.long in omega arith;
      count = ap (λ (w : CellView). length w.used_claims) e2 ∙ ap (λ (w : CellView). length w.used_claims) e1 ∙ g.count;
      new = λ c h. ap (λ (w : CellView). times c w.used_claims) e2 ∙ ap (λ (w : CellView). times c w.used_claims) e1 ∙ g.new c h;
      shut = λ i p at. let s = g.shut i p (at_longer waiting ((spot x.cell x.claim) ∷ []) i p at) in (s.0, other p.cell (not_here x.cell waiting i p none at) ∙ s.1);
      opened = λ i y at now. open_at i y now here other (at_snoc claims x y i at);
    }
  where
    open_at : (i : ℕ) (y : Claim) → last < end_of y → IsOpenAs (cell_or v2.cells x.cell) x.claim → ((j : ℕ) → (j ≡ x.cell → ⊥) → cell_or v2.cells j ≡ cell_or v.cells j)
        → (get_elem? claims i ≡ some y) ⊎ (x ≡ y) → IsOpenAs (cell_or v2.cells y.cell) y.claim
    open_at i y now here other (inl at) = subst (λ (c : Cell). IsOpenAs c y.claim) (sym (other y.cell (apart i y at now))) (g.opened i y at now)
    open_at i y now here other (inr e) = subst (λ (z : Claim). IsOpenAs (cell_or v2.cells z.cell) z.claim) e here

times_at : (xs : List ℕ) (i d : ℕ) → i < length xs → 1 ≤ times (get_or xs i d) xs
times_at [] i d h = absurd (omega arith)
times_at (x ∷ xs) zero d h = let e : one_if (x == x) ≡ 1 = ap one_if (eq-eqb x x refl) in omega arith
times_at (x ∷ xs) (suc i) d h = let r = times_at xs i d (omega arith) in omega arith

-- the last expired cell may be taken
pub expired_cell : (cells last fresh next_claim n cell d : ℕ) (claims : List Claim) (rings : List Ring) (expired held : List ℕ) (waiting : List Spot) → n ≡ length expired → 0 < n
    → cell ≡ get_or expired (n - 1) d → IsLawfulPool cells last fresh next_claim claims rings expired held waiting → (cell < cells) × (reserved_on cell waiting ≡ 0)
    × (last_end 0 cell claims ≤ last)
expired_cell cells last fresh next_claim n cell d claims rings expired held waiting len any is f =
    let lt : n - 1 < length expired = omega arith in
    let t : 1 ≤ times cell expired = subst (λ c. 1 ≤ times c expired) (sym is) (times_at expired (n - 1) d lt) in
    let o = f.once cell in
    let m = one_most (ltb cell fresh) in
    let w : 1 ≤ one_if (ltb cell fresh) = omega arith in
    let b : cell < fresh = grind (arith, nat_tests) in
    let q = f.most in
    (omega arith, omega arith, f.ended cell (omega arith))

pub gates_to : (v : CellView) (cells cells' last last' next_claim next_claim' : ℕ) (claims claims' : List Claim) (waiting waiting' : List Spot) → cells' ≡ cells → last' ≡ last
    → next_claim' ≡ next_claim → claims' ≡ claims → waiting' ≡ waiting → GatesFit v cells last next_claim claims waiting → GatesFit v cells' last' next_claim' claims' waiting'
gates_to v cells cells' last last' next_claim next_claim' claims claims' waiting waiting' a b c d e g =
    subst (λ z. GatesFit v z last' next_claim' claims' waiting') (sym a) (subst (λ z. GatesFit v cells z next_claim' claims' waiting') (sym b)
    (subst (λ z. GatesFit v cells last z claims' waiting') (sym c) (subst (λ z. GatesFit v cells last next_claim z waiting') (sym d)
    (subst (λ z. GatesFit v cells last next_claim claims z) (sym e) g))))

pub held_since_held : (v w : CellView) (k cell pins : ℕ) (held held' : List ℕ) → w ≡ held_by cell pins v → held' ≡ held ++ k ∷ [] → cell ≡ k → HeldSince v w held held'
held_since_held v w k cell pins held held' e d same j =
    let a : held_on j w ≡ held_on j v + one_if (cell == j) = ap (held_on j) e ∙ total_push (λ (p : ℕ × ℕ). one_if (p.0 == j)) v.held (cell, pins) in
    let b : times j held' ≡ times j held + one_if (k == j) = ap (times j) d ∙ total_push (λ x. one_if (x == j)) held k in
    let q : one_if (cell == j) ≡ one_if (k == j) = ap (λ z. one_if (z == j)) same in
    omega arith

pub held_since_same : (v w : CellView) (held held' : List ℕ) → w.held ≡ v.held → held' ≡ held → HeldSince v w held held'
held_since_same v w held held' e d j =
    let a : held_on j w ≡ held_on j v = ap (total (λ (p : ℕ × ℕ). one_if (p.0 == j))) e in let b : times j held' ≡ times j held = ap (times j) d in omega arith

-- the cell reserved last: it is closed, stands there once, and its windows have ended
pub last_reserved : (v : CellView) (cells last next_claim n : ℕ) (p d : Spot) (claims : List Claim) (waiting : List Spot) → n ≡ length waiting → 0 < n
    → p ≡ get_or waiting (n - 1) d → GatesFit v cells last next_claim claims waiting → (p.cell < cells) × (cell_or v.cells p.cell ≡ taken_cell p.claim)
last_reserved v cells last next_claim n p d claims waiting len any is g =
    let lt : n - 1 < length waiting = omega arith in
    let at : get_elem? waiting (n - 1) ≡ some (get_or waiting (n - 1) d) = at_read waiting (n - 1) d lt in
    g.shut (n - 1) p (at ∙ ap some (sym is))

pub reset_reserved : (v w : CellView) (k c cells : ℕ) → k < cells → length v.cells ≡ cells → cell_or v.cells k ≡ taken_cell c → w ≡ reset_by k v
    → ((cell_or w.cells k).ever ≡ true) × ((cell_or w.cells k).is_open ≡ false) × ((cell_or w.cells k).reset ≡ true)
reset_reserved v w k c cells lt long is e =
    let a : cell_or w.cells k ≡ record (cell_or v.cells k) { reset = true } =
    ap (λ (u : CellView). cell_or u.cells k) e ∙ same_cell v.cells k (record (cell_or v.cells k) { reset = true }) (omega arith) in
    (ap (λ (u : Cell). u.ever) a ∙ ap (λ (u : Cell). u.ever) is, ap (λ (u : Cell). u.is_open) a ∙ ap (λ (u : Cell). u.is_open) is, ap (λ (u : Cell). u.reset) a)

pub opens : (v v1 v2 : CellView) (cells most last fresh next_claim n : ℕ) (x : Claim) (p d : Spot) (claims claims' : List Claim) (rings : List Ring) (expired held : List ℕ)
    (waiting waiting' : List Spot) → n ≡ length waiting → p ≡ get_or waiting (n - 1) d → waiting ≡ waiting' ++ (spot x.cell x.claim) ∷ [] → claims' ≡ claims ++ x ∷ []
    → IsLawfulClaims cells most claims → IsLawfulPool cells last fresh next_claim claims rings expired held waiting → v1 ≡ reset_by p.cell v → v2 ≡ opened_by p.cell v1
    → GatesFit v cells last next_claim claims waiting → GatesFit v2 cells last next_claim claims' waiting'
opens v v1 v2 cells most last fresh next_claim n x p d claims claims' rings expired held waiting waiting' len is cut more law f e1 e2 g =
    let same : p ≡ (spot x.cell x.claim) = last_expired waiting waiting' (spot x.cell x.claim) d p n cut len is in
    let k : p.cell ≡ x.cell = ap (λ (q : Spot). q.cell) same in
    let t : reserved_on x.cell waiting ≡ reserved_on x.cell waiting' + one_if (x.cell == x.cell) =
    ap (reserved_on x.cell) cut ∙ total_push (λ (q : Spot). one_if (q.cell == x.cell)) waiting' (spot x.cell x.claim) in
    let one : one_if (x.cell == x.cell) ≡ 1 = ap one_if (eq-eqb x.cell x.cell refl) in
    let o = f.once x.cell in
    let m = one_most (ltb x.cell fresh) in
    let ended = f.ended x.cell (omega arith) in
    subst (λ l. GatesFit v2 cells last next_claim l waiting') (sym more)
    (gates_opened v v1 v2 cells last next_claim x claims waiting' (omega arith) (e1 ∙ ap (λ j. reset_by j v) k) (e2 ∙ ap (λ j. opened_by j v1) k)
    (λ i y at now same_cell. let b = end_at_most cells most claims law i y at in
    let q : last_end 0 y.cell claims ≡ last_end 0 x.cell claims = ap (λ j. last_end 0 j claims) same_cell in omega arith)
    (subst (λ l. GatesFit v cells last next_claim claims l) cut g))

pub ok_then : {A E P : Type 0} → (r : Result A E) → IsOk r → OnOk r P → P
ok_then (Ok x) h p = p
ok_then (Err e) h p = cc

pub ok_told : {A E P : Type 0} → (r : Result A E) → is_ok r ≡ true → OnOk r P → P
ok_told (Ok x) h p = p
ok_told (Err e) h p = cc

pub fresh_cell : (cells last fresh next_claim : ℕ) (claims : List Claim) (rings : List Ring) (expired held : List ℕ) (waiting : List Spot)
    → IsLawfulPool cells last fresh next_claim claims rings expired held waiting → (reserved_on fresh waiting ≡ 0) × (last_end 0 fresh claims ≤ last)
fresh_cell cells last fresh next_claim claims rings expired held waiting f =
    let o = f.once fresh in
    let z : one_if (ltb fresh fresh) ≡ 0 = ap one_if (le-ltb fresh fresh (omega arith)) in
    let n = f.never fresh (omega arith) in
    (omega arith, omega arith)

pub held_since_reserved : (v w : CellView) (cell pins : ℕ) (held : List ℕ) → w ≡ held_by cell pins v → HeldSince v w held held
held_since_reserved v w cell pins held e j =
    let a : held_on j w ≡ held_on j v + one_if (cell == j) = ap (held_on j) e ∙ total_push (λ (p : ℕ × ℕ). one_if (p.0 == j)) v.held (cell, pins) in omega arith
