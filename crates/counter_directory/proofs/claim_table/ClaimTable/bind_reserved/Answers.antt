use Rattle.std.proofs.Common.{◌≡◌, refl, sym, ap, ◌∙◌, subst, cond, arith}
use Rattle.std.specs.Prelude.{Some}
use Rattle.std.specs.HashMap.{get}
use mathlib.Core.Option.{some}
use lib.ListN.{get_elem?}
use Rattle.rate_types.specs.Counters.{same_name}
use Rattle.rate_types.specs.Units.{unit_rank}
use Rattle.counter_cells.specs.declared.view.CellView.{CellView}
use Rattle.counter_directory.specs.declared.claim.Claim.{Claim}
use Rattle.counter_directory.proofs.Opening.{last_reserved, reset_reserved, opens, gates_to, ok_then}
use Rattle.counter_cells.specs.declared.answers.Spot.{Spot}
use Rattle.counter_directory.specs.Pool.{spot}
use Rattle.rate_types.specs.declared.counter_key.CounterKey.{CounterKey}
use Rattle.window_keys.specs.Counter.{window_end_of}
use Rattle.counter_directory.specs.Windows.{KeepsFits}
use Rattle.counter_directory.proofs.Ringing.{rank_few}
use Rattle.counter_directory.proofs.Lists.{at_index, last_expired}
use Rattle.counter_directory.proofs.Indexing.{index_more, index_to, room_less}
use Rattle.counter_directory.proofs.claim_table.ClaimTable.bind_reserved.Goals as goal

pub reset-requires-clause-cell : goal.reset-requires-clause-cell
reset-requires-clause-cell g c =
    let b = c.args.self.now in
    let t = last_reserved b.claimer b.pool.cells b.pool.last b.pool.next_claim c.len.result c.index-spot.result.now c.index-spot.result.now b.pool.claims
    b.pool.reserved.items (omega (arith, b.pool.reserved.ok.0, c.len.ensures)) (omega (arith, c.len.ensures, c.requires.reserved)) c.index-spot.ensures b.gates in
    omega (arith, b.size, t.0)

pub reset-requires-clause-taken : goal.reset-requires-clause-taken
reset-requires-clause-taken g c =
    let b = c.args.self.now in
    let t = last_reserved b.claimer b.pool.cells b.pool.last b.pool.next_claim c.len.result c.index-spot.result.now c.index-spot.result.now b.pool.claims
    b.pool.reserved.items (omega (arith, b.pool.reserved.ok.0, c.len.ensures)) (omega (arith, c.len.ensures, c.requires.reserved)) c.index-spot.ensures b.gates in
    (ap (λ s. s.ever) t.1, ap (λ s. s.is_open) t.1)

pub open_cell-requires-clause-cell : goal.open_cell-requires-clause-cell
open_cell-requires-clause-cell g c =
    let b = c.args.self.now in
    let t = last_reserved b.claimer b.pool.cells b.pool.last b.pool.next_claim c.len.result c.index-spot.result.now c.index-spot.result.now b.pool.claims
    b.pool.reserved.items (omega (arith, b.pool.reserved.ok.0, c.len.ensures)) (omega (arith, c.len.ensures, c.requires.reserved)) c.index-spot.ensures b.gates in
    omega (arith, b.size, t.0)

pub open_cell-requires-clause-taken : goal.open_cell-requires-clause-taken
open_cell-requires-clause-taken g c =
    let b = c.args.self.now in
    let t = last_reserved b.claimer b.pool.cells b.pool.last b.pool.next_claim c.len.result c.index-spot.result.now c.index-spot.result.now b.pool.claims
    b.pool.reserved.items (omega (arith, b.pool.reserved.ok.0, c.len.ensures)) (omega (arith, c.len.ensures, c.requires.reserved)) c.index-spot.ensures b.gates in
    let r = reset_reserved b.claimer _ c.index-spot.result.now.cell c.index-spot.result.now.claim b.pool.cells t.0 b.gates.long t.1 c.reset.ensures.reset in
    ((r.0, r.1), r.2)

pub invariant_of-self : goal.invariant_of-self
invariant_of-self g c =
    let b = c.args.self.now in
    let e = c.bind_reserved-name.ensures in
    let n = c.args.name in
    let r = c.index_mut.result.now in
    let s = c.index-spot.result.now in
    let at : get_elem? b.index.items c.from-unit.result ≡ some r =
    at_index b.index.items c.from-unit.result r (omega (arith, c.from-unit.ensures, c.rank.ensures, b.index.ok.0, b.found.four, rank_few n.unit)) c.index_mut.ensures.value in
    let x : Claim = record { key = c.key_at-key.result; cell = e.claims.0; claim = e.claims.1; moment = b.pool.last } in
    let same = last_expired b.pool.reserved.items _ (spot e.claims.0 e.claims.1) s s c.len.result e.claims.2 (omega (arith, b.pool.reserved.ok.0, c.len.ensures))
    c.index-spot.ensures in
    record {
      size = e.numbers.cells ∙ b.size;
      heard = omega (arith, e.same.2, b.heard, ap (λ (v : CellView). v.heard) c.open_cell.ensures.opened, ap (λ (v : CellView). v.heard) c.reset.ensures.reset);
      gates = gates_to _ _ _ _ _ _ _ _ _ _ _ e.numbers.cells e.same.2 e.numbers.next_claim refl refl
          (opens b.claimer _ _ b.pool.cells b.pool.most b.pool.last b.pool.fresh b.pool.next_claim c.len.result x s s
          b.pool.claims _ b.pool.rings.items b.pool.expired.items b.pool.held.items b.pool.reserved.items _
          (omega (arith, b.pool.reserved.ok.0, c.len.ensures)) c.index-spot.ensures e.claims.2 e.claims.3 b.pool.lawful b.pool.cells_lawful c.reset.ensures.reset
          c.open_cell.ensures.opened b.gates);
      found = index_to b.pool.last _ _ _ _ e.same.2 refl
          (index_more b.pool.last c.from-unit.result b.pool.claims _ b.index.items r _ n s x at (omega (arith, c.from-unit.ensures, c.rank.ensures)) refl refl
          (λ q. (ok_then c.insert.result (c.insert.ensures.succeeds (omega (arith, c.requires.room c.from-unit.result r at))) c.insert.ensures.updates).0 q
          ∙ ap (λ k. cond (same_name k q) (Some s) (get same_name r.spots q)) (e.name ∙ ap (λ (k : CounterKey). k.name) c.key_at-key.ensures))
          e.claims.3 c.key_at-key.ensures (sym (ap (λ (v : Spot). v.cell) same)) (sym (ap (λ (v : Spot). v.claim) same)) b.found);
    }

pub returns-clause-rings : goal.returns-clause-rings
returns-clause-rings g c =
    subst (λ (k : CounterKey). KeepsFits (unit_rank k.name.unit) (window_end_of k) c.args.self.now.pool.rings.items c.bind_reserved-name.new.self.rings.items)
    c.key_at-key.ensures c.bind_reserved-name.ensures.rings

pub returns-clause-room : goal.returns-clause-room
returns-clause-room g c = λ m room.
    let b = c.args.self.now in
    let n = c.args.name in
    let r = c.index_mut.result.now in
    let at : get_elem? b.index.items c.from-unit.result ≡ some r =
    at_index b.index.items c.from-unit.result r (omega (arith, c.from-unit.ensures, c.rank.ensures, b.index.ok.0, b.found.four, rank_few n.unit)) c.index_mut.ensures.value in
    room_less m c.from-unit.result b.index.items r _ at c.insert.ensures.spare room
