-- Lawful cells, part by part, and the rule cell by cell and view by view are the same.
use Rattle.std.proofs.Common.{ℕ, List, [], ◌∷◌, ◌++◌, set, sym, ◌∙◌, arith}
use Rattle.std.specs.Prelude.{slice_index}
use Rattle.atomic_table.specs.Table.{State, Me, Allows, Splits, Joins, Final, Seen, stepped}
use Rattle.counter_cells.specs.declared.view.CellView.{CellView}
use Rattle.counter_cells.specs.declared.setup.Setup.{Setup}
use Rattle.counter_cells.specs.WordIndex.{gate_of, count_of}
use Rattle.counter_cells.specs.Lawful.{CellsLawful, AreLawful}
use Rattle.counter_cells.proofs.Kept.{Rule, Holds}
use Rattle.counter_cells.proofs.Ledgers.{total_is, ledger_from, sights_from, once_from, laws_from}

pub kept : (a : Setup) (s : State ℕ CellView) → AreLawful a s → Holds a s
kept a s hold =
    let r = hold.0 in
    let l = hold.1 in
    (r, (let w = l.long in omega arith), l.long.1, rule, l.clock, l.findings)
  where
    rule : Rule a hold.0 (gate_of s.words) (count_of s.words) s.views
    rule =
        let l = hold.1 in
        record {
          truth = record { apart = l.claims.apart; used_claims = l.claims.used_claims; small = l.claims.small };
          cells = λ k c e. record {
            word = l.pins.words k c e;
            never = l.claims.never k c e;
            sum = λ o. l.counts.sums k c e o ∙ total_is c.claim s.views;
            fresh = l.counts.fresh k c e;
            zeroed = l.counts.zeroed k c e;
            room = l.room k c e;
          };
          each = λ j v e. record {
            pins = l.pins.few j v e;
            good = λ k c o. let g = l.good.hold j v e k c o in (g.0, g.1, g.2, g.3, l.claims.pinned j v e k c o);
            under = l.good.under j v e;
            once = l.good.once j v e;
            past = l.claims.past j v e;
            charges = l.claims.charges j v e;
            looks = l.claims.looks j v e;
            idle = l.seats.idle j v e;
            claimer = l.claims.claimer j v e;
            caps = λ k c d o. l.order.capped k c d o j v e;
          };
          once = once_from s.views l.order.ledger;
          lawful = laws_from s.views l.order.ledger l.order.sights;
          claimer = l.seats.claimer;
          parts = l.seats.passes;
          few = l.seats.few;
        }

pub lawful : (a : Setup) (s : State ℕ CellView) → Holds a s → AreLawful a s
lawful a s hold = (hold.0, cells)
  where
    cells : CellsLawful a hold.0 s.words s.views
    cells =
        let r = hold.3 in
        record {
          long = ((let w = hold.1 in let c = hold.2 in omega arith), hold.2);
          seats = record { claimer = r.claimer; passes = r.parts; few = r.few; idle = λ j v e. (r.each j v e).idle };
          clock = hold.4;
          pins = record { words = λ k c e. (r.cells k c e).word; few = λ j v e. (r.each j v e).pins };
          good = record {
            hold = λ j v e k c o. let g = (r.each j v e).good k c o in (g.0, g.1, g.2, g.3);
            under = λ j v e. (r.each j v e).under;
            once = λ j v e. (r.each j v e).once;
          };
          claims = record {
            apart = r.truth.apart;
            used_claims = r.truth.used_claims;
            small = r.truth.small;
            never = λ k c e. (r.cells k c e).never;
            pinned = λ j v e k c o. ((r.each j v e).good k c o).4;
            past = λ j v e. (r.each j v e).past;
            charges = λ j v e. (r.each j v e).charges;
            looks = λ j v e. (r.each j v e).looks;
            claimer = λ j v e. (r.each j v e).claimer;
          };
          counts = record {
            sums = λ k c e o. (r.cells k c e).sum o ∙ sym (total_is c.claim s.views);
            fresh = λ k c e. (r.cells k c e).fresh;
            zeroed = λ k c e. (r.cells k c e).zeroed;
          };
          order = record {
            ledger = ledger_from s.views r.lawful r.once;
            sights = sights_from s.views r.lawful;
            capped = λ k c e o j v d. (r.each j v d).caps k c e o;
          };
          room = λ k c e. (r.cells k c e).room;
          findings = hold.5;
        }

-- what a table asks for, of the one rule and of the other
pub allows_as : (a : Setup) (slots id : ℕ) (me : Me ℕ CellView) (i : ℕ) (f : ℕ → ℕ) (then : ℕ → Me ℕ CellView → Type 0) → Allows (Holds a) slots id me i f then
    → Allows (AreLawful a) slots id me i f then
allows_as a slots id me i f then go s hold homes at small =
    let x = go s (kept a s hold) homes at small in (x.0, x.1, x.2, lawful a (stepped s i (f (slice_index s.words i)) id me.1 x.0 x.1) x.3, x.4)

pub splits_as : (a : Setup) (id : ℕ) (v left right : CellView) → Splits (Holds a) id v left right → Splits (AreLawful a) id v left right
splits_as a id v left right go s hold at = lawful a (record { words = s.words; homes = s.homes; views = set s.views id left ++ right ∷ [] }) (go s (kept a s hold) at)

pub joins_as : (a : Setup) (id : ℕ) (v : CellView) (other : ℕ) (w both spent : CellView) → Joins (Holds a) id v other w both spent → Joins (AreLawful a) id v other w both spent
joins_as a id v other w both spent go s hold at apart there =
    lawful a (record { words = s.words; homes = s.homes; views = set (set s.views id both) other spent }) (go s (kept a s hold) at apart there)

pub final_as : (a : Setup) (id : ℕ) (v : CellView) (ws xs : List ℕ) → Final (Seen (AreLawful a) id v) ws xs → Final (Seen (Holds a) id v) ws xs
final_as a id v ws xs f = (f.0, (kept a f.0 f.1.0, f.1.1), f.2, f.3, f.4)
