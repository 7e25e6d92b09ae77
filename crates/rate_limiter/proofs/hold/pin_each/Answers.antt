use Rattle.std.proofs.Common.{◌≡◌, ◌∙◌, ◌++◌, ◌∷◌, [], List, Option, Some, None, IfSome, get_or, refl, sym, subst, ap, arith, rules}
use Rattle.std.specs.Prelude.{IsOk}
use Rattle.counter_cells.specs.declared.view.CellView.{CellView}
use Rattle.counter_cells.specs.declared.view.OtherGate.{OtherGate}
use Rattle.over_cache.specs.declared.known.Known.{Known}
use Rattle.rate_limiter.specs.Asked.{IsThere}
use Rattle.rate_limiter.specs.Counters.{IsPinned}
use Rattle.rate_limiter.specs.declared.asked.Asked.{Asked}
use Rattle.rate_limiter.proofs.AskedCounters.{each_below, no_ask}
use Rattle.rate_limiter.proofs.Knowing.{same_then, grow_then}
use Rattle.rate_limiter.proofs.Totalling.{item_at}
use Rattle.rate_limiter.proofs.hold.pin_each.Goals as goal

none_such : {A : Type 0} (P : A → Type 0) (o : Option A) → ((x : A) → o ≡ Some x → ⊥) → IfSome o P
none_such P None h = tt
none_such P (Some x) h = absurd (h x refl)

some_such : {A : Type 0} (P Q : A → Type 0) (o : Option A) → ((x : A) → P x → Q x) → IfSome o P → IfSome o Q
some_such P Q None f h = tt
some_such P Q (Some x) f h = f x h

pub asked-preserved-in_default : goal.asked-preserved-in_default
asked-preserved-in_default g c =
    let xs = c.args.asked.now in
    let i = c.asked.place in
    let before = c.asked.invariant in
    let w = c.asked.counters.cells in
    let a : Asked = get_or xs i no_ask in
    record {
      rest = before.rest;
      same = before.same;
      pins = before.pins;
      others = before.others;
      holds = before.holds;
      count = before.count;
      few = omega (arith, before.few);
      pinned = each_below (λ (x : Asked). IfSome x.known (λ k. IsPinned w k.spot)) xs i a (item_at xs i no_ask (omega arith))
          (none_such (λ (k : Known). IsPinned w k.spot) a.known c.in_default.not-Some) before.pinned;
    }

pub pin-requires-clause-there : goal.pin-requires-clause-there
pin-requires-clause-there g c =
    let cells = g.N.CellNaming.setup.cells in
    let xs = c.args.asked.now in
    let i = c.asked.place in
    let v = c.args.counters.now.cells in
    let a : Asked = get_or xs i no_ask in
    let k = c.in-Some.known in
    let there = subst (λ (o : Option Known). IfSome o (λ x. IsThere cells v.pairs x.spot)) c.in-Some.is (c.requires.there i a (item_at xs i no_ask (omega arith))) in
    let grow = c.asked.invariant.pins k.spot.cell k.spot.claim in
    let had = there.had in
    record { there = there.there; had = omega arith }

pub asked-preserved : goal.asked-preserved
asked-preserved g c =
    let xs = c.args.asked.now in
    let i = c.asked.place in
    let before = c.asked.invariant in
    let v = c.args.counters.now.cells in
    let w = c.asked.counters.cells in
    let x = c.pin.new.self.cells in
    let a : Asked = get_or xs i no_ask in
    let did = c.pin.ensures in
    let is_ok : IsOk c.pin.result = search rules in
    record {
      rest = did.rest ∙ (λ j. record (before.rest j) { cells = x });
      same = same_then v w x before.same did.same;
      pins = grow_then v.pairs w.pairs x.pairs before.pins did.pins;
      others = did.others is_ok ∙ before.others;
      holds = did.holds;
      count = did.count;
      few = omega (arith, did.few, before.few);
      pinned = each_below (λ (y : Asked). IfSome y.known (λ k. IsPinned x k.spot)) xs i a (item_at xs i no_ask (omega arith))
          (subst (λ (o : Option Known). IfSome o (λ k. IsPinned x k.spot)) (sym c.in-Some.is) (did.pinned is_ok))
          (λ j b lt at. some_such (λ (k : Known). IsPinned w k.spot) (λ (k : Known). IsPinned x k.spot) b.known (λ k h. did.still k.spot h) (before.pinned j b lt at));
    }

pub returns-in-Err-clause-missed : goal.returns-in-Err-clause-missed
returns-in-Err-clause-missed g c =
    let xs = c.args.asked.now in
    let i = c.asked.place in
    let k = c.in-Some.known in
    let m = c.in-Err.ensures.missed in (
      c.requires.known,
      record {
        a = get_or xs i no_ask;
        at = item_at xs i no_ask (omega arith);
        k = k;
        is = c.in-Some.is;
        missed = record {
          other = m.other;
          is_open = m.is_open;
          noted =
              ap (λ (x : CellView). x.others) c.give_back.ensures.left ∙ m.noted
              ∙ ap (λ (l : List OtherGate). l ++ (record { cell = k.spot.cell; claim = c.in-Err.claim; is_open = m.is_open }) ∷ []) c.asked.invariant.others;
        };
      },
    )
