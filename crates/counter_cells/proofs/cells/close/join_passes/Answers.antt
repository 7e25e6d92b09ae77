use Rattle.std.proofs.Common.{◌≡◌, ℕ, [], ◌∷◌, ◌++◌, length, sym, ap, ◌∙◌, arith, append_assoc, length-append}
use Rattle.atomic_table.specs.Seated.{TableId}
use Rattle.atomic_table.specs.Table.{Me}
use Rattle.counter_cells.specs.declared.view.CellView.{CellView}
use Rattle.rate_types.specs.Sums.{one_if}
use Rattle.counter_cells.specs.Counting.{pins_of}
use Rattle.counter_cells.specs.Steps.{empty_view}
use Rattle.counter_cells.specs.InnerSteps.{joined}
use Rattle.counter_cells.proofs.Sums.{at_mid}
use Rattle.counter_cells.proofs.Regrouping.{joins_as}
use Rattle.counter_cells.proofs.Joining.{joins}
use Rattle.counter_cells.proofs.Closing.{joined_snoc, joined_keeps}
use Rattle.counter_cells.proofs.cells.close.join_passes.Goals as goal

pub join_seat-requires : goal.join_seat-requires
join_seat-requires g c =
    let i = c.loop-pass.invariant in
    let p = c.into_seat.ensures.pass in
    let is = c.into_seat.ensures.seat.1 in
    let key = c.args.table.now.shared.key in
    let v = c.loop-pass.claimer.me.0 in
    let w = c.into_seat.result.me.0 in
    let bare = at_mid (λ (x : CellView). x.good ≡ []) c.loop-pass.yielded c.in-Some.pass c.next.new.self.rest.items c.args.passes.items
    (ap (λ l. c.loop-pass.yielded ++ l) (sym c.in-Some.ensures.steps.0) ∙ i.all) c.requires.passes in
    let k = joined_keeps c.args.claimer.now.me.0 c.loop-pass.yielded in
    let cl = c.requires.claimer.1 in
    let role = ap (λ (x : CellView). x.claimer) i.joined ∙ k.0 ∙ cl.role in
    let one : one_if v.claimer ≡ 1 = ap one_if role in
    let none : pins_of c.args.claimer.now.me.0 ≡ 0 = (let a = ap length cl.pins.0 in let b = ap length cl.pins.1 in omega arith) in
    let free : pins_of w ≡ 0 = (let a = ap (λ (x : CellView). length x.good) is ∙ ap length bare in let b = ap (λ (x : CellView). length x.stray) is ∙ ap length p.straight in
    omega arith) in
    let number : length w.numbers ≡ 1 = ap (λ (x : CellView). length x.numbers) is ∙ p.number in (
      i.here.0 ∙ sym c.requires.table.0,
      c.into_seat.ensures.seat.0.0 ∙ sym c.requires.table.0,
      c.into_seat.ensures.seat.0.1,
      omega (arith, ap (λ (t : TableId). t.words) c.requires.table.0, c.requires.table.1),
      joins_as key _ v _ w (joined v w) empty_view
          (joins key _ _ v w (ap pins_of i.joined ∙ k.1 ∙ none, free) (ap (λ (x : CellView). x.claimer) is ∙ p.role) (ap (λ (x : CellView). x.unmade) is ∙ p.made)
          (omega arith, omega arith)),
    )

pub loop-pass-preserved : goal.loop-pass-preserved
loop-pass-preserved g c =
    let i = c.loop-pass.invariant in
    let j = c.join_seat.ensures in
    let v = c.args.claimer.now.me.0 in
    let is = ap (λ (m : Me ℕ CellView). m.0) j.2 ∙ ap (λ (x : CellView). joined c.loop-pass.claimer.me.0 x) c.into_seat.ensures.seat.1
    ∙ ap (λ (x : CellView). joined x c.in-Some.pass) i.joined in
    record {
      here = (j.0 ∙ i.here.0, ap (λ (m : Me ℕ CellView). m.1) j.2 ∙ i.here.1);
      joined = is ∙ sym (joined_snoc v c.loop-pass.yielded c.in-Some.pass);
      numbers = (let n = ap (λ (m : Me ℕ CellView). length m.0.numbers) j.2 in let o = length-append c.loop-pass.claimer.me.0.numbers c.into_seat.result.me.0.numbers in
          let one = ap (λ (x : CellView). length x.numbers) c.into_seat.ensures.seat.1 ∙ c.into_seat.ensures.pass.number in
          let y = length-append c.loop-pass.yielded (c.in-Some.pass ∷ []) in omega (arith, i.numbers));
      all = append_assoc c.loop-pass.yielded (c.in-Some.pass ∷ []) c.next.new.self.rest.items ∙ ap (λ l. c.loop-pass.yielded ++ l) (sym c.in-Some.ensures.steps.0) ∙ i.all;
    }
