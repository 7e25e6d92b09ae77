use Rattle.std.proofs.Common.{◌∙◌, ◌≤◌, ◌++◌, ◌∷◌, [], List, sym, ap, subst, arith}
use Rattle.counter_directory.specs.Passes.{knows}
use Rattle.counter_cells.specs.declared.view.CellView.{CellView}
use Rattle.counter_cells.specs.declared.answers.Spot.{Spot}
use Rattle.rate_limiter.specs.Counters.{CountersView, Holds, IsPinned}
use Rattle.rate_limiter.specs.Known.{pins_under}
use Rattle.rate_limiter.proofs.ConsistentCounters.{consistent_pins}
use Rattle.rate_limiter.proofs.PinnedCounters.{holds_more, pinned_more, holds_still, pinned_missed}
use Rattle.rate_limiter.proofs.pass_counters.PassCounters.pin.Goals as goal

pub invariant_of-self : goal.invariant_of-self
invariant_of-self g c =
    let e = c.in-Pinned.ensures.pin in
    consistent_pins g.N.CellNaming.setup.cells (knows c.self.inside.claims).known c.self.inside.cells c.self.inside.known c.self.inside.looks c.self.invariant c.pin.new.pass
    (λ cell number. let f = ap (λ (x : CellView). pins_under cell number x.pairs) e in omega arith)
    (record { looks = ap (λ (x : CellView). x.looks) e; charges = ap (λ (x : CellView). x.charges) e })

pub invariant_of-self-in-Other : goal.invariant_of-self-in-Other
invariant_of-self-in-Other g c =
    let e = c.in-Other.ensures.pin.0 in
    consistent_pins g.N.CellNaming.setup.cells (knows c.self.inside.claims).known c.self.inside.cells c.self.inside.known c.self.inside.looks c.self.invariant c.pin.new.pass
    (λ cell number. let f = ap (λ (x : CellView). pins_under cell number x.pairs) e in omega arith)
    (record { looks = ap (λ (x : CellView). x.looks) e; charges = ap (λ (x : CellView). x.charges) e })

pub returns-in-Pinned-clause-holds : goal.returns-in-Pinned-clause-holds
returns-in-Pinned-clause-holds g c =
    let cells = g.N.CellNaming.setup.cells in
    let spots = c.args.held.now.items in
    let s = c.args.spot in
    let before = subst (λ (x : CountersView). Holds cells spots x.cells) (sym c.self.view_is) c.requires.holds in
    subst (λ (l : List Spot). Holds cells l c.pin.new.pass) (sym c.push.ensures.items)
    (holds_more s c.self.inside.cells c.pin.new.pass c.in-Pinned.ensures.pin cells spots c.requires.there.there before)

pub returns-in-Pinned-clause-still : goal.returns-in-Pinned-clause-still
returns-in-Pinned-clause-still g c t h =
    pinned_more c.args.spot c.self.inside.cells c.pin.new.pass c.in-Pinned.ensures.pin c.in-Pinned.ensures.own t
    (subst (λ (x : CountersView). IsPinned x.cells t) (sym c.self.view_is) h)

pub returns-in-Other-clause-holds : goal.returns-in-Other-clause-holds
returns-in-Other-clause-holds g c =
    let cells = g.N.CellNaming.setup.cells in
    let spots = c.args.held.now.items in
    holds_still c.args.spot.cell c.in-Other.claim c.in-Other.is_open c.self.inside.cells c.pin.new.pass c.in-Other.ensures.pin.0 cells spots
    (subst (λ (x : CountersView). Holds cells spots x.cells) (sym c.self.view_is) c.requires.holds)

pub returns-in-Other-clause-still : goal.returns-in-Other-clause-still
returns-in-Other-clause-still g c t h =
    pinned_missed c.args.spot.cell c.in-Other.claim c.in-Other.is_open c.self.inside.cells c.pin.new.pass c.in-Other.ensures.pin.0 t
    (subst (λ (x : CountersView). IsPinned x.cells t) (sym c.self.view_is) h)

pub returns-in-Other-clause-missed : goal.returns-in-Other-clause-missed
returns-in-Other-clause-missed g c =
    let had = subst (λ (x : CountersView). 1 ≤ pins_under c.args.spot.cell c.args.spot.claim x.cells.pairs) (sym c.self.view_is) c.requires.there.had in
    record {
      other = c.in-Other.ensures.known had;
      is_open = c.in-Other.is_open;
      noted = ap (λ (x : CellView). x.others) c.in-Other.ensures.pin.0 ∙ ap (λ (x : CountersView). x.cells.others ++ (record { cell = c.args.spot.cell; claim = c.in-Other.claim; is_open = c.in-Other.is_open }) ∷ []) c.self.view_is;
    }
