use Rattle.std.proofs.Common.{◌≡◌, ◌≤◌, ◌*◌, ◌-◌, All, List, [], length, sym, subst, ap, arith}
use Rattle.std.specs.Prelude.{OnOk}
use Rattle.counter_cells.specs.declared.view.CellView.{CellView}
use Rattle.counter_cells.specs.declared.answers.Spot.{Spot}
use Rattle.counter_directory.specs.Acquired.{Bounds}
use Rattle.counter_directory.specs.Answered.{answered}
use Rattle.counter_directory.specs.Keys.{keys_at}
use Rattle.counter_directory.specs.Passes.{DirectoryPassView, knows}
use Rattle.counter_directory.specs.declared.acquired.AcquireFault.{AcquireFault}
use Rattle.counter_directory.specs.declared.acquired.AcquireFault.TheVariants.{OutOfMemory}
use Rattle.rate_limiter.specs.Counters.{CountersView}
use Rattle.rate_limiter.specs.Known.{pins_under, AreClaimedOnce}
use Rattle.rate_limiter.specs.Passes.{LimiterView, bounds_of}
use Rattle.rate_limiter.specs.PassStep.{HasClaimed}
use Rattle.rate_limiter.specs.Pinned.{HasPins, HasNoPins}
use Rattle.rate_limiter.specs.Sought.{AreNoted}
use Rattle.rate_limiter.specs.Names.{name_keys}
use Rattle.rate_limiter.specs.Used.{HasUsed}
use Rattle.rate_limiter.proofs.Using.{uses_none}
use Rattle.rate_limiter.proofs.ConsistentCounters.{turned_consistent}
use Rattle.rate_limiter.proofs.HeldCounters.{waited_left}
use Rattle.rate_limiter.proofs.Knowing.{claimed_prefix}
use Rattle.rate_limiter.proofs.Results.{ok_of, err_of, ok_map, err_both}
use Rattle.rate_limiter.proofs.Turning.{turned_pins, turned_not, turned_had, turned_once, turned_others}
use Rattle.rate_limiter.proofs.limiter.Limiter.acquire_names.Goals as goal

pub invariant_of-counters : goal.invariant_of-counters
invariant_of-counters g c =
    let cells = g.N.CellNaming.setup.cells in
    let b : Bounds = record { cells = cells; claims = c.self.inside.directory.claims_max; held = 32 * (c.self.inside.directory.passes - 1) } in
    let names = c.args.names.now in
    let r = c.acquire.result in
    let a = c.acquire.new.acquired in
    let v = c.counters.inside.cells in
    let w = c.acquire.new.cell_pass in
    let t = knows c.counters.inside.claims in
    let u = knows c.acquire.new.pass in
    let turn = c.acquire.ensures.turn in
    turned_consistent b names r a v w t u c.acquire.ensures.none turn cells c.counters.inside.known c.counters.inside.looks c.counters.invariant

pub invariant_of-counters-in-Ok : goal.invariant_of-counters-in-Ok
invariant_of-counters-in-Ok g c =
    let cells = g.N.CellNaming.setup.cells in
    let b : Bounds = record { cells = cells; claims = c.self.inside.directory.claims_max; held = 32 * (c.self.inside.directory.passes - 1) } in
    let names = c.args.names.now in
    let r = c.acquire.result in
    let a = c.acquire.new.acquired in
    let v = c.counters.inside.cells in
    let w = c.acquire.new.cell_pass in
    let t = knows c.counters.inside.claims in
    let u = knows c.acquire.new.pass in
    let turn = c.acquire.ensures.turn in
    turned_consistent b names r a v w t u c.acquire.ensures.none turn cells c.counters.inside.known c.counters.inside.looks c.counters.invariant

pub note_pinned-requires-clause-had : goal.note_pinned-requires-clause-had
note_pinned-requires-clause-had g c =
    let cells = g.N.CellNaming.setup.cells in
    let b : Bounds = record { cells = cells; claims = c.self.inside.directory.claims_max; held = 32 * (c.self.inside.directory.passes - 1) } in
    let names = c.args.names.now in
    let r = c.acquire.result in
    let a = c.acquire.new.acquired in
    let v = c.counters.inside.cells in
    let w = c.acquire.new.cell_pass in
    let t = knows c.counters.inside.claims in
    let u = knows c.acquire.new.pass in
    let turn = c.acquire.ensures.turn in
    subst (λ (l : List Spot). All (λ (s : Spot). 1 ≤ pins_under s.cell s.claim w.pairs) l) (sym c.as_slice.ensures.value)
    (ok_of r c.in-Ok.field-0 c.in-Ok.is (turned_had b names r a v w t u turn))

pub returns-in-Err-clause-once : goal.returns-in-Err-clause-once
returns-in-Err-clause-once g c =
    let cells = g.N.CellNaming.setup.cells in
    let b : Bounds = record { cells = cells; claims = c.self.inside.directory.claims_max; held = 32 * (c.self.inside.directory.passes - 1) } in
    let names = c.args.names.now in
    let r = c.acquire.result in
    let a = c.acquire.new.acquired in
    let v = c.counters.inside.cells in
    let w = c.acquire.new.cell_pass in
    let t = knows c.counters.inside.claims in
    let u = knows c.acquire.new.pass in
    let turn = c.acquire.ensures.turn in
    turned_once b names (answered r a) v w t u turn

pub returns-in-Err-clause-refused : goal.returns-in-Err-clause-refused
returns-in-Err-clause-refused g c =
    let cells = g.N.CellNaming.setup.cells in
    let b : Bounds = record { cells = cells; claims = c.self.inside.directory.claims_max; held = 32 * (c.self.inside.directory.passes - 1) } in
    let names = c.args.names.now in
    let r = c.acquire.result in
    let a = c.acquire.new.acquired in
    let v = c.counters.inside.cells in
    let w = c.acquire.new.cell_pass in
    let t = knows c.counters.inside.claims in
    let u = knows c.acquire.new.pass in
    let turn = c.acquire.ensures.turn in
    let fault = c.in-Err.fault in
    let none = err_of (λ (f : AcquireFault). HasNoPins b names f v w t u) r fault c.in-Err.is (turned_not b names r a v w t u c.acquire.ensures.none turn) in
    subst (λ (x : CountersView). HasNoPins (bounds_of cells c.args.self.now) names fault x.cells w x.claims.claims u) c.counters.view_is
    (subst (λ (l : LimiterView). HasNoPins (bounds_of cells l) names fault v w t u) c.self.view_is none)

pub returns-in-Ok-clause-once : goal.returns-in-Ok-clause-once
returns-in-Ok-clause-once g c =
    let cells = g.N.CellNaming.setup.cells in
    let b : Bounds = record { cells = cells; claims = c.self.inside.directory.claims_max; held = 32 * (c.self.inside.directory.passes - 1) } in
    let names = c.args.names.now in
    let r = c.acquire.result in
    let a = c.acquire.new.acquired in
    let v = c.counters.inside.cells in
    let w = c.acquire.new.cell_pass in
    let t = knows c.counters.inside.claims in
    let u = knows c.acquire.new.pass in
    let turn = c.acquire.ensures.turn in
    let x = c.note_pinned.new.counters in
    let claims = c.note_pinned.ensures.claims in
    let left = c.note_pinned.ensures.left in
    subst (λ (y : DirectoryPassView). AreClaimedOnce y.claims.known) (sym claims) (turned_once b names (answered r a) v w t u turn)

pub returns-in-Ok-clause-others : goal.returns-in-Ok-clause-others
returns-in-Ok-clause-others g c =
    let cells = g.N.CellNaming.setup.cells in
    let b : Bounds = record { cells = cells; claims = c.self.inside.directory.claims_max; held = 32 * (c.self.inside.directory.passes - 1) } in
    let names = c.args.names.now in
    let r = c.acquire.result in
    let a = c.acquire.new.acquired in
    let v = c.counters.inside.cells in
    let w = c.acquire.new.cell_pass in
    let t = knows c.counters.inside.claims in
    let u = knows c.acquire.new.pass in
    let turn = c.acquire.ensures.turn in
    let x = c.note_pinned.new.counters in
    let claims = c.note_pinned.ensures.claims in
    let left = c.note_pinned.ensures.left in
    let more = turned_others b names (answered r a) v w t u turn in
    let after = ap (λ (y : CellView). length y.others) left in
    let before = ap (λ (y : CountersView). length y.cells.others) c.counters.view_is in
    omega arith

pub returns-in-Ok-clause-noted : goal.returns-in-Ok-clause-noted
returns-in-Ok-clause-noted g c =
    let cells = g.N.CellNaming.setup.cells in
    let b : Bounds = record { cells = cells; claims = c.self.inside.directory.claims_max; held = 32 * (c.self.inside.directory.passes - 1) } in
    let names = c.args.names.now in
    let r = c.acquire.result in
    let a = c.acquire.new.acquired in
    let v = c.counters.inside.cells in
    let w = c.acquire.new.cell_pass in
    let t = knows c.counters.inside.claims in
    let u = knows c.acquire.new.pass in
    let turn = c.acquire.ensures.turn in
    let x = c.note_pinned.new.counters in
    let claims = c.note_pinned.ensures.claims in
    let left = c.note_pinned.ensures.left in
    subst (λ m. OnOk c.note_pinned.result (AreNoted names m x.known)) (sym (ap (λ (y : CellView). y.moment) left)) c.note_pinned.ensures.noted

pub returns-in-Ok-clause-pinned : goal.returns-in-Ok-clause-pinned
returns-in-Ok-clause-pinned g c =
    let cells = g.N.CellNaming.setup.cells in
    let b : Bounds = record { cells = cells; claims = c.self.inside.directory.claims_max; held = 32 * (c.self.inside.directory.passes - 1) } in
    let names = c.args.names.now in
    let r = c.acquire.result in
    let a = c.acquire.new.acquired in
    let v = c.counters.inside.cells in
    let w = c.acquire.new.cell_pass in
    let t = knows c.counters.inside.claims in
    let u = knows c.acquire.new.pass in
    let turn = c.acquire.ensures.turn in
    let x = c.note_pinned.new.counters in
    let claims = c.note_pinned.ensures.claims in
    let left = c.note_pinned.ensures.left in
    let pins : HasPins names a.spots.items c.args.counters.now.cells w c.args.counters.now.claims.claims u
    = subst (λ (y : CountersView). HasPins names a.spots.items y.cells w y.claims.claims u) c.counters.view_is
    (ok_of r c.in-Ok.field-0 c.in-Ok.is (turned_pins b names r a v w t u turn)) in
    let first = c.args.counters.now in
    ok_map c.note_pinned.result
    (λ (e : x.cells ≡ w).
    subst (λ (y : CellView). HasPins names a.spots.items first.cells y first.claims.claims x.claims.claims) (sym e)
    (subst (λ (y : DirectoryPassView). HasPins names a.spots.items first.cells w first.claims.claims y.claims) (sym claims) pins))
    c.note_pinned.ensures.same

pub returns-in-Ok-clause-refused : goal.returns-in-Ok-clause-refused
returns-in-Ok-clause-refused g c =
    let cells = g.N.CellNaming.setup.cells in
    let b : Bounds = record { cells = cells; claims = c.self.inside.directory.claims_max; held = 32 * (c.self.inside.directory.passes - 1) } in
    let names = c.args.names.now in
    let r = c.acquire.result in
    let a = c.acquire.new.acquired in
    let v = c.counters.inside.cells in
    let w = c.acquire.new.cell_pass in
    let t = knows c.counters.inside.claims in
    let u = knows c.acquire.new.pass in
    let turn = c.acquire.ensures.turn in
    let x = c.note_pinned.new.counters in
    let claims = c.note_pinned.ensures.claims in
    let left = c.note_pinned.ensures.left in
    let pins : HasPins names a.spots.items c.args.counters.now.cells w c.args.counters.now.claims.claims u
    = subst (λ (y : CountersView). HasPins names a.spots.items y.cells w y.claims.claims u) c.counters.view_is
    (ok_of r c.in-Ok.field-0 c.in-Ok.is (turned_pins b names r a v w t u turn)) in
    let first = c.args.counters.now in
    let most = bounds_of cells c.args.self.now in
    let none : x.cells.good ≡ [] → HasNoPins most names OutOfMemory first.cells x.cells first.claims.claims x.claims.claims
    = λ bare.
    subst (λ (y : DirectoryPassView). HasNoPins most names OutOfMemory first.cells x.cells first.claims.claims y.claims) (sym claims) (record {
      waited = waited_left first.cells w x.cells pins.waited left;
      bare = bare;
      knew = claimed_prefix (keys_at w.moment names) w.moment first.claims.claims u pins.claimed;
      own = subst (λ m. HasClaimed (keys_at m names) m first.claims.claims u) (sym (ap (λ (y : CellView). y.moment) left)) pins.claimed;
      cause = tt;
    }) in
    err_both (λ (f : AcquireFault). f ≡ OutOfMemory) (λ (f : AcquireFault). HasNoPins most names f first.cells x.cells first.claims.claims x.claims.claims) c.note_pinned.result
    (λ f (is : f ≡ OutOfMemory) (bare : x.cells.good ≡ []). subst (λ (y : AcquireFault). HasNoPins most names y first.cells x.cells first.claims.claims x.claims.claims) (sym is) (none bare))
    c.note_pinned.ensures.fault c.note_pinned.ensures.bare

pub returns-in-Err-clause-uses : goal.returns-in-Err-clause-uses
returns-in-Err-clause-uses g c =
    uses_none (name_keys c.acquire.new.cell_pass.moment c.args.names.now) c.args.counters.now.known c.counters.inside.known (ap (λ (y : CountersView). y.known) c.counters.view_is)

pub returns-in-Ok-clause-uses : goal.returns-in-Ok-clause-uses
returns-in-Ok-clause-uses g c =
    let names = c.args.names.now in
    let x = c.note_pinned.new.counters in
    let moment = ap (λ (y : CellView). y.moment) c.note_pinned.ensures.left in
    subst (λ (y : CountersView). HasUsed [] (name_keys x.cells.moment names) y.known x.known) c.counters.view_is
    (subst (λ m. HasUsed [] (name_keys m names) c.counters.inside.known x.known) (sym moment) c.note_pinned.ensures.uses)
