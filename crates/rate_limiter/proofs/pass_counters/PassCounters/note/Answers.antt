use Rattle.std.proofs.Common.{◌≡◌, ◌∙◌, refl, sym, subst, ap}
use Rattle.std.specs.Prelude.{OnOk, OnErr}
use Rattle.counter_directory.specs.Keys.{key_at}
use Rattle.counter_directory.specs.Passes.{knows}
use Rattle.rate_types.specs.declared.counter_name.CounterName.{CounterName}
use Rattle.over_cache.specs.Entries.{noted}
use Rattle.rate_limiter.specs.Counters.{CountersView}
use Rattle.rate_limiter.specs.Known.{key_of}
use Rattle.rate_limiter.specs.Sought.{IsOwnSpot}
use Rattle.rate_limiter.proofs.ConsistentCounters.{consistent_noted}
use Rattle.rate_limiter.proofs.pass_counters.PassCounters.note.Goals as goal

pub invariant_of-self : goal.invariant_of-self
invariant_of-self g c =
    let cells = g.N.CellNaming.setup.cells in
    let found = c.args.name.now in
    let m = c.moment-moment.result in
    let name : CounterName = record { domain = c.domain.result.now; entries = c.entries.result.now; unit = c.unit.result } in
    let is : name ≡ found
    = ap (λ d. record { domain = d; entries = c.entries.result.now; unit = c.unit.result }) c.domain.ensures
    ∙ ap (λ e. record { domain = found.domain; entries = e; unit = c.unit.result }) c.entries.ensures
    ∙ ap (λ u. record { domain = found.domain; entries = found.entries; unit = u }) c.unit.ensures in
    let q = key_at m name in
    let own = subst (λ n. IsOwnSpot cells (knows c.self.inside.claims).known c.self.inside.cells.pairs (key_at n name) c.args.spot) (sym c.moment-moment.ensures)
    (subst (λ (n : CounterName). IsOwnSpot cells (knows c.self.inside.claims).known c.self.inside.cells.pairs (key_at c.self.inside.cells.moment n) c.args.spot) (sym is)
    (subst (λ (x : CountersView). IsOwnSpot cells x.claims.claims.known x.cells.pairs (key_at x.cells.moment found) c.args.spot) (sym c.self.view_is) c.requires.own)) in
    consistent_noted cells (knows c.self.inside.claims).known c.self.inside.cells c.self.inside.known c.self.inside.looks c.self.invariant q c.args.spot (key_of q)
    c.note.new.self c.note.result c.note.ensures.noted c.note.ensures.refused c.note.ensures.others refl own

pub returns-clause-noted : goal.returns-clause-noted
returns-clause-noted g c =
    let found = c.args.name.now in
    let m = c.moment-moment.result in
    let name : CounterName = record { domain = c.domain.result.now; entries = c.entries.result.now; unit = c.unit.result } in
    let is : name ≡ found
    = ap (λ d. record { domain = d; entries = c.entries.result.now; unit = c.unit.result }) c.domain.ensures
    ∙ ap (λ e. record { domain = found.domain; entries = e; unit = c.unit.result }) c.entries.ensures
    ∙ ap (λ u. record { domain = found.domain; entries = found.entries; unit = u }) c.unit.ensures in
    subst (λ (x : CountersView). OnOk c.note.result (c.note.new.self ≡ noted (key_of (key_at x.cells.moment found)) c.args.spot 0 x.known)) c.self.view_is
    (subst (λ n. OnOk c.note.result (c.note.new.self ≡ noted (key_of (key_at n found)) c.args.spot 0 c.self.inside.known)) c.moment-moment.ensures
    (subst (λ (n : CounterName). OnOk c.note.result (c.note.new.self ≡ noted (key_of (key_at m n)) c.args.spot 0 c.self.inside.known)) is c.note.ensures.noted))

pub returns-clause-refused : goal.returns-clause-refused
returns-clause-refused g c = subst (λ (x : CountersView). OnErr c.note.result (c.note.new.self ≡ x.known)) c.self.view_is c.note.ensures.refused
