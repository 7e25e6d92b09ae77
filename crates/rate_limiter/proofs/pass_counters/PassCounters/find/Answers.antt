use Rattle.std.proofs.Common.{◌≡◌, ◌∙◌, IfSome, subst, ap}
use Rattle.counter_directory.specs.Passes.{knows}
use Rattle.rate_types.specs.declared.counter_key.CounterKey.{CounterKey}
use Rattle.window_keys.specs.Counter.{counter_of}
use Rattle.over_cache.specs.Entries.{known_of, asked}
use Rattle.rate_limiter.specs.Counters.{CountersView}
use Rattle.rate_limiter.specs.Known.{counter_named, key_of}
use Rattle.rate_limiter.specs.Sought.{SameKnown, IsOwnSpot}
use Rattle.rate_limiter.proofs.ConsistentCounters.{consistent_asked}
use Rattle.rate_limiter.proofs.Knowing.{asked_same, own_entry}
use Rattle.rate_limiter.proofs.pass_counters.PassCounters.find.Goals as goal

pub invariant_of-self : goal.invariant_of-self
invariant_of-self g c =
    consistent_asked g.N.CellNaming.setup.cells (knows c.self.inside.claims).known c.self.inside.cells c.self.inside.known c.self.inside.looks c.self.invariant
    (key_of (counter_named c.domain.result.now c.args.descriptor.now.entries c.args.unit c.moment-moment.result)) c.find.new.self c.find.ensures.order

pub returns-clause-same : goal.returns-clause-same
returns-clause-same g c =
    subst (λ (x : CountersView). SameKnown x.known c.find.new.self) c.self.view_is
    (asked_same (key_of (counter_named c.domain.result.now c.args.descriptor.now.entries c.args.unit c.moment-moment.result)) c.self.inside.known c.find.new.self
    c.find.ensures.order)

pub returns-clause-found : goal.returns-clause-found
returns-clause-found g c =
    let same : counter_named c.domain.result.now c.args.descriptor.now.entries c.args.unit c.moment-moment.result
    ≡ counter_of c.args.request.now.domain c.args.descriptor.now c.args.unit c.self.inside.cells.moment
    = λ i. counter_named (c.domain.ensures.same i) c.args.descriptor.now.entries c.args.unit (c.moment-moment.ensures i) in
    subst (λ (x : CountersView). c.find.result ≡ known_of (key_of (counter_of c.args.request.now.domain c.args.descriptor.now c.args.unit x.cells.moment)) x.known)
    c.self.view_is (c.find.ensures.found ∙ ap (λ (q : CounterKey). known_of (key_of q) c.self.inside.known) same)

pub returns-clause-own : goal.returns-clause-own
returns-clause-own g c =
    let cells = g.N.CellNaming.setup.cells in
    let v = c.self.inside.cells in
    let q = counter_of c.args.request.now.domain c.args.descriptor.now c.args.unit v.moment in
    let same : counter_named c.domain.result.now c.args.descriptor.now.entries c.args.unit c.moment-moment.result ≡ q
    = λ i. counter_named (c.domain.ensures.same i) c.args.descriptor.now.entries c.args.unit (c.moment-moment.ensures i) in
    subst (λ (x : CountersView). IfSome c.find.result (λ k. IsOwnSpot cells x.claims.claims.known x.cells.pairs
    (counter_of c.args.request.now.domain c.args.descriptor.now c.args.unit x.cells.moment) k.spot)) c.self.view_is
    (own_entry cells (knows c.self.inside.claims).known v.pairs q
    (subst (λ (p : CounterKey). (x : CounterKey) → key_of x ≡ key_of p → x ≡ p) same c.find.ensures.alone) c.self.inside.known c.self.invariant.bound c.find.result
    (c.find.ensures.found ∙ ap (λ (p : CounterKey). known_of (key_of p) c.self.inside.known) same))

pub returns-clause-order : goal.returns-clause-order
returns-clause-order g c =
    let same : counter_named c.domain.result.now c.args.descriptor.now.entries c.args.unit c.moment-moment.result
    ≡ counter_of c.args.request.now.domain c.args.descriptor.now c.args.unit c.self.inside.cells.moment
    = λ i. counter_named (c.domain.ensures.same i) c.args.descriptor.now.entries c.args.unit (c.moment-moment.ensures i) in
    subst
    (λ (x : CountersView). c.find.new.self ≡ asked (key_of (counter_of c.args.request.now.domain c.args.descriptor.now c.args.unit x.cells.moment)) x.known)
    c.self.view_is (c.find.ensures.order ∙ ap (λ (q : CounterKey). asked (key_of q) c.self.inside.known) same)
