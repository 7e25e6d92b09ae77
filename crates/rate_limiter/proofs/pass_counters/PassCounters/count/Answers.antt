use Rattle.std.proofs.Common.{◌≡◌, [], sym, subst}
use Rattle.counter_directory.specs.Passes.{knows}
use Rattle.window_keys.specs.Counter.{counter_of}
use Rattle.rate_limiter.specs.Asked.{ReadyAt, known_for}
use Rattle.rate_limiter.specs.Counted.{IsCounted, HaveRisen}
use Rattle.rate_limiter.specs.Counters.{CountersView}
use Rattle.rate_limiter.specs.Known.{key_of}
use Rattle.rate_limiter.specs.Names.{name_under, name_keys}
use Rattle.rate_limiter.specs.Used.{HasUsed}
use Rattle.rate_limiter.proofs.Using.{uses_kept, uses_limited}
use Rattle.rate_limiter.proofs.CountedCounters.{at_spot, at_seen, after_counted, risen_counted, is_counted}
use Rattle.rate_limiter.proofs.pass_counters.PassCounters.count.Goals as goal

pub count_at-count-requires-clause-cell : goal.count_at-count-requires-clause-cell
count_at-count-requires-clause-cell g c =
    let cells = g.N.CellNaming.setup.cells in
    let claims = (knows c.self.inside.claims).known in
    let r = c.args.request.now in
    let d = c.args.descriptor.now in
    let a = c.args.asked.now in
    let v = c.self.inside.cells in
    let es = c.self.inside.known in
    let ready = subst (λ (x : CountersView). ReadyAt cells x.claims.claims.known r x.cells d a.found a.hits a.known) (sym c.self.view_is) c.requires.ready.spot in
    let known = subst (λ (x : CountersView). a.known ≡ known_for r x.cells.moment x.known d a.found) (sym c.self.view_is) c.requires.known in
    (at_spot cells claims r d a.found a.hits a.known c.in-Limited.limit c.in-Limited.unit _ _ c.in-Limited.is c.in-Some.before c.in-Some.is v es c.self.inside.looks c.self.invariant
    ready known).there

pub count_at-count-requires-clause-pin : goal.count_at-count-requires-clause-pin
count_at-count-requires-clause-pin g c over =
    let cells = g.N.CellNaming.setup.cells in
    let claims = (knows c.self.inside.claims).known in
    let r = c.args.request.now in
    let d = c.args.descriptor.now in
    let a = c.args.asked.now in
    let v = c.self.inside.cells in
    let es = c.self.inside.known in
    let ready = subst (λ (x : CountersView). ReadyAt cells x.claims.claims.known r x.cells d a.found a.hits a.known) (sym c.self.view_is) c.requires.ready.spot in
    let known = subst (λ (x : CountersView). a.known ≡ known_for r x.cells.moment x.known d a.found) (sym c.self.view_is) c.requires.known in
    ((at_spot cells claims r d a.found a.hits a.known c.in-Limited.limit c.in-Limited.unit _ _ c.in-Limited.is c.in-Some.before c.in-Some.is v es c.self.inside.looks c.self.invariant
    ready known).pinned over).held

pub count_at-count-requires-clause-seen : goal.count_at-count-requires-clause-seen
count_at-count-requires-clause-seen g c =
    let cells = g.N.CellNaming.setup.cells in
    let claims = (knows c.self.inside.claims).known in
    let r = c.args.request.now in
    let d = c.args.descriptor.now in
    let a = c.args.asked.now in
    let v = c.self.inside.cells in
    let es = c.self.inside.known in
    let ready = subst (λ (x : CountersView). ReadyAt cells x.claims.claims.known r x.cells d a.found a.hits a.known) (sym c.self.view_is) c.requires.ready.spot in
    let known = subst (λ (x : CountersView). a.known ≡ known_for r x.cells.moment x.known d a.found) (sym c.self.view_is) c.requires.known in
    at_seen cells claims r d a.found a.hits a.known c.in-Limited.limit c.in-Limited.unit _ _ c.in-Limited.is c.in-Some.before c.in-Some.is v es c.self.inside.looks c.self.invariant
    ready known

pub invariant_of-self : goal.invariant_of-self
invariant_of-self g c =
    let cells = g.N.CellNaming.setup.cells in
    let claims = (knows c.self.inside.claims).known in
    let r = c.args.request.now in
    let d = c.args.descriptor.now in
    let a = c.args.asked.now in
    let v = c.self.inside.cells in
    let es = c.self.inside.known in
    let ready = subst (λ (x : CountersView). ReadyAt cells x.claims.claims.known r x.cells d a.found a.hits a.known) (sym c.self.view_is) c.requires.ready.spot in
    let known = subst (λ (x : CountersView). a.known ≡ known_for r x.cells.moment x.known d a.found) (sym c.self.view_is) c.requires.known in
    after_counted cells claims r d a.found a.hits a.known c.in-Limited.limit c.in-Limited.unit _ _ c.in-Limited.is c.in-Some.before c.in-Some.is v es c.self.inside.looks c.self.invariant
    ready known c.count_at-count.new.pass c.count_at-count.result c.count_at-count.ensures.done c.count_at-count.ensures.over c.value_after-value.result c.value_after-value.ensures.value
    c.moment-moment.result c.moment-moment.ensures c.note_value-is_noted.new.known c.note_value-is_noted.result c.note_value-is_noted.ensures.kept
    c.note_value-is_noted.ensures.noted c.count_at-count.new.looks c.count_at-count.ensures.looks

pub returns-clause-risen : goal.returns-clause-risen
returns-clause-risen g c =
    let cells = g.N.CellNaming.setup.cells in
    let claims = (knows c.self.inside.claims).known in
    let r = c.args.request.now in
    let d = c.args.descriptor.now in
    let a = c.args.asked.now in
    let v = c.self.inside.cells in
    let es = c.self.inside.known in
    let ready = subst (λ (x : CountersView). ReadyAt cells x.claims.claims.known r x.cells d a.found a.hits a.known) (sym c.self.view_is) c.requires.ready.spot in
    let known = subst (λ (x : CountersView). a.known ≡ known_for r x.cells.moment x.known d a.found) (sym c.self.view_is) c.requires.known in
    subst (λ (x : CountersView). HaveRisen x.known c.note_value-is_noted.new.known) c.self.view_is (risen_counted cells claims r d a.found a.hits a.known c.in-Limited.limit c.in-Limited.unit _ _ c.in-Limited.is c.in-Some.before c.in-Some.is v es c.self.inside.looks c.self.invariant
    ready known c.count_at-count.new.pass c.count_at-count.result c.count_at-count.ensures.done c.count_at-count.ensures.over c.value_after-value.result c.value_after-value.ensures.value
    c.moment-moment.result c.moment-moment.ensures c.note_value-is_noted.new.known c.note_value-is_noted.result c.note_value-is_noted.ensures.kept
    c.note_value-is_noted.ensures.noted)

pub returns-clause-counted : goal.returns-clause-counted
returns-clause-counted g c =
    let cells = g.N.CellNaming.setup.cells in
    let claims = (knows c.self.inside.claims).known in
    let r = c.args.request.now in
    let d = c.args.descriptor.now in
    let a = c.args.asked.now in
    let v = c.self.inside.cells in
    let es = c.self.inside.known in
    let ready = subst (λ (x : CountersView). ReadyAt cells x.claims.claims.known r x.cells d a.found a.hits a.known) (sym c.self.view_is) c.requires.ready.spot in
    let known = subst (λ (x : CountersView). a.known ≡ known_for r x.cells.moment x.known d a.found) (sym c.self.view_is) c.requires.known in
    subst (λ (x : CountersView). IsCounted x.claims.claims.known r x.cells.moment d a.found c.status_for-status.result x.cells c.count_at-count.new.pass) c.self.view_is
    (is_counted cells claims r d a.found a.hits a.known c.in-Limited.limit c.in-Limited.unit _ _ c.in-Limited.is c.in-Some.before c.in-Some.is v es c.self.inside.looks c.self.invariant
    ready known c.count_at-count.new.pass c.count_at-count.result c.count_at-count.ensures.done c.count_at-count.ensures.over c.value_after-value.result c.value_after-value.ensures.value
    c.moment-moment.result c.moment-moment.ensures c.note_value-is_noted.new.known c.note_value-is_noted.result c.note_value-is_noted.ensures.kept
    c.note_value-is_noted.ensures.noted c.status_for-status.result c.requires.ready.hits c.status_for-status.ensures)

pub returns-clause-uses : goal.returns-clause-uses
returns-clause-uses g c =
    let r = c.args.request.now in
    let d = c.args.descriptor.now in
    let a = c.args.asked.now in
    let es = c.self.inside.known in
    let new = c.note_value-is_noted.new.known in
    let one = uses_kept (key_of (counter_of r.domain d c.in-Limited.unit c.moment-moment.result)) c.in-Some.before.spot c.value_after-value.result es new
    c.note_value-is_noted.result (λ e. (c.note_value-is_noted.ensures.kept e).0) c.note_value-is_noted.ensures.noted in
    subst (λ (x : CountersView). HasUsed [] (name_keys x.cells.moment (name_under r d a.found)) x.known new) c.self.view_is
    (subst (λ m. HasUsed [] (name_keys m (name_under r d a.found)) es new) c.moment-moment.ensures
    (uses_limited r d a.found c.in-Limited.limit c.in-Limited.unit _ _ c.in-Limited.is c.moment-moment.result es new one))
