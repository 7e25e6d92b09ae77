use Rattle.std.proofs.Common.{◌∙◌, ◌==◌, ℕ, ap}
use Rattle.rate_types.specs.Sums.{total, one_if}
use Rattle.rate_limiter.specs.Asked.{founds}
use Rattle.rate_limiter.proofs.Counting.{each_same}
use Rattle.rate_limiter.proofs.AskedCounters.{ready_of, asked_known}
use Rattle.rate_limiter.proofs.limiter.Limiter.answer.Goals as goal

pub count_each-requires-clause-ready : goal.count_each-requires-clause-ready
count_each-requires-clause-ready g c =
    ready_of g.N.CellNaming.setup.cells c.args.request.now c.args.counters.now c.args.asked.now c.requires.asked c.args.held.now c.requires.held

pub count_each-requires-clause-known : goal.count_each-requires-clause-known
count_each-requires-clause-known g c = asked_known g.N.CellNaming.setup.cells c.args.request.now c.args.counters.now c.args.asked.now c.requires.asked

pub give_back-requires : goal.give_back-requires
give_back-requires g c =
    let v = c.args.counters.now in
    let w = c.count_each.new.counters in
    let same = each_same v.claims.claims.known c.args.request.now v.cells.moment c.args.request.now.descriptors (founds c.args.asked.now) c.count_each.new.statuses.items
    v.cells w.cells c.count_each.ensures.counted in
    let holds = c.requires.held.holds in
    record { holds = record { within = holds.within; pins = λ k. ap (total (λ (p : ℕ × ℕ). one_if (p.0 == k))) same.good ∙ holds.pins k } }
