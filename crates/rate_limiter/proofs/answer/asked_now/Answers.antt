use Rattle.rate_limiter.specs.Names.{name_under, name_keys}
use Rattle.rate_limiter.proofs.Using.{uses_asked}
use Rattle.rate_limiter.proofs.answer.asked_now.Goals as goal

pub returns-clause-uses : goal.returns-clause-uses
returns-clause-uses g c =
    let v = c.args.counters.now in
    uses_asked (name_keys v.cells.moment (name_under c.args.request.now c.args.descriptor.now c.args.asked.now.found)) v.known c.known_for-known.new.counters.known
    c.known_for-known.ensures.order
