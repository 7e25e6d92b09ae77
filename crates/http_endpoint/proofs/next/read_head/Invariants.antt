use Rattle.std.proofs.Common.{◌≡◌, ◌-◌, ◌++◌, List, length}
use Rattle.rate_io.specs.Events.{Event, given}
use Rattle.http_endpoint.specs.Steps.{Drew}
use Rattle.http_endpoint.proofs.next.read_head.Given as goal

abbrev pub invariant-turns : goal.invariant-turns
invariant-turns g l = (events : List Event) × Drew l.fn.inbox (g.L.Link.state l.fn.link) (g.L.Link.state l.link) events × (l.inbox ≡ l.fn.inbox ++ given events)

abbrev pub decreases-turns : goal.decreases-turns
decreases-turns g l = 16384 - length l.inbox
