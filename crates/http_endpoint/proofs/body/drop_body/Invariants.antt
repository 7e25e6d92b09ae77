use Rattle.std.proofs.Common.{◌≡◌, ◌+◌, List, length}
use Rattle.rate_io.specs.Events.{Event, given}
use Rattle.http_endpoint.specs.Steps.{Drew}
use Rattle.http_endpoint.proofs.body.drop_body.Given as goal

abbrev pub invariant-turns : goal.invariant-turns
invariant-turns g l = (events : List Event) × Drew l.unread (g.L.Link.state l.fn.link) (g.L.Link.state l.link) events
    × (length l.unread + length (given events) + l.left ≡ l.total)

abbrev pub decreases-turns : goal.decreases-turns
decreases-turns g l = l.left
