use Rattle.std.proofs.Common.{◌≡◌, ◌≤◌, ◌-◌, ◌++◌, List, length, vec_len, vec_capacity}
use Rattle.rate_io.specs.Events.{Event, given}
use Rattle.http_endpoint.specs.Steps.{Drew}
use Rattle.http_endpoint.proofs.body.keep_body.Given as goal

abbrev pub invariant-turns : goal.invariant-turns
invariant-turns g l = record {
  taken : (events : List Event) × Drew l.fn.kept.items (g.L.Link.state l.fn.link) (g.L.Link.state l.link) events × (l.kept.items ≡ l.fn.kept.items ++ given events);
  within : length l.kept.items ≤ l.total;
  room : l.total ≤ vec_capacity l.kept;
}

abbrev pub decreases-turns : goal.decreases-turns
decreases-turns g l = l.total - vec_len l.kept
