use Rattle.std.proofs.Common.{◌<◌, ◌-◌}
use Rattle.http_endpoint.specs.Steps.{Goes}
use Rattle.http_endpoint.proofs.serve.serve_link.Given as goal

abbrev pub invariant-answers : goal.invariant-answers
invariant-answers g l = record {
  goes : Goes g.K.Checks.answers l.fn.checks l.checks (g.N.Link.state l.fn.link) (g.N.Link.state l.link) l.answers l.inbox;
  few : l.answers < 1024;
}

abbrev pub decreases-answers : goal.decreases-answers
decreases-answers g l = 1024 - l.answers
