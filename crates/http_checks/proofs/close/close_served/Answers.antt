use Rattle.http_checks.proofs.Versions.{has_closed_versions}
use Rattle.http_checks.proofs.OneVersion.{has_closed}
use Rattle.http_checks.proofs.close.close_served.Goals as goal

pub returns-clause-versions : goal.returns-clause-versions
returns-clause-versions g c =
    let closed = c.in_ok-close.field-0 in
    let told = c.in_ok-close.ensures in
    has_closed_versions g.N.CellNaming.setup.cells c.args.limiter g.N.CellNaming.setup.start c.args.passes.items closed.claims closed.versions closed.moment
    told.claims told.claims_known told.claims_owned told.versions_known told.versions_owned told.ticks told.ledger told.sights

pub returns-clause-checks : goal.returns-clause-checks
returns-clause-checks g c = has_closed g.N.CellNaming.setup.cells c.args.limiter g.N.CellNaming.setup.start c.args.passes.items (returns-clause-versions g c)
