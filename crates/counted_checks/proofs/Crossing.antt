-- Checks whose statuses are noted may go to another thread where the checks may.
use denote.RattleType.{RattleType}
use denote.Param.Send.{IsSend, sendable, view_send}
use denote.Param.SendFields.{declared_send}
use denote.Ref.{NamedLft}
use Rattle.std.proofs.Crossing.{crosses}
use Rattle.shared_stats.proofs.shared_stats.SharedStats.TheSendSync as shared
use Rattle.shared_stats.proofs.pass.StatsPass.TheSendSync as pass
use Rattle.http_endpoint.specs.declared.checks.Checks.{Ghosts}
use Rattle.counted_checks.specs.contracts.pass_stats.PassStats as stats
use Rattle.counted_checks.specs.contracts.pass_stats.PassStats.TheInside as stats_inside
use Rattle.counted_checks.specs.contracts.counted_checks.CountedChecks as counted
use Rattle.counted_checks.specs.contracts.counted_checks.CountedChecks.TheInside as counted_inside

stats_send : (l : NamedLft) → IsSend (stats.the_row l)
stats_send l = view_send (stats_inside.the_row l) _ _ _ _
    (declared_send (stats_inside.the_type l) (search (sendable, crosses, shared.the_sync) depth 12, (search (sendable, crosses, pass.the_send) depth 12, (search (sendable, crosses) depth 12, tt))))

pub counted_checks_send : (l : NamedLft) (K : RattleType) (c : Ghosts K.Denot) → IsSend K → IsSend (counted.the_row l K c)
counted_checks_send l K c k = view_send (counted_inside.the_row l K c) _ _ _ _
    (declared_send (counted_inside.the_type l K c) (search (sendable, k) depth 12, (stats_send l, tt)))
