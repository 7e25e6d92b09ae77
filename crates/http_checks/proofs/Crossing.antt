-- A pass with its limiter may go to another thread.
use denote.RattleType.{RattleType}
use denote.Param.Send.{IsSend, sendable, view_send}
use denote.Param.SendFields.{declared_send}
use denote.Ref.{NamedLft}
use Rattle.counter_cells.specs.declared.naming.CellNaming.{Ghosts}
use Rattle.rate_limiter.proofs.Sent.{pass_send, limiter_sync}
use Rattle.http_checks.specs.contracts.pass_checks.PassChecks as checks
use Rattle.http_checks.specs.contracts.pass_checks.PassChecks.TheInside as checks_inside

pub pass_checks_send : (l : NamedLft) (N : RattleType) (naming : Ghosts N.Denot) → IsSend (checks.the_row l N naming)
pass_checks_send l N naming = view_send (checks_inside.the_row l N naming) _ _ _ _
    (declared_send (checks_inside.the_type l N naming) (search (sendable, limiter_sync) depth 12, (pass_send N naming, tt)))
