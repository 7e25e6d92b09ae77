-- Workers may go to other threads, which may share what a run shares.
use denote.RattleType.{RattleType}
use denote.Param.Send.{IsSend, IsSync, sendable}
use denote.Param.SendFields.{declared_send, declared_sync}
use denote.Ref.{NamedLft}
use denote.Struct.Tuple.{TupleAt}
use mir.Syntax.{Sym}
use mathlib.Core.List.{[], ◌∷◌}
use Rattle.rate_types.proofs.seconds.Seconds.TheSendSync as seconds
use Rattle.counter_cells.specs.declared.naming.CellNaming.{Ghosts}
use Rattle.rate_limiter.proofs.Sent.{pass_send, limiter_sync}
use Rattle.line_numbers.proofs.batch_drawer.BatchDrawer.TheSendSync as drawer
use Rattle.script_run.proofs.journal.Journal.TheSendSync as journal
use Rattle.line_numbers.proofs.batches.Batches.TheSendSync as numbers
use Rattle.rule_stats.proofs.tally.Tally.TheSendSync as tally
use Rattle.worker_run.specs.contracts.working.Shared as shared
use Rattle.worker_run.specs.contracts.working.Worker as worker
use Rattle.worker_run.specs.contracts.working.Worked as worked

-- a worker may go to another thread
pub worker_send : (N : RattleType) (naming : Ghosts N.Denot) → IsSend (worker.the_row N naming)
worker_send N naming = declared_send (worker.the_type N naming) (search sendable, (pass_send N naming, (drawer.the_send, tt)))

-- and come back
pub worked_send : (N : RattleType) (naming : Ghosts N.Denot) → IsSend (worked.the_row N naming)
worked_send N naming = declared_send (worked.the_type N naming) (pass_send N naming, (drawer.the_send, (journal.the_send, (tally.the_send, tt))))

-- threads may share what a run shares
pub shared_sync : (l : NamedLft) (N L G : RattleType) (naming : Ghosts N.Denot) → IsSync L → IsSync G → IsSync (shared.the_row l N L G naming)
shared_sync l N L G naming x y = declared_sync (shared.the_type l N L G naming) (
  search (sendable, limiter_sync) depth 12,
  (
    search (sendable, numbers.the_sync) depth 12,
    (
      search (sendable, x) depth 12,
      (search (sendable, y) depth 12, (seconds.the_sync, (search sendable, (search sendable, tt)))),
    ),
  ),
)

-- what a closure captures
pub captured_sync : (name : Sym) (A B C : RattleType) → IsSync A → IsSync B → IsSync C → IsSync (TupleAt name (A ∷ B ∷ C ∷ []))
captured_sync name A B C a b c = search sendable depth 20
