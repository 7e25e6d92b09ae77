use mir.Syntax.{named}
use denote.Param.{param}
use denote.Param.Send.{IsSync, sendable, shr_sync}
use denote.Struct.Field.{shr_ref_field}
use Rattle.std.specs.Prelude.{codes}
use Rattle.std.specs.contracts.alloc.Global as heap
use Rattle.worker_run.specs.contracts.working.Shared as shared
use Rattle.worker_run.proofs.Crossing.{worker_send, worked_send, shared_sync, captured_sync}
use Rattle.worker_run.proofs.running.work_each.Goals as goal

pub map_vec-requires-send-J : goal.map_vec-requires-send-J
map_vec-requires-send-J g c κs within = search (sendable, worker_send) depth 30

pub map_vec-requires-send-X : goal.map_vec-requires-send-X
map_vec-requires-send-X g c κs within = search (sendable, worked_send) depth 30

-- the closure captures three references: the runtime, the allocator, and what the run shares
pub map_vec-requires-sync-F : goal.map_vec-requires-sync-F
map_vec-requires-sync-F g c κs within =
    let runtime : IsSync (param 3 g.row.R) = c.type_bounds.sync-R in
    let lines : IsSync (param 1 g.row.L) = c.type_bounds.sync-L in
    let gate : IsSync (param 2 g.row.G) = c.type_bounds.sync-G in
    let allocator : IsSync heap.the_row = search sendable depth 20 in
    record {
      shared = (captured_sync (codes "worker_run::running::fn::work_each::map_vec+Self")
          ((shr_ref_field (record { mir = named 7; lft = κs.1.1.1.1.1.1.1.0 }) (param 3 g.row.R) tt).row)
          ((shr_ref_field (record { mir = named 8; lft = κs.1.1.1.1.1.1.1.1.0 }) heap.the_row tt).row)
          ((shr_ref_field (record { mir = named 9; lft = κs.1.1.1.1.1.1.1.1.1.0 })
          (shared.the_row (record { mir = named 10; lft = κs.1.1.1.1.1.1.1.1.1.1.0 }) (param 0 g.row.N) (param 1 g.row.L) (param 2 g.row.G) g.N.CellNaming) tt).row)
          (shr_sync _ _ _ runtime) (shr_sync _ _ _ allocator) (shr_sync _ _ _ (shared_sync _ _ _ _ _ lines gate))).shared;
    }
