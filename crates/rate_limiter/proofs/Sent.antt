-- A pass may go to another thread, and threads may share a limiter.
use Rattle.std.proofs.Crossing.{crosses, Arc-send, Arc-sync}
use denote.RattleType.{RattleType}
use denote.Param.Send.{IsSend, IsSync, view_send, view_sync, sendable}
use denote.Param.SendFields.{declared_send, declared_sync}
use Rattle.rate_types.proofs.text.Text.TheSendSync as text
use Rattle.descriptor_tree.proofs.node.Forest.TheLaws.TheKnot.{send-Forest, sync-Forest}
use Rattle.descriptor_tree.specs.contracts.tree.Tree as tree
use Rattle.descriptor_tree.specs.contracts.config.Config as config
use Rattle.rule_lookup.specs.contracts.index.Index as index
use Rattle.rule_lookup.specs.contracts.index.Index.TheInside as index_inside
use Rattle.rule_lookup.proofs.roots.Roots.TheSendSync as roots
use Rattle.config_versions.proofs.pass.VersionPass.TheSendSync as version_pass
use Rattle.config_versions.proofs.versions.Versions.TheSendSync as versions
use Rattle.counter_cells.specs.declared.naming.CellNaming.{Ghosts}
use Rattle.counter_cells.proofs.cells.Cells.TheSendSync as cells
use Rattle.counter_directory.proofs.directory.Directory.TheSendSync as directory
use Rattle.rate_limiter.proofs.pass_counters.PassCounters.TheSendSync as pass_counters
use Rattle.rate_limiter.proofs.scratch.Scratch.TheSendSync as scratch
use Rattle.rate_limiter.specs.contracts.pass.Pass as pass
use Rattle.rate_limiter.specs.contracts.pass.Pass.TheInside as pass_inside
use Rattle.rate_limiter.specs.contracts.limiter.Limiter as limiter
use Rattle.rate_limiter.specs.contracts.limiter.Limiter.TheInside as limiter_inside

tree_send : IsSend tree.the_row
tree_send = search (sendable, crosses, send-Forest, text.the_send) depth 30

tree_sync : IsSync tree.the_row
tree_sync = search (sendable, crosses, sync-Forest, text.the_sync) depth 30

pub config_send : IsSend config.the_row
config_send = search (sendable, crosses, tree_send) depth 30

pub config_sync : IsSync config.the_row
config_sync = search (sendable, crosses, tree_sync) depth 30

pub index_send : IsSend index.the_row
index_send = view_send index_inside.the_row _ _ _ _ (declared_send index_inside.the_type
    (Arc-send _ config_send config_sync, (roots.the_send, tt)))

pub index_sync : IsSync index.the_row
index_sync = view_sync index_inside.the_row _ _ _ _ (declared_sync index_inside.the_type
    (Arc-sync _ config_send config_sync, (roots.the_sync, tt)))

-- a pass may go to another thread
pub pass_send : (N : RattleType) (naming : Ghosts N.Denot) → IsSend (pass.the_row N naming)
pass_send N naming = view_send (pass_inside.the_row N naming) _ _ _ _ (declared_send (pass_inside.the_type N naming) (
  search (version_pass.the_send, index_send, index_sync),
  (
    pass_counters.the_send N naming,
    (search sendable, (search (sendable, crosses, scratch.the_send), tt)),
  ),
))

-- threads may share a limiter
pub limiter_sync : (N : RattleType) (naming : Ghosts N.Denot) → IsSync (limiter.the_row N naming)
limiter_sync N naming = view_sync (limiter_inside.the_row N naming) _ _ _ _ (declared_sync (limiter_inside.the_type N naming)
    (cells.the_sync N naming, (directory.the_sync N naming, (search (versions.the_sync, index_send, index_sync), (search sendable, tt)))))
