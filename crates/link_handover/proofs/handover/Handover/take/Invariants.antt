use Rattle.std.proofs.Common.{◌≡◌}
use Rattle.crossbeam_channel.specs.Claims.{view}
use Rattle.link_handover.specs.Passes.{TakesFrom}
use Rattle.link_handover.proofs.handover.Handover.take.Given as goal

abbrev pub invariant-loop : goal.invariant-loop
invariant-loop g l = record {
  pass : TakesFrom l.self l.pass;
  same : view l.pass.pass ≡ view l.fn.pass.pass;
}
