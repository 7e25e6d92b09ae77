use Rattle.std.proofs.Common.{◌≡◌}
use Rattle.crossbeam_channel.specs.Claims.{view, IsSeatAt}
use Rattle.crossbeam_channel.specs.Ends.{sends_on}
use Rattle.link_handover.proofs.handover.Handover.send.Given as goal

abbrev pub invariant-loop : goal.invariant-loop
invariant-loop g l = record {
  message : l.message ≡ l.fn.message;
  pass : IsSeatAt (sends_on l.fn.self.sender) l.pass;
  same : view l.pass ≡ view l.fn.pass;
}
