use Rattle.std.proofs.Common.{◌≡◌, ◌++◌}
use Rattle.crossbeam_channel.specs.Claims.{view, IsSeatAt}
use Rattle.crossbeam_channel.specs.Ends.{sends_on}
use Rattle.link_handover.proofs.Closing.{Stands}
use Rattle.link_handover.proofs.handover.Handover.close.Given as goal

abbrev pub invariant-loop-take : goal.invariant-loop-take
invariant-loop-take g l = record {
  here : IsSeatAt (sends_on l.fn.self.sender) l.pass;
  whole : l.yielded ++ l.take-iterator.rest.items ≡ l.fn.takes.items;
  stands : Stands (view l.fn.put.pass) l.yielded (view l.pass);
}
