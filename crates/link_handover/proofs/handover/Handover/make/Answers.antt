use Rattle.link_handover.proofs.Steps.{begins}
use Rattle.link_handover.proofs.handover.Handover.make.Goals as goal

pub bounded_with-requires-clause-rule : goal.bounded_with-requires-clause-rule
bounded_with-requires-clause-rule g c = begins
