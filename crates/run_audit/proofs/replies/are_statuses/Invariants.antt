use Rattle.std.proofs.Common.{drop}
use Rattle.run_audit.proofs.StatusesBy.{Stand}
use Rattle.run_audit.proofs.replies.are_statuses.Given as goal

abbrev pub invariant-descriptors : goal.invariant-descriptors
invariant-descriptors l = (Stand l.index l.request l.moment (drop l.i l.descriptors) (drop l.i l.statuses) → Stand l.index l.request l.moment l.descriptors l.statuses)
    × (Stand l.index l.request l.moment l.descriptors l.statuses → Stand l.index l.request l.moment (drop l.i l.descriptors) (drop l.i l.statuses))
