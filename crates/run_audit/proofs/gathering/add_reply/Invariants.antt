use Rattle.std.proofs.Common.{◌≡◌, ◌++◌, drop}
use Rattle.run_audit.specs.Shown.{shown_in}
use Rattle.run_audit.proofs.gathering.add_reply.Given as goal

abbrev pub invariant-statuses : goal.invariant-statuses
invariant-statuses l = l.charges.items ++ shown_in l.kind l.request l.moment (drop l.i l.descriptors) (drop l.i l.statuses)
    ≡ l.initial.charges.items ++ shown_in l.kind l.request l.moment l.descriptors l.statuses
