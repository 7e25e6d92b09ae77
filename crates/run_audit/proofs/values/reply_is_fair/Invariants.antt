use Rattle.std.proofs.Common.{Bool, drop}
use Rattle.run_audit.specs.Known.{Values}
use Rattle.run_audit.proofs.Learning.{Replies}
use Rattle.run_audit.proofs.values.reply_is_fair.Given as goal

abbrev pub invariant-statuses : goal.invariant-statuses
invariant-statuses l = (e : Values) (b : Bool)
    → Replies l.values.entries e l.worker b l.request l.moment (drop l.i l.descriptors) (drop l.i l.statuses)
    → Replies l.initial.values.entries e l.worker b l.request l.moment l.descriptors l.statuses
