use Rattle.std.proofs.Common.{sym, ◌∙◌}
use Rattle.run_audit.proofs.Tests.{false_true}
use Rattle.run_audit.proofs.by_end.ends_for_refusals.Goals as goal

pub returns-then-not-full : goal.returns-then-not-full
returns-then-not-full c = λ k d within lacks. absurd (false_true (sym (c.some_full-full.ensures c.if-not-full.true k d within) ∙ lacks))
