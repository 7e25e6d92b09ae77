use Rattle.std.proofs.Common.{arith}
use Rattle.std.proofs.lemmas.Grind.{common_steps}
use Rattle.quota_bucket.proofs.Told.{report_told}
use Rattle.quota_bucket.proofs.bucket_state.BucketState.advance_report.Goals as goal

pub returns-then-outlives-clause-history : goal.returns-then-outlives-clause-history
returns-then-outlives-clause-history c =
    λ history of from. report_told c.args.rules.now history c.args.advance.now c.args.self.now of from _ (grind (arith, common_steps))

pub returns-else-advance-clause-history : goal.returns-else-advance-clause-history
returns-else-advance-clause-history c =
    λ history of from. report_told c.args.rules.now history c.args.advance.now c.args.self.now of from _ (grind (arith, common_steps))
