use Rattle.std.proofs.Common.{rules}
use Rattle.quota_bucket.proofs.Told.{request_told, allowance_told}
use Rattle.quota_bucket.proofs.bucket_state.BucketState.asked.Goals as goal

pub returns-then-is_gone-clause-history : goal.returns-then-is_gone-clause-history
returns-then-is_gone-clause-history c =
    λ history of le. request_told c.args.rules.now history c.args.at c.args.up c.args.self.now of le _ (search rules)

pub returns-then-is_gone-clause-allowance : goal.returns-then-is_gone-clause-allowance
returns-then-is_gone-clause-allowance c = λ history order le. allowance_told c.args.rules.now history c.args.at c.args.up order le

pub returns-clause-history : goal.returns-clause-history
returns-clause-history c =
    λ history of le. request_told c.args.rules.now history c.args.at c.args.up c.args.self.now of le _ (search rules)

pub returns-clause-allowance : goal.returns-clause-allowance
returns-clause-allowance c = λ history order le. allowance_told c.args.rules.now history c.args.at c.args.up order le
