use Rattle.std.proofs.Common.{◌≡◌, ◌∙◌, ap, rules}
use Rattle.quota_bucket.specs.Machine.{assigned}
use Rattle.quota_bucket.specs.declared.bucket_state.BucketState.{BucketState}
use Rattle.quota_bucket.specs.StateLaws.{assigned-state_after}
use Rattle.quota_bucket.proofs.bucket_state.BucketState.assigned.Goals as goal

pub returns-clause-history : goal.returns-clause-history
returns-clause-history c =
    let later : BucketState = record {
      first = c.args.self.now.first;
      reported = c.args.self.now.reported;
      phase = c.after_assignment.result;
      meter = c.if-begins.result;
      allowed = c.args.self.now.allowed;
      denied = c.args.self.now.denied;
    } in
    let step : later ≡ assigned c.args.at c.args.lifetime c.args.strategy c.args.self.now = search rules in
    λ of history is. step ∙ ap (assigned c.args.at c.args.lifetime c.args.strategy) is.is
    ∙ assigned-state_after of history c.args.at c.args.lifetime c.args.strategy
