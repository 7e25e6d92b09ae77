use Rattle.std.proofs.Common.{◌≡◌, ◌∙◌, sym, refl}
use Rattle.quota_bucket.specs.Due.{due}
use Rattle.quota_bucket.specs.QuietLaws.{quiet, due_stays}
use Rattle.quota_bucket.proofs.bucket_state.BucketState.due.Goals as goal

pub returns-clause-quiet : goal.returns-clause-quiet
returns-clause-quiet c =
    let is : c.earlier.result ≡ due c.args.rules.now c.args.self.now c.args.time = c.earlier.ensures ∙ rw (c.phase_due.ensures, c.report_due.ensures) refl in
    λ advance from lt later there. quiet c.args.rules.now c.args.self.now advance there lt (rw (from, ← is) later)

pub returns-clause-stays : goal.returns-clause-stays
returns-clause-stays c =
    let is : c.earlier.result ≡ due c.args.rules.now c.args.self.now c.args.time = c.earlier.ensures ∙ rw (c.phase_due.ensures, c.report_due.ensures) refl in
    λ at le lt later. due_stays c.args.rules.now c.args.self.now c.args.time at le lt (rw (← is) later) ∙ sym is
