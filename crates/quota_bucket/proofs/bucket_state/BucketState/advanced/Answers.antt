use Rattle.std.proofs.Common.{◌≡◌, ◌∙◌, ◌||◌, if◌then◌else◌}
use Rattle.quota_bucket.specs.History.{is_gone, begins_by_expiry}
use Rattle.quota_bucket.specs.declared.meter.Meter.TheVariants.{Fresh}
use Rattle.quota_bucket.proofs.Told.{advance_told, sent_is, not_sent_is}
use Rattle.quota_bucket.proofs.bucket_state.BucketState.advanced.Goals.{then-begins_by_expiry, else-begins_by_expiry, then-begins, else-begins}
use Rattle.quota_bucket.proofs.bucket_state.BucketState.advanced.Goals as goal

pub returns-in-Some-clause-history : goal.returns-in-Some-clause-history
returns-in-Some-clause-history c =
    let begins : c.if-begins_by_expiry.begins
    ≡ (begins_by_expiry c.args.rules.now c.args.self.now.phase c.args.advance.now.to || is_gone c.after_advance-phase.result) =
    elim c.if-begins_by_expiry.branch [
      | then-begins_by_expiry w ↦ rw (← c.begins_by_expiry.ensures, w.if-begins_by_expiry.true) (w.begins-is ∙ w.if-begins_by_expiry.true)
      | else-begins_by_expiry w ↦ rw (← c.begins_by_expiry.ensures, w.if-begins_by_expiry.false) (w.begins-is ∙ w.is_gone-begins.ensures)
    ] in
    let meter : c.if-begins.meter ≡ (if (begins_by_expiry c.args.rules.now c.args.self.now.phase c.args.advance.now.to
    || is_gone c.after_advance-phase.result) then Fresh else c.args.self.now.meter) =
    rw (← begins) (elim c.if-begins.branch [
      | then-begins w ↦ rw w.if-begins.true w.meter-is
      | else-begins w ↦ rw w.if-begins.false w.meter-is
    ]) in
    λ history of from. advance_told c.args.rules.now history c.args.advance.now c.args.self.now of from _
    (sent_is c.args.rules.now c.args.advance.now c.args.self.now c.in-Some.usage c.after_advance-phase.result c.if-begins.meter
    c.in-Some.ensures.report c.after_advance-phase.ensures meter)

pub returns-in-None-clause-history : goal.returns-in-None-clause-history
returns-in-None-clause-history c =
    let begins : c.if-begins_by_expiry.begins
    ≡ (begins_by_expiry c.args.rules.now c.args.self.now.phase c.args.advance.now.to || is_gone c.after_advance-phase.result) =
    elim c.if-begins_by_expiry.branch [
      | then-begins_by_expiry w ↦ rw (← c.begins_by_expiry.ensures, w.if-begins_by_expiry.true) (w.begins-is ∙ w.if-begins_by_expiry.true)
      | else-begins_by_expiry w ↦ rw (← c.begins_by_expiry.ensures, w.if-begins_by_expiry.false) (w.begins-is ∙ w.is_gone-begins.ensures)
    ] in
    let meter : c.if-begins.meter ≡ (if (begins_by_expiry c.args.rules.now c.args.self.now.phase c.args.advance.now.to
    || is_gone c.after_advance-phase.result) then Fresh else c.args.self.now.meter) =
    rw (← begins) (elim c.if-begins.branch [
      | then-begins w ↦ rw w.if-begins.true w.meter-is
      | else-begins w ↦ rw w.if-begins.false w.meter-is
    ]) in
    λ history of from. advance_told c.args.rules.now history c.args.advance.now c.args.self.now of from _
    (not_sent_is c.args.rules.now c.args.advance.now c.args.self.now c.after_advance-phase.result c.if-begins.meter
    c.in-None.ensures.report c.after_advance-phase.ensures meter)
