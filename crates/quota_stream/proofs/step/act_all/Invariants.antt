use Rattle.std.proofs.Common.{◌≡◌, ◌++◌, drop}
use Rattle.quota_stream.specs.Outcomes.{after_actions, answers_of}
use Rattle.quota_stream.proofs.step.act_all.Given as goal

abbrev pub invariant-actions : goal.invariant-actions
invariant-actions l = record {
  stream : after_actions l.buckets (drop l.action-index l.actions) ≡ after_actions l.initial.buckets l.actions;
  answers : l.answers.items ++ answers_of l.buckets (drop l.action-index l.actions) ≡ answers_of l.initial.buckets l.actions;
}
