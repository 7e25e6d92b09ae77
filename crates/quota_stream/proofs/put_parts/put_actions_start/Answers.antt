use Rattle.quota_stream.specs.Texts.{actions_start}
use Rattle.quota_stream.proofs.Putting.{three_put}
use Rattle.quota_stream.proofs.put_parts.put_actions_start.Goals as goal

pub returns : goal.returns
unfolding actions_start
returns c = three_put _ _ _ _ _ _ _ c.in_ok-push_str.ensures.bytes c.in_ok-put_answers.ensures c.in_ok-push_str-2.ensures.bytes
