use Rattle.quota_stream.proofs.Putting.{three_put}
use Rattle.quota_server.specs.Texts.{assignment_end}
use Rattle.quota_server.proofs.texts.put_assignment_end.Goals as goal

pub returns : goal.returns
unfolding assignment_end
returns c = three_put _ _ _ _ _ _ _ c.in_ok-push_str.ensures.bytes c.in_ok-put_assignment.ensures c.in_ok-push_str-2.ensures.bytes
