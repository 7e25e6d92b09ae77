use Rattle.quota_stream.proofs.Putting.{three_put}
use Rattle.quota_server.specs.Texts.{unit_end}
use Rattle.quota_server.proofs.texts.put_unit_end.Goals as goal

pub returns : goal.returns
unfolding unit_end
returns c = three_put _ _ _ _ _ _ _ c.in_ok-push_str.ensures.bytes (rw c.name.ensures at c.in_ok-push_str-2.ensures.bytes) c.in_ok-push_str-3.ensures.bytes
