use Rattle.quota_stream.proofs.Putting.{three_put}
use Rattle.quota_server.specs.Texts.{bucket_member}
use Rattle.quota_server.proofs.texts.put_bucket_member.Goals as goal

pub returns : goal.returns
unfolding bucket_member
returns c = three_put _ _ _ _ _ _ _ c.in_ok-push_str.ensures.bytes c.in_ok-put_bucket.ensures c.in_ok-push_str-2.ensures.bytes
