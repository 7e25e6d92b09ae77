use Rattle.quota_stream.proofs.Putting.{three_put}
use Rattle.quota_server.specs.Texts.{action_text}
use Rattle.quota_server.proofs.texts.put_action.Goals as goal

pub returns-in_ok-push_str-in-NoPool-2 : goal.returns-in_ok-push_str-in-NoPool-2
unfolding action_text
returns-in_ok-push_str-in-NoPool-2 c =
    rw c.in-NoPool.is (three_put _ _ _ _ _ _ _ c.in_ok-push_str-in-NoPool.ensures.bytes c.in_ok-put_bucket_member-in-NoPool.ensures
    c.in_ok-push_str-in-NoPool-2.ensures.bytes)
