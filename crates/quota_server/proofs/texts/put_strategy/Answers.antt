use Rattle.quota_stream.proofs.Putting.{three_put}
use Rattle.quota_server.specs.Texts.{strategy_text}
use Rattle.quota_server.proofs.texts.put_strategy.Goals as goal

pub returns : goal.returns
unfolding strategy_text
returns c = three_put _ _ _ _ _ _ _ c.in_ok-push_str.ensures.bytes c.in_ok-put_limit.ensures c.in_ok-push_str-2.ensures.bytes
