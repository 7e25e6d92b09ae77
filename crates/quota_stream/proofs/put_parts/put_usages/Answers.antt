use Rattle.quota_stream.specs.Texts.{usages_text}
use Rattle.quota_stream.proofs.Putting.{three_put}
use Rattle.quota_stream.proofs.put_parts.put_usages.Goals as goal

pub returns : goal.returns
unfolding usages_text
returns c = three_put _ _ _ _ _ _ _ c.in_ok-push_str.ensures.bytes c.in_ok-put_usage.ensures c.in_ok-push_str-2.ensures.bytes
