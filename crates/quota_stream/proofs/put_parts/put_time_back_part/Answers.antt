use Rattle.std.proofs.Common.{◌++◌, ◌∷◌, [], List, ℕ, codes, string_bytes, ap, ◌∙◌, append_assoc}
use Rattle.rate_types.specs.Durations.{duration_text}
use Rattle.quota_stream.specs.Texts.{time_back_part}
use Rattle.quota_stream.proofs.Putting.{two_put}
use Rattle.quota_stream.proofs.put_parts.put_time_back_part.Goals as goal

pub returns : goal.returns
unfolding time_back_part
returns c =
    two_put _ _ _ _ _ c.in_ok-put_duration.ensures c.in_ok-push_str.ensures.bytes
    ∙ ap (λ (l : List ℕ). string_bytes c.args.out.now ++ (codes ",\"refused\":{\"at\":\"/at\",\"last\":\"" ++ l))
    (append_assoc (duration_text c.args.last) (34 ∷ []) (codes ",\"number\":39}"))
