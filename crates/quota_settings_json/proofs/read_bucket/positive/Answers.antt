use Rattle.std.proofs.Common.{unwrap_or, sym, ap, ◌∙◌}
use Rattle.quota_settings_json.specs.ReadSettings.{positive}
use Rattle.quota_settings_json.proofs.Intervals.{positive_is}
use Rattle.quota_settings_json.proofs.read_bucket.positive.Goals as goal

pub returns-in-Some : goal.returns-in-Some
returns-in-Some c =
    positive_is c.new.result c.get.result c.new.ensures ∙ ap positive (c.get.ensures.value ∙ sym (ap (λ interval. unwrap_or interval 0) c.in-Some.is))
