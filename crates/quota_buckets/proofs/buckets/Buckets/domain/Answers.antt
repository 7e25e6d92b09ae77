use Rattle.std.proofs.Common.{sym, ap, ◌∙◌}
use Rattle.quota_buckets.proofs.buckets.Buckets.domain.Goals as goal

pub returns : goal.returns
returns c = rw (← c.self.view_is) (c.domain.ensures ∙ ap (λ s. s.domain) (sym c.self.invariant.settings_are))
