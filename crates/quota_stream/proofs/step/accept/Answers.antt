use Rattle.std.proofs.Common.{◌≡◌, ◌++◌, List, ℕ, string_bytes, sym, ap, ◌∙◌}
use Rattle.quota_stream.specs.Texts.{report_line}
use Rattle.quota_stream.proofs.Putting.{two_put}
use Rattle.quota_stream.proofs.Steps.{on_ok, texts_behind}
use Rattle.quota_stream.proofs.step.accept.Goals as goal

pub returns-clause-written : goal.returns-clause-written
returns-clause-written c =
    let domain : c.as_str.result.now ≡ c.args.buckets.now.settings.domain = cc in
    on_ok c.happen.result _ _ c.happen.ensures.written
    (λ written. two_put _ _ _ _ _ (rw domain at c.in_ok-put_reports.ensures) written
    ∙ ap (λ (l : List ℕ). string_bytes c.args.out.now ++ l)
    (sym (texts_behind (report_line c.args.number.stream c.args.buckets.now.settings.domain) c.args.reports.now _)))
