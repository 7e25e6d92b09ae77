use Rattle.std.proofs.Common.{sym, ◌∙◌}
use Rattle.quota_stream.proofs.Feeds.{first_fed, last_unfed}
use Rattle.quota_stream.proofs.output_lines.cut_output_line.Goals as goal

pub returns-in-Some-clause-cut : goal.returns-in-Some-clause-cut
returns-in-Some-clause-cut c =
    rw (c.split_at.ensures.front, c.split_at.ensures.back) (first_fed c.args.bytes.now c.in-Some.at (sym c.line_feed.ensures.at ∙ c.in-Some.is))

pub returns-in-None-clause-cut : goal.returns-in-None-clause-cut
returns-in-None-clause-cut c = last_unfed c.args.bytes.now (sym c.line_feed.ensures.at ∙ c.in-None.is) c.requires
