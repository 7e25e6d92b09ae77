use Rattle.std.proofs.Common.{string_bytes, ap, ◌∙◌}
use Rattle.load_gen.specs.Summary.{counts_line}
use Rattle.load_gen.proofs.Runs.{same_for_each_run}
use Rattle.load_gen.proofs.counts.summary.Goals as goal

pub returns-clause-same : goal.returns-clause-same
returns-clause-same c =
    same_for_each_run c.args.records (string_bytes c.in_ok-text.text) (c.in_ok-text.ensures ∙ ap counts_line c.count_checks-counts.ensures)
