use Rattle.std.proofs.Common.{map}
use Rattle.script_run.specs.Views.{line_view}
use Rattle.run_audit.specs.VersionAt.{config_at}
use Rattle.run_audit.proofs.EndsBy.{are_ends}
use Rattle.run_audit.proofs.by_end.by_end.Goals as goal

pub returns : goal.returns
returns c =
    are_ends (config_at c.args.configs.now) (map line_view c.args.lines.now) c.args.records.now c.in_ok-counters.counters.entries
    c.in_ok-ends.ends.items c.in_ok-ends.ensures.ends c.in_ok-ends.ensures.ordered c.in_ok-counters.ensures
