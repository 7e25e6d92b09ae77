use Rattle.std.proofs.Common.{◌∙◌}
use Rattle.run_audit.proofs.Numbers.{among_keys}
use Rattle.run_audit.proofs.bound.has_counter.Goals as goal

pub returns : goal.returns
returns c = c.contains.ensures ∙ among_keys c.args.counters.now.keys c.args.counter.now
