use Rattle.script_run.specs.Named.{is_among}
use Rattle.run_audit.proofs.Numbers.{just}
use Rattle.run_audit.proofs.refusals.are_so_many.Goals as goal

pub returns : goal.returns
returns c = just (is_among c.args.counters.items) c.in_ok-there.there c.in_ok-there.ensures c.args.number
