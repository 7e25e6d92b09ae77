use Rattle.std.proofs.Common.{refl, sym}
use Rattle.script_run.specs.Named.{is_among}
use Rattle.run_audit.proofs.Numbers.{just}
use Rattle.run_audit.proofs.refusals.are_just.Goals as goal

pub returns : goal.returns
returns c =
    just (is_among c.args.counters.now.keys) c.len-there.result
    (record { counters = c.args.counters.now.keys; differ = c.len-there.ensures.ordered; all = λ q. refl; count = sym c.len-there.ensures.len })
    c.args.number
