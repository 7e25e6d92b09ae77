use Rattle.run_audit.specs.declared.asked.Asked.TheVariants.{Named}
use Rattle.run_audit.proofs.Tests.{renamed}
use Rattle.run_audit.proofs.refusals.may_be_named.Goals as goal

pub returns : goal.returns
returns c = renamed _ _ c.are_asked.ensures (c.requires.counted Named c.args.moment c.args.number)
