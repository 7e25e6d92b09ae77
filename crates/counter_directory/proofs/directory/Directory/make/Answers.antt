use Rattle.std.proofs.Common.{rules}
use Rattle.counter_directory.proofs.Passes.{all_fresh}
use Rattle.counter_directory.proofs.directory.Directory.make.Goals as goal

pub returns-clause-passes : goal.returns-clause-passes
returns-clause-passes g c = all_fresh _ _ c.in_ok-told.tokens.items c.in_ok-made.made.items c.in_ok-made.ensures c.in_ok-told.ensures.tokens (search rules)
