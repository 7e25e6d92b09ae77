use Rattle.config_versions.specs.Passes.{IsPassOf}
use Rattle.list_tests.proofs.versions.fill.Given as goal

abbrev pub invariant-loop : goal.invariant-loop
invariant-loop g l = IsPassOf l.versions l.pass
