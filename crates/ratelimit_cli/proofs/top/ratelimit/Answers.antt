use Rattle.ratelimit_cli.proofs.Completing.{answers}
use Rattle.ratelimit_cli.proofs.top.ratelimit.Goals as goal

pub returns-in-Err-clause-exit : goal.returns-in-Err-clause-exit
returns-in-Err-clause-exit g c = answers c.in-Err.exit _ _ c.in-Err.ensures.exit
