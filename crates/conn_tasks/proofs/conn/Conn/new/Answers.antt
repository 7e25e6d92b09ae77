use Rattle.std.proofs.Common.{[], subst}
use Rattle.conn_tasks.specs.Polls.{PollState}
use Rattle.conn_tasks.specs.Tasks.{IsOn}
use Rattle.conn_tasks.proofs.Goings.{unused, starts}
use Rattle.conn_tasks.proofs.conn.Conn.new.Goals as goal

pub returns-clause-on : goal.returns-clause-on
returns-clause-on g c = subst (λ (l : PollState). IsOn l.link [] (unused c.new-link.result)) c.new-link.ensures (starts c.new-link.result)
