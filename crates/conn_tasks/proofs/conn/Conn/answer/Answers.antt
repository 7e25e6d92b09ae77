use Rattle.std.proofs.Common.{Option, sym, subst}
use Rattle.conn_tasks.specs.Conn.{seen_with, kept_in, text_in}
use Rattle.conn_tasks.specs.Tasks.{IsChecking}
use Rattle.conn_tasks.specs.declared.room.Room.{Room}
use Rattle.conn_tasks.proofs.conn.Conn.answer.Goals as goal

pub returns-clause-answered : goal.returns-clause-answered
returns-clause-answered g c = λ first asked request now k.
    c.print_answer.ensures.answered first asked request now
    (subst (λ (r : Option Room). IsChecking first asked request now (seen_with c.args.self.now (kept_in r) (text_in r))) (sym c.in-Some.ensures.value) k)
