use Rattle.std.proofs.Common.{Option, sym, subst}
use Rattle.conn_tasks.specs.Conn.{seen_with, kept_in, text_in}
use Rattle.conn_tasks.specs.Tasks.{IsTelling}
use Rattle.conn_tasks.specs.declared.room.Room.{Room}
use Rattle.conn_tasks.proofs.conn.Conn.answer_stats.Goals as goal

pub returns-clause-answered : goal.returns-clause-answered
returns-clause-answered g c = λ first asked k.
    c.print_answer_stats.ensures.answered first asked
    (subst (λ (r : Option Room). IsTelling first asked c.args.method (seen_with c.args.self.now (kept_in r) (text_in r))) (sym c.in-Some.ensures.value) k)
