use Rattle.conn_tasks.specs.Conn.{seen_in}
use Rattle.conn_tasks.proofs.Rooms.{turned_emptied, free_needs_none}
use Rattle.conn_tasks.proofs.conn.Conn.leave.Goals as goal

pub returns-then-is_free-clause-turns : goal.returns-then-is_free-clause-turns
returns-then-is_free-clause-turns g c = λ first asked waits came behind x.
    turned_emptied first asked waits (seen_in c.args.self.now c.args.room) came (c.is_free.ensures.free c.if-is_free.true) behind x

pub returns-then-is_free-clause-room : goal.returns-then-is_free-clause-room
returns-then-is_free-clause-room g c = λ needs.
    absurd (free_needs_none c.args.self.now.mode c.args.room.inbox (c.is_free.ensures.free c.if-is_free.true) needs)

pub returns-else-is_free-clause-given : goal.returns-else-is_free-clause-given
returns-else-is_free-clause-given g c = λ free. absurd (let not = c.is_free.ensures.only free in cc)
