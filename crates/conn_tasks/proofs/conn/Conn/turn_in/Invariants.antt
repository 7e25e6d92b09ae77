use Rattle.std.proofs.Common.{◌≡◌, ◌≤◌, ◌-◌, ◌+◌, ◌*◌, true, List}
use Rattle.rate_io.specs.Links.{LinkState}
use Rattle.http_endpoint.specs.Answers.{Asked}
use Rattle.conn_tasks.specs.Conn.{seen_in}
use Rattle.conn_tasks.specs.Tasks.{IsOn, is_live, in_answer}
use Rattle.conn_tasks.proofs.conn.Conn.turn_in.Given as goal

abbrev pub invariant-steps : goal.invariant-steps
invariant-steps g l = record {
  on : (first : LinkState) (asked : List Asked) → IsOn first asked (seen_in l.fn.self l.fn.room) → IsOn first asked (seen_in l.self l.room);
  live : is_live l.self.mode ≡ true;
  waits : l.fn.self.link.waits ≤ l.self.link.waits;
}

abbrev pub decreases-steps : goal.decreases-steps
decreases-steps g l = 2048 - (2 * l.self.answers + in_answer l.self.mode)
