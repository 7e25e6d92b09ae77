use Rattle.std.proofs.Common.{◌≤◌, ◌-◌, Option, length, take, drop}
use Rattle.rate_io.specs.Links.{LinkState}
use Rattle.http_endpoint.specs.Answers.{Asked}
use Rattle.conn_tasks.specs.Lawful.{MayWrite}
use Rattle.conn_tasks.specs.SoFar.{Sends}
use Rattle.conn_tasks.proofs.put.put_on.Given as goal

abbrev pub invariant-puts : goal.invariant-puts
invariant-puts g l = record {
  sends : (mid : LinkState) (asked : Option Asked) → Sends mid l.fn.link.link asked (take l.fn.sent l.piece)
      → Sends mid l.link.link asked (take l.sent l.piece);
  may : MayWrite l.link.link.history (drop l.sent l.piece);
  within : l.sent ≤ length l.piece;
  waits : l.fn.link.waits ≤ l.link.waits;
}

abbrev pub decreases-puts : goal.decreases-puts
decreases-puts g l = length l.piece - l.sent
