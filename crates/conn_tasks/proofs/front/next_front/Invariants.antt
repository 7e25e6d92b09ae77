use Rattle.std.proofs.Common.{ℕ, ◌≤◌, ◌-◌, List}
use Rattle.rate_io.specs.Links.{LinkState}
use Rattle.http_endpoint.specs.Answers.{Turn}
use Rattle.conn_tasks.specs.Reading.{total_of, have_of, Holds}
use Rattle.conn_tasks.specs.SoFar.{SoFar}
use Rattle.conn_tasks.proofs.front.next_front.Given as goal

abbrev pub invariant-reads : goal.invariant-reads
invariant-reads g l = record {
  so : (first : LinkState) (turns : List Turn) (rest : List ℕ) → SoFar first l.fn.link.link turns rest
      → Holds rest l.fn.awaited l.fn.inbox
      → (now : List ℕ) × SoFar first l.link.link turns now × Holds now l.awaited l.inbox;
  few : total_of l.awaited ≤ 1064960;
  waits : l.fn.link.waits ≤ l.link.waits;
}

abbrev pub decreases-reads : goal.decreases-reads
decreases-reads g l = 1064960 - have_of l.awaited l.inbox
