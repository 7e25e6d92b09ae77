use Rattle.std.proofs.Common.{◌≡◌, ◌≤◌, ◌++◌, length, replicate}
use Rattle.rate_io.specs.Listeners.{accepted}
use Rattle.link_handover.specs.Passes.{PutsInto, links_put, marks_put, takers_of}
use Rattle.http_serve.proofs.accepting.put_all.Given as goal

abbrev pub invariant-links : goal.invariant-links
invariant-links g l = record {
  put : PutsInto l.handover l.put;
  marks : marks_put l.put ≡ 0;
  takers : takers_of l.put ≡ takers_of l.fn.put;
  count : length (links_put l.put) ≡ l.number;
  most : l.number ≤ l.fn.connections;
  events : g.L.Listen.history l.listen ≡ g.L.Listen.history l.fn.listen ++ replicate l.number accepted;
  later : g.L.Listen.faults l.fn.listen ≤ g.L.Listen.faults l.listen;
}
