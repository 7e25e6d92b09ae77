use Rattle.std.proofs.Common.{◌≡◌, ◌≤◌, ◌+◌, ◌++◌, length, vec_len, vec_capacity}
use Rattle.http_serve.specs.Links.{given_back, ends_of}
use Rattle.serve_tasks.proofs.giving.give_back.Given as goal

abbrev pub invariant-loop-one : goal.invariant-loop-one
invariant-loop-one g l = record {
  whole : l.yielded ++ l.one-iterator.rest.items ≡ l.fn.served.items;
  room : vec_len l.ends + length l.one-iterator.rest.items ≤ vec_capacity l.ends;
  ends : l.ends.items ≡ ends_of l.yielded;
  events : g.Q.PollListen.history l.polls ≡ g.Q.PollListen.history l.fn.polls ++ given_back l.yielded;
  faults : g.Q.PollListen.faults l.polls ≡ g.Q.PollListen.faults l.fn.polls;
}
