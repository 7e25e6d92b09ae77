use Rattle.std.specs.Prelude.{⊤}
use Rattle.std.proofs.Common.{◌≤◌, vec_len}
use Rattle.rate_io.specs.Events.{Grew}
use Rattle.serve_tasks.specs.Running.{Runs}
use Rattle.serve_tasks.specs.Links.{standing}
use Rattle.serve_tasks.specs.Accepting.{Leaves}
use Rattle.serve_tasks.proofs.rounds.serve_rounds.Given as goal

abbrev pub invariant-rounds : goal.invariant-rounds
invariant-rounds g l = record {
  runs : Runs g.K.Checks.answers l.fn.checks l.checks (standing l.fn.links) (standing l.links);
  leaves : Leaves l.connections l.accepting (vec_len l.links.tasks) (g.Q.PollListen.history l.fn.polls) (g.Q.PollListen.history l.polls)
      (g.Q.PollListen.faults l.fn.polls, g.Q.PollListen.faults l.polls);
  within : vec_len l.links.tasks ≤ l.connections;
  grew : Grew (g.Q.PollListen.history l.fn.polls) (g.Q.PollListen.history l.polls) (λ _. ⊤);
}
