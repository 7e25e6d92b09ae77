use Rattle.std.proofs.Common.{◌≡◌, ◌<◌, ℕ, Bool, None, get_or, vec_len}
use Rattle.conn_tasks.specs.declared.woke.Woke.TheVariants.{Listener, Link}
use Rattle.serve_tasks.specs.Running.{Runs, Follows, WasRun}
use Rattle.serve_tasks.specs.Links.{standing}
use Rattle.serve_tasks.proofs.rounds.run_woken.Given as goal

abbrev pub invariant-things : goal.invariant-things
invariant-things g l = record {
  runs : Runs g.K.Checks.answers l.fn.checks l.checks (standing l.fn.links) (standing l.links);
  as_many : vec_len l.links.tasks ≡ vec_len l.fn.links.tasks;
  others : (k : ℕ) → Follows (get_or l.fn.links.tasks.items k None) (get_or l.links.tasks.items k None);
  run : (i place : ℕ) (is_closed : Bool) → i < l.index → get_or (g.Q.PollListen.told l.polls) i Listener ≡ Link place is_closed
      → WasRun (get_or l.fn.links.tasks.items place None) (get_or l.links.tasks.items place None);
}
