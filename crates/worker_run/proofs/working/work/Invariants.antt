use Rattle.std.proofs.Common.{◌≡◌, ◌-◌, map, length}
use Rattle.line_numbers.specs.Batches.{given, batches_of}
use Rattle.rate_limiter.specs.Passes.{bounds_of}
use Rattle.run_stats.specs.RunStats.{HasCounted}
use Rattle.worker_run.specs.Journal.{Journal}
use Rattle.worker_run.proofs.working.work.Given as goal

abbrev pub decreases-lines : goal.decreases-lines
decreases-lines g l = length (g.L.ScriptLines.lines l.run.lines.now) - length (given l.drawer)

abbrev pub invariant-lines : goal.invariant-lines
invariant-lines g l = record {
  here : batches_of l.drawer ≡ batches_of l.initial.drawer;
  same : l.pass.limiter ≡ l.run.limiter.now.id;
  journal : Journal (bounds_of g.N.CellNaming.setup.cells l.run.limiter.now) l.run.limiter.now l.run.start l.worker (g.L.ScriptLines.lines l.run.lines.now) l.initial.pass l.journal l.pass;
  drawn : given l.drawer ≡ map (λ r. r.line - 1) l.journal;
  counted : HasCounted l.run.stats (g.L.ScriptLines.lines l.run.lines.now) l.journal l.kept.tally;
}
