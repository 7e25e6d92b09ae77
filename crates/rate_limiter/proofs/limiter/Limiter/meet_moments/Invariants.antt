use Rattle.rate_limiter.specs.Passes.{KeepsAllButTicks}
use Rattle.rate_limiter.specs.Ticks.{HasTickedAlone}
use Rattle.rate_limiter.proofs.limiter.Limiter.meet_moments.Given as goal

abbrev pub invariant-loop-round : goal.invariant-loop-round
invariant-loop-round g l = record {
  one : HasTickedAlone l.initial.one.cells l.one.cells;
  other : HasTickedAlone l.initial.other.cells l.other.cells;
  one_rest : KeepsAllButTicks l.initial.one l.one;
  other_rest : KeepsAllButTicks l.initial.other l.other;
}
