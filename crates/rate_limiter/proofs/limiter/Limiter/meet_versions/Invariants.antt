use Rattle.std.proofs.Common.{◌≡◌}
use Rattle.rate_limiter.specs.Passes.{KeepsAllButVersion}
use Rattle.rate_limiter.specs.Versions.{HasRisen}
use Rattle.rate_limiter.proofs.limiter.Limiter.meet_versions.Given as goal

abbrev pub invariant-loop-round : goal.invariant-loop-round
invariant-loop-round g l = record {
  one_of : l.one.limiter ≡ l.self.id;
  other_of : l.other.limiter ≡ l.self.id;
  one : HasRisen l.initial.one.version l.one.version;
  other : HasRisen l.initial.other.version l.other.version;
  one_rest : KeepsAllButVersion l.initial.one l.one;
  other_rest : KeepsAllButVersion l.initial.other l.other;
}
