use Rattle.std.proofs.Common.{ap}
use Rattle.shared_stats.proofs.Steps.{splits}
use Rattle.shared_stats.proofs.passes.split_pass.Goals as goal

pub split_seat-seat-requires : goal.split_seat-seat-requires
split_seat-seat-requires c = (c.requires.here.0, c.requires.here.1, splits _ _ _ (ap (λ m. m.0) c.requires.idle.0) c.requires.idle.1)
