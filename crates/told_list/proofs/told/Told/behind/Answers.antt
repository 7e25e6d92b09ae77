use Rattle.std.proofs.Common.{arith}
use Rattle.told_list.proofs.Steps.{loads_length}
use Rattle.told_list.proofs.told.Told.behind.Goals as goal

pub load-found-requires : goal.load-found-requires
load-found-requires g c = (c.requires.seen, omega (arith, c.args.self.now.words), loads_length _ _ _ _ _ _ _)
