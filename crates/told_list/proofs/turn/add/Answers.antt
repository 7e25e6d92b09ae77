use Rattle.std.proofs.Common.{arith}
use Rattle.told_list.proofs.Steps.{adds}
use Rattle.told_list.proofs.turn.add.Goals as goal

pub fetch_add-requires : goal.fetch_add-requires
fetch_add-requires g c = (c.requires.here.0, omega (arith, c.requires.here.1), adds _ _ _ _ _ _ _ _ _ c.requires.turn c.requires.count c.requires.room.0 c.requires.room.1)
