use Rattle.std.proofs.Common.{drop, length}
use Rattle.told_list.proofs.turn.add_kept.Given as goal

abbrev pub ghosts-add : goal.ghosts-add
ghosts-add g a = record { items = drop (length a.seat.now.me.0.known) (g.K.Kept.items a.kept.now) }
