use Rattle.told_list.specs.Rule.{IsLast}
use Rattle.told_list.proofs.tokens.take_last.Given as goal

abbrev pub ghosts-begin : goal.ghosts-begin
ghosts-begin g a = record { fact = IsLast g.K.Kept.items g.K.Kept.fixed a.shared.now.key.kept a.seat.now.me.0; busy = ⊥ }
