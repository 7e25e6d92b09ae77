use Rattle.std.proofs.Common.{◌≡◌}
use Rattle.told_list.proofs.turn.take.Given as goal

abbrev pub ghosts-begin : goal.ghosts-begin
ghosts-begin g a = record { fact = λ k. g.K.Kept.fixed k ≡ g.K.Kept.fixed a.shared.now.key.kept; busy = Unit {0} }

abbrev pub invariant-loop : goal.invariant-loop
invariant-loop g l = record { table : l.seat.table_id ≡ l.initial.seat.table_id; id : l.seat.id ≡ l.initial.seat.id; me : l.seat.me ≡ l.initial.seat.me }
