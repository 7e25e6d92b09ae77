use Rattle.std.proofs.Common.{◌∙◌, ap, arith, length-drop, length}
use Rattle.told_list.proofs.Sums.{prefix_rest}
use Rattle.told_list.proofs.turn.add_kept.Goals as goal

pub add-requires-clause-count : goal.add-requires-clause-count
add-requires-clause-count g c = omega (arith, length-drop (length c.args.seat.now.me.0.known) (g.K.Kept.items c.args.kept.now), c.requires.grown.0, c.len-after.ensures.len)

pub returns-clause-knows : goal.returns-clause-knows
returns-clause-knows g c = ap (λ m. m.0.known) c.add.ensures.added ∙ prefix_rest c.args.seat.now.me.0.known (g.K.Kept.items c.args.kept.now) c.requires.grown.1
