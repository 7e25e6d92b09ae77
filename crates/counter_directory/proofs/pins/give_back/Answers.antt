use Rattle.std.proofs.Common.{◌∙◌, refl, arith}
use Rattle.counter_directory.specs.Pool.{spot}
use Rattle.counter_directory.proofs.Unpinning.{next_pinned, left_less, left_rest, none_left, no_pins}
use Rattle.counter_directory.proofs.pins.give_back.Goals as goal

pub unpin-requires-clause-pin : goal.unpin-requires-clause-pin
unpin-requires-clause-pin g c = next_pinned c.loop-spot.spot-index (spot 0 0) c.args.spots.now c.loop-spot.cell_pass (omega arith) c.loop-spot.invariant.left

pub loop-spot-init : goal.loop-spot-init
loop-spot-init g c = record { left = c.requires.pins; rest = refl }

pub loop-spot-preserved : goal.loop-spot-preserved
loop-spot-preserved g c = record {
  left = left_less c.loop-spot.spot-index (spot 0 0) c.args.spots.now c.loop-spot.cell_pass _ (omega arith) c.unpin.ensures.unpinned c.loop-spot.invariant.left;
  rest = left_rest c.args.cell_pass.now c.loop-spot.cell_pass _ _ c.loop-spot.invariant.rest c.unpin.ensures.unpinned;
}

pub returns : goal.returns
returns g c = record {
  none = no_pins c.loop-spot.cell_pass.good (λ k. c.loop-spot.invariant.left k ∙ none_left k c.args.spots.now c.loop-spot.spot-index (omega arith));
  rest = c.loop-spot.invariant.rest;
}
