use Rattle.std.proofs.Common.{◌≡◌, ◌≤◌, [], true}
use Rattle.std.specs.Prelude.{max, vec_len}
use Rattle.counter_directory.specs.Keeps.{KeepsClaims}
use Rattle.counter_directory.specs.Gates.{HeldSince}
use Rattle.counter_directory.specs.Acquiring.{HasBeenTold}
use Rattle.counter_directory.proofs.claim_table.ClaimTable.reserve_cells.Given as goal

abbrev pub invariant-loop-round : goal.invariant-loop-round
invariant-loop-round g l = record {
  keeps : KeepsClaims l.initial.self.pool l.self.pool;
  more : vec_len l.initial.self.pool.reserved ≤ vec_len l.self.pool.reserved;
  few : vec_len l.self.pool.reserved ≤ max (vec_len l.initial.self.pool.reserved) l.wanted;
  index : l.self.index ≡ l.initial.self.index;
  told : HasBeenTold l.initial.cell_pass l.cell_pass;
  held : l.has_tried_held ≡ true → HeldSince l.initial.cell_pass l.cell_pass [] l.self.pool.held.items;
}
