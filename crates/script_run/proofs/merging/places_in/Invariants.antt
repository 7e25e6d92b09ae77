use Rattle.std.proofs.Common.{◌≡◌, drop, replicate, vec_len}
use Rattle.script_run.specs.RunRecords.{each_put}
use Rattle.script_run.proofs.merging.places_in.Given as goal

abbrev pub invariant-journals : goal.invariant-journals
invariant-journals l = record {
  len : vec_len l.places ≡ l.lines;
  left : each_put l.number l.places.items (drop l.number l.journals) ≡ each_put 0 (replicate l.lines (record { journal = 0; index = 0 })) l.journals;
}
