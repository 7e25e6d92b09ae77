use Rattle.std.proofs.Common.{◌≡◌, drop, vec_len}
use Rattle.script_run.specs.RunRecords.{all_put}
use Rattle.script_run.proofs.merging.put.Given as goal

abbrev pub invariant-records : goal.invariant-records
invariant-records l = record {
  len : vec_len l.places ≡ vec_len l.initial.places;
  left : all_put l.number l.index l.places.items (drop l.index l.journal) ≡ all_put l.number 0 l.initial.places.items l.journal;
}
