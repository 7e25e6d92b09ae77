use Rattle.std.proofs.Common.{◌≡◌, ◌≤◌, ◌+◌, ◌*◌, ◌++◌, take}
use Rattle.std.specs.List.{flat_map}
use Rattle.arrayvec.specs.ArrayVec.{array_vec_len}
use Rattle.window_keys.specs.Key.{entry_bytes}
use Rattle.window_keys.proofs.key.write_key.Given as goal

-- the entries so far stand behind the head, and each took at most 2,052 bytes
abbrev pub invariant-loop-entry : goal.invariant-loop-entry
invariant-loop-entry l = record {
  written : l.out.items ≡ l.initial.out.items ++ flat_map entry_bytes (take l.entry-index l.items);
  room : array_vec_len l.out ≤ 1036 + 2052 * l.entry-index;
}
