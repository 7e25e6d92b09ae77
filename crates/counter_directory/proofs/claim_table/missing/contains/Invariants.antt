use Rattle.std.proofs.Common.{◌≡◌, ℕ, take}
use Rattle.counter_directory.specs.Keys.{key_at, keys_at, key_count}
use Rattle.counter_directory.proofs.claim_table.missing.contains.Given as goal

abbrev pub invariant-loop-other : goal.invariant-loop-other
invariant-loop-other l = (m : ℕ) → key_count (key_at m l.name) (take l.other-index (keys_at m l.names)) ≡ 0
