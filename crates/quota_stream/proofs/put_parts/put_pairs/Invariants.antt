use Rattle.std.proofs.Common.{◌≡◌, ◌++◌, take, string_bytes}
use Rattle.std.specs.List.{flat_map}
use Rattle.quota_stream.specs.Texts.{next_pair}
use Rattle.quota_stream.proofs.put_parts.put_pairs.Given as goal

abbrev pub invariant-rest : goal.invariant-rest
invariant-rest l = string_bytes l.out ≡ string_bytes l.initial.out ++ flat_map next_pair (take l.pair-index l.rest)
