-- What hashing a pair or the name of a bucket writes; equal values write the same.
use Rattle.std.specs.Prelude.{◌++◌, List}
use Rattle.std.specs.List.{flat_map}
use Rattle.std.specs.Hash.{HashWrites, Alike, same_Alike, on_Alike, and-Alike}
use Rattle.rate_types.specs.Hashes.{text_writes, text_alike}
use Rattle.quota_settings.specs.declared.pair.Pair.{Pair}
use Rattle.quota_settings.specs.Laws.{pairs_decides}
use Rattle.quota_settings.specs.Pairs.{same_pair, same_pairs}

abbrev pub pair_writes : Pair → HashWrites
pair_writes p = text_writes p.name ++ text_writes p.value

abbrev pub pairs_writes : List Pair → HashWrites
pairs_writes = flat_map pair_writes

pub pair_alike : Alike same_pair pair_writes
pair_alike = and-Alike (on_Alike (λ p. p.name) text_alike) (on_Alike (λ p. p.value) text_alike)

pub pairs_alike : Alike same_pairs pairs_writes
pairs_alike = same_Alike pairs_writes pairs_decides
