use Rattle.std.proofs.Common.{◌≡◌, ◌<◌, ◌-◌, ◌/◌, ◌%◌, take}
use Rattle.std.specs.List.{fold}
use Rattle.keyed_hash.specs.KeyedHash.{mixed, after_words}
use Rattle.keyed_hash.proofs.hasher.KeyedHasherHasher.write.Given as goal

abbrev pub invariant-bytes : goal.invariant-bytes
invariant-bytes l = l.self ≡ fold mixed l.initial.self (take l.byte-index l.bytes)

abbrev pub invariant-words : goal.invariant-words
invariant-words l = record {
  whole : l.at % 8 ≡ 0;
  within : l.at < l.len;
  after : l.self ≡ after_words l.initial.self l.bytes (l.at / 8);
}

abbrev pub decreases-words : goal.decreases-words
decreases-words l = l.len - l.at
