-- What a keyed hash is.
use Rattle.std.specs.Prelude.{ℕ, zero, suc, ◌+◌, ◌-◌, ◌*◌, ◌/◌, ◌^◌, nat_lt, List, [], ◌∷◌, length, slice_index_or, if◌then◌else◌, bit_and, bit_or, bit_xor}
use Rattle.std.specs.Int.{from_le_bytes, w64}
use Rattle.std.specs.List.{fold}
use Rattle.std.specs.Hash as hashed
use Rattle.std.specs.Hash.DefaultHasher as sip
use Rattle.std.specs.RandomState.{initial_hasher}
use Rattle.std.specs.declared.hash.RandomState.{RandomState}
use Rattle.keyed_hash.specs.declared.hasher.KeyedHasher.{KeyedHasher}
use Rattle.keyed_hash.specs.declared.state.KeyedState.{KeyedState}

-- the halves of a product of 128 bits, joined by xor
unfoldable pub folded : ℕ → ℕ → ℕ
folded a b = bit_xor (bit_and (a * b) (2 ^ 64 - 1)) (a * b / 2 ^ 64)

-- the eight bytes from an index on as one number, the lowest first
abbrev pub word_at : List ℕ → ℕ → ℕ
word_at bytes at = from_le_bytes w64 (slice_index_or bytes at 0 ∷ slice_index_or bytes (at + 1) 0 ∷ slice_index_or bytes (at + 2) 0
    ∷ slice_index_or bytes (at + 3) 0 ∷ slice_index_or bytes (at + 4) 0 ∷ slice_index_or bytes (at + 5) 0 ∷ slice_index_or bytes (at + 6) 0
    ∷ slice_index_or bytes (at + 7) 0 ∷ [])

-- the secret of a seed under a number: what its SipHash of the number is
abbrev pub secret : RandomState → ℕ → ℕ
secret seed number = sip.finish (fold sip.write (initial_hasher seed) (hashed.u64 number))

-- both secrets of a seed, of which the factor is odd
abbrev pub secrets_of : RandomState → KeyedState
secrets_of seed = record { first = secret seed 0; factor = bit_or (secret seed 1) 1 }

-- a hasher before its first word
abbrev pub hasher_of : KeyedState → KeyedHasher
hasher_of s = record { state = s.first; factor = s.factor }

-- after a word
abbrev pub mixed : KeyedHasher → ℕ → KeyedHasher
mixed h word = record { state = folded (bit_xor h.state word) h.factor; factor = h.factor }

-- after the first so many words of some bytes
unfoldable pub after_words : KeyedHasher → List ℕ → ℕ → KeyedHasher
after_words h bytes zero = h
after_words h bytes (suc n) = mixed (after_words h bytes n) (word_at bytes (8 * n))

-- after some bytes: words of eight while more than eight are left, then the last eight; less than eight one by one
unfoldable pub written : KeyedHasher → List ℕ → KeyedHasher
written h bytes =
    let len = length bytes in
    if nat_lt len 8 then fold mixed h bytes else mixed (after_words h bytes ((len - 1) / 8)) (word_at bytes (len - 8))

-- the hash of what was written
abbrev pub finished : KeyedHasher → ℕ
finished h = folded h.state h.factor
