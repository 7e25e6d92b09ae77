-- What hashing a text, an entry, entries, a counter's name or a counter writes; equal values write the same.
use Rattle.std.specs.Prelude.{ℕ, ◌-◌, ◌/◌, ◌%◌, ◌++◌, List, [], ◌∷◌, length, take, nat_lt, slice_index_or, if◌then◌else◌}
use Rattle.std.specs.Int.{from_le_bytes, w64}
use Rattle.std.specs.Cmp.Lexicographic.{bytes_decides}
use Rattle.std.specs.Hash.{HashWrites, Alike, same_Alike, on_Alike, and-Alike, items_Alike}
use Rattle.std.specs.Hash as written
use Rattle.std.specs.Cmp.{unsigned_Decides}
use Rattle.keyed_hash.specs.KeyedHash.{word_at}
use Rattle.rate_types.specs.Units.{unit_rank}
use Rattle.rate_types.specs.Counters.{same_text, same_entry, same_entries, same_name, same_counter}
use Rattle.rate_types.specs.declared.entries.Entry.{Entry}
use Rattle.rate_types.specs.declared.counter_name.CounterName.{CounterName}
use Rattle.rate_types.specs.declared.counter_key.CounterKey.{CounterKey}
use Rattle.rate_types.specs.declared.text_words.TheConstants.{IN_WORD}

-- a text of less than eight bytes: their number, and these bytes with zeros behind them
abbrev pub short_word : List ℕ → ℕ
short_word text = from_le_bytes w64 (length text ∷ slice_index_or text 0 0 ∷ slice_index_or text 1 0 ∷ slice_index_or text 2 0
    ∷ slice_index_or text 3 0 ∷ slice_index_or text 4 0 ∷ slice_index_or text 5 0 ∷ slice_index_or text 6 0 ∷ [])

-- what a text of eight bytes or more begins with: no shorter text has this length, and its own length in two bytes
abbrev pub long_word : ℕ → ℕ
long_word len = from_le_bytes w64 (IN_WORD ∷ len % 256 ∷ len / 256 % 256 ∷ 0 ∷ 0 ∷ 0 ∷ 0 ∷ 0 ∷ [])

-- a text of eight bytes or more: their number, as many of them as whole words have, and the last eight
abbrev pub long_writes : List ℕ → HashWrites
long_writes text =
    let len = length text in written.u64 (long_word len) ++ (take (len - len % IN_WORD) text ∷ written.u64 (word_at text (len - IN_WORD)))

-- a text: one word where it has less than eight bytes, else its number of bytes and its words
abbrev pub text_writes : List ℕ → HashWrites
text_writes text = if nat_lt (length text) IN_WORD then written.u64 (short_word text) else long_writes text

abbrev pub entry_writes : Entry → HashWrites
entry_writes e = text_writes e.key ++ text_writes e.value

abbrev pub entries_writes : List Entry → HashWrites
entries_writes = written.slice entry_writes

abbrev pub name_writes : CounterName → HashWrites
name_writes n = text_writes n.domain ++ (entries_writes n.entries ++ written.u64 (unit_rank n.unit))

abbrev pub key_writes : CounterKey → HashWrites
key_writes k = name_writes k.name ++ written.u64 k.start

pub text_alike : Alike same_text text_writes
text_alike = same_Alike text_writes bytes_decides

pub entry_alike : Alike same_entry entry_writes
entry_alike = and-Alike (on_Alike (λ e. e.key) text_alike) (on_Alike (λ e. e.value) text_alike)

pub entries_alike : Alike same_entries entries_writes
entries_alike = items_Alike entry_alike

pub name_alike : Alike same_name name_writes
name_alike = and-Alike (on_Alike (λ n. n.domain) text_alike)
    (and-Alike (on_Alike (λ n. n.entries) entries_alike) (on_Alike (λ n. unit_rank n.unit) (same_Alike written.u64 unsigned_Decides)))

pub key_alike : Alike same_counter key_writes
key_alike = and-Alike (on_Alike (λ k. k.name) name_alike) (on_Alike (λ k. k.start) (same_Alike written.u64 unsigned_Decides))
