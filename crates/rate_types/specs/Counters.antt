-- The order of entries and of counters, and when two of them are the same.
use Rattle.std.specs.Prelude.{ℕ, ◌==◌, List, Bool}
use Rattle.std.specs.declared.cmp.Ordering.{Ordering}
use Rattle.std.specs.Ordering.{nat_cmp, on, then_cmp, eq_of_both}
use Rattle.std.specs.Cmp.Lexicographic.{slice_cmp, pointwise}
use Rattle.rate_types.specs.Units.{unit_rank}
use Rattle.rate_types.specs.declared.entries.Entry.{Entry}
use Rattle.rate_types.specs.declared.counter_name.CounterName.{CounterName}
use Rattle.rate_types.specs.declared.counter_key.CounterKey.{CounterKey}

-- texts by their bytes
abbrev pub text_cmp : List ℕ → List ℕ → Ordering
text_cmp = slice_cmp nat_cmp

abbrev pub same_text : List ℕ → List ℕ → Bool
same_text = pointwise ◌==◌

-- an entry by the bytes of its key, then of its value
abbrev pub entry_cmp : Entry → Entry → Ordering
entry_cmp = then_cmp (on (λ e. e.key) text_cmp) (on (λ e. e.value) text_cmp)

abbrev pub same_entry : Entry → Entry → Bool
same_entry = eq_of_both (on (λ e. e.key) same_text) (on (λ e. e.value) same_text)

-- lists of entries item by item
abbrev pub entries_cmp : List Entry → List Entry → Ordering
entries_cmp = slice_cmp entry_cmp

abbrev pub same_entries : List Entry → List Entry → Bool
same_entries = pointwise same_entry

-- a counter's name by its domain, then by its entries, then by its unit
abbrev pub name_cmp : CounterName → CounterName → Ordering
name_cmp = then_cmp (on (λ n. n.domain) text_cmp) (then_cmp (on (λ n. n.entries) entries_cmp) (on (λ n. unit_rank n.unit) nat_cmp))

abbrev pub same_name : CounterName → CounterName → Bool
same_name = eq_of_both (on (λ n. n.domain) same_text) (eq_of_both (on (λ n. n.entries) same_entries) (on (λ n. unit_rank n.unit) ◌==◌))

-- a counter by its name, then by the start of its window
abbrev pub key_cmp : CounterKey → CounterKey → Ordering
key_cmp = then_cmp (on (λ k. k.name) name_cmp) (on (λ k. k.start) nat_cmp)

-- the same counter: domain, entries, unit and start are equal
abbrev pub same_counter : CounterKey → CounterKey → Bool
same_counter = eq_of_both (on (λ k. k.name) same_name) (on (λ k. k.start) ◌==◌)
