-- Inside: what workers know of counters, kept in a map.
use Rattle.std.specs.Prelude.{◌≡◌, ℕ, ◌==◌, List, [], ◌∷◌, ◌++◌, Bool, true, false, max, unwrap_or, if◌then◌else◌}
use Rattle.std.specs.declared.cmp.Ordering.{Ordering}
use Rattle.std.specs.BTreeMap.{is_at}
use Rattle.std.specs.Map.{lookup}
use Rattle.std.specs.Ordering.{nat_cmp, on, then_cmp, eq_of_both}
use Rattle.rate_types.specs.Counters.{key_cmp, same_counter}
use Rattle.rate_types.specs.Ledger.{Sight}
use Rattle.rate_types.specs.declared.counter_key.CounterKey.{CounterKey}
use Rattle.run_audit.specs.declared.known.KnownCounter.{KnownCounter}

-- counters that workers know, with the greatest value that each knows
abbrev pub Values : Type 0
Values = List (KnownCounter × ℕ)

-- by the worker, then by the start of the window, then by the counter
abbrev pub known_cmp : KnownCounter → KnownCounter → Ordering
known_cmp = then_cmp (on (λ k. k.worker) nat_cmp) (then_cmp (on (λ k. k.counter.start) nat_cmp) (on (λ k. k.counter) key_cmp))

-- the same worker and the same counter
abbrev pub same_known : KnownCounter → KnownCounter → Bool
same_known = eq_of_both (on (λ k. k.worker) ◌==◌) (eq_of_both (on (λ k. k.counter.start) ◌==◌) (on (λ k. k.counter) same_counter))

-- what a worker knows of a counter, 0 where it knows nothing
abbrev pub value_in : Values → ℕ → CounterKey → ℕ
value_in values worker c = unwrap_or (lookup (is_at (known_cmp (record { worker = worker; counter = c }))) values) 0

-- the greatest of the known values of a counter, 0 where there is none
abbrev pub highest : List (Sight CounterKey) → CounterKey → ℕ
highest [] c = 0
highest (x ∷ known) c = max (if same_counter x.counter c then x.seen else 0) (highest known c)

-- of each counter the map has the greatest of the values that a worker knows
abbrev pub Knows : Values → ℕ → List (Sight CounterKey) → Type 0
Knows values worker known = (c : CounterKey) → value_in values worker c ≡ highest known c

-- An answer on what a worker shows: it tells whether that is fair by what the worker knew. Where it is, the worker then knows what was
-- shown as well. The others know what they knew.
pub record Learns (old new : Values) (worker : ℕ) (fair : Bool) (Fair : List (Sight CounterKey) → Type 0)
    (shown : List (Sight CounterKey))
    : Type 0 where
  pub yes : (known : List (Sight CounterKey)) → Knows old worker known → fair ≡ true → Fair known
  pub only : (known : List (Sight CounterKey)) → Knows old worker known → Fair known → fair ≡ true
  pub learnt : (known : List (Sight CounterKey)) → Knows old worker known → fair ≡ true → Knows new worker (known ++ shown)
  pub others : (w : ℕ) (c : CounterKey) → (w == worker) ≡ false → value_in new w c ≡ value_in old w c
