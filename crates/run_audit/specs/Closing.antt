-- Inside: the totals that sorted charges give.
use Rattle.std.specs.Prelude.{ℕ, ◌+◌, ◌==◌, ◌&&◌, not, List, [], ◌∷◌, Bool, true, false, nat_lt, if◌then◌else◌}
use Rattle.rate_types.specs.Counters.{same_counter}
use Rattle.rate_types.specs.Ledger.{Charge}
use Rattle.rate_types.specs.declared.counter_key.CounterKey.{CounterKey}
use Rattle.window_keys.specs.Counter.{window_end_of}
use Rattle.rls_core.specs.declared.totals.Total.{Total}

-- whether a charge is the last one on its counter
abbrev pub is_last : Charge CounterKey → List (Charge CounterKey) → Bool
is_last x [] = true
is_last x (y ∷ ys) = not (same_counter x.counter y.counter)

-- whether the charge gives a total: it is the last one on its counter, whose window ends after the moment
abbrev pub gives_total : ℕ → Charge CounterKey → List (Charge CounterKey) → Bool
gives_total moment x xs = is_last x xs && nat_lt moment (window_end_of x.counter)

-- whether this is the total that the charge gives
abbrev pub is_total_of : Charge CounterKey → Total → Bool
is_total_of x t = same_counter x.counter t.key && (t.charged == x.before + x.hits)

-- whether the first one is the total that the charge gives, and the others pass a test
abbrev pub first_of : Charge CounterKey → (List Total → Bool) → List Total → Bool
first_of x others [] = false
first_of x others (t ∷ ts) = is_total_of x t && others ts

-- whether there is no total
abbrev pub is_none : List Total → Bool
is_none [] = true
is_none (t ∷ ts) = false

-- whether these are the totals that sorted charges give
abbrev pub give_totals : ℕ → List (Charge CounterKey) → List Total → Bool
give_totals moment [] totals = is_none totals
give_totals moment (x ∷ xs) totals =
    if gives_total moment x xs then first_of x (give_totals moment xs) totals else give_totals moment xs totals
