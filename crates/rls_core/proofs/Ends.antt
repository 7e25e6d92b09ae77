-- The ends of the windows of the counters in a map.
use Rattle.std.proofs.Common.{ℕ, ◌<◌, [], ◌∷◌, Ordering, Less, Equal, Greater}
use Rattle.std.specs.List.{AllByRecursion}
use Rattle.std.specs.BTreeMap.{insert_entry}
use Rattle.std.specs.Ordering.{match_ordering}
use Rattle.rate_types.specs.Counters.{key_cmp}
use Rattle.rate_types.specs.declared.counter_key.CounterKey.{CounterKey}
use Rattle.window_keys.specs.Counter.{window_end_of}
use Rattle.rls_core.specs.Sums.{Sums, AreOpen}

by_order : (P : CounterKey × ℕ → Type 0) (o : Ordering) (a b c : Sums) → AllByRecursion P a → AllByRecursion P b → AllByRecursion P c → AllByRecursion P (match_ordering o a b c)
by_order P Less a b c p q r = p
by_order P Equal a b c p q r = q
by_order P Greater a b c p q r = r

all_insert : (P : CounterKey × ℕ → Type 0) (sums : Sums) (k : CounterKey) (v : ℕ) → ((c : CounterKey) (n : ℕ) → P (c, n) → (m : ℕ) → P (c, m)) → P (k, v)
    → AllByRecursion P sums → AllByRecursion P (insert_entry key_cmp sums k v)
all_insert P [] k v keyed is h = (is, h)
all_insert P (e ∷ sums) k v keyed is h = by_order P (key_cmp k e.0) _ _ _ (is, h) (keyed e.0 e.1 h.0 v, h.1) (h.0, all_insert P sums k v keyed is h.1)

-- one more counter, whose window is open
pub open_insert : (moment : ℕ) (sums : Sums) (key : CounterKey) (sum : ℕ) → moment < window_end_of key → AreOpen moment sums
    → AreOpen moment (insert_entry key_cmp sums key sum)
open_insert moment sums key sum later h = all_insert (λ e. moment < window_end_of e.0) sums key sum (λ c n p m. p) later h
