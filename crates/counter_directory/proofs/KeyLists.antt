-- Counters, and those of names, at their places.
use Rattle.std.proofs.Common.{◌≡◌, ℕ, zero, suc, List, [], ◌∷◌, ◌++◌, length, get_or, Bool, true, false, true≢false, refl, sym, ap, ◌∙◌}
use Rattle.std.proofs.lemmas.List.{map-append}
use Rattle.rate_types.specs.declared.counter_key.CounterKey.{CounterKey}
use Rattle.rate_types.specs.declared.counter_name.CounterName.{CounterName}
use Rattle.rate_types.specs.Counters.{same_counter}
use Rattle.window_keys.proofs.Counters.{same_is, is_same}
use Rattle.counter_directory.specs.Keys.{key_at, keys_at}

pub key_discrete : (a b : CounterKey) → Dec (a ≡ b)
key_discrete a b = pick (same_counter a b) refl
  where
    pick : (t : Bool) → same_counter a b ≡ t → Dec (a ≡ b)
    pick true e = yes (same_is a b e)
    pick false e = no (λ p. true≢false (sym (is_same a b p) ∙ e))

pub key_or : (m : ℕ) (names : List CounterName) (i : ℕ) (d : CounterName) → get_or (keys_at m names) i (key_at m d) ≡ key_at m (get_or names i d)
key_or m [] i d = refl
key_or m (n ∷ ns) zero d = refl
key_or m (n ∷ ns) (suc i) d = key_or m ns i d

pub len_keys : (m : ℕ) (names : List CounterName) → length (keys_at m names) ≡ length names
len_keys m [] = refl
len_keys m (n ∷ ns) = ap suc (len_keys m ns)

pub keys_more : (m : ℕ) (names : List CounterName) (n : CounterName) → keys_at m (names ++ n ∷ []) ≡ keys_at m names ++ key_at m n ∷ []
keys_more m names n = map-append (key_at m) names (n ∷ [])

pub keys_mid : (m : ℕ) (before : List CounterName) (n : CounterName) (rest : List CounterName) → keys_at m (before ++ n ∷ rest) ≡ keys_at m before ++ key_at m n ∷ keys_at m rest
keys_mid m before n rest = map-append (key_at m) before (n ∷ rest)
