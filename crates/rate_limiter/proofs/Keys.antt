-- Two counters are equal, or they aren't.
use Rattle.std.proofs.Common.{◌≡◌, Bool, true, false, true≢false, refl, sym, ◌∙◌}
use Rattle.rate_types.specs.Counters.{same_counter}
use Rattle.rate_types.specs.declared.counter_key.CounterKey.{CounterKey}
use Rattle.window_keys.proofs.Counters.{same_is, is_same}

pub key_discrete : (a b : CounterKey) → Dec (a ≡ b)
key_discrete a b = pick (same_counter a b) refl
  where
    pick : (t : Bool) → same_counter a b ≡ t → Dec (a ≡ b)
    pick true e = yes (same_is a b e)
    pick false e = no (λ p. true≢false (sym (is_same a b p) ∙ e))
