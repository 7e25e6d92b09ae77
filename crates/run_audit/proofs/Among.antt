-- Counters that are in a list and pass a test.
use Rattle.std.proofs.Common.{◌≡◌, ◌||◌, ◌&&◌, not, List, [], ◌∷◌, filter, Bool, true, false, cond, refl, sym, ap, ◌∙◌}
use Rattle.rate_types.specs.Counters.{same_counter}
use Rattle.rate_types.specs.declared.counter_key.CounterKey.{CounterKey}
use Rattle.window_keys.proofs.Counters.{same_is}
use Rattle.script_run.specs.Named.{is_among}
use Rattle.run_audit.proofs.Tests.{false_true}

among_first : (b s u v r t : Bool) → b ≡ u → s ≡ true → r ≡ (u && t) → (cond b (s || r) r) ≡ (u && (s || t))
among_first true true true v r t e f g = refl
among_first true true false v r t e f g = absurd (false_true (sym e))
among_first true false u v r t e f g = absurd (false_true f)
among_first false true true v r t e f g = absurd (false_true e)
among_first false true false v r t e f g = g
among_first false false u v r t e f g = absurd (false_true f)

among_later : (b s u r t : Bool) → s ≡ false → r ≡ (u && t) → (cond b (s || r) r) ≡ (u && (s || t))
among_later true true u r t f g = absurd (false_true (sym f))
among_later true false u r t f g = g
among_later false true u r t f g = absurd (false_true (sym f))
among_later false false u r t f g = g

among_cond : (b : Bool) (x : CounterKey) (xs : List CounterKey) (c : CounterKey)
    → is_among (cond b (x ∷ xs) xs) c ≡ cond b (same_counter c x || is_among xs c) (is_among xs c)
among_cond true x xs c = refl
among_cond false x xs c = refl

-- those of a list that pass a test
pub among_filter : (t : CounterKey → Bool) (xs : List CounterKey) (c : CounterKey) → is_among (filter t xs) c ≡ (t c && is_among xs c)
among_filter t [] c = by (t c)
  where
    by : (b : Bool) → false ≡ (b && false)
    by true = refl
    by false = refl
among_filter t (x ∷ xs) c = among_cond (t x) x (filter t xs) c ∙ by (same_counter c x) refl (among_filter t xs c)
  where
    by : (s : Bool) → same_counter c x ≡ s → is_among (filter t xs) c ≡ (t c && is_among xs c)
        → cond (t x) (same_counter c x || is_among (filter t xs) c) (is_among (filter t xs) c) ≡ (t c && (same_counter c x || is_among xs c))
    by true e more = among_first (t x) (same_counter c x) (t c) true (is_among (filter t xs) c) (is_among xs c) (ap t (sym (same_is c x e))) e more
    by false e more = among_later (t x) (same_counter c x) (t c) (is_among (filter t xs) c) (is_among xs c) e more

and_back : (a b : Bool) → (a && b) ≡ (b && a)
and_back true true = refl
and_back true false = refl
and_back false true = refl
and_back false false = refl

-- those of a list that aren't in another one
pub among_without : (bound : CounterKey → Bool) (xs : List CounterKey) (c : CounterKey)
    → is_among (filter (λ k. not (bound k)) xs) c ≡ (is_among xs c && not (bound c))
among_without bound xs c = among_filter (λ k. not (bound k)) xs c ∙ and_back (not (bound c)) (is_among xs c)
