-- The counters of a load's values differ.
use Rattle.std.proofs.Common.{◌≡◌, ℕ, ◌<◌, ◌==◌, List, [], ◌∷◌, Bool, true, false, refl, sym, ap, ◌∙◌, arith, codes}
use Rattle.std.proofs.lemmas.Bool.Decides.{nat_tests}
use Rattle.std.proofs.lemmas.Fmt.{decimal_injective}
use Rattle.std.specs.Fmt.{decimal}
use Rattle.rate_types.specs.Counters.{same_counter}
use Rattle.rate_types.specs.declared.entries.Entry.{Entry}
use Rattle.rate_types.specs.declared.counter_key.CounterKey.{CounterKey}
use Rattle.rate_types.specs.declared.unit.Unit.TheVariants.{Hour}
use Rattle.window_keys.specs.Counter.{counter_of}
use Rattle.window_keys.proofs.Counters.{same_itself, not_same}
use Rattle.load_gen.specs.Load.{descriptor_for}
use Rattle.load_gen.specs.declared.constants.TheConstants.{VALUES}

-- the counter of a value, in the window of the start
abbrev pub counter_for : ℕ → CounterKey
counter_for value = counter_of (codes "gen") (descriptor_for value) Hour 0

-- the value of the first of these entries, without its first character
abbrev digits_in : List Entry → List ℕ
digits_in [] = []
digits_in (e ∷ es) = behind e.value
  where
    behind : List ℕ → List ℕ
    behind [] = []
    behind (c ∷ cs) = cs

-- counters of two values are one exactly where the values are
pub same_for : (v a : ℕ) → v < VALUES → a < VALUES → same_counter (counter_for v) (counter_for a) ≡ (v == a)
same_for v a low small = by (v == a) refl
  where
    by : (same : Bool) → (v == a) ≡ same → same_counter (counter_for v) (counter_for a) ≡ same
    by true e = let is : v ≡ a = grind (arith, nat_tests) in ap (λ b. same_counter (counter_for v) (counter_for b)) (sym is) ∙ same_itself (counter_for v)
    by false e =
        not_same (counter_for v) (counter_for a) (λ same.
        let digits : decimal v ≡ decimal a = ap (λ (k : CounterKey). digits_in k.name.entries) same in
        let is : v ≡ a = decimal_injective v a (omega arith) (omega arith) digits in
        let no : (v == a) ≡ false = e in
        absurd (grind (arith, nat_tests)))
