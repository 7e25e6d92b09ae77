-- Counters are equal exactly where `same_counter` says so, and equal counters have one end.
use Rattle.std.proofs.Common.{◌≡◌, ℕ, zero, suc, ◌<◌, ◌==◌, ◌&&◌, List, Bool, true, false, true≢false, refl, sym, ap, ◌∙◌, eq-eqb, arith}
use Rattle.std.proofs.lemmas.Bool.Decides.{nat_tests}
use Rattle.std.specs.Cmp.Lexicographic.{pointwise_decides, bytes_decides}
use Rattle.rate_types.specs.Counters.{same_text, same_entry, same_entries, same_name, same_counter}
use Rattle.rate_types.specs.Units.{unit_rank}
use Rattle.rate_types.specs.declared.unit.Unit.{Unit}
use Rattle.rate_types.specs.declared.unit.Unit.TheVariants.{Second, Minute, Hour, Day}
use Rattle.rate_types.specs.declared.entries.Entry.{Entry}
use Rattle.rate_types.specs.declared.request.Descriptor.{Descriptor}
use Rattle.rate_types.specs.declared.counter_name.CounterName.{CounterName}
use Rattle.rate_types.specs.declared.counter_key.CounterKey.{CounterKey}
use Rattle.window_keys.specs.Counter.{counter_of, window_end_of}

-- ---- units by their ranks

abbrev of_rank : ℕ → Unit
of_rank zero = Second
of_rank (suc zero) = Minute
of_rank (suc (suc zero)) = Hour
of_rank (suc (suc (suc n))) = Day

of_its_rank : (u : Unit) → of_rank (unit_rank u) ≡ u
of_its_rank Second = refl
of_its_rank Minute = refl
of_its_rank Hour = refl
of_its_rank Day = refl

pub same_unit : (u v : Unit) → unit_rank u ≡ unit_rank v → u ≡ v
same_unit u v same = sym (of_its_rank u) ∙ ap of_rank same ∙ of_its_rank v

-- ---- two tests, one after the other

left : (a b : Bool) → (a && b) ≡ true → a ≡ true
left true b h = refl
left false b h = h

right : (a b : Bool) → (a && b) ≡ true → b ≡ true
right true b h = h
right false b h = absurd (true≢false (sym h))

both : (a b : Bool) → a ≡ true → b ≡ true → (a && b) ≡ true
both a b p q = ap (λ x. x && b) p ∙ q

same_number : (a b : ℕ) → (a == b) ≡ true → a ≡ b
same_number a b t = grind (arith, nat_tests)

-- ---- entries, names and counters

entry_decides : (a b : Entry) → (same_entry a b ≡ true → a ≡ b) × (a ≡ b → same_entry a b ≡ true)
entry_decides a b = (
  λ h. make ((bytes_decides a.key b.key).0 (left keys values h)) ((bytes_decides a.value b.value).0 (right keys values h)),
  λ e. both keys values ((bytes_decides a.key b.key).1 (ap (λ (x : Entry). x.key) e))
      ((bytes_decides a.value b.value).1 (ap (λ (x : Entry). x.value) e)),
)
  where
    keys : Bool
    keys = same_text a.key b.key

    values : Bool
    values = same_text a.value b.value

    make : a.key ≡ b.key → a.value ≡ b.value → a ≡ b
    make p q = λ i. record { key = p i; value = q i }

name_decides : (a b : CounterName) → (same_name a b ≡ true → a ≡ b) × (a ≡ b → same_name a b ≡ true)
name_decides a b = (
  λ h. let r = right domains (entries && units) h in
      make ((bytes_decides a.domain b.domain).0 (left domains (entries && units) h))
      ((pointwise_decides entry_decides a.entries b.entries).0 (left entries units r))
      (same_unit a.unit b.unit (same_number (unit_rank a.unit) (unit_rank b.unit) (right entries units r))),
  λ e. both domains (entries && units) ((bytes_decides a.domain b.domain).1 (ap (λ (x : CounterName). x.domain) e))
      (both entries units ((pointwise_decides entry_decides a.entries b.entries).1 (ap (λ (x : CounterName). x.entries) e))
      (eq-eqb (unit_rank a.unit) (unit_rank b.unit) (ap (λ (x : CounterName). unit_rank x.unit) e))),
)
  where
    domains : Bool
    domains = same_text a.domain b.domain

    entries : Bool
    entries = same_entries a.entries b.entries

    units : Bool
    units = unit_rank a.unit == unit_rank b.unit

    make : a.domain ≡ b.domain → a.entries ≡ b.entries → a.unit ≡ b.unit → a ≡ b
    make p q r = λ i. record { domain = p i; entries = q i; unit = r i }

key_decides : (a b : CounterKey) → (same_counter a b ≡ true → a ≡ b) × (a ≡ b → same_counter a b ≡ true)
key_decides a b = (
  λ h. make ((name_decides a.name b.name).0 (left names starts h)) (same_number a.start b.start (right names starts h)),
  λ e. both names starts ((name_decides a.name b.name).1 (ap (λ (x : CounterKey). x.name) e))
      (eq-eqb a.start b.start (ap (λ (x : CounterKey). x.start) e)),
)
  where
    names : Bool
    names = same_name a.name b.name

    starts : Bool
    starts = a.start == b.start

    make : a.name ≡ b.name → a.start ≡ b.start → a ≡ b
    make p q = λ i. record { name = p i; start = q i }

pub same_is : (a b : CounterKey) → same_counter a b ≡ true → a ≡ b
same_is a b = (key_decides a b).0

pub is_same : (a b : CounterKey) → a ≡ b → same_counter a b ≡ true
is_same a b = (key_decides a b).1

pub same_itself : (a : CounterKey) → same_counter a a ≡ true
same_itself a = is_same a a refl

pub not_same : (a b : CounterKey) → (a ≡ b → ⊥) → same_counter a b ≡ false
not_same a b n = by (same_counter a b) refl
  where
    by : (t : Bool) → same_counter a b ≡ t → t ≡ false
    by true e = absurd (n (same_is a b e))
    by false e = refl

pub same_either : (a b : CounterKey) → same_counter a b ≡ same_counter b a
same_either a b = by (same_counter a b) refl
  where
    by : (t : Bool) → same_counter a b ≡ t → t ≡ same_counter b a
    by true e = sym (is_same b a (sym (same_is a b e)))
    by false e = sym (not_same b a (λ (p : b ≡ a). true≢false (sym (is_same a b (sym p)) ∙ e)))

-- ---- the ends of windows

-- equal counters have one end
pub same_end : (a b : CounterKey) → same_counter a b ≡ true → window_end_of a ≡ window_end_of b
same_end a b same = ap window_end_of (same_is a b same)

-- the window of a moment ends after it
pub ends_later : (domain : List ℕ) (d : Descriptor) (unit : Unit) (moment : ℕ) → moment < window_end_of (counter_of domain d unit moment)
ends_later domain d Second moment = omega arith
ends_later domain d Minute moment = omega arith
ends_later domain d Hour moment = omega arith
ends_later domain d Day moment = omega arith
