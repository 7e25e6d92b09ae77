-- Counters that claims bind to open windows, and counters of a request without a claim: none is counted twice.
use Rattle.std.proofs.Common.{◌≡◌, ℕ, zero, suc, ◌+◌, ◌≤◌, ◌==◌, ◌&&◌, List, ◌++◌, length, take, Bool, true, false, cond, refl, ap, arith}
use Rattle.std.proofs.lemmas.Bool.{eqb-true, ltb-true, and_parts}
use Rattle.std.specs.Prelude.{nat_lt}
use Rattle.rate_types.specs.Counters.{same_counter}
use Rattle.rate_types.specs.Sums.{one_if}
use Rattle.rate_types.proofs.Sums.{total_append}
use Rattle.rate_types.specs.declared.counter_key.CounterKey.{CounterKey}
use Rattle.window_keys.specs.Counter.{window_end_of}
use Rattle.counter_directory.specs.declared.claim.Claim.{Claim}
use Rattle.counter_directory.specs.Claims.{claims_of}
use Rattle.counter_directory.specs.Keys.{IsMissing}
use Rattle.rate_limiter.proofs.CounterLists.{count, Differ, front_count, filter_count}
use Rattle.rate_limiter.proofs.OpenClaims.{keys_in, keys_count, open_in}
use Rattle.rate_limiter.proofs.Places.{take_length}

some_true : (t : Bool) → 1 ≤ one_if t → t ≡ true
some_true true h = refl
some_true false h = absurd (omega arith)

at_most_one : (t : Bool) → one_if t ≤ 1
at_most_one true = omega arith
at_most_one false = omega arith

module _ (keys : List CounterKey) (claims : List Claim) (missing : List CounterKey) (is : IsMissing claims keys missing) where
  pub missing_differ : Differ missing
  missing_differ c = let i = is c in let o = at_most_one ((claims_of c claims == 0) && nat_lt 0 (count c keys)) in omega arith

  -- a missing counter is one of the request, and has no claim
  pub missing_is : (c : CounterKey) → 1 ≤ count c missing → (claims_of c claims ≡ 0) × (1 ≤ count c keys)
  missing_is c some_c =
      let i = is c in
      let t = and_parts (claims_of c claims == 0) (nat_lt 0 (count c keys)) (some_true ((claims_of c claims == 0) && nat_lt 0 (count c keys)) (omega arith)) in
      let l = ltb-true 0 (count c keys) t.1 in
      (eqb-true (claims_of c claims) 0 t.0, omega arith)

  -- together with counters that have claims they are each once
  pub together_differ : (xs : List CounterKey) → Differ xs → ((c : CounterKey) → 1 ≤ count c xs → 1 ≤ count c (keys_in claims)) → Differ (xs ++ missing)
  together_differ xs differ claimed c = pick (count c missing) refl
    where
      both : count c (xs ++ missing) ≡ count c xs + count c missing
      both = total_append (λ (k : CounterKey). one_if (same_counter k c)) xs missing

      pick : (n : ℕ) → count c missing ≡ n → count c (xs ++ missing) ≤ 1
      pick zero e = let b = both in let d = differ c in omega arith
      pick (suc n) e = other (count c xs) refl
        where
          other : (m : ℕ) → count c xs ≡ m → count c (xs ++ missing) ≤ 1
          other zero z = let b = both in let d = missing_differ c in omega arith
          other (suc m) z =
              let had = claimed c (omega arith) in
              let k = keys_count c claims in
              let none = (missing_is c (omega arith)).0 in
              absurd (omega arith)

  pub together_count : (xs : List CounterKey) (c : CounterKey) (P : Type 0) → 1 ≤ count c (xs ++ missing) → (1 ≤ count c xs → P) → (1 ≤ count c missing → P) → P
  together_count xs c P some_c first second = pick (count c xs) refl
    where
      pick : (n : ℕ) → count c xs ≡ n → P
      pick zero e = let b = total_append (λ (k : CounterKey). one_if (same_counter k c)) xs missing in second (omega arith)
      pick (suc n) e = first (omega arith)

-- so many of the counters that claims bind to open windows
module _ (m : ℕ) (claims : List Claim) (live : ℕ) where
  abbrev pub some_open : List CounterKey
  some_open = take live (open_in m claims)

  pub open_long : live ≤ length (open_in m claims) → length some_open ≡ live
  open_long h = take_length (open_in m claims) live h

  pub open_is : (c : CounterKey) → 1 ≤ count c some_open → (nat_lt m (window_end_of c) ≡ true) × (1 ≤ count c (keys_in claims))
  open_is c some_c =
      let f = front_count live (open_in m claims) c in
      by (nat_lt m (window_end_of c)) refl (filter_count (λ k. nat_lt m (window_end_of k)) (keys_in claims) c)
    where
      by : (t : Bool) → nat_lt m (window_end_of c) ≡ t → count c (open_in m claims) ≡ cond (nat_lt m (window_end_of c)) (count c (keys_in claims)) 0
          → (nat_lt m (window_end_of c) ≡ true) × (1 ≤ count c (keys_in claims))
      by true e g =
          let z = ap (λ (t : Bool). cond t (count c (keys_in claims)) 0) e in
          let f = front_count live (open_in m claims) c in
          (e, omega arith)
      by false e g =
          let z = ap (λ (t : Bool). cond t (count c (keys_in claims)) 0) e in
          let f = front_count live (open_in m claims) c in
          absurd (omega arith)

  pub open_differ : Differ (keys_in claims) → Differ some_open
  open_differ differ c = pick (count c some_open) refl
    where
      pick : (n : ℕ) → count c some_open ≡ n → count c some_open ≤ 1
      pick zero e = omega arith
      pick (suc n) e =
          let o = open_is c (omega arith) in
          let f = front_count live (open_in m claims) c in
          let g = filter_count (λ k. nat_lt m (window_end_of k)) (keys_in claims) c in
          let z = ap (λ (t : Bool). cond t (count c (keys_in claims)) 0) o.0 in
          let d = differ c in
          omega arith
