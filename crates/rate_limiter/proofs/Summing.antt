-- The counts of open claims are the totals of what was charged.
use Rattle.std.proofs.Common.{◌≡◌, ℕ, zero, suc, ◌+◌, ◌≤◌, ◌<◌, ◌&&◌, ◌||◌, nat_lt, List, [], ◌∷◌, ◌++◌, length, cond, Bool, true, false, refl}
use Rattle.std.proofs.Common.{sym, ap, ◌∙◌, subst, arith}
use Rattle.std.specs.Prelude.{slice_index}
use Rattle.std.specs.List.{AllByRecursion, list_any}
use Rattle.std.proofs.lemmas.Bool.Decides.{nat_tests}
use mathlib.Core.Option.{some, some-injective, some-ne-none}
use lib.ListN.{get_elem?}
use Rattle.rate_types.specs.Counters.{same_counter}
use Rattle.rate_types.specs.Sums.{one_if}
use Rattle.rate_types.specs.declared.counter_key.CounterKey.{CounterKey}
use Rattle.window_keys.specs.Counter.{window_end_of}
use Rattle.window_keys.proofs.Counters.{is_same}
use Rattle.counter_directory.specs.declared.closed.OpenClaim.{OpenClaim}
use Rattle.counter_directory.specs.Open.{open_claims_of}
use Rattle.rls_core.specs.Totals.{totals_on, HaveTotals}
use Rattle.rls_core.specs.declared.totals.Total.{Total}
use Rattle.rate_limiter.specs.Summed.{CountCharged, HaveClaims, open_totals}
use Rattle.rate_limiter.proofs.Lists.{each_at}

is_less : (m n : ℕ) → m < n → nat_lt m n ≡ true
is_less m n h = grind (arith, nat_tests)

less : (m n : ℕ) → nat_lt m n ≡ true → m < n
less m n h = grind (arith, nat_tests)

pub none_left : {A : Type 0} (xs : List A) → length xs ≡ 0 → xs ≡ []
none_left [] e = refl
none_left (x ∷ xs) e = absurd (omega arith)

either : (a b : Bool) → b ≡ true → (a || b) ≡ true
either true b h = refl
either false b h = h

module _ (moment : ℕ) (counts : List ℕ) where
  pub totals_append : (xs ys : List OpenClaim) → open_totals moment counts (xs ++ ys) ≡ open_totals moment counts xs ++ open_totals moment counts ys
  totals_append [] ys = refl
  totals_append (x ∷ xs) ys = by (nat_lt 0 (slice_index counts x.spot.cell) && nat_lt moment (window_end_of x.key)) (totals_append xs ys)
    where
      t : Total
      t = record { key = x.key; charged = slice_index counts x.spot.cell }

      by : (b : Bool) → open_totals moment counts (xs ++ ys) ≡ open_totals moment counts xs ++ open_totals moment counts ys
          → cond b (t ∷ open_totals moment counts (xs ++ ys)) (open_totals moment counts (xs ++ ys))
          ≡ cond b (t ∷ open_totals moment counts xs) (open_totals moment counts xs) ++ open_totals moment counts ys
      by true e = ap (λ l. t ∷ l) e
      by false e = e

  no_more : (q : CounterKey) (xs : List OpenClaim) → totals_on q (open_totals moment counts xs) ≤ open_claims_of q xs
  no_more q [] = omega arith
  no_more q (x ∷ xs) = by (nat_lt 0 (slice_index counts x.spot.cell) && nat_lt moment (window_end_of x.key)) (no_more q xs)
    where
      by : (b : Bool) → totals_on q (open_totals moment counts xs) ≤ open_claims_of q xs
          → totals_on q (cond b (record { key = x.key; charged = slice_index counts x.spot.cell } ∷ open_totals moment counts xs) (open_totals moment counts xs))
          ≤ one_if (same_counter x.key q) + open_claims_of q xs
      by true le = omega arith
      by false le = omega arith

  module _ (charged : CounterKey → ℕ) where
    abbrev IsTotal : Total → Type 0
    IsTotal t = (t.charged ≡ charged t.key) × (0 < t.charged) × (moment < window_end_of t.key)

    are_sums : (xs : List OpenClaim) → CountCharged charged moment counts xs → AllByRecursion IsTotal (open_totals moment counts xs)
    are_sums [] h = tt
    are_sums (x ∷ xs) h = by (nat_lt 0 (slice_index counts x.spot.cell)) refl (nat_lt moment (window_end_of x.key)) refl (are_sums xs h.1)
      where
        by : (a : Bool) → nat_lt 0 (slice_index counts x.spot.cell) ≡ a → (b : Bool) → nat_lt moment (window_end_of x.key) ≡ b
            → AllByRecursion IsTotal (open_totals moment counts xs)
            → AllByRecursion IsTotal (cond (a && b) (record { key = x.key; charged = slice_index counts x.spot.cell } ∷ open_totals moment counts xs)
            (open_totals moment counts xs))
        by true e true f more =
            ((h.0 (less moment (window_end_of x.key) f), less 0 (slice_index counts x.spot.cell) e, less moment (window_end_of x.key) f), more)
        by true e false f more = more
        by false e b f more = more

  -- a claim whose cell counts something, of an open window, has a total
  has_total : (q : CounterKey) (xs : List OpenClaim) (i : ℕ) (x : OpenClaim) → get_elem? xs i ≡ some x → q ≡ x.key → 0 < slice_index counts x.spot.cell
      → moment < window_end_of x.key → list_any (λ t. same_counter q t.key) (open_totals moment counts xs) ≡ true
  has_total q [] i x at is more later = absurd (some-ne-none x (sym at))
  has_total q (y ∷ xs) zero x at is more later =
      let e : x ≡ y = sym (some-injective y x at) in
      let counted : nat_lt 0 (slice_index counts y.spot.cell) ≡ true
      = is_less 0 (slice_index counts y.spot.cell) (subst (λ (z : OpenClaim). 0 < slice_index counts z.spot.cell) e more) in
      let live : nat_lt moment (window_end_of y.key) ≡ true
      = is_less moment (window_end_of y.key) (subst (λ (z : OpenClaim). moment < window_end_of z.key) e later) in
      let same : same_counter q y.key ≡ true = is_same q y.key (is ∙ ap (λ (z : OpenClaim). z.key) e) in
      rw (counted, live, same) refl
  has_total q (y ∷ xs) (suc i) x at is more later =
      by (nat_lt 0 (slice_index counts y.spot.cell) && nat_lt moment (window_end_of y.key)) (has_total q xs i x at is more later)
    where
      by : (b : Bool) → list_any (λ t. same_counter q t.key) (open_totals moment counts xs) ≡ true
          → list_any (λ t. same_counter q t.key)
          (cond b (record { key = y.key; charged = slice_index counts y.spot.cell } ∷ open_totals moment counts xs) (open_totals moment counts xs)) ≡ true
      by true h = either (same_counter q y.key) (list_any (λ t. same_counter q t.key) (open_totals moment counts xs)) h
      by false h = h

  -- the counts of open claims, one for each counter, are totals of what was charged
  pub have_totals : (xs : List OpenClaim) → ((q : CounterKey) → open_claims_of q xs ≤ 1) → (charged : CounterKey → ℕ)
      → CountCharged charged moment counts xs → HaveClaims charged moment xs → HaveTotals charged moment (open_totals moment counts xs)
  have_totals xs one charged all claims = record {
    once = λ q. let le = no_more q xs in let o = one q in omega arith;
    sums = are_sums charged xs all;
    complete = λ q more later.
        let c = claims q more later in
        let x = c.1 in
        let live : moment < window_end_of x.key = subst (λ (k : CounterKey). moment < window_end_of k) (sym c.3) later in
        let is = each_at (λ (y : OpenClaim). moment < window_end_of y.key → slice_index counts y.spot.cell ≡ charged y.key) xs c.0 x c.2 all live in
        let value : charged x.key ≡ charged q = ap charged c.3 in
        has_total q xs c.0 x c.2 (sym c.3) (omega (arith, is, value, more)) live;
  }
