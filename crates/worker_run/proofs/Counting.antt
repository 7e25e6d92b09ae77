-- How many of the records installed versions below a bound, where each version past the first is owned once.
use Rattle.std.proofs.Common.{◌≡◌, ℕ, zero, suc, ◌+◌, ◌≤◌, ◌<◌, ◌==◌, ◌&&◌, List, [], ◌∷◌, Bool, true, false, nat_lt, refl, arith}
use Rattle.std.proofs.lemmas.Bool.Decides.{nat_tests}
use Rattle.std.specs.List.{AllByRecursion}
use Rattle.rate_types.specs.Sums.{total, one_if}
use Rattle.rate_types.specs.declared.limits.TheConstants.{MOST_VERSIONS}
use Rattle.told_list.specs.Lists.{IsOwnedOnce}
use Rattle.reply_text.specs.declared.record.Record.{Record}
use Rattle.reply_text.specs.declared.record.Outcome.{Outcome}
use Rattle.reply_text.specs.declared.record.Outcome.TheVariants as outcome
use Rattle.script_run.specs.Versions.{is_installed}

-- a reload that was refused is by the last of as many versions as there may be
abbrev pub IsFullAt : Outcome → ℕ → Type 0
IsFullAt (outcome.VersionsFull n) version = version + 1 ≡ MOST_VERSIONS
IsFullAt other version = Unit {0}

-- how many records installed this version
abbrev pub installed_as : ℕ → List Record → ℕ
installed_as v rs = total (λ (r : Record). one_if (is_installed r.outcome && (r.version == v))) rs

-- how many records installed a version below this
abbrev pub installed_below : ℕ → List Record → ℕ
installed_below v rs = total (λ (r : Record). one_if (is_installed r.outcome && nat_lt r.version v)) rs

one_more : (v : ℕ) (rs : List Record) → installed_below (suc v) rs ≡ installed_below v rs + installed_as v rs
one_more v [] = refl
one_more v (r ∷ rs) =
    let more = one_more v rs in
    let one = by (is_installed r.outcome) (nat_lt r.version v) (r.version == v) refl refl in
    omega (arith, more, one)
  where
    by : (f less same : Bool) → nat_lt r.version v ≡ less → (r.version == v) ≡ same
        → one_if (f && nat_lt r.version (suc v)) ≡ one_if (f && nat_lt r.version v) + one_if (f && (r.version == v))
    by false less same p q = refl
    by true true same p q =
        let next : nat_lt r.version (suc v) ≡ true = grind (arith, nat_tests) in
        let no : (r.version == v) ≡ false = grind (arith, nat_tests) in
        rw (p, next, no) refl
    by true false true p q = let next : nat_lt r.version (suc v) ≡ true = grind (arith, nat_tests) in rw (p, next, q) refl
    by true false false p q = let next : nat_lt r.version (suc v) ≡ false = grind (arith, nat_tests) in rw (p, next, q) refl

none_below : (rs : List Record) → installed_below 0 rs ≡ 0
none_below [] = refl
none_below (r ∷ rs) =
    let more = none_below rs in
    let no : nat_lt r.version 0 ≡ false = grind (arith, nat_tests) in
    let one = by (is_installed r.outcome) (nat_lt r.version 0) no in
    omega (arith, more, one)
  where
    by : (f less : Bool) → less ≡ false → one_if (f && less) ≡ 0
    by false less h = refl
    by true less h = rw h refl

-- where all versions are below the bound, these are all that were installed
pub all_below : (v : ℕ) (rs : List Record) → AllByRecursion (λ (r : Record). r.version < v) rs → installed_below v rs ≡ total (λ (r : Record). one_if (is_installed r.outcome)) rs
all_below v [] h = refl
all_below v (r ∷ rs) h =
    let more = all_below v rs h.1 in
    let low : r.version < v = h.0 in
    let is : nat_lt r.version v ≡ true = grind (arith, nat_tests) in
    let one = by (is_installed r.outcome) (nat_lt r.version v) is in
    omega (arith, more, one)
  where
    by : (f less : Bool) → less ≡ true → one_if (f && less) ≡ one_if f
    by false less h = refl
    by true less h = rw h refl

-- where each version from 1 on is owned once, those below a bound are one less than the bound
pub owned_below : (rs : List Record) (len : ℕ) → ((v : ℕ) → IsOwnedOnce 1 len v (installed_as v rs)) → (v : ℕ) → 1 ≤ v → v ≤ len → installed_below v rs + 1 ≡ v
owned_below rs len owned zero low high = absurd (omega arith)
owned_below rs len owned (suc zero) low high =
    let a = one_more 0 rs in
    let z = none_below rs in
    let early = (owned 0).early (omega arith) in
    omega (arith, a, z, early)
owned_below rs len owned (suc (suc v)) low high =
    let a = one_more (suc v) rs in
    let so_far = owned_below rs len owned (suc v) (omega arith) (omega arith) in
    let one = (owned (suc v)).there (omega arith) (omega arith) in
    omega (arith, a, so_far, one)

-- a version that no record could install was installed by none
pub none_as : (v : ℕ) (rs : List Record) → AllByRecursion (λ (r : Record). is_installed r.outcome ≡ true → r.version < v) rs → installed_as v rs ≡ 0
none_as v [] h = refl
none_as v (r ∷ rs) h =
    let more = none_as v rs h.1 in
    let one = by (is_installed r.outcome) (r.version == v) refl refl in
    omega (arith, more, one)
  where
    by : (f same : Bool) → is_installed r.outcome ≡ f → (r.version == v) ≡ same → one_if (f && same) ≡ 0
    by false same p q = refl
    by true false p q = refl
    by true true p q = let low : r.version < v = h.0 p in absurd (grind (arith, nat_tests))
