-- A journal with one record more, and how many numbers there are below a bound.
use Rattle.std.proofs.Common.{◌≡◌, ℕ, zero, suc, ◌+◌, ◌-◌, ◌≤◌, ◌<◌, List, [], ◌∷◌, ◌++◌, length, map, refl, sym, ap, subst, arith}
use Rattle.std.specs.Prelude.{All, slice_index, slice_get, Some}
use Rattle.counter_directory.specs.Acquired.{Bounds}
use Rattle.line_numbers.specs.Rising.{IsRising}
use Rattle.rate_limiter.specs.Passes.{LimiterView, PassView}
use Rattle.reply_text.specs.declared.record.Record.{Record}
use Rattle.script_run.specs.ScriptLine.{ScriptLine}
use Rattle.worker_run.specs.LineSteps.{IsRecordStep}
use Rattle.worker_run.specs.Journal.{Journal}

pub journal_push : (b : Bounds) (limiter : LimiterView) (start worker : ℕ) (lines : List ScriptLine) (p : PassView) (rs : List Record) (mid : PassView) (r : Record) (q : PassView)
    → Journal b limiter start worker lines p rs mid → IsRecordStep b limiter start worker lines mid r q → Journal b limiter start worker lines p (rs ++ r ∷ []) q
journal_push b limiter start worker lines p [] mid r q h s =
    (q, subst (λ (x : PassView). IsRecordStep b limiter start worker lines x r q) h s, refl)
journal_push b limiter start worker lines p (x ∷ xs) mid r q h s = (h.0, h.1, journal_push b limiter start worker lines h.0 xs mid r q h.2 s)

-- what holds of all numbers holds of the last
pub last_of : (P : ℕ → Type 0) (xs : List ℕ) (n : ℕ) → All P (xs ++ n ∷ []) → P n
last_of P [] n h = h 0 n (omega arith)
last_of P (x ∷ xs) n h = last_of P xs n (λ k d lt. h (suc k) d (omega (arith, lt)))

-- in rising order the number at a place is at least the place
rising_at : (xs : List ℕ) → IsRising xs → (i : ℕ) → i < length xs → i ≤ slice_index xs i
rising_at xs rises zero h = omega arith
rising_at xs rises (suc i) h = let r = rising_at xs rises i (omega arith) in let s = rises i (suc i) (omega arith) h in omega arith

-- numbers below a bound in rising order are no more than the bound
pub rising_length : (xs : List ℕ) (n : ℕ) → IsRising xs → All (λ x. x < n) xs → length xs ≤ n
rising_length [] n rises below = omega arith
rising_length (x ∷ xs) n rises below =
    let a = rising_at (x ∷ xs) rises (length xs) (omega arith) in
    let b = below (length xs) 0 (omega arith) in
    omega arith

pub map_push : (rs : List Record) (r : Record) → map (λ (x : Record). x.line - 1) (rs ++ r ∷ []) ≡ map (λ (x : Record). x.line - 1) rs ++ (r.line - 1) ∷ []
map_push [] r = refl
map_push (x ∷ xs) r = ap (λ (l : List ℕ). (x.line - 1) ∷ l) (map_push xs r)

pub line_there : (lines : List ScriptLine) (k : ℕ) (line : ScriptLine) → slice_get lines k ≡ Some line → slice_get lines (k + 1 - 1) ≡ Some line
line_there lines k line h = let e : k + 1 - 1 ≡ k = omega arith in subst (λ (n : ℕ). slice_get lines n ≡ Some line) (sym e) h

pub one_before : (m n : ℕ) → m ≡ n + 1 → n ≡ m - 1
one_before m n e = omega arith
