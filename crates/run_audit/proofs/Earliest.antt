-- The greatest number of the earlier records of a worker, and what it decides.
use Rattle.std.proofs.Common.{◌≡◌, ℕ, zero, suc, ◌+◌, ◌<◌, ◌≤◌, ◌==◌, ◌||◌, not, nat_le, Bool, true, false, cond, List, [], ◌∷◌, ◌++◌, length, take, get_or, map, refl, sym, ap}
use Rattle.std.proofs.Common.{◌∙◌, subst, arith, is_eq}
use Rattle.std.specs.Prelude.{max}
use Rattle.std.specs.Bool.{Decides}
use Rattle.std.specs.List.{AllByRecursion}
use Rattle.std.specs.Ordering.{nat_cmp}
use Rattle.std.proofs.lemmas.Bool.{leb-true, le-leb}
use Rattle.std.proofs.lemmas.Bool.Decides.{nat_tests, Decides-eqb}
use Rattle.std.proofs.lemmas.List.{take_more}
use Rattle.reply_text.specs.declared.record.Record.{Record}
use Rattle.reply_text.specs.declared.record.Outcome.{Outcome}
use Rattle.reply_text.specs.declared.record.Outcome.TheVariants.{Checked, Ticked, Installed, Bad, Full, Spent, VersionsFull}
use Rattle.script_run.specs.Lines.{IsAtLeastEarlier}
use Rattle.script_run.specs.Versions.{is_installed, IsAbove}
use Rattle.script_run.specs.Views.{line_view}
use Rattle.script_run.specs.declared.line.Line.{Line}
use Rattle.run_audit.specs.Greatest.{greatest, number_in}
use Rattle.run_audit.proofs.Each.{EachBelow}

-- ---- the greatest number

least : (number : Record → ℕ) (w m : ℕ) (es : List Record) → greatest number w es ≤ m → AllByRecursion (λ e. e.worker ≡ w → number e ≤ m) es
least number w m [] h = tt
least number w m (e ∷ es) h =
    (λ own. let here = ap (λ b. cond b (number e) 0) ((Decides-eqb e.worker w).1 own) in omega (arith, here, h), least number w m es (omega (arith, h)))

most : (number : Record → ℕ) (w m : ℕ) (es : List Record) → AllByRecursion (λ e. e.worker ≡ w → number e ≤ m) es → greatest number w es ≤ m
most number w m [] h = omega arith
most number w m (e ∷ es) h = by (e.worker == w) refl (most number w m es h.1)
  where
    by : (b : Bool) → (e.worker == w) ≡ b → greatest number w es ≤ m → max (cond b (number e) 0) (greatest number w es) ≤ m
    by true own more = omega (arith, h.0 ((Decides-eqb e.worker w).0 own), more)
    by false own more = omega (arith, more)

greatest_push : (number : Record → ℕ) (w : ℕ) (es : List Record) (r : Record)
    → greatest number w (es ++ r ∷ []) ≡ max (greatest number w es) (cond (r.worker == w) (number r) 0)
greatest_push number w [] r = omega arith
greatest_push number w (e ∷ es) r = omega (arith, greatest_push number w es r)

-- ---- facts

pub at_least_by : (number : Record → ℕ) (r : Record) (es : List Record) (m : ℕ) → m ≡ greatest number r.worker es
    → Decides (nat_le m (number r)) (IsAtLeastEarlier number es r)
at_least_by number r es m is = (
  λ e. least number r.worker (number r) es (omega (arith, sym is, leb-true m (number r) e)),
  λ h. le-leb m (number r) (omega (arith, is, most number r.worker (number r) es h)),
)

all_above : (w v : ℕ) (es : List Record) (m : ℕ) → m ≡ greatest (λ e. e.version + 1) w es
    → Decides (nat_le m v) (AllByRecursion (λ e. e.worker ≡ w → e.version < v) es)
all_above w v es m is = (
  λ e. below es (least (λ e. e.version + 1) w v es (omega (arith, sym is, leb-true m v e))),
  λ h. le-leb m v (omega (arith, is, most (λ e. e.version + 1) w v es (above es h))),
)
  where
    below : (es : List Record) → AllByRecursion (λ e. e.worker ≡ w → e.version + 1 ≤ v) es → AllByRecursion (λ e. e.worker ≡ w → e.version < v) es
    below [] h = tt
    below (e ∷ es) h = (λ own. omega (arith, h.0 own), below es h.1)

    above : (es : List Record) → AllByRecursion (λ e. e.worker ≡ w → e.version < v) es → AllByRecursion (λ e. e.worker ≡ w → e.version + 1 ≤ v) es
    above [] h = tt
    above (e ∷ es) h = (λ own. omega (arith, h.0 own), above es h.1)

pub above_by : (r : Record) (es : List Record) (m : ℕ) → m ≡ greatest (λ e. e.version + 1) r.worker es
    → Decides (not (is_installed r.outcome) || nat_le m r.version) (IsAbove es r r.outcome)
above_by r es m is = by r.outcome
  where
    by : (o : Outcome) → Decides (not (is_installed o) || nat_le m r.version) (IsAbove es r o)
    by (Checked answer) = (λ e. tt, λ h. refl)
    by (Ticked moment) = (λ e. tt, λ h. refl)
    by Installed = all_above r.worker r.version es m is
    by (Bad refused) = (λ e. tt, λ h. refl)
    by (Full live held wanted) = (λ e. tt, λ h. refl)
    by (Spent claims wanted) = (λ e. tt, λ h. refl)
    by (VersionsFull versions) = (λ e. tt, λ h. refl)

-- ---- along the records

pub number_ties : (m n : ℕ) → is_eq (nat_cmp m n) ≡ (m == n)
number_ties m n = grind (arith, nat_tests)

-- the facts of the first records stand, and the map has the greatest numbers of the workers among them
pub record Followed (number : Record → ℕ) (Stands : List Record → Record → Type 0) (numbers : List (ℕ × ℕ)) (i : ℕ) (lines : List Line)
    (records : List Record) : Type 0 where
  pub below : EachBelow i (map line_view lines) records (λ before earlier l r. Stands earlier r)
  pub greatest_in : (w : ℕ) → number_in numbers w ≡ greatest number w (take i records)

pub line_there : (lines : List Line) (i : ℕ) → i < length lines → (x : Line) × (x ≡ get_or lines i x)
line_there [] i within = absurd (omega arith)
line_there (x ∷ xs) zero within = (x, refl)
line_there (x ∷ xs) (suc i) within = line_there xs i (omega arith)

pub greatest_more : (number : Record → ℕ) (old new : List (ℕ × ℕ)) (records : List Record) (i : ℕ) (r : Record) (m : ℕ) → i < length records
    → r ≡ get_or records i r → m ≡ number_in old r.worker
    → ((w : ℕ) → number_in new w ≡ cond (r.worker == w) (max m (number r)) (number_in old w))
    → ((w : ℕ) → number_in old w ≡ greatest number w (take i records)) → (w : ℕ)
    → number_in new w ≡ greatest number w (take (i + 1) records)
greatest_more number old new records i r m within is_r is_m put known w =
    let more : take (i + 1) records ≡ take i records ++ r ∷ [] =
    take_more records i r within ∙ ap (λ z. take i records ++ z ∷ []) (sym is_r) in
    subst (λ rs. number_in new w ≡ greatest number w rs) (sym more) (by (r.worker == w) refl (put w) (greatest_push number w (take i records) r))
  where
    by : (b : Bool) → (r.worker == w) ≡ b → number_in new w ≡ cond b (max m (number r)) (number_in old w)
        → greatest number w (take i records ++ r ∷ []) ≡ max (greatest number w (take i records)) (cond b (number r) 0)
        → number_in new w ≡ greatest number w (take i records ++ r ∷ [])
    by true own p q =
        let same : m ≡ number_in old w = is_m ∙ ap (number_in old) ((Decides-eqb r.worker w).0 own) in
        omega (arith, p, q, same, known w)
    by false own p q = omega (arith, p, q, known w)
