-- Installs counted record after record.
use Rattle.std.proofs.Common.{◌≡◌, ℕ, ◌+◌, ◌<◌, ◌≤◌, ◌==◌, ◌&&◌, Bool, true, false, cond, List, length, take, get_or, refl, sym, ap, ◌∙◌, arith}
use Rattle.std.specs.Prelude.{count_by}
use Rattle.std.proofs.lemmas.Bool.Decides.{Decides-eqb}
use Rattle.std.proofs.lemmas.List.Sums.{count_by-le-length, count_by_more_yes, count_by_more_no}
use Rattle.std.proofs.lemmas.List.{length-take-le}
use Rattle.reply_text.specs.declared.record.Record.{Record}
use Rattle.run_audit.specs.Greatest.{number_in}

pub none_added : (n : ℕ) (installed same : Bool) → installed ≡ false → n ≡ n + cond (installed && same) 1 0
none_added n false same e = omega arith
none_added n true same e = cc

-- a number that a key got is one more than it had
pub one_added : (old new : List (ℕ × ℕ)) (installed : Bool) (version key number v : ℕ) → installed ≡ true → key ≡ version
    → number ≡ number_in old key + 1 → number_in new v ≡ cond (key == v) number (number_in old v)
    → number_in new v ≡ number_in old v + cond (installed && (version == v)) 1 0
one_added old new false version key number v on same is put = cc
one_added old new true version key number v on same is put = rw (sym same) (by (key == v) refl put)
  where
    by : (b : Bool) → (key == v) ≡ b → number_in new v ≡ cond b number (number_in old v) → number_in new v ≡ number_in old v + cond b 1 0
    by true e p =
        let there : number_in old key ≡ number_in old v = ap (number_in old) ((Decides-eqb key v).0 e) in
        omega (arith, p, is, there)
    by false e p = omega (arith, p)

pub count_more : (p : Record → Bool) (xs : List Record) (i : ℕ) (x : Record) → i < length xs → x ≡ get_or xs i x
    → count_by p (take (i + 1) xs) ≡ count_by p (take i xs) + cond (p x) 1 0
count_more p xs i x within is = by (p x) refl
  where
    by : (b : Bool) → p x ≡ b → count_by p (take (i + 1) xs) ≡ count_by p (take i xs) + cond b 1 0
    by true e = count_by_more_yes p xs i x within (ap p (sym is) ∙ e)
    by false e = omega (arith, count_by_more_no p xs i x within (ap p (sym is) ∙ e))

pub counts_few : (p : Record → Bool) (xs : List Record) (i : ℕ) → i < length xs → count_by p (take i xs) ≤ i
counts_few p xs i within = omega (arith, count_by-le-length p (take i xs), length-take-le i xs (omega (arith, within)))
