-- What is counted in all journals is what is counted in the records.
use Rattle.std.proofs.Common.{◌≡◌, ℕ, ◌≤◌, Bool, List, [], ◌∷◌, length, refl, cond, arith}
use Rattle.std.specs.Prelude.{count_by}
use Rattle.std.proofs.lemmas.List.Sums.{sum_by-cons}
use Rattle.rate_types.specs.Sums.{total, one_if}
use Rattle.reply_text.specs.declared.record.Record.{Record}

-- a count is a sum
count_total : (f : Record → Bool) (rs : List Record) → count_by f rs ≡ total (λ r. one_if (f r)) rs
count_total f [] = refl
count_total f (r ∷ rs) = let a = sum_by-cons (λ x. cond (f x) 1 0) r rs in let more = count_total f rs in omega (arith, a, more)

-- and at most the length
count_few : (f : Record → Bool) (rs : List Record) → count_by f rs ≤ length rs
count_few f [] = omega arith
count_few f (r ∷ rs) =
    let a = sum_by-cons (λ x. cond (f x) 1 0) r rs in let more = count_few f rs in let one = at_most (f r) in omega (arith, a, more, one)
  where
    at_most : (b : Bool) → cond b 1 0 ≤ 1
    at_most b = grind arith

-- the sums of the journals are those of their counts
total_counts : (f : Record → Bool) (js : List (List Record)) → total (count_by f) js ≡ total (total (λ r. one_if (f r))) js
total_counts f [] = refl
total_counts f (j ∷ js) = let a = count_total f j in let more = total_counts f js in omega (arith, a, more)

-- what is counted in all journals
pub all_counts : (f : Record → Bool) (records : List Record) (js : List (List Record))
    → ((g : Record → ℕ) → total g records ≡ total (total g) js) → (total (count_by f) js ≡ count_by f records) × (total (count_by f) js ≤ length records)
all_counts f records js sums =
    let a = total_counts f js in
    let b = sums (λ r. one_if (f r)) in
    let d = count_total f records in
    let few = count_few f records in
    (omega (arith, a, b, d), omega (arith, a, b, d, few))
