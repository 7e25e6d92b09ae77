-- What is put behind a text, and what a reading of one rule more comes to.
use Rattle.std.proofs.Common.{◌≡◌, false, codes, ℕ, zero, suc, ◌+◌, ◌≤◌, ◌<◌, ◌^◌, List, [], ◌∷◌, ◌++◌, length, get_or, refl, sym, ap, ◌∙◌, subst, arith, append_assoc, length-append}
use native.Mathlib.Decide.{dec_lt}
use Rattle.rule_stats.specs.declared.numbers.RuleNumbers.{RuleNumbers}
use Rattle.rule_stats.specs.Statistics.{Note, nothing}
use Rattle.rule_stats.specs.Sums.{sums}
use Rattle.shared_stats.specs.Noted.{hits_in, IsAtMost}
use Rattle.serde_json.specs.Written.{items_text}
use Rattle.serde_json.proofs.OnLiterals.{serde_json_on_literals}
use Rattle.shared_stats.specs.Reading.{numbered, IsReading}
use Rattle.shared_stats.specs.Text.{counted_items, stats_data, stats_text}

pub grown_by_8 : (out a b d e f g h i : List ℕ)
    → (((((((out ++ a) ++ b) ++ d) ++ e) ++ f) ++ g) ++ h) ++ i ≡ out ++ (a ++ (b ++ (d ++ (e ++ (f ++ (g ++ (h ++ i)))))))
grown_by_8 out a b d e f g h i = simp append_assoc

numbered_more : (rule : ℕ) (xs : List RuleNumbers) (n : RuleNumbers) → numbered rule (xs ++ n ∷ []) ≡ numbered rule xs ++ (rule + length xs, n) ∷ []
numbered_more rule [] n = ap (λ (k : ℕ). (k, n) ∷ []) (omega arith)
numbered_more rule (x ∷ xs) n =
    ap (λ (l : List (ℕ × RuleNumbers)). (rule, x) ∷ l) (numbered_more (rule + 1) xs n
    ∙ ap (λ (k : ℕ). numbered (rule + 1) xs ++ (k, n) ∷ []) (omega arith))

at_before : (xs : List RuleNumbers) (n : RuleNumbers) (k : ℕ) → k < length xs → get_or (xs ++ n ∷ []) k nothing ≡ get_or xs k nothing
at_before [] n k h = absurd (omega arith)
at_before (x ∷ xs) n zero h = refl
at_before (x ∷ xs) n (suc k) h = at_before xs n k (omega arith)

at_end : (xs : List RuleNumbers) (n : RuleNumbers) → get_or (xs ++ n ∷ []) (length xs) nothing ≡ n
at_end [] n = refl
at_end (x ∷ xs) n = at_end xs n

-- one rule more was read
pub read_more : (rule : ℕ) (notes : List Note) (old mid new : List (ℕ × RuleNumbers)) (found : List RuleNumbers) (n : RuleNumbers)
    → IsReading rule notes old mid found → new ≡ mid ++ (rule, n) ∷ [] → (hits_in notes ≤ 2 ^ 57 → IsAtMost (sums 0 rule notes) n)
    → IsReading (rule + 1) notes old new (found ++ n ∷ [])
read_more rule notes old mid new found n r grew most = record {
  count = let c = r.count in omega (arith, length-append found (n ∷ []));
  least = λ few k within. by k within few (dec_lt k rule);
  reads =
      let c = r.count in
      grew ∙ ap (λ (l : List (ℕ × RuleNumbers)). l ++ (rule, n) ∷ []) r.reads ∙ append_assoc old (numbered 0 found) ((rule, n) ∷ [])
      ∙ ap (λ (k : ℕ). old ++ (numbered 0 found ++ (k, n) ∷ [])) (omega arith) ∙ ap (λ (l : List (ℕ × RuleNumbers)). old ++ l) (sym (numbered_more 0 found n));
}
  where
    by : (k : ℕ) → k < rule + 1 → hits_in notes ≤ 2 ^ 57 → Dec (k < rule) → IsAtMost (sums 0 k notes) (get_or (found ++ n ∷ []) k nothing)
    by k within few (yes d) =
        subst (IsAtMost (sums 0 k notes)) (sym (at_before found n k (let c = r.count in omega arith))) (r.least few k d)
    by k within few (no d) =
        let c = r.count in
        let is : k ≡ rule = omega arith in
        let e : length found ≡ k = omega arith in
        subst (λ (j : ℕ). IsAtMost (sums 0 j notes) (get_or (found ++ n ∷ []) k nothing)) (sym is)
        (subst (λ (j : ℕ). IsAtMost (sums 0 rule notes) (get_or (found ++ n ∷ []) j nothing)) e
        (subst (IsAtMost (sums 0 rule notes)) (sym (at_end found n)) (most few)))

pub append_nil : {A : Type 0} (xs : List A) → xs ++ [] ≡ xs
append_nil [] = refl
append_nil (x ∷ xs) = ap (λ (l : List _). x ∷ l) (append_nil xs)

-- the text of all rules, with what stands around it
pub spelled : (found : List RuleNumbers) → codes "{\"rules\":[" ++ (items_text false (counted_items 0 found) ++ 125 ∷ []) ≡ stats_text found
unfolding serde_json_on_literals stats_data
spelled found = refl
