-- What closing the statistics tells of their passes.
use Rattle.std.proofs.Common.{◌≡◌, ℕ, zero, suc, ◌+◌, ◌<◌, ◌≤◌, ◌^◌, List, [], ◌∷◌, ◌++◌, length, get_or, refl, ap, sym, ◌∙◌, subst, arith}
use Rattle.std.proofs.lemmas.List.Elements.{All-nil, All-cons, All-head, All-tail, All-weaker}
use Rattle.std.specs.Prelude.{All}
use Rattle.std.specs.List.{flat_map}
use Rattle.rate_types.specs.declared.limits.TheConstants.{MOST_NODES}
use Rattle.rule_stats.specs.declared.numbers.RuleNumbers.{RuleNumbers}
use Rattle.rule_stats.specs.Statistics.{Note, nothing}
use Rattle.rule_stats.specs.Sums.{sums}
use Rattle.shared_stats.specs.Noted.{as_notes, hits_in, IsAtMost}
use Rattle.shared_stats.specs.Passes.{notes_of, reads_of}
use Rattle.shared_stats.specs.Reading.{numbered}
use Rattle.shared_stats.specs.declared.pass.StatsPass.{StatsPass}
use Rattle.rls_core.specs.declared.status.Status.{Status}
use Rattle.counted_checks.specs.Text.{IsTextBelow}
use Rattle.counted_checks.specs.Counting.{StatsView}
use Rattle.counted_checks.specs.Made.{WasRead, AreGivenBack, HaveClosed}

module _ {X : Type 0} (P : X → Type 0) where
  first_all : (xs ys : List X) → All P (xs ++ ys) → All P xs
  first_all [] ys h = All-nil P
  first_all (x ∷ xs) ys h = All-cons P x xs (All-head P x (xs ++ ys) h) (first_all xs ys (All-tail P x (xs ++ ys) h))

  last_all : (xs ys : List X) → All P (xs ++ ys) → All P ys
  last_all [] ys h = h
  last_all (x ∷ xs) ys h = last_all xs ys (All-tail P x (xs ++ ys) h)

module _ (P : ℕ × RuleNumbers → Type 0) where
  numbered_at : (n : ℕ) (xs : List RuleNumbers) → All P (numbered n xs) → (rule : ℕ) → rule < length xs → P (n + rule, get_or xs rule nothing)
  numbered_at n [] h rule lt = absurd (omega (arith, lt))
  numbered_at n (x ∷ xs) h zero lt = subst (λ (m : ℕ). P (m, x)) (omega arith) (All-head P (n, x) (numbered (n + 1) xs) h)
  numbered_at n (x ∷ xs) h (suc r) lt =
      subst (λ (m : ℕ). P (m, get_or xs r nothing)) (omega arith) (numbered_at (n + 1) xs (All-tail P (n, x) (numbered (n + 1) xs) h) r (omega (arith, lt)))

no_more : (n : ℕ) → 0 + n ≡ n
no_more n = omega arith

module _ (ends : List RuleNumbers) (notes : List Note)
    (are : (rule : ℕ) → rule < MOST_NODES → get_or ends rule nothing ≡ sums 0 rule notes) where
  abbrev IsBelow : ℕ × RuleNumbers → Type 0
  IsBelow t = IsAtMost t.1 (get_or ends t.0 nothing)

  abbrev AreBelow : StatsPass → Type 0
  AreBelow p = All IsBelow (reads_of p)

  text_below : (reads : List (ℕ × RuleNumbers)) → All IsBelow reads → (text : List ℕ) → WasRead reads text → IsTextBelow notes text
  text_below reads h text r = record {
    numbers = r.numbers;
    count = r.count;
    most = λ rule lt. subst (λ (x : RuleNumbers). IsAtMost (get_or r.numbers rule nothing) x) (are rule lt)
        (subst (λ (n : ℕ). IsBelow (n, get_or r.numbers rule nothing)) (no_more rule) (numbered_at IsBelow 0 r.numbers
        (first_all IsBelow (numbered 0 r.numbers) r.behind (last_all IsBelow r.before (numbered 0 r.numbers ++ r.behind)
        (subst (λ (l : List (ℕ × RuleNumbers)). All IsBelow l) r.among h)))
        rule (subst (λ (n : ℕ). rule < n) (sym r.count) lt)));
    spelled = r.spelled;
  }

  all_below : (ps : List StatsPass) (vs : List StatsView) → AreGivenBack ps vs → All AreBelow ps
      → All (λ (v : StatsView). All (IsTextBelow notes) v.told) vs
  all_below [] [] g h = All-nil _
  all_below [] (v ∷ vs) g h = absurd g
  all_below (p ∷ ps) [] g h = absurd g
  all_below (p ∷ ps) (v ∷ vs) g h =
      All-cons (λ (w : StatsView). All (IsTextBelow notes) w.told) v vs
      (All-weaker (WasRead (reads_of p)) (IsTextBelow notes) (text_below (reads_of p) (All-head AreBelow p ps h)) v.told g.0.2)
      (all_below ps vs g.1 (All-tail AreBelow p ps h))

-- the notes of the passes
same_notes : (ps : List StatsPass) (vs : List StatsView) → AreGivenBack ps vs → flat_map notes_of ps ≡ flat_map (λ (w : StatsView). as_notes w.noted) vs
same_notes [] [] g = refl
same_notes [] (v ∷ vs) g = absurd g
same_notes (p ∷ ps) [] g = absurd g
same_notes (p ∷ ps) (v ∷ vs) g = ap (λ (l : List (ℕ × Status)). as_notes l ++ flat_map notes_of ps) g.0.1
    ∙ ap (λ (l : List Note). as_notes v.noted ++ l) (same_notes ps vs g.1)

abbrev IsFew : StatsView → Type 0
IsFew v = hits_in (as_notes v.noted) ≤ 2 ^ 57

few_notes : (ps : List StatsPass) (vs : List StatsView) → AreGivenBack ps vs → All IsFew vs
    → All (λ (p : StatsPass). hits_in (notes_of p) ≤ 2 ^ 57) ps
few_notes [] [] g h = All-nil _
few_notes [] (v ∷ vs) g h = absurd g
few_notes (p ∷ ps) [] g h = absurd g
few_notes (p ∷ ps) (v ∷ vs) g h =
    All-cons (λ (q : StatsPass). hits_in (notes_of q) ≤ 2 ^ 57) p ps
    (subst (λ (l : List (ℕ × Status)). hits_in (as_notes l) ≤ 2 ^ 57) (sym g.0.1) (All-head IsFew v vs h)) (few_notes ps vs g.1 (All-tail IsFew v vs h))

-- the statistics were closed with these numbers
pub closed_with : (ps : List StatsPass) (ends : List RuleNumbers)
    → (All (λ (p : StatsPass). hits_in (notes_of p) ≤ 2 ^ 57) ps → (rule : ℕ) → rule < MOST_NODES → get_or ends rule nothing ≡ sums 0 rule (flat_map notes_of ps))
    → All (λ p. All (λ t. IsAtMost t.1 (get_or ends t.0 nothing)) (reads_of p)) ps → (vs : List StatsView) → AreGivenBack ps vs → HaveClosed vs
closed_with ps ends are below vs g = record {
  most = λ few. all_below ends (flat_map (λ (w : StatsView). as_notes w.noted) vs)
      (λ rule lt. are (few_notes ps vs g few) rule lt ∙ ap (λ (l : List Note). sums 0 rule l) (same_notes ps vs g)) ps vs g below;
}
