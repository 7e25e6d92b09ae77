-- A text more that a pass told.
use Rattle.std.proofs.Common.{◌≡◌, ℕ, ◌<◌, ◌≤◌, ◌^◌, get_or, List, [], ◌∷◌, ◌++◌, map, Option, Some, refl, sym, ap, ◌∙◌, subst, append_assoc, append-nil}
use Rattle.std.proofs.lemmas.List.Elements.{All-push, All-weaker}
use Rattle.std.specs.Prelude.{All}
use Rattle.rate_types.specs.declared.limits.TheConstants.{MOST_NODES}
use Rattle.rule_stats.specs.declared.numbers.RuleNumbers.{RuleNumbers}
use Rattle.rule_stats.specs.Statistics.{Note, nothing}
use Rattle.rule_stats.specs.Sums.{sums}
use Rattle.shared_stats.specs.Noted.{hits_in, IsAtMost}
use Rattle.shared_stats.specs.Passes.{stats_of, reads_of}
use Rattle.shared_stats.specs.Reading.{numbered, IsReading}
use Rattle.shared_stats.specs.Text.{stats_text}
use Rattle.shared_stats.specs.declared.pass.StatsPass.{StatsPass}
use Rattle.shared_stats.specs.declared.shared_stats.SharedStats.{SharedStats}
use Rattle.counted_checks.specs.Text.{IsTextAbove}
use Rattle.counted_checks.specs.Made.{WasRead, GoesWith}

-- what was read is among more that was read
still_read : (reads more : List (ℕ × RuleNumbers)) (text : List ℕ) → WasRead reads text → WasRead (reads ++ more) text
still_read reads more text r = record {
  numbers = r.numbers;
  count = r.count;
  before = r.before;
  behind = r.behind ++ more;
  among = ap (λ (l : List (ℕ × RuleNumbers)). l ++ more) r.among ∙ append_assoc r.before (numbered 0 r.numbers ++ r.behind) more
      ∙ ap (λ (l : List (ℕ × RuleNumbers)). r.before ++ l) (append_assoc (numbered 0 r.numbers) r.behind more);
  spelled = r.spelled;
}

-- the text of a reading
module _ (rules : ℕ) (all : rules ≡ MOST_NODES) (notes : List Note) (old new : List (ℕ × RuleNumbers)) (text : List ℕ) (found : List RuleNumbers)
    (reading : IsReading rules notes old new found) (spelled : text ≡ stats_text found) where
  pub is_read : WasRead new text
  is_read = record {
    numbers = found;
    count = reading.count ∙ all;
    before = old;
    behind = [];
    among = reading.reads ∙ ap (λ (l : List (ℕ × RuleNumbers)). old ++ l) (sym (append-nil (numbered 0 found)));
    spelled = spelled;
  }

  pub is_above : IsTextAbove notes text
  is_above = record {
    numbers = found;
    count = reading.count ∙ all;
    least = subst (λ (n : ℕ). hits_in notes ≤ 2 ^ 57 → (rule : ℕ) → rule < n → IsAtMost (sums 0 rule notes) (get_or found rule nothing)) all reading.least;
    spelled = spelled;
  }

-- a pass goes with the statistics still, with one text more
pub told_on : (stats : Option SharedStats) (pass : Option StatsPass) (told : List (List ℕ)) → GoesWith stats pass told → (s : SharedStats) (p q : StatsPass)
    → stats ≡ Some s → pass ≡ Some p → stats_of q ≡ stats_of p → (more : List (ℕ × RuleNumbers)) → reads_of q ≡ reads_of p ++ more
    → (text : List ℕ) → WasRead (reads_of q) text → GoesWith stats (Some q) (told ++ text ∷ [])
told_on stats pass told g s p q is has same more grown text read =
    let h : GoesWith (Some s) (Some p) told = subst (λ (o : Option StatsPass). GoesWith (Some s) o told) has (subst (λ (o : Option SharedStats). GoesWith o pass told) is g) in
    subst (λ (o : Option SharedStats). GoesWith o (Some q) (told ++ text ∷ [])) (sym is) (
      h.0,
      same ∙ h.1,
      All-push (WasRead (reads_of q)) told text
          (subst (λ (l : List (ℕ × RuleNumbers)). All (WasRead l) told) (sym grown) (All-weaker (WasRead (reads_of p)) (WasRead (reads_of p ++ more)) (still_read (reads_of p) more) told h.2))
          read,
    )

-- the texts with one more
pub told_more : {A : Type 0} (xs : List (List ℕ × A)) (text : List ℕ) (a : A) → map (λ (x : List ℕ × A). x.0) (xs ++ (text, a) ∷ []) ≡ map (λ (x : List ℕ × A). x.0) xs ++ text ∷ []
told_more [] text a = refl
told_more (x ∷ xs) text a = ap (λ (l : List (List ℕ)). x.0 ∷ l) (told_more xs text a)
