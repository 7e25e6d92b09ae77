-- What one note more adds.
use Rattle.std.proofs.Common.{◌≡◌, ℕ, ◌+◌, ◌≤◌, ◌<◌, ◌^◌, ◌==◌, List, [], ◌∷◌, ◌++◌, Option, None, Some, if◌then◌else◌, refl, sym, ap, ◌∙◌, arith}
use Rattle.std.proofs.lemmas.List.{map-append}
use Rattle.std.proofs.lemmas.Bool.{ne_eqb}
use Rattle.rate_types.specs.declared.request.OwnLimit.{OwnLimit}
use Rattle.rate_types.specs.declared.rule_id.RuleId.{RuleId}
use Rattle.rate_types.proofs.Sums.{total_append}
use Rattle.rls_core.specs.declared.status.Code.{Code}
use Rattle.rls_core.specs.declared.status.Count.{Count}
use Rattle.rls_core.specs.declared.status.Count.TheVariants.{NoCount, Before, Seen}
use Rattle.rls_core.specs.declared.status.Status.{Status}
use Rattle.rule_stats.specs.declared.numbers.RuleNumbers.{RuleNumbers}
use Rattle.rule_stats.specs.Statistics.{Note, nothing, added, added_under, numbers_of, numbers_under, hits_where, is_within, is_near, is_over}
use Rattle.rule_stats.specs.Sums.{plus, sums}
use Rattle.rule_stats.proofs.Adding.{sums_more, plus_nothing, hits_few, pass_few}
use Rattle.shared_stats.specs.declared.rule.Amount.{Amount}
use Rattle.shared_stats.specs.Words.{numbers_added}
use Rattle.shared_stats.specs.Noted.{note_of, as_notes, hits_in, AddsUp}
use Rattle.shared_stats.specs.Adding.{IsBound}

pub notes_more : (xs : List (ℕ × Status)) (hits : ℕ) (s : Status) → as_notes (xs ++ (hits, s) ∷ []) ≡ as_notes xs ++ note_of (hits, s) ∷ []
notes_more xs hits s = map-append note_of xs ((hits, s) ∷ [])

pub hits_more : (xs : List (ℕ × Status)) (hits : ℕ) (s : Status) → hits_in (as_notes (xs ++ (hits, s) ∷ [])) ≡ hits_in (as_notes xs) + hits
hits_more xs hits s =
    let a = ap hits_in (notes_more xs hits s) in
    let b = total_append (λ (n : Note). n.hits) (as_notes xs) (note_of (hits, s) ∷ []) in
    omega arith

sums_next : (rule : ℕ) (xs : List (ℕ × Status)) (hits : ℕ) (s : Status)
    → sums 0 rule (as_notes (xs ++ (hits, s) ∷ [])) ≡ plus (sums 0 rule (as_notes xs)) (added 0 rule (note_of (hits, s)))
sums_next rule xs hits s = ap (sums 0 rule) (notes_more xs hits s) ∙ sums_more 0 rule (as_notes xs) (note_of (hits, s))

-- a note that adds nothing to these rules
adds_none : (rules : ℕ) (xs : List (ℕ × Status)) (have : List Amount) (hits : ℕ) (s : Status) → AddsUp rules have (as_notes xs)
    → ((rule : ℕ) → rule < rules → added 0 rule (note_of (hits, s)) ≡ nothing) → AddsUp rules have (as_notes (xs ++ (hits, s) ∷ []))
adds_none rules xs have hits s h none few rule within =
    let m = hits_more xs hits s in
    h (omega arith) rule within
    ∙ sym (sums_next rule xs hits s ∙ ap (plus (sums 0 rule (as_notes xs))) (none rule within) ∙ plus_nothing (sums 0 rule (as_notes xs)))

is_none : (o : Option RuleId) → ((id : RuleId) → o ≡ Some id → ⊥) → o ≡ None
is_none None lacks = refl
is_none (Some id) lacks = absurd (lacks id refl)

-- a status without a rule
pub adds_free : (rules : ℕ) (xs : List (ℕ × Status)) (have : List Amount) (hits : ℕ) (s : Status) → AddsUp rules have (as_notes xs)
    → ((id : RuleId) → s.rule ≡ Some id → ⊥) → AddsUp rules have (as_notes (xs ++ (hits, s) ∷ []))
adds_free rules xs have hits s h free =
    adds_none rules xs have hits s h (λ rule within. ap (λ (o : Option RuleId). added_under 0 rule 0 o (numbers_of s hits)) (is_none s.rule free))

-- what a status of a rule adds
added_is : (rule : ℕ) (hits : ℕ) (s : Status) (id : RuleId) → s.rule ≡ Some id
    → added 0 rule (note_of (hits, s)) ≡ (if id.0 == rule then numbers_of s hits else nothing)
added_is rule hits s id e = ap (λ (o : Option RuleId). added_under 0 rule 0 o (numbers_of s hits)) e

other_rule : (own rule : ℕ) (n : RuleNumbers) → (own ≡ rule → ⊥) → (if own == rule then n else nothing) ≡ nothing
other_rule own rule n ne = rw (ne_eqb own rule ne) refl

-- a status of a rule that isn't among them
pub adds_other : (rules : ℕ) (xs : List (ℕ × Status)) (have : List Amount) (hits : ℕ) (s : Status) (id : RuleId) → AddsUp rules have (as_notes xs)
    → s.rule ≡ Some id → rules ≤ id.0 → AddsUp rules have (as_notes (xs ++ (hits, s) ∷ []))
adds_other rules xs have hits s id h is out =
    adds_none rules xs have hits s h (λ rule within. added_is rule hits s id is ∙ other_rule id.0 rule (numbers_of s hits) (λ e. omega arith))

-- a status after which there are too many hits
pub adds_past : (rules : ℕ) (xs : List (ℕ × Status)) (have : List Amount) (hits : ℕ) (s : Status)
    → 2 ^ 57 < hits_in (as_notes xs) + hits → AddsUp rules have (as_notes (xs ++ (hits, s) ∷ []))
adds_past rules xs have hits s past few rule within = let m = hits_more xs hits s in absurd (omega arith)

-- a status whose numbers were added
pub adds_one : (rules : ℕ) (xs : List (ℕ × Status)) (old new : List Amount) (hits : ℕ) (s : Status) (id : RuleId) → AddsUp rules old (as_notes xs)
    → s.rule ≡ Some id → ((rule : ℕ) → numbers_added new rule ≡ plus (numbers_added old rule) (if id.0 == rule then numbers_of s hits else nothing))
    → AddsUp rules new (as_notes (xs ++ (hits, s) ∷ []))
adds_one rules xs old new hits s id h is grew few rule within =
    let m = hits_more xs hits s in
    grew rule ∙ ap (λ (n : RuleNumbers). plus n (if id.0 == rule then numbers_of s hits else nothing)) (h (omega arith) rule within)
    ∙ sym (sums_next rule xs hits s ∙ ap (plus (sums 0 rule (as_notes xs))) (added_is rule hits s id is))

-- none of the numbers that a status adds is greater than its hits
pub numbers_bound : (s : Status) (hits : ℕ) → IsBound hits (numbers_of s hits)
numbers_bound s hits = by s.limit s.code s.count
  where
    by : (limit : Option OwnLimit) (c : Code) (count : Count) → IsBound hits (numbers_under limit c count hits)
    by None c count = record {
      total = omega arith;
      within = omega arith;
      near = omega arith;
      over = omega arith;
      seen = omega arith;
      shadow = omega arith;
    }
    by (Some own) c NoCount = record {
      total = omega arith;
      within = omega arith;
      near = omega arith;
      over = omega arith;
      seen = omega arith;
      shadow = omega arith;
    }
    by (Some own) c (Before before) = record {
      total = omega arith;
      within = hits_few (is_within own.limit) before hits;
      near = hits_few (is_near own.limit) before hits;
      over = hits_few (is_over own.limit) before hits;
      seen = omega arith;
      shadow = omega (arith, hits_few (is_over own.limit) before hits, pass_few c (hits_where (is_over own.limit) before hits));
    }
    by (Some own) c (Seen seen) = record {
      total = omega arith;
      within = omega arith;
      near = omega arith;
      over = omega arith;
      seen = omega arith;
      shadow = pass_few c hits;
    }
