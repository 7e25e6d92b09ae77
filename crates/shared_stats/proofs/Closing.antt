-- What the last words tell of all passes.
use Rattle.std.proofs.Common.{◌≡◌, ℕ, zero, suc, ◌^◌, ◌≤◌, ◌<◌, List, [], ◌∷◌, ◌++◌, length, refl, sym, ap, ◌∙◌, arith}
use Rattle.std.specs.Prelude.{All, slice_index, Result, Ok, Err, IfOk}
use Rattle.std.specs.List.{flat_map}
use mathlib.Core.Option.{some, some-ne-none, some-injective}
use lib.ListN.{get_elem?}
use Rattle.atomic_table.specs.Table.{Final, Seen}
use Rattle.rate_types.specs.Sums.{total}
use Rattle.rate_types.proofs.Sums.{total_all}
use Rattle.rule_stats.specs.declared.numbers.RuleNumbers.{RuleNumbers}
use Rattle.rule_stats.specs.Statistics.{Note, added}
use Rattle.rule_stats.specs.Sums.{plus, sums}
use Rattle.rule_stats.proofs.Adding.{nothing_plus, plus_in_turn}
use Rattle.shared_stats.specs.declared.rule.Setup.{Setup}
use Rattle.shared_stats.specs.declared.rule.AdderView.{AdderView}
use Rattle.shared_stats.specs.declared.pass.StatsPass.{StatsPass}
use Rattle.shared_stats.specs.Rule.{added_to, greatest_at, IsLawful}
use Rattle.shared_stats.specs.Words.{word_of, numbers_by, numbers_added, numbers_found, numbers_in}
use Rattle.shared_stats.specs.Noted.{hits_in, IsAtMost}
use Rattle.shared_stats.specs.Passes.{notes_of}
use Rattle.shared_stats.specs.Joins.{added_by, JoinsPasses}

at_read : (l : List ℕ) (i x : ℕ) → get_elem? l i ≡ some x → slice_index l i ≡ x
at_read [] i x e = absurd (some-ne-none x (sym e))
at_read (y ∷ ys) zero x e = some-injective _ _ e
at_read (y ∷ ys) (suc i) x e = at_read ys i x e

-- a word that was read, at this place
pub read_at : (l : List ℕ) (i j x : ℕ) → get_elem? l i ≡ some x → i ≡ j → x ≡ slice_index l j
read_at l i j x e is = sym (at_read l i x e) ∙ ap (slice_index l) is

-- the words at the end, where these passes were all
pub record Closes (passes : List StatsPass) (words : List ℕ) : Type 0 where
  pub added : (word : ℕ) → slice_index words word ≡ total (added_by word) passes
  pub found : All (λ p. (word : ℕ) → greatest_at word p.seat.me.0.found ≤ slice_index words word) passes

pub closes : (o : Setup) (id : ℕ) (v : AdderView) (passes : List StatsPass) (ws xs : List ℕ) → JoinsPasses passes v → length passes ≡ o.passes
    → Final (Seen (IsLawful o) id v) ws xs → Closes passes ws
closes o id v passes ws xs g every f =
    let s = f.0 in
    let h = f.1.0 in
    let at = f.1.1 in
    let same = f.2 in
    let c = g.count in
    let all = h.passes in
    record {
      added = λ word.
          let t : total (λ (u : AdderView). added_to word u.added) s.views ≡ added_to word v.added =
          total_all (λ (u : AdderView). added_to word u.added) (λ (u : AdderView). u.passes) s.views id v
          (λ j u y none. let few = (h.each j u y).few word in omega arith) at (omega arith) in
          ap (λ (l : List ℕ). slice_index l word) (sym same) ∙ h.sums word ∙ t ∙ g.added word;
      found = λ k d lt word.
          let a = g.found k d lt word in
          let b = (h.each id v at).found word in
          let e : slice_index s.words word ≡ slice_index ws word = ap (λ (l : List ℕ). slice_index l word) same in
          omega arith;
    }

-- the sums of two lists of notes
sums_append : (rule : ℕ) (xs ys : List Note) → sums 0 rule (xs ++ ys) ≡ plus (sums 0 rule xs) (sums 0 rule ys)
sums_append rule [] ys = sym (nothing_plus (sums 0 rule ys))
sums_append rule (x ∷ xs) ys = ap (plus (added 0 rule x)) (sums_append rule xs ys) ∙ plus_in_turn (added 0 rule x) (sums 0 rule xs) (sums 0 rule ys)

-- what all passes added are the sums of all their notes
pub all_sums : (rules rule : ℕ) (passes : List StatsPass) → rule < rules → All (λ p. p.rules ≡ rules) passes
    → All (λ p. hits_in (notes_of p) ≤ 2 ^ 57) passes
    → numbers_by (λ word. total (added_by word) passes) rule ≡ sums 0 rule (flat_map notes_of passes)
all_sums rules rule [] within same few = refl
all_sums rules rule (p ∷ ps) within same few =
    let one : numbers_added p.seat.me.0.added rule ≡ sums 0 rule (notes_of p) =
    p.sums (few 0 p (omega arith)) rule (let e = same 0 p (omega arith) in omega arith) in
    let rest = all_sums rules rule ps within (λ k d lt. same (suc k) d (omega arith)) (λ k d lt. few (suc k) d (omega arith)) in
    ap (λ n. plus n (numbers_by (λ word. total (added_by word) ps) rule)) one
    ∙ ap (plus (sums 0 rule (notes_of p))) rest ∙ sym (sums_append rule (notes_of p) (flat_map notes_of ps))

pub numbers_are : (f g : ℕ → ℕ) (rule : ℕ) → ((word : ℕ) → f word ≡ g word) → numbers_by f rule ≡ numbers_by g rule
numbers_are f g rule same =
    rw (same (word_of rule 0), same (word_of rule 1), same (word_of rule 2), same (word_of rule 3), same (word_of rule 4), same (word_of rule 5)) refl

-- numbers that a pass read are at most those at the end
pub read_before : (x : RuleNumbers) (rule : ℕ) (p : StatsPass) (words : List ℕ) → IsAtMost x (numbers_found p.seat.me.0.found rule)
    → ((word : ℕ) → greatest_at word p.seat.me.0.found ≤ slice_index words word) → IsAtMost x (numbers_in words rule)
read_before x rule p words most found = record {
  total = omega (arith, most.total, found (word_of rule 0));
  within = omega (arith, most.within, found (word_of rule 1));
  near = omega (arith, most.near, found (word_of rule 2));
  over = omega (arith, most.over, found (word_of rule 3));
  seen = omega (arith, most.seen, found (word_of rule 4));
  shadow = omega (arith, most.shadow, found (word_of rule 5));
}

pub if_ok : {A E : Type 0} (r : Result A E) (P Q : A → Type 0) → ((v : A) → P v → Q v) → IfOk r P → IfOk r Q
if_ok (Ok v) P Q f h = f v h
if_ok (Err e) P Q f h = tt
