-- The statuses of a run, in the journals in which its records lie.
use Rattle.std.proofs.Common.{◌≡◌, ℕ, zero, suc, ◌+◌, ◌-◌, ◌*◌, ◌<◌, ◌≤◌, List, [], ◌∷◌, ◌++◌, take, length, get_or, slice_get, Some, Bool, true, refl, ap, ap₂, sym, ◌∙◌, arith, append_assoc, subst}
use Rattle.std.proofs.lemmas.List.{append-nil}
use mathlib.Core.Option.{some}
use lib.ListN.{get_elem?}
use Rattle.rate_types.specs.Sums.{total}
use Rattle.rate_types.proofs.Sums.{total_append}
use Rattle.reply_text.specs.declared.record.Record.{Record}
use Rattle.script_run.specs.Merged.{joined, Merges}
use Rattle.script_run.specs.ScriptLine.{ScriptLine}
use Rattle.rule_stats.specs.declared.numbers.RuleNumbers.{RuleNumbers}
use Rattle.rule_stats.specs.Statistics.{Note, nothing}
use Rattle.rule_stats.specs.Sums.{plus, sums, AreSums, TallyView}
use Rattle.rule_stats.proofs.Merging.{sums_both}
use Rattle.run_stats.specs.RunStats.{notes_shown, notes_of, notes_shown_by, notes_in, HasCounted, HaveCounted}

notes_both : (lines : List ScriptLine) (rs qs : List Record) → notes_in lines (rs ++ qs) ≡ notes_in lines rs ++ notes_in lines qs
notes_both lines [] qs = refl
notes_both lines (r ∷ rs) qs = ap (λ (ns : List Note). notes_shown_by (slice_get lines (r.line - 1)) r ++ ns) (notes_both lines rs qs)
    ∙ sym (append_assoc (notes_shown_by (slice_get lines (r.line - 1)) r) (notes_in lines rs) (notes_in lines qs))

-- with one record more a journal shows the statuses of its line too
pub notes_push : (lines : List ScriptLine) (rs : List Record) (r : Record) (l : ScriptLine) → slice_get lines (r.line - 1) ≡ Some l
    → notes_in lines (rs ++ r ∷ []) ≡ notes_in lines rs ++ notes_shown l r.version r.outcome
notes_push lines rs r l there = notes_both lines rs (r ∷ []) ∙ ap (λ (ns : List Note). notes_in lines rs ++ ns)
    (append-nil (notes_shown_by (slice_get lines (r.line - 1)) r) ∙ ap (λ o. notes_shown_by o r) there)

one_less : (a n : ℕ) → a ≡ n + 0 + 1 → a - 1 ≡ n + 0
one_less a n e = omega (arith, e)

one_on : (n i : ℕ) → suc n + i ≡ n + suc i
one_on n i = omega arith

-- records of these lines in their order, of which the first has this place among all
ordered_from : (lines : List ScriptLine) (n : ℕ) (ls : List ScriptLine) (rs : List Record) → length rs ≡ length ls
    → ((i : ℕ) (r : Record) → get_elem? rs i ≡ some r → r.line ≡ n + i + 1) → ((i : ℕ) → slice_get lines (n + i) ≡ slice_get ls i)
    → notes_in lines rs ≡ notes_of ls rs
ordered_from lines n [] [] many numbered same = refl
ordered_from lines n [] (r ∷ rs) many numbered same = absurd (omega (arith, many))
ordered_from lines n (l ∷ ls) [] many numbered same = refl
ordered_from lines n (l ∷ ls) (r ∷ rs) many numbered same = ap₂ (λ (a b : List Note). a ++ b)
    (ap (λ o. notes_shown_by o r) (ap (slice_get lines) (one_less r.line n (numbered 0 r refl)) ∙ same 0))
    (ordered_from lines (suc n) ls rs (omega (arith, many)) (λ i q e. numbered (suc i) q e ∙ ap (λ (m : ℕ). m + 1) (sym (one_on n i)))
    (λ i. ap (slice_get lines) (one_on n i) ∙ same (suc i)))

in_order : (lines : List ScriptLine) (rs : List Record) → length rs ≡ length lines
    → ((i : ℕ) (r : Record) → get_elem? rs i ≡ some r → r.line ≡ i + 1) → notes_in lines rs ≡ notes_of lines rs
in_order lines rs many numbered = ordered_from lines 0 lines rs many (λ i r e. numbered i r e ∙ zero_on i) (λ i. ap (slice_get lines) (none_on i))
  where
    zero_on : (i : ℕ) → i + 1 ≡ 0 + i + 1
    zero_on i = omega arith

    none_on : (i : ℕ) → 0 + i ≡ i
    none_on i = omega arith

total_joined : (f : Record → ℕ) (js : List (List Record)) → total f (joined js) ≡ total (total f) js
total_joined f [] = refl
total_joined f (j ∷ js) = total_append f j (joined js) ∙ ap (λ (n : ℕ). total f j + n) (total_joined f js)

-- One of the six numbers of a rule of a version.
module _ (lines : List ScriptLine) (version rule : ℕ) (f : RuleNumbers → ℕ) (none : f nothing ≡ 0)
    (added : (x y : RuleNumbers) → f (plus x y) ≡ f x + f y) where
  abbrev shown : Record → ℕ
  shown r = f (sums version rule (notes_shown_by (slice_get lines (r.line - 1)) r))

  number_in : (rs : List Record) → f (sums version rule (notes_in lines rs)) ≡ total shown rs
  number_in [] = none
  number_in (r ∷ rs) =
      ap f (sums_both version rule (notes_shown_by (slice_get lines (r.line - 1)) r) (notes_in lines rs))
      ∙ added (sums version rule (notes_shown_by (slice_get lines (r.line - 1)) r)) (sums version rule (notes_in lines rs))
      ∙ ap (λ (n : ℕ). shown r + n) (number_in rs)

  -- it is that of all journals
  number_same : (js : List (List Record)) (rs : List Record) → Merges (length lines) js rs
      → f (sums version rule (notes_in lines (joined js))) ≡ f (sums version rule (notes_in lines rs))
  number_same js rs merges = number_in (joined js) ∙ total_joined shown js ∙ sym (number_in rs ∙ merges.sums shown)

same_numbers : (x y : RuleNumbers) → x.total ≡ y.total → x.within ≡ y.within → x.near ≡ y.near → x.over ≡ y.over → x.seen ≡ y.seen
    → x.shadow ≡ y.shadow → x ≡ y
same_numbers x y total within near over seen shadow =
    let same : ◌≡◌ {A = RuleNumbers}
    (record { total = x.total; within = x.within; near = x.near; over = x.over; seen = x.seen; shadow = x.shadow })
    (record { total = y.total; within = y.within; near = y.near; over = y.over; seen = y.seen; shadow = y.shadow }) =
    rw (total, within, near, over, seen, shadow) refl in same

-- What is summed up over all journals is what is summed up over the records in the order of their lines.
pub run_sums : (lines : List ScriptLine) (js : List (List Record)) (rs : List Record) → Merges (length lines) js rs
    → (versions : List (List RuleNumbers)) → AreSums (notes_in lines (joined js)) versions → AreSums (notes_of lines rs) versions
run_sums lines js rs merges versions are = subst (λ (ns : List Note). AreSums ns versions) (in_order lines rs merges.as_many merges.numbered)
    (λ version rule. are version rule ∙ same_numbers (sums version rule (notes_in lines (joined js))) (sums version rule (notes_in lines rs))
    (number_same lines version rule (λ x. x.total) refl (λ x y. refl) js rs merges)
    (number_same lines version rule (λ x. x.within) refl (λ x y. refl) js rs merges)
    (number_same lines version rule (λ x. x.near) refl (λ x y. refl) js rs merges)
    (number_same lines version rule (λ x. x.over) refl (λ x y. refl) js rs merges)
    (number_same lines version rule (λ x. x.seen) refl (λ x y. refl) js rs merges)
    (number_same lines version rule (λ x. x.shadow) refl (λ x y. refl) js rs merges))

joined_next : (js : List (List Record)) (i : ℕ) → joined (take (suc i) js) ≡ joined (take i js) ++ get_or js i []
joined_next [] zero = refl
joined_next [] (suc i) = refl
joined_next (j ∷ js) zero = append-nil j
joined_next (j ∷ js) (suc i) = ap (λ (rs : List Record). j ++ rs) (joined_next js i) ∙ sym (append_assoc j (joined (take i js)) (get_or js i []))

-- the tally at a place is that of the journal there
counted_at : (asked : Bool) (lines : List ScriptLine) (js : List (List Record)) (ts : List TallyView) (i : ℕ) (t : TallyView)
    → HaveCounted asked lines js ts → i < length ts → t ≡ get_or ts i t → HasCounted asked lines (get_or js i []) t
counted_at asked lines [] [] i t have h is = absurd (omega (arith, h))
counted_at asked lines [] (u ∷ ts) i t have h is = absurd have
counted_at asked lines (j ∷ js) [] i t have h is = absurd have
counted_at asked lines (j ∷ js) (u ∷ ts) zero t have h is = subst (HasCounted asked lines j) (sym is) have.0
counted_at asked lines (j ∷ js) (u ∷ ts) (suc i) t have h is = counted_at asked lines js ts i t have.1 (omega (arith, h)) is

one_behind : (n : ℕ) → suc n ≡ n + 1
one_behind n = omega arith

-- One tally more: the sum is that of one journal more.
pub next_tally : (lines : List ScriptLine) (js : List (List Record)) (ts : List TallyView) (i : ℕ) (t : TallyView)
    → HaveCounted true lines js ts → i < length ts → t ≡ get_or ts i t → (versions : List (List RuleNumbers))
    → ((others : List Note) → AreSums others t.versions → AreSums (notes_in lines (joined (take i js)) ++ others) versions)
    → AreSums (notes_in lines (joined (take (i + 1) js))) versions
next_tally lines js ts i t have h is versions are =
    subst (λ (n : ℕ). AreSums (notes_in lines (joined (take n js))) versions) (one_behind i)
    (subst (λ (ns : List Note). AreSums ns versions)
    (sym (ap (notes_in lines) (joined_next js i) ∙ notes_both lines (joined (take i js)) (get_or js i [])))
    (are (notes_in lines (get_or js i [])) ((counted_at true lines js ts i t have h is).sums refl)))

-- at the end of the tallies these are all journals
pub all_journals : (lines : List ScriptLine) (js : List (List Record)) (ts : List TallyView) (i : ℕ) → HaveCounted true lines js ts → length ts ≤ i
    → joined (take i js) ≡ joined js
all_journals lines [] [] zero have h = refl
all_journals lines [] [] (suc i) have h = refl
all_journals lines [] (t ∷ ts) i have h = absurd have
all_journals lines (j ∷ js) [] i have h = absurd have
all_journals lines (j ∷ js) (t ∷ ts) zero have h = absurd (omega (arith, h))
all_journals lines (j ∷ js) (t ∷ ts) (suc i) have h = ap (λ (rs : List Record). j ++ rs) (all_journals lines js ts i have.1 (omega (arith, h)))

-- the statuses of one tally more, of which there is room
pub next_notes : (ts : List TallyView) (i : ℕ) (t : TallyView) → i < length ts → t ≡ get_or ts i t
    → total (λ (x : TallyView). x.notes) (take (i + 1) ts) ≡ total (λ (x : TallyView). x.notes) (take i ts) + t.notes
next_notes ts i t h is = subst (λ (n : ℕ). total (λ (x : TallyView). x.notes) (take n ts) ≡ total (λ (x : TallyView). x.notes) (take i ts) + t.notes)
    (one_behind i) (by ts i h is)
  where
    by : (us : List TallyView) (k : ℕ) → k < length us → t ≡ get_or us k t
        → total (λ (x : TallyView). x.notes) (take (suc k) us) ≡ total (λ (x : TallyView). x.notes) (take k us) + t.notes
    by [] k lt e = absurd (omega (arith, lt))
    by (u ∷ us) zero lt e = let same : t.notes ≡ u.notes = ap (λ (x : TallyView). x.notes) e in omega (arith, same)
    by (u ∷ us) (suc k) lt e = let r = by us k (omega (arith, lt)) e in omega (arith, r)

pub few_notes : (ts : List TallyView) (i : ℕ) → total (λ (x : TallyView). x.notes) (take i ts) ≤ total (λ (x : TallyView). x.notes) ts
few_notes [] zero = omega arith
few_notes [] (suc i) = omega arith
few_notes (t ∷ ts) zero = omega arith
few_notes (t ∷ ts) (suc i) = let r = few_notes ts i in omega (arith, r)

-- how many statuses the tallies of a run have at most
pub notes_few : (asked : Bool) (lines : List ScriptLine) (js : List (List Record)) (ts : List TallyView) (rs : List Record)
    → HaveCounted asked lines js ts → Merges (length lines) js rs → total (λ (x : TallyView). x.notes) ts ≤ 32 * length lines
notes_few asked lines js ts rs have merges = let few = by js ts have in let many = merges.sums (λ r. 1) in let all = ones rs in let same = merges.as_many in omega (arith, few, many, all, same)
  where
    ones : (qs : List Record) → total (λ (r : Record). 1) qs ≡ length qs
    ones [] = refl
    ones (q ∷ qs) = let r = ones qs in omega (arith, r)

    by : (ks : List (List Record)) (us : List TallyView) → HaveCounted asked lines ks us
        → total (λ (x : TallyView). x.notes) us ≤ 32 * total (total (λ (r : Record). 1)) ks
    by [] [] h = omega arith
    by [] (u ∷ us) h = absurd h
    by (k ∷ ks) [] h = absurd h
    by (k ∷ ks) (u ∷ us) h = let r = by ks us h.1 in let few = h.0.few in let all = ones k in omega (arith, r, few, all)
