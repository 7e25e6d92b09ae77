-- Bytes with a wrong line are the text of no run.
use Rattle.std.proofs.Common.{◌≡◌, ℕ, ◌≤◌, List, [], ◌∷◌, ◌++◌, true, false, Some, refl, sym, ap, ◌∙◌, subst, arith, inl, inr}
use Rattle.std.specs.Prelude.{◌⊎◌, codes, is_some}
use Rattle.std.specs.List.{AllZip, AllByRecursion}
use Rattle.serde_json.specs.Data.{Data, depth}
use Rattle.serde_json.specs.Read.{read}
use Rattle.serde_json.specs.Find.{get}
use Rattle.rls_core.specs.declared.totals.Total.{Total}
use Rattle.reply_text.specs.Shown.{Shown}
use Rattle.reply_text.specs.declared.record.Outcome.{Outcome}
use Rattle.reply_text.specs.declared.record.Outcome.TheVariants.{Checked, Ticked, Installed, Bad, Full, Spent, VersionsFull}
use Rattle.reply_text.specs.Texts.{record_data, total_data, outcome_data, checked_line_data, ticked_line_data, installed_line_data, refused_line_data}
use Rattle.run_text.specs.Reading.{IsRecordText, IsTotalText}
use Rattle.run_text.specs.Run.{AreTexts, IsRunText, IsNeither, IsWrongAt}
use Rattle.run_text.proofs.ReadBack.{reads_back}
use Rattle.run_text.proofs.Shapes.{record_plain, record_shallow}
use Rattle.run_text.proofs.ReadingTotal.{total_plain}

record_has : (line moment version worker : ℕ) (o : Outcome) → is_some (get (codes "line") (outcome_data line moment version worker o)) ≡ true
unfolding checked_line_data ticked_line_data installed_line_data refused_line_data
record_has line moment version worker (Checked answer) = refl
record_has line moment version worker (Ticked ticked) = refl
record_has line moment version worker Installed = refl
record_has line moment version worker (Bad refused) = refl
record_has line moment version worker (Full live held wanted) = refl
record_has line moment version worker (Spent claims wanted) = refl
record_has line moment version worker (VersionsFull versions) = refl

total_lacks : (t : Total) → is_some (get (codes "line") (total_data t)) ≡ false
unfolding total_data
total_lacks t = refl

inside : (a b : Data) → Some a ≡ Some b → a ≡ b
inside a b e = cc

true_false : true ≡ false → ⊥
true_false e = cc

-- no text is that of a record and of a total
apart : (line : List ℕ) (r : Shown) (t : Total) → IsRecordText line r → IsTotalText line t → ⊥
unfolding record_data
apart line r t a b =
    let shallow : depth (record_data r) ≤ 127 = omega (arith, record_shallow r a.said) in
    let plain = total_plain t b.said in
    let same = inside (record_data r) (total_data t) (sym (reads_back (record_data r) (record_plain r a.said) shallow) ∙ ap read (sym a.text ∙ b.text)
    ∙ reads_back (total_data t) plain.0 plain.1) in
    true_false (sym (record_has r.line r.moment r.version r.worker r.outcome) ∙ ap (λ d. is_some (get (codes "line") d)) same ∙ total_lacks t)

abbrev IsRecord : List ℕ → Type 0
IsRecord line = (r : Shown) × IsRecordText line r

abbrev IsTotal : List ℕ → Type 0
IsTotal line = (t : Total) × IsTotalText line t

abbrev HasTotal : List (List ℕ) → Type 0
HasTotal [] = ⊥
HasTotal (x ∷ xs) = IsTotal x ⊎ HasTotal xs

records_all : (xs : List (List ℕ)) (rs : List Shown) → AllZip IsRecordText xs rs → AllByRecursion IsRecord xs
records_all [] rs all = tt
records_all (x ∷ xs) [] all = absurd all
records_all (x ∷ xs) (r ∷ rs) all = ((r, all.0), records_all xs rs all.1)

totals_all : (xs : List (List ℕ)) (ts : List Total) → AllZip IsTotalText xs ts → AllByRecursion IsTotal xs
totals_all [] ts all = tt
totals_all (x ∷ xs) [] all = absurd all
totals_all (x ∷ xs) (t ∷ ts) all = ((t, all.0), totals_all xs ts all.1)

head_is : (a b : List ℕ) (xs ys : List (List ℕ)) → a ∷ xs ≡ b ∷ ys → a ≡ b
head_is a b xs ys e = cc

tail_is : (a b : List ℕ) (xs ys : List (List ℕ)) → a ∷ xs ≡ b ∷ ys → xs ≡ ys
tail_is a b xs ys e = cc

-- a line among totals is one
total_at : (before : List (List ℕ)) (line : List ℕ) (behind last : List (List ℕ)) → before ++ line ∷ behind ≡ last → AllByRecursion IsTotal last
    → IsTotal line
total_at [] line behind [] e all = cc
total_at [] line behind (x ∷ xs) e all = subst IsTotal (sym (head_is line x behind xs e)) all.0
total_at (b ∷ bs) line behind [] e all = cc
total_at (b ∷ bs) line behind (x ∷ xs) e all = total_at bs line behind xs (tail_is b x (bs ++ line ∷ behind) xs e) all.1

no_run : (before : List (List ℕ)) (line : List ℕ) (behind first last : List (List ℕ)) → before ++ line ∷ behind ≡ first ++ last
    → AllByRecursion IsRecord first → AllByRecursion IsTotal last → ¬ (IsTotal line) → (¬ (IsRecord line)) ⊎ HasTotal before → ⊥
no_run before line behind [] last e records totals wrong why = wrong (total_at before line behind last e totals)
no_run [] line behind (x ∷ xs) last e records totals wrong why = elim why [
  | inl none ↦ none (subst IsRecord (sym (head_is line x behind (xs ++ last) e)) records.0)
  | inr h ↦ h
]
no_run (b ∷ bs) line behind (x ∷ xs) last e records totals wrong why = elim why [
  | inl none ↦ no_run bs line behind xs last (tail_is b x (bs ++ line ∷ behind) (xs ++ last) e) records.1 totals wrong (inl none)
  | inr h ↦ elim h [
    | inl total ↦
        let rec = subst IsRecord (sym (head_is b x (bs ++ line ∷ behind) (xs ++ last) e)) records.0 in
        apart b rec.0 total.0 rec.1 total.1
    | inr more ↦ no_run bs line behind xs last (tail_is b x (bs ++ line ∷ behind) (xs ++ last) e) records.1 totals wrong (inr more)
  ]
]

has_behind : (xs ys : List (List ℕ)) → HasTotal ys → HasTotal (xs ++ ys)
has_behind [] ys h = h
has_behind (x ∷ xs) ys h = inr (has_behind xs ys h)

has_first : (xs : List (List ℕ)) (t : Total) (ts : List Total) → AllZip IsTotalText xs (t ∷ ts) → HasTotal xs
has_first [] t ts all = absurd all
has_first (x ∷ xs) t ts all = inl (t, all.0)

why_not : (totals : List Total) (line : List ℕ) (before : List (List ℕ)) (records : List Shown) → AreTexts before records totals
    → IsNeither totals line → (¬ (IsRecord line)) ⊎ HasTotal before
why_not [] line before records texts neither = inl (λ h. neither.no_record refl h.0 h.1)
why_not (t ∷ ts) line before records texts neither =
    inr (subst HasTotal (sym texts.split) (has_behind texts.first texts.last (has_first texts.last t ts texts.each_total)))

pub not_a_run : (bytes : List ℕ) (place : ℕ) → IsWrongAt bytes place → (rs : List Shown) (ts : List Total) → ¬ (IsRunText bytes rs ts)
not_a_run bytes place wrong rs ts run = elim wrong [
  | inl w ↦ no_run w.before w.line w.behind run.texts.first run.texts.last (sym w.lines ∙ run.texts.split)
      (records_all run.texts.first rs run.texts.each_record) (totals_all run.texts.last ts run.texts.each_total)
      (λ h. w.neither.no_total h.0 h.1) (why_not w.totals w.line w.before w.records w.texts w.neither)
  | inr u ↦ true_false (sym run.ended ∙ u.open_end)
]
