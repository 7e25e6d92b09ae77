-- A fact about each line, line after line.
use Rattle.std.proofs.Common.{◌≡◌, ℕ, ◌+◌, ◌<◌, ◌≤◌, List, length, take, get_or, map, Some, option_map, refl, sym, ap, ◌∙◌, subst, arith, inl, inr}
use Rattle.std.proofs.lemmas.Bool.{cases_eq}
use Rattle.std.proofs.lemmas.Option.{slice_get_within, slice_get_read, slice_get-map}
use Rattle.std.proofs.lemmas.List.{take-map}
use Rattle.script_run.specs.declared.line.Line.{Line}
use Rattle.script_run.specs.Views.{line_view}
use Rattle.std.specs.Prelude.{slice_get}
use Rattle.reply_text.specs.declared.record.Record.{Record}
use Rattle.script_run.specs.ScriptLine.{ScriptLine}
use Rattle.script_run.specs.Lines.{EachLine}

-- the fact holds of the first lines
pub record EachBelow (n : ℕ) (lines : List ScriptLine) (records : List Record)
    (Fact : List ScriptLine → List Record → ScriptLine → Record → Type 0) : Type 0 where
  pub holds : (i : ℕ) (l : ScriptLine) (r : Record) → i < n → slice_get lines i ≡ Some l → slice_get records i ≡ Some r
      → Fact (take i lines) (take i records) l r

pub below_none : (lines : List ScriptLine) (records : List Record) (Fact : List ScriptLine → List Record → ScriptLine → Record → Type 0)
    → EachBelow 0 lines records Fact
below_none lines records Fact = record { holds = λ i l r h. absurd (omega arith) }

inside : {X : Type 0} (a b : X) → Some a ≡ Some b → a ≡ b
inside a b e = cc

pub below_more : (i : ℕ) (lines : List ScriptLine) (records : List Record)
    (Fact : List ScriptLine → List Record → ScriptLine → Record → Type 0) (l : ScriptLine) (r : Record)
    → slice_get lines i ≡ Some l → slice_get records i ≡ Some r → EachBelow i lines records Fact → Fact (take i lines) (take i records) l r
    → EachBelow (i + 1) lines records Fact
below_more i lines records Fact l r at_l at_r below here = record {
  holds = λ k m s h km ks. elim (cases_eq k i) [
    | inl e ↦
        let lm : l ≡ m = inside l m (sym at_l ∙ subst (λ j. slice_get lines j ≡ Some m) e km) in
        let rs : r ≡ s = inside r s (sym at_r ∙ subst (λ j. slice_get records j ≡ Some s) e ks) in
        subst (λ j. Fact (take j lines) (take j records) m s) (sym e)
        (subst (λ x. Fact (take i lines) (take i records) m x) rs (subst (λ x. Fact (take i lines) (take i records) x r) lm here))
    | inr other ↦ below.holds k m s (omega arith) km ks
  ];
}

pub below_all : (n : ℕ) (lines : List ScriptLine) (records : List Record)
    (Fact : List ScriptLine → List Record → ScriptLine → Record → Type 0)
    → length records ≤ n → EachBelow n lines records Fact → EachLine lines records Fact
below_all n lines records Fact all below i l r at_l at_r =
    below.holds i l r (omega (arith, slice_get_within records i r at_r, all)) at_l at_r

-- ---- lines as the code has them

view_at : (lines : List Line) (i : ℕ) (x : Line) → i < length lines → x ≡ get_or lines i x → slice_get (map line_view lines) i ≡ Some (line_view x)
view_at lines i x within is = slice_get-map line_view lines i ∙ ap (option_map line_view) (slice_get_read lines (length lines) i x refl within is)

pub here : (lines : List Line) (records : List Record) (Fact : List ScriptLine → List Record → ScriptLine → Record → Type 0)
    (i : ℕ) (x : Line) (r : Record) → length records ≡ length lines → i < length records → x ≡ get_or lines i x → r ≡ get_or records i r
    → EachLine (map line_view lines) records Fact → Fact (map line_view (take i lines)) (take i records) (line_view x) r
here lines records Fact i x r same within is_x is_r each =
    subst (λ ls. Fact ls (take i records) (line_view x) r) (take-map line_view i lines)
    (each i (line_view x) r (view_at lines i x (omega (arith, same, within)) is_x) (slice_get_read records (length records) i r refl within is_r))

pub more : (lines : List Line) (records : List Record) (Fact : List ScriptLine → List Record → ScriptLine → Record → Type 0)
    (i : ℕ) (x : Line) (r : Record) → length records ≡ length lines → i < length records → x ≡ get_or lines i x → r ≡ get_or records i r
    → EachBelow i (map line_view lines) records Fact → Fact (map line_view (take i lines)) (take i records) (line_view x) r
    → EachBelow (i + 1) (map line_view lines) records Fact
more lines records Fact i x r same within is_x is_r below fact =
    below_more i (map line_view lines) records Fact (line_view x) r (view_at lines i x (omega (arith, same, within)) is_x)
    (slice_get_read records (length records) i r refl within is_r) below
    (subst (λ ls. Fact ls (take i records) (line_view x) r) (sym (take-map line_view i lines)) fact)
