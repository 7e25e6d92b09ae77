-- How a run is read line after line.
use Rattle.std.proofs.Common.{◌≡◌, ℕ, ◌+◌, ◌<◌, List, [], ◌∷◌, ◌++◌, length, true, false, refl, sym, ap, ◌∙◌, subst, arith, append_assoc, append-nil, length-append, inl, inr}
use Rattle.std.specs.List.{AllZip}
use Rattle.text_lines.specs.Lines.{cut}
use Rattle.text_lines.proofs.Cutting.{cut_some}
use Rattle.rls_core.specs.declared.totals.Total.{Total}
use Rattle.reply_text.specs.Shown.{Shown}
use Rattle.run_text.specs.Reading.{IsRecordText, IsTotalText}
use Rattle.run_text.specs.ReadTo.{ReadTo, StopsAt}
use Rattle.run_text.specs.Run.{is_ended, AreTexts, IsRunText, IsWrongAt}

pub read_none : {X : Type 0} (IsText : List ℕ → X → Type 0) (bytes : List ℕ) → ReadTo IsText bytes bytes []
read_none IsText bytes = record { front = []; lines = refl; each = tt }

push : {A B : Type 0} (R : A → B → Type 0) (xs : List A) (ys : List B) (x : A) (y : B) → AllZip R xs ys → R x y
    → AllZip R (xs ++ x ∷ []) (ys ++ y ∷ [])
push R [] [] x y all here = (here, tt)
push R [] (z ∷ zs) x y all here = absurd all
push R (w ∷ ws) [] x y all here = absurd all
push R (w ∷ ws) (z ∷ zs) x y all here = (all.0, push R ws zs x y all.1 here)

pub read_more : {X : Type 0} (IsText : List ℕ → X → Type 0) (bytes rest line after : List ℕ) (xs : List X) (x : X)
    → ReadTo IsText bytes rest xs → cut rest ≡ line ∷ cut after → IsText line x → ReadTo IsText bytes after (xs ++ x ∷ [])
read_more IsText bytes rest line after xs x so_far next is = record {
  front = so_far.front ++ line ∷ [];
  lines = so_far.lines ∙ ap (λ ls. so_far.front ++ ls) next ∙ sym (append_assoc so_far.front (line ∷ []) (cut after));
  each = push IsText so_far.front xs line x so_far.each is;
}

first_is : (a b : List ℕ) (xs ys : List (List ℕ)) → a ∷ xs ≡ b ∷ ys → a ≡ b
first_is a b xs ys e = cc

pub stops_here : {X : Type 0} (IsText : List ℕ → X → Type 0) (rest first after : List ℕ) → cut rest ≡ first ∷ cut after
    → ((x : X) → ¬ (IsText first x)) → StopsAt IsText rest
stops_here IsText rest first after next none line more e x has =
    none x (subst (λ l. IsText l x) (sym (first_is first line (cut after) more (sym next ∙ e))) has)

no_lines : (left : List ℕ) → length left ≡ 0 → cut left ≡ []
no_lines [] e = refl
no_lines (b ∷ bs) e = absurd (omega arith)

all_lines : (bytes rest left : List ℕ) (rs : List Shown) (ts : List Total) → ReadTo IsRecordText bytes rest rs → ReadTo IsTotalText rest left ts
    → length left ≡ 0 → AreTexts (cut bytes) rs ts
all_lines bytes rest left rs ts a b over = record {
  first = a.front;
  last = b.front;
  split = a.lines ∙ ap (λ ls. a.front ++ ls) (b.lines ∙ ap (λ ls. b.front ++ ls) (no_lines left over) ∙ append-nil b.front);
  each_record = a.each;
  each_total = b.each;
}

pub run_read : (bytes rest left : List ℕ) (rs : List Shown) (ts : List Total) → ReadTo IsRecordText bytes rest rs → ReadTo IsTotalText rest left ts
    → length left ≡ 0 → is_ended bytes ≡ true → IsRunText bytes rs ts
run_read bytes rest left rs ts a b over end = record { ended = end; texts = all_lines bytes rest left rs ts a b over }

as_many : {A B : Type 0} (R : A → B → Type 0) (xs : List A) (ys : List B) → AllZip R xs ys → length xs ≡ length ys
as_many R [] [] all = refl
as_many R [] (y ∷ ys) all = absurd all
as_many R (x ∷ xs) [] all = absurd all
as_many R (x ∷ xs) (y ∷ ys) all = omega (arith, as_many R xs ys all.1)

count : (bytes rest left : List ℕ) (rs : List Shown) (ts : List Total) (a : ReadTo IsRecordText bytes rest rs) (b : ReadTo IsTotalText rest left ts)
    → length (a.front ++ b.front) ≡ length rs + length ts
count bytes rest left rs ts a b =
    omega (arith, length-append a.front b.front, as_many IsRecordText a.front rs a.each, as_many IsTotalText b.front ts b.each)

pub run_unended : (bytes rest left : List ℕ) (rs : List Shown) (ts : List Total) (n : ℕ) → ReadTo IsRecordText bytes rest rs
    → ReadTo IsTotalText rest left ts → length left ≡ 0 → is_ended bytes ≡ false → n ≡ length rs + length ts → IsWrongAt bytes n
unfolding all_lines
run_unended bytes rest left rs ts n a b over end is =
    let texts = all_lines bytes rest left rs ts a b over in inr (record {
      records = rs;
      totals = ts;
      texts = texts;
      numbered = is ∙ sym (count bytes rest left rs ts a b) ∙ sym (ap length texts.split);
      open_end = end;
    })

no_front : (front : List (List ℕ)) (ts : List Total) → AllZip IsTotalText front ts → ts ≡ [] → front ≡ []
no_front [] ts all e = refl
no_front (x ∷ xs) [] all e = absurd all
no_front (x ∷ xs) (t ∷ ts) all e = cc

some_byte : (rest line : List ℕ) (more : List (List ℕ)) → cut rest ≡ line ∷ more → 0 < length rest
some_byte [] line more e = cc
some_byte (b ∷ bs) line more e = omega arith

wrong_at : (bytes rest left first : List ℕ) (more : List (List ℕ)) (rs : List Shown) (ts : List Total) (n : ℕ) → ReadTo IsRecordText bytes rest rs
    → ReadTo IsTotalText rest left ts → cut left ≡ first ∷ more → StopsAt IsTotalText left
    → (0 < length rest → StopsAt IsRecordText rest) → n ≡ length rs + length ts + 1 → IsWrongAt bytes n
wrong_at bytes rest left first more rs ts n a b next no_total no_record is = inl (record {
  records = rs;
  totals = ts;
  before = a.front ++ b.front;
  line = first;
  behind = more;
  lines = a.lines ∙ ap (λ ls. a.front ++ ls) (b.lines ∙ ap (λ ls. b.front ++ ls) next) ∙ sym (append_assoc a.front b.front (first ∷ more));
  texts = record { first = a.front; last = b.front; split = refl; each_record = a.each; each_total = b.each };
  numbered = is ∙ ap (λ k. k + 1) (sym (count bytes rest left rs ts a b));
  neither = record {
    no_total = no_total first (more) next;
    no_record = λ none.
        let same : cut rest ≡ first ∷ more = b.lines ∙ ap (λ ls. ls ++ cut left) (no_front b.front ts b.each none) ∙ next in
        no_record (some_byte rest first (more) same) first (more) same;
  };
})

pub run_wrong : (bytes rest left : List ℕ) (rs : List Shown) (ts : List Total) (n : ℕ) → ReadTo IsRecordText bytes rest rs
    → ReadTo IsTotalText rest left ts → 0 < length left → StopsAt IsTotalText left → (0 < length rest → StopsAt IsRecordText rest)
    → n ≡ length rs + length ts + 1 → IsWrongAt bytes n
run_wrong bytes rest left rs ts n a b some no_total no_record is = by (cut left) refl
  where
    by : (lines : List (List ℕ)) → cut left ≡ lines → IsWrongAt bytes n
    by [] e = absurd (omega (arith, cut_some left some, ap length e))
    by (x ∷ xs) e = wrong_at bytes rest left x xs rs ts n a b e no_total no_record is
