-- What the workers of a run know, line after line.
use Rattle.std.proofs.Common.{◌≡◌, ℕ, ◌+◌, ◌<◌, ◌==◌, Bool, true, false, cond, List, [], ◌∷◌, ◌++◌, length, take, get_or, map, refl, sym, ap, ◌∙◌, subst, arith}
use Rattle.std.proofs.Common.{append_assoc, append-nil}
use Rattle.std.proofs.lemmas.Bool.Decides.{Decides-eqb}
use Rattle.std.proofs.lemmas.List.{length-map, length-take-le, map-append, take_more}
use Rattle.rate_types.specs.Ledger.{Sight}
use Rattle.rate_types.specs.declared.counter_key.CounterKey.{CounterKey}
use Rattle.reply_text.specs.declared.record.Record.{Record}
use Rattle.script_run.specs.ScriptLine.{ScriptLine}
use Rattle.script_run.specs.Values.{IsFairLine, known_by, values_shown}
use Rattle.script_run.specs.Views.{line_view}
use Rattle.script_run.specs.declared.line.Line.{Line}
use Rattle.run_audit.specs.Known.{Values, value_in, highest, Knows, Learns}
use Rattle.run_audit.proofs.Each.{EachBelow}

-- the values that a line makes known to a worker
abbrev told : ℕ → ScriptLine → Record → List (Sight CounterKey)
told w l r = cond (r.worker == w) (values_shown l r.moment r.outcome) []

known_append : (w : ℕ) (ls ks : List ScriptLine) (rs ss : List Record) → length ls ≡ length rs
    → known_by w (ls ++ ks) (rs ++ ss) ≡ known_by w ls rs ++ known_by w ks ss
known_append w [] ks [] ss e = refl
known_append w [] ks (r ∷ rs) ss e = absurd (omega arith)
known_append w (l ∷ ls) ks [] ss e = absurd (omega arith)
known_append w (l ∷ ls) ks (r ∷ rs) ss e =
    ap (λ xs. told w l r ++ xs) (known_append w ls ks rs ss (omega arith))
    ∙ sym (append_assoc (told w l r) (known_by w ls rs) (known_by w ks ss))

known_push : (w : ℕ) (ls : List ScriptLine) (rs : List Record) (l : ScriptLine) (r : Record) → length ls ≡ length rs
    → known_by w (ls ++ l ∷ []) (rs ++ r ∷ []) ≡ known_by w ls rs ++ told w l r
known_push w ls rs l r e =
    known_append w ls (l ∷ []) rs (r ∷ []) e ∙ ap (λ xs. known_by w ls rs ++ xs) (append-nil (told w l r))

abbrev pub Fair : List ScriptLine → List Record → ScriptLine → Record → Type 0
Fair before earlier l r = IsFairLine (known_by r.worker before earlier) l r.moment r.outcome

abbrev pub LineLearns : Values → Values → Bool → ScriptLine → Record → Type 0
LineLearns old new b l r = Learns old new r.worker b (λ known. IsFairLine known l r.moment r.outcome) (values_shown l r.moment r.outcome)

abbrev pub AllKnow : Values → List ScriptLine → List Record → Type 0
AllKnow values ls rs = (w : ℕ) → Knows values w (known_by w ls rs)

line_known : (old new : Values) (ls : List ScriptLine) (rs : List Record) (l : ScriptLine) (r : Record) → length ls ≡ length rs
    → LineLearns old new true l r → AllKnow old ls rs → AllKnow new (ls ++ l ∷ []) (rs ++ r ∷ [])
line_known old new ls rs l r same learns knows w = by (r.worker == w) refl (known_push w ls rs l r same)
  where
    by : (b : Bool) → (r.worker == w) ≡ b
        → known_by w (ls ++ l ∷ []) (rs ++ r ∷ []) ≡ known_by w ls rs ++ cond b (values_shown l r.moment r.outcome) []
        → Knows new w (known_by w (ls ++ l ∷ []) (rs ++ r ∷ []))
    by true e is =
        let own : r.worker ≡ w = (Decides-eqb r.worker w).0 e in
        subst (λ ks. Knows new w ks) (sym is) (subst (λ v. Knows new v (known_by v ls rs ++ values_shown l r.moment r.outcome)) own
        (learns.learnt (known_by r.worker ls rs) (knows r.worker) refl))
    by false e is = λ k.
        let differ : (w == r.worker) ≡ false = flipped (w == r.worker) refl in
        learns.others w k differ ∙ knows w k ∙ ap (λ ks. highest ks k) (sym (is ∙ append-nil (known_by w ls rs)))
      where
        flipped : (b : Bool) → (w == r.worker) ≡ b → b ≡ false
        flipped false f = refl
        flipped true f =
            let back : r.worker ≡ w = sym ((Decides-eqb w r.worker).0 f) in
            absurd (false_true (sym e ∙ (Decides-eqb r.worker w).1 back))
          where
            false_true : false ≡ true → ⊥
            false_true h = cc

-- what stands after so many lines: they are fair, and the map has what the workers know
pub record Followed (values : Values) (i : ℕ) (lines : List Line) (records : List Record) : Type 0 where
  pub below : EachBelow i (map line_view lines) records Fair
  pub knows : AllKnow values (map line_view (take i lines)) (take i records)

pub knows_more : (old new : Values) (lines : List Line) (records : List Record) (i : ℕ) (x : Line) (r : Record) → length records ≡ length lines
    → i < length records → x ≡ get_or lines i x → r ≡ get_or records i r → LineLearns old new true (line_view x) r
    → AllKnow old (map line_view (take i lines)) (take i records) → AllKnow new (map line_view (take (i + 1) lines)) (take (i + 1) records)
knows_more old new lines records i x r same within is_x is_r learns knows =
    let more_lines : map line_view (take (i + 1) lines) ≡ map line_view (take i lines) ++ line_view x ∷ [] =
    ap (map line_view) (take_more lines i x (omega (arith, same, within)) ∙ ap (λ z. take i lines ++ z ∷ []) (sym is_x))
    ∙ map-append line_view (take i lines) (x ∷ []) in
    let more_records : take (i + 1) records ≡ take i records ++ r ∷ [] =
    take_more records i r within ∙ ap (λ z. take i records ++ z ∷ []) (sym is_r) in
    let as_many : length (map line_view (take i lines)) ≡ length (take i records) =
    omega (arith, length-map (take i lines) line_view, length-take-le i lines (omega (arith, same, within)), length-take-le i records (omega (arith, within))) in
    subst (λ ls. AllKnow new ls (take (i + 1) records)) (sym more_lines)
    (subst (λ rs. AllKnow new (map line_view (take i lines) ++ line_view x ∷ []) rs) (sym more_records)
    (line_known old new (map line_view (take i lines)) (take i records) (line_view x) r as_many learns knows))

pub none_known : (values : Values) (lines : List Line) (records : List Record) → values ≡ []
    → AllKnow values (map line_view (take 0 lines)) (take 0 records)
none_known values lines records none w k = ap (λ vs. value_in vs w k) none
